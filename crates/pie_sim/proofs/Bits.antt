-- Bits of values, and which of them stay.
use Rattle.std.proofs.Common.{◌≡◌, ◌≢◌, ℕ, zero, suc, ◌*◌, ◌%◌, ◌^◌, ◌<◌, ◌⊎◌, ◌↔◌, inl, inr, true, false, ◌||◌, ◌==◌, max, refl, sym, ◌∙◌, ap, subst, arith, List, slice_index, w64}
use Rattle.std.specs.Int.{bit_at, bit_not}
use Rattle.std.specs.Int.RustNames.{bit_or, bit_and}
use Rattle.std.proofs.lemmas.Bool.{cases_eq, cases_lt, eqb-true, eq-eqb, ne_eqb}
use Rattle.std.proofs.lemmas.Nat.{and_le_l}
use Rattle.std.proofs.lemmas.Nat.Bits.{bit_at_or, bit_at_and, bit_at-lt, bit_at-zero, bit_at_above, bit_at_clear_same, bit_at_clear_other}
use Rattle.value_order.specs.declared.order.Order.TheVariants.{Mask}
use Rattle.value_order.specs.Order.{Below}
use Rattle.value_order.proofs.Orders.{mask-below, below-mask}
use Rattle.graph_core.specs.Queries.{has_bit}
use Rattle.pie_sim.specs.SimJobs.{HasBit}

pub at_bit : (n k : ℕ) → HasBit n k → bit_at n k ≡ 1
at_bit n k h = eqb-true (bit_at n k) 1 h

pub from_bit : (n k : ℕ) → bit_at n k ≡ 1 → HasBit n k
from_bit n k e = eq-eqb (bit_at n k) 1 e

pub zero-none : (k : ℕ) → has_bit 0 k ≡ false
zero-none k = ne_eqb (bit_at 0 k) 1 (λ e. let z = bit_at-zero k in absurd (omega (arith, e, z)))

pub has_bit-or : (a b k : ℕ) → has_bit (bit_or a b) k ≡ (has_bit a k || has_bit b k)
has_bit-or a b k = ap (λ n. n == 1) (bit_at_or a b k) ∙ go (bit_at a k) (bit_at b k) (bit_at-lt a k) (bit_at-lt b k)
  where
    go : (m n : ℕ) → m < 2 → n < 2 → (max m n == 1) ≡ ((m == 1) || (n == 1))
    go zero zero h l = refl
    go zero (suc zero) h l = refl
    go zero (suc (suc n)) h l = absurd (omega (arith, l))
    go (suc zero) zero h l = refl
    go (suc zero) (suc zero) h l = refl
    go (suc zero) (suc (suc n)) h l = absurd (omega (arith, l))
    go (suc (suc m)) n h l = absurd (omega (arith, h))

pub below-bit : (a b k : ℕ) → Below Mask a b → HasBit a k → HasBit b k
below-bit a b k h c = from_bit b k (below-mask a b h k (at_bit a k c))

pub bit-below : (a b : ℕ) → ((k : ℕ) → HasBit a k → HasBit b k) → Below Mask a b
bit-below a b h = mask-below a b (λ k e. at_bit b k (h k (from_bit a k e)))

-- ---- one bit is taken

abbrev pub without_bit : ℕ → ℕ → ℕ
without_bit x n = bit_and x (bit_not w64 (1 * 2 ^ n % 2 ^ 64))

pub without-bits : (x n k : ℕ) → n < 64 → x < 2 ^ 64 → HasBit (without_bit x n) k ↔ (HasBit x k × (k ≢ n))
without-bits x n k small word = (
  λ h.
      let b = at_bit (without_bit x n) k h in
      let both = bit_at_and x (bit_not w64 (1 * 2 ^ n % 2 ^ 64)) k in
      let l = bit_at-lt x k in
      (from_bit x k (omega (arith, b, both, l)), λ e. let z = ap (bit_at (without_bit x n)) e ∙ bit_at_clear_same w64 x n small in absurd (omega (arith, b, z))),
  λ h.
      let b = at_bit x k h.0 in
      elim (cases_lt k 64) [
        | inl l ↦ from_bit (without_bit x n) k (bit_at_clear_other w64 x n small k l h.1 ∙ b)
        | inr l ↦ let z = bit_at_above x 64 k word l in absurd (omega (arith, b, z))
      ],
)

pub without-less : (x n : ℕ) → n < 64 → bit_at x n ≡ 1 → without_bit x n < x
without-less x n small b =
    let le = and_le_l x (bit_not w64 (1 * 2 ^ n % 2 ^ 64)) in
    let z = bit_at_clear_same w64 x n small in
    elim (cases_eq (without_bit x n) x) [
      | inl e ↦ let same = ap (λ y. bit_at y n) e in absurd (omega (arith, same, z, b))
      | inr d ↦ omega (arith, le, d)
    ]

-- ---- the bits of a value that stay, of those that are looked at no more

abbrev pub AreKept : List ℕ → ℕ → ℕ → ℕ → ℕ → Type 0
AreKept targets value read rest kept = (k : ℕ) → HasBit kept k ↔ (HasBit value k × (HasBit rest k ⊎ Below Mask (slice_index targets k) read))

pub kept-first : (targets : List ℕ) (value read : ℕ) → AreKept targets value read value value
kept-first targets value read k = (λ b. (b, inl b), λ h. h.0)

module _ (targets : List ℕ) (value read rest kept n : ℕ) (small : n < 64) (word : rest < 2 ^ 64) (h : AreKept targets value read rest kept) where
  pub kept-on : Below Mask (slice_index targets n) read → AreKept targets value read (without_bit rest n) kept
  kept-on below k = (
    λ b. let v = (h k).0 b in (
      v.0,
      elim v.1 [
        | inl r ↦ elim (cases_eq k n) [
          | inl e ↦ inr (subst (λ j. Below Mask (slice_index targets j) read) (sym e) below)
          | inr d ↦ inl ((without-bits rest n k small word).1 (r, d))
        ]
        | inr t ↦ inr t
      ],
    ),
    λ v. (h k).1 (v.0, elim v.1 [ inl r ↦ inl ((without-bits rest n k small word).0 r).0 | inr t ↦ inr t ]),
  )

  pub kept-off : kept < 2 ^ 64 → (Below Mask (slice_index targets n) read → ⊥) → AreKept targets value read (without_bit rest n) (without_bit kept n)
  kept-off kept_word not_below k = (
    λ b.
        let c = (without-bits kept n k small kept_word).0 b in
        let v = (h k).0 c.0 in
        (v.0, elim v.1 [ inl r ↦ inl ((without-bits rest n k small word).1 (r, c.1)) | inr t ↦ inr t ]),
    λ v. elim v.1 [
      | inl r ↦ let c = (without-bits rest n k small word).0 r in (without-bits kept n k small kept_word).1 ((h k).1 (v.0, inl c.0), c.1)
      | inr t ↦ (without-bits kept n k small kept_word).1 ((h k).1 (v.0, inr t), λ e. not_below (subst (λ j. Below Mask (slice_index targets j) read) e t))
    ],
  )

pub kept-all : (targets : List ℕ) (value read rest kept : ℕ) → rest ≡ 0 → AreKept targets value read rest kept → (k : ℕ) → HasBit kept k ↔ (HasBit value k × Below Mask (slice_index targets k) read)
kept-all targets value read rest kept none h k = (
  λ b. let v = (h k).0 b in (
    v.0,
    elim v.1 [
      | inl r ↦ absurd (let x : false ≡ true = sym (zero-none k) ∙ subst (λ n. HasBit n k) none r in cc)
      | inr t ↦ t
    ],
  ),
  λ v. (h k).1 (v.0, inr v.1),
)
