-- The bits of `mask_of`.
use Rattle.std.proofs.Common.{◌%◌, ◌≡◌, ℕ, zero, suc, ◌+◌, ◌-◌, ◌*◌, ◌^◌, ◌<◌, ◌⊎◌, ◌↔◌, inl, inr, refl, sym, ◌∙◌, ap, arith, Bool, true, false, if◌then◌else◌}
use native.Mathlib.Nat.{pow-suc}
use Rattle.std.specs.Int.{bit_at}
use Rattle.std.proofs.lemmas.Bool.{cases_eq, cases_lt}
use Rattle.std.proofs.lemmas.Nat.{and_mask}
use Rattle.std.specs.Prelude.{IsBitSet}
use Rattle.std.proofs.lemmas.Nat.Bits.{bit_at_cat_low, bit_at_cat_high, bit_at_above, and_pow, bit_at-lt, same_from_bits, bit_at_set_same, bit_at_set_other, bit_at-zero}
use Rattle.std.specs.Int.RustNames.{bit_or}
use Rattle.std.proofs.Common.{w64}
use Rattle.value_order.specs.declared.order.Order.TheVariants.{Mask}
use Rattle.value_order.specs.Order.{Below}
use Rattle.value_order.specs.declared.TheConstants.{NOTHING}
use Rattle.value_order.proofs.Orders.{mask-below}
use Rattle.graph_core.specs.Queries.{mask_below, mask_of}

abbrev one_if : Bool → ℕ
one_if b = if b then 1 else 0

lt_step : (b : Bool) (n m : ℕ) → m < 2 ^ n → (if b then 2 ^ n else 0) + m < 2 ^ suc n
lt_step true n m h = omega (arith, h, pow-suc 2 n)
lt_step false n m h = omega (arith, h, pow-suc 2 n)

mask_below-lt : (n : ℕ) (test : ℕ → Bool) → mask_below n test < 2 ^ n
mask_below-lt zero test = omega arith
mask_below-lt (suc n) test = lt_step (test n) n (mask_below n test) (mask_below-lt n test)

-- a bit more
low_step : (b : Bool) (n m k : ℕ) → k < n → bit_at ((if b then 2 ^ n else 0) + m) k ≡ bit_at m k
low_step true n m k h = ap (λ a. bit_at (a + m) k) (omega arith) ∙ bit_at_cat_low 1 n m k h
low_step false n m k h = ap (λ a. bit_at a k) (omega arith)

high_step : (b : Bool) (n m : ℕ) → m < 2 ^ n → bit_at ((if b then 2 ^ n else 0) + m) n ≡ one_if b
high_step true n m h = let e : n - n ≡ 0 = omega arith in ap (λ a. bit_at (a + m) n) (omega arith) ∙ (bit_at_cat_high 1 n m n h (omega arith) ∙ ap (λ a. bit_at 1 a) e)
high_step false n m h = ap (λ a. bit_at a n) (omega arith) ∙ bit_at_above m n n h (omega arith)

bit_below : (n : ℕ) (test : ℕ → Bool) (k : ℕ) → k < n → bit_at (mask_below n test) k ≡ one_if (test k)
bit_below zero test k h = absurd (omega (arith, h))
bit_below (suc n) test k h = elim (cases_eq k n) [
  | inl e ↦ ap (λ j. bit_at (mask_below (suc n) test) j) e ∙ (high_step (test n) n (mask_below n test) (mask_below-lt n test) ∙ ap (λ j. one_if (test j)) (sym e))
  | inr d ↦ let l : k < n = omega (arith, h, d) in low_step (test n) n (mask_below n test) k l ∙ bit_below n test k l
]

one : (b : Bool) → one_if b ≡ 1 → b ≡ true
one true e = refl
one false e = absurd (omega (arith, e))

has : (n : ℕ) (test : ℕ → Bool) (k : ℕ) → k < n → test k ≡ true → bit_at (mask_below n test) k ≡ 1
has n test k h e = bit_below n test k h ∙ ap one_if e

gives : (n : ℕ) (test : ℕ → Bool) (k : ℕ) → bit_at (mask_below n test) k ≡ 1 → (k < n) × (test k ≡ true)
gives n test k e = elim (cases_lt k n) [
  | inl l ↦ (l, one (test k) (sym (bit_below n test k l) ∙ e))
  | inr l ↦ let z = bit_at_above (mask_below n test) n k (mask_below-lt n test) l in absurd (omega (arith, z, e))
]

pub mask_has : (test : ℕ → Bool) (k : ℕ) → k < 64 → test k ≡ true → bit_at (mask_of test) k ≡ 1
unfolding mask_of
mask_has test k = has 64 test k

pub mask_gives : (test : ℕ → Bool) (k : ℕ) → bit_at (mask_of test) k ≡ 1 → (k < 64) × (test k ≡ true)
unfolding mask_of
mask_gives test k = gives 64 test k

pub mask-lt : (test : ℕ → Bool) → mask_of test < 2 ^ 64
unfolding mask_of
mask-lt test = mask_below-lt 64 test

pub mask_is_value : (test : ℕ → Bool) → Below Mask (mask_of test) NOTHING
mask_is_value test = and_mask (mask_of test) 64 ∙ omega (arith, mask-lt test)

-- a test that passes less has fewer bits
pub mask_of-below : (t s : ℕ → Bool) → ((k : ℕ) → k < 64 → t k ≡ true → s k ≡ true) → Below Mask (mask_of t) (mask_of s)
mask_of-below t s h = mask-below (mask_of t) (mask_of s) (λ k b. let r = mask_gives t k b in mask_has s k r.0 (h k r.0 r.1))

-- ---- bits as `IsBitSet` says them

abbrev pub HasBit : ℕ → ℕ → Type 0
HasBit n k = bit_at n k ≡ 1

product_none : (a p : ℕ) → a ≡ 0 → a * p ≡ 0
product_none a p e = ap (λ b. b * p) e ∙ omega arith

product_some : (a p : ℕ) → a ≡ 1 → a * p ≡ 0 → p ≡ 0
product_some a p e z = omega (arith, ap (λ b. b * p) e, z)

pow-pos : (k : ℕ) → 0 < 2 ^ k
pow-pos zero = omega arith
pow-pos (suc k) = omega (arith, pow-pos k, pow-suc 2 k)

pub bit_from_set : (n k : ℕ) → IsBitSet n k → HasBit n k
bit_from_set n k s = elim (cases_eq (bit_at n k) 1) [
  | inl e ↦ e
  | inr d ↦ let z : bit_at n k ≡ 0 = omega (arith, d, bit_at-lt n k) in absurd (s (and_pow n k ∙ product_none (bit_at n k) (2 ^ k) z))
]

pub set_from_bit : (n k : ℕ) → HasBit n k → IsBitSet n k
set_from_bit n k e z = let p = product_some (bit_at n k) (2 ^ k) e (sym (and_pow n k) ∙ z) in absurd (omega (arith, p, pow-pos k))

-- two numbers of which each has a bit where one fact holds are equal
pub same_bits : (m n : ℕ) (P : ℕ → Type 0) → ((k : ℕ) → IsBitSet m k ↔ P k) → ((k : ℕ) → IsBitSet n k ↔ P k) → m ≡ n
same_bits m n P a b = same_from_bits m n (λ k. go k (cases_eq (bit_at m k) 1) (cases_eq (bit_at n k) 1))
  where
    go : (k : ℕ) → (bit_at m k ≡ 1) ⊎ (bit_at m k ≡ 1 → ⊥) → (bit_at n k ≡ 1) ⊎ (bit_at n k ≡ 1 → ⊥) → bit_at m k ≡ bit_at n k
    go k (inl e) (inl f) = e ∙ sym f
    go k (inl e) (inr d) = absurd (d (bit_from_set n k ((b k).1 ((a k).0 (set_from_bit m k e)))))
    go k (inr d) (inl f) = absurd (d (bit_from_set m k ((a k).1 ((b k).0 (set_from_bit n k f)))))
    go k (inr d) (inr f) = omega (arith, d, f, bit_at-lt m k, bit_at-lt n k)

-- ---- a mask that is built node by node

same_bit : (t s : ℕ → Bool) (k : ℕ) → s k ≡ t k → bit_at (mask_of t) k ≡ bit_at (mask_of s) k
same_bit t s k e = go (cases_eq (bit_at (mask_of t) k) 1) (cases_eq (bit_at (mask_of s) k) 1)
  where
    go : (bit_at (mask_of t) k ≡ 1) ⊎ (bit_at (mask_of t) k ≡ 1 → ⊥) → (bit_at (mask_of s) k ≡ 1) ⊎ (bit_at (mask_of s) k ≡ 1 → ⊥) → bit_at (mask_of t) k ≡ bit_at (mask_of s) k
    go (inl a) (inl b) = a ∙ sym b
    go (inl a) (inr d) = let r = mask_gives t k a in absurd (d (mask_has s k r.0 (e ∙ r.1)))
    go (inr d) (inl b) = let r = mask_gives s k b in absurd (d (mask_has t k r.0 (sym e ∙ r.1)))
    go (inr d) (inr f) = omega (arith, d, f, bit_at-lt (mask_of t) k, bit_at-lt (mask_of s) k)

-- one more bit, as `mask |= 1 << n` sets it
pub mask-set : (t s : ℕ → Bool) (n : ℕ) → n < 64 → s n ≡ true → ((k : ℕ) → (k ≡ n → ⊥) → s k ≡ t k) → bit_or (mask_of t) (1 * 2 ^ n % 2 ^ 64) ≡ mask_of s
mask-set t s n h here there = same_from_bits (bit_or (mask_of t) (1 * 2 ^ n % 2 ^ 64)) (mask_of s) (λ k. go k (cases_eq k n))
  where
    go : (k : ℕ) → (k ≡ n) ⊎ (k ≡ n → ⊥) → bit_at (bit_or (mask_of t) (1 * 2 ^ n % 2 ^ 64)) k ≡ bit_at (mask_of s) k
    go k (inl e) = ap (bit_at (bit_or (mask_of t) (1 * 2 ^ n % 2 ^ 64))) e ∙ (bit_at_set_same w64 (mask_of t) n h ∙ sym (ap (bit_at (mask_of s)) e ∙ mask_has s n h here))
    go k (inr d) = bit_at_set_other w64 (mask_of t) n h k d ∙ same_bit t s k (there k d)

pub mask-same : (t s : ℕ → Bool) → ((k : ℕ) → s k ≡ t k) → mask_of t ≡ mask_of s
mask-same t s h = same_from_bits (mask_of t) (mask_of s) (λ k. same_bit t s k (h k))

pub mask-none : mask_of (λ k. false) ≡ 0
mask-none = same_from_bits (mask_of (λ k. false)) 0 (λ k. go k (cases_eq (bit_at (mask_of (λ k. false)) k) 1))
  where
    go : (k : ℕ) → (bit_at (mask_of (λ k. false)) k ≡ 1) ⊎ (bit_at (mask_of (λ k. false)) k ≡ 1 → ⊥) → bit_at (mask_of (λ k. false)) k ≡ bit_at 0 k
    go k (inl a) = absurd (let x : false ≡ true = (mask_gives (λ k. false) k a).1 in cc)
    go k (inr d) = omega (arith, d, bit_at-lt (mask_of (λ k. false)) k, bit_at-zero k)
