-- The laws of the order and of the meet.
use Rattle.std.proofs.Common.{◌≡◌, ◌≢◌, ℕ, zero, suc, ◌+◌, ◌/◌, ◌%◌, ◌^◌, ◌<◌, ◌≤◌, min, bit_and, count_ones, sym, ◌∙◌, ap, subst, arith, List, [], ◌∷◌, length, ◌⊎◌, inl, inr}
use Rattle.std.proofs.lemmas.Bool.{cases_eq}
use Rattle.std.proofs.lemmas.Nat.Bits.{same_from_bits, bit_at_and, bit_at-lt}
use Rattle.std.specs.Int.{bit_at}
use native.Mathlib.Decide.{ℕ_discrete}
use native.Mathlib.Nat.{pow-suc}
use lib.Bits.{and_step}
use lib.Count.{ones_step, ones}
use Rattle.std.proofs.lemmas.Nat.{and_comm, and_assoc}
use lib.Bits.{and_self}
use Rattle.value_order.specs.declared.order.Order.{Order}
use Rattle.value_order.specs.declared.order.Order.TheVariants.{Least, Mask}
use Rattle.value_order.specs.Order.{Below, meet_of, height_of, Falls}

pub Below-refl : (o : Order) (a : ℕ) → Below o a a
Below-refl Least a = omega arith
Below-refl Mask a = and_self a

pub Below-antisym : (o : Order) (a b : ℕ) → Below o a b → Below o b a → a ≡ b
Below-antisym Least a b h k = omega (arith, h, k)
Below-antisym Mask a b h k = sym h ∙ (and_comm a b ∙ k)

pub Below-trans : (o : Order) (a b c : ℕ) → Below o a b → Below o b c → Below o a c
Below-trans Least a b c h k = omega (arith, h, k)
Below-trans Mask a b c h k = ap (λ x. bit_and x c) (sym h) ∙ (and_assoc c a b ∙ (ap (λ x. bit_and a x) k ∙ h))

pub meet-below_left : (o : Order) (a b : ℕ) → Below o (meet_of o a b) a
meet-below_left Least a b = omega arith
meet-below_left Mask a b = and_comm (bit_and a b) a ∙ (sym (and_assoc b a a) ∙ ap (λ x. bit_and x b) (and_self a))

pub meet-below_right : (o : Order) (a b : ℕ) → Below o (meet_of o a b) b
meet-below_right Least a b = omega arith
meet-below_right Mask a b = and_assoc b a b ∙ ap (λ x. bit_and a x) (and_self b)

pub meet-greatest : (o : Order) (a b c : ℕ) → Below o c a → Below o c b → Below o c (meet_of o a b)
meet-greatest Least a b c h k = omega (arith, h, k)
meet-greatest Mask a b c h k = sym (and_assoc b c a) ∙ (ap (λ x. bit_and x b) h ∙ k)

pow_above : (n : ℕ) → n < 2 ^ n
pow_above zero = omega arith
pow_above (suc n) = let h = pow_above n in let e = pow-suc 2 n in omega (arith, h, e)

half_bound : (d a : ℕ) → a < 2 ^ suc d → a / 2 < 2 ^ d
half_bound d a h = let e = pow-suc 2 d in omega (arith, h, e)

lower_bit : (a b : ℕ) → a / 2 ≡ b / 2 → a % 2 ≤ b % 2 → a ≢ b → a % 2 < b % 2
lower_bit a b q h n = elim (ℕ_discrete (a % 2) (b % 2)) [ yes r ↦ absurd (n (omega (arith, q, r))) | no r ↦ omega (arith, h, r) ]

pub count_ones-lt : (d a b : ℕ) → a < 2 ^ d → b < 2 ^ d → bit_and a b ≡ a → a ≢ b → count_ones a < count_ones b
count_ones-lt zero a b ha hb e n = absurd (n (omega (arith, ha, hb)))
count_ones-lt (suc d) a b ha hb e n =
    let s = and_step a b in
    let sa = ones_step a in
    let sb = ones_step b in
    let halves : bit_and (a / 2) (b / 2) ≡ a / 2 = omega (arith, s, e) in
    let bits : a % 2 ≤ b % 2 = omega (arith, s, e) in
    elim (ℕ_discrete (a / 2) (b / 2)) [
      | yes q ↦ let f = ap count_ones q in let lower = lower_bit a b q bits n in omega (arith, sa, sb, f, lower)
      | no q ↦ let f = count_ones-lt d (a / 2) (b / 2) (half_bound d a ha) (half_bound d b hb) halves q in omega (arith, sa, sb, f, bits)
    ]

pub height-lt : (o : Order) (a b : ℕ) → Below o a b → a ≢ b → height_of o a < height_of o b
height-lt Least a b h n = omega (arith, h, n)
height-lt Mask a b h n =
    let low = pow_above (a + b) in
    count_ones-lt (a + b) a b (omega (arith, low)) (omega (arith, low)) h n

-- a lower value has a smaller height
pub height-le : (o : Order) (a b : ℕ) → Below o a b → height_of o a ≤ height_of o b
height-le o a b h = elim (cases_eq a b) [ inl e ↦ omega (arith, ap (height_of o) e) | inr d ↦ omega (arith, height-lt o a b h d) ]

pub Below-eq : (o : Order) (a b : ℕ) → a ≡ b → Below o a b
Below-eq o a b e = subst (λ x. Below o a x) e (Below-refl o a)

-- values that fall one after another are few
pub height-falls : (o : Order) (top : ℕ) (xs : List ℕ) → Falls o top xs → length xs ≤ height_of o top
height-falls o top [] f = omega arith
height-falls o top (x ∷ xs) f = omega (arith, height-lt o x top f.0 f.1, height-falls o x xs f.2)

-- under Mask a value lies below another where each of its bits is one of the other's
pub mask-below : (a b : ℕ) → ((k : ℕ) → bit_at a k ≡ 1 → bit_at b k ≡ 1) → Below Mask a b
mask-below a b h = same_from_bits (bit_and a b) a (λ k. let e = bit_at_and a b k in let l = bit_at-lt a k in let m = bit_at-lt b k in step k e l m (cases_eq (bit_at a k) 1))
  where
    step : (k : ℕ) → bit_at (bit_and a b) k ≡ min (bit_at a k) (bit_at b k) → bit_at a k < 2 → bit_at b k < 2 → (bit_at a k ≡ 1) ⊎ (bit_at a k ≡ 1 → ⊥) → bit_at (bit_and a b) k ≡ bit_at a k
    step k e l m (inl y) = omega (arith, e, y, h k y)
    step k e l m (inr n) = omega (arith, e, l, n)

pub below-mask : (a b : ℕ) → Below Mask a b → (k : ℕ) → bit_at a k ≡ 1 → bit_at b k ≡ 1
below-mask a b h k y = let e = bit_at_and a b k in let f = ap (λ n. bit_at n k) h in let m = bit_at-lt b k in omega (arith, e, f, y, m)
