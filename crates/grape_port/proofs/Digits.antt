-- Bounds on what digits stand for, and a last digit behind others.
use Rattle.std.proofs.Common.{◌≡◌, ℕ, ◌+◌, ◌-◌, ◌*◌, ◌^◌, ◌<◌, ◌≤◌, List, [], ◌∷◌, ◌++◌, length, Option, Some, None, SomeIff, if◌then◌else◌, arith, ◌∙◌, length-append}
use Rattle.std.specs.List.{list_all}
use Rattle.std.proofs.Math.Nat.{pow-le-pow_right}
use Rattle.std.proofs.lemmas.Grind.{common_steps}
use Rattle.std.proofs.lemmas.Bool.Decides.{nat_tests}
use Rattle.std.proofs.lemmas.List.Folds.{list_all-append}
use Rattle.std.proofs.lemmas.List.Sums.{fold-append}
use Rattle.grape_port.specs.Decimal.{is_digit, digits_value, number_of}

-- a number of at most 18 digits
pub eighteen_digits : (i value : ℕ) → i < 19 → value < 10 ^ i → value < 10 ^ 18
eighteen_digits i value few below =
    let bound : 10 ^ i ≤ 10 ^ 18 = pow-le-pow_right {n = 10} (omega arith) {i = i} {j = 18} (omega arith) in omega arith

-- a last digit adds to ten times the number
digits_value-last : (front last : List ℕ) → length last ≡ 1 → digits_value (front ++ last) ≡ 10 * digits_value front + digits_value last
digits_value-last front [] one = absurd (omega arith)
digits_value-last front (byte ∷ []) one = fold-append (λ n b. 10 * n + (b - 48)) 0 front (byte ∷ []) ∙ omega arith
digits_value-last front (byte ∷ b ∷ bytes) one = absurd (omega arith)

-- what the digits of a short text stand for, if they are digits
abbrev pub digits_of : List ℕ → Option ℕ
digits_of text = if list_all is_digit text then Some (digits_value text) else None

-- ten times the first digits is too large already
pub number_of-large : (front last : List ℕ) (firsts : ℕ) → length last ≡ 1 → Some firsts ≡ digits_of front → (firsts * 10 < 2 ^ 64 → ⊥) → number_of (front ++ last) ≡ None
number_of-large front last firsts one first large =
    let value = digits_value-last front last one in grind (arith, nat_tests, common_steps)

-- twenty digits, the last one by itself
pub number_of-last : (front last : List ℕ) (firsts digit : ℕ) (found : Option ℕ) → length front ≡ 19 → length last ≡ 1 → Some firsts ≡ digits_of front
    → Some digit ≡ digits_of last → SomeIff found (firsts * 10 + digit < 2 ^ 64) (firsts * 10 + digit) → found ≡ number_of (front ++ last)
number_of-last front last firsts digit found nineteen one first second added =
    let value = digits_value-last front last one
    in let all = list_all-append is_digit front last
    in let count = length-append front last
    in grind (arith, nat_tests, common_steps)
