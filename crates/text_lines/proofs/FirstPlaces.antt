-- The first place of a list that passes a test, as `position` finds it.
use Rattle.std.proofs.Common.{◌≡◌, ℕ, Bool, true, false, cond, Option, Some, None, List, length, refl, sym, ap, ◌∙◌, arith, inl, inr}
use Rattle.std.specs.Prelude.{nat_lt, unwrap_or, not}
use Rattle.std.specs.List.{prefix_len, position_or_len}
use Rattle.std.proofs.lemmas.Bool.{lt-ltb, cases_lt}
use Rattle.std.proofs.lemmas.List.Sums.{prefix_len-le-length}

pub found_or_length : (found : Option ℕ) (test : ℕ → Bool) (xs : List ℕ) → found ≡ cond (nat_lt (position_or_len test xs) (length xs)) (Some (position_or_len test xs)) None → unwrap_or found (length xs) ≡ position_or_len test xs
found_or_length found test xs e = ap (λ o. unwrap_or o (length xs)) e ∙ go (nat_lt (position_or_len test xs) (length xs)) refl
  where
    go : (b : Bool) → nat_lt (position_or_len test xs) (length xs) ≡ b → unwrap_or (cond b (Some (position_or_len test xs)) None) (length xs) ≡ position_or_len test xs
    go true t = refl
    go false t = elim (cases_lt (position_or_len test xs) (length xs)) [
      | inl l ↦ absurd (let x : true ≡ false = sym (lt-ltb _ _ l) ∙ t in cc)
      | inr l ↦ omega (arith, l, prefix_len-le-length (λ b. not (test b)) xs)
    ]

not_not : (b : Bool) → not (not b) ≡ b
not_not true = refl
not_not false = refl

pub none_before : (test : ℕ → Bool) (xs : List ℕ) → position_or_len (λ b. not (test b)) xs ≡ prefix_len test xs
none_before test xs = ap (λ (t : ℕ → Bool). prefix_len t xs) (λ i b. not_not (test b) i)
