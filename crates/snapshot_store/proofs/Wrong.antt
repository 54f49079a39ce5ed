-- The first byte that isn't the expected one.
use Rattle.std.proofs.Common.{◌≡◌, ◌≢◌, ℕ, ◌+◌, true, false, ◌==◌, if◌then◌else◌, List, [], ◌∷◌, take, drop, length, Option, Some, None, is_some, refl, sym, ap, ◌∙◌, arith}
use Rattle.std.proofs.lemmas.Bool.Decides.{nat_tests}
use Rattle.snapshot_store.specs.State.{first_wrong}

-- what is left to compare once the first i bytes are the expected ones
abbrev pub RestDecides : List ℕ → ℕ → List ℕ → ℕ → Type 0
RestDecides expected at bytes i = first_wrong expected at bytes ≡ first_wrong (drop i expected) (at + i) (drop i bytes)

same_test : (b x : ℕ) (y z : Option ℕ) → b ≡ x → (if b == x then y else z) ≡ y
same_test b x y z is = grind (arith, nat_tests)

-- the same bytes have no wrong one
pub none_wrong : (expected : List ℕ) (at : ℕ) (bytes : List ℕ) → take (length expected) bytes ≡ expected → first_wrong expected at bytes ≡ None
none_wrong [] at bytes is = refl
none_wrong (x ∷ expected) at [] is = absurd (cc)
none_wrong (x ∷ expected) at (b ∷ bytes) is =
    let head : b ≡ x = cc in
    let tail : take (length expected) bytes ≡ expected = cc in
    same_test b x (first_wrong expected (at + 1) bytes) (Some at) head ∙ none_wrong expected (at + 1) bytes tail

pub wrong_differs : (digest bytes : List ℕ) (at : ℕ) → length digest ≡ 32 → is_some (first_wrong digest at bytes) ≡ true → take 32 bytes ≢ digest
wrong_differs digest bytes at long some = λ same. differ (sym some ∙ ap is_some (none_wrong digest at bytes (ap (λ (n : ℕ). take n bytes) long ∙ same)))
  where
    differ : true ≡ false → ⊥
    differ e = cc
