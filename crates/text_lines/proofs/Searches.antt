-- How rising numbers are searched.
use Rattle.std.proofs.Common.{◌≡◌, ℕ, zero, suc, ◌<◌, ◌≤◌, Bool, true, false, ◌==◌, List, [], ◌∷◌, length, Result, Ok, Err, refl, sym, ◌∙◌, subst, arith, nat_lt, get_or, ◌⊎◌, ⊎_elim}
use Rattle.std.specs.Ordering.{nat_cmp}
use Rattle.std.specs.List.Sorted.{IsBinarySearchResult}
use Rattle.std.proofs.lemmas.Bool.Decides.{nat_tests}
use Rattle.std.proofs.lemmas.List.Sorted.{searched}
use Rattle.text_lines.specs.NumberSets.{RisesOver, DoRise, is_among}

pub rises_to : (low : ℕ) (ns : List ℕ) (j : ℕ) → RisesOver low ns → j < length ns → low < get_or ns j 0
rises_to low [] j r l = absurd (omega (arith, l))
rises_to low (n ∷ ns) zero r l = r.0
rises_to low (n ∷ ns) (suc j) r l = omega (arith, r.0, rises_to n ns j r.1 (omega (arith, l)))

pub rest_rises : (low : ℕ) (ns : List ℕ) → RisesOver low ns → DoRise ns
rest_rises low [] r = tt
rest_rises low (n ∷ ns) r = r.1

pub rises_by : (ns : List ℕ) (i j : ℕ) → DoRise ns → i ≤ j → j < length ns → get_or ns i 0 ≤ get_or ns j 0
rises_by [] i j r le l = absurd (omega (arith, l))
rises_by (n ∷ ns) zero zero r le l = omega arith
rises_by (n ∷ ns) zero (suc j) r le l = omega (arith, rises_to n ns j r (omega (arith, l)))
rises_by (n ∷ ns) (suc i) zero r le l = absurd (omega (arith, le))
rises_by (n ∷ ns) (suc i) (suc j) r le l = rises_by ns i j (rest_rises n ns r) (omega (arith, le)) (omega (arith, l))

-- a number that stands at no place is not among them
pub absent_by : (n : ℕ) (ns : List ℕ) → ((k : ℕ) → k < length ns → get_or ns k 0 ≡ n → ⊥) → is_among n ns ≡ false
absent_by n [] h = refl
absent_by n (m ∷ ns) h =
    let apart : (m == n) ≡ false = other m n (h 0 (omega arith))
    in let rest : is_among n ns ≡ false = absent_by n ns (λ k l e. h (suc k) (omega (arith, l)) e)
    in rw (apart, rest) refl
  where
    other : (a b : ℕ) → (a ≡ b → ⊥) → (a == b) ≡ false
    other a b f = grind (arith, nat_tests, f)

-- what a search among rising numbers finds
pub found_place : (ns : List ℕ) (n place : ℕ) (r : Result ℕ ℕ) → IsBinarySearchResult (λ m. nat_cmp m n) ns r → DoRise ns → is_among n ns ≡ true → (r ≡ Ok place) ⊎ (r ≡ Err place)
    → (place < length ns) × (get_or ns place 0 ≡ n)
found_place ns n place (Ok i) h r there o =
    let m : (i < length ns) × (get_or ns i 0 ≡ n) = searched ns n (Ok i) h (λ j k le l. rises_by ns j k r le l)
    in let same : i ≡ place = ⊎_elim (λ e. same_Ok i place e) (λ e. absurd (other i place e)) o
    in (subst (λ p. p < length ns) same m.0, subst (λ p. get_or ns p 0 ≡ n) same m.1)
  where
    same_Ok : (a b : ℕ) → ◌≡◌ {A = Result ℕ ℕ} (Ok a) (Ok b) → a ≡ b
    same_Ok a b e = cc

    other : (a b : ℕ) → ◌≡◌ {A = Result ℕ ℕ} (Ok a) (Err b) → ⊥
    other a b e = cc
found_place ns n place (Err i) h r there o =
    let m : (i ≤ length ns) × ((k : ℕ) → k < i → get_or ns k 0 < n) × ((k : ℕ) → i ≤ k → k < length ns → n < get_or ns k 0) = searched ns n (Err i) h (λ j k le l. rises_by ns j k r le l)
    in let none : is_among n ns ≡ false = absent_by n ns (λ k l e. nowhere (nat_lt k i) i k refl e (m.1 k) (λ above. m.2 k above l))
    in absurd (let x : true ≡ false = sym there ∙ none in cc)
  where
    nowhere : (c : Bool) (i k : ℕ) → nat_lt k i ≡ c → get_or ns k 0 ≡ n → (k < i → get_or ns k 0 < n) → (i ≤ k → n < get_or ns k 0) → ⊥
    nowhere true i k t e below above = omega (arith, e, below (grind (arith, nat_tests, t)))
    nowhere false i k t e below above = omega (arith, e, above (grind (arith, nat_tests, t)))
