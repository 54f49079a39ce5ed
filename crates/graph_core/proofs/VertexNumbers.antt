-- The place of a number among vertices in rising order of their numbers.
use Rattle.std.proofs.Common.{◌≡◌, ◌≢◌, ℕ, zero, suc, ◌+◌, ◌<◌, ◌≤◌, Bool, true, false, cond, ◌==◌, List, [], ◌∷◌, length, get_or, Option, Some, None, refl, ◌∙◌, ap, sym, subst, inl, inr, arith}
use Rattle.std.specs.Prelude.{option_map, IfSome, IfNone}
use Rattle.std.specs.List.Sorted.{IsNonDecreasingBy, IsPartitionPoint}
use Rattle.std.specs.Ordering.{nat_cmp, ordering_index}
use Rattle.std.specs.declared.cmp.Ordering.TheVariants.{Less, Equal, Greater}
use Rattle.std.proofs.lemmas.Bool.{cases_lt}
use Rattle.std.proofs.lemmas.Bool.Decides.{nat_tests}
use Rattle.graph_core.specs.Digraph.{RisesAbove, IsRising, index_in}

-- a later vertex has a larger number
pub rises_above : (low : ℕ) (vertices : List (ℕ × ℕ)) (i : ℕ) (d : ℕ × ℕ) → RisesAbove low vertices → i < length vertices → low < (get_or vertices i d).0
rises_above low [] i d r h = absurd (omega (arith, h))
rises_above low (v ∷ vertices) zero d r h = r.0
rises_above low (v ∷ vertices) (suc i) d r h = omega (arith, r.0, rises_above v.0 vertices i d r.1 (omega (arith, h)))

rises_tail : (low : ℕ) (vertices : List (ℕ × ℕ)) → RisesAbove low vertices → IsRising vertices
rises_tail low [] r = tt
rises_tail low (v ∷ vertices) r = r.1

-- what `index_in` gives past a vertex with another number
index_past : (c : Bool) (o : Option ℕ) → c ≡ false → cond c (Some 0) (option_map (λ i. i + 1) o) ≡ option_map (λ i. i + 1) o
index_past true o e = absurd (let x : true ≡ false = e in cc)
index_past false o e = refl

index_now : (c : Bool) (o : Option ℕ) → c ≡ true → cond c (Some 0) o ≡ Some 0
index_now true o e = refl
index_now false o e = absurd (let x : false ≡ true = e in cc)

same_test : (a b : ℕ) → a ≡ b → (a == b) ≡ true
same_test a b e = grind (arith, nat_tests)

other_test : (a b : ℕ) → a ≢ b → (a == b) ≡ false
other_test a b n = grind (arith, nat_tests)

test_means : (a b : ℕ) → (a == b) ≡ true → a ≡ b
test_means a b e = grind (arith, nat_tests)

test_fails : (a b : ℕ) → (a == b) ≡ false → a ≢ b
test_fails a b e = grind (arith, nat_tests)

-- the number of a vertex leads back to its index
pub index_at : (vertices : List (ℕ × ℕ)) (i number : ℕ) (d : ℕ × ℕ) → IsRising vertices → i < length vertices → (get_or vertices i d).0 ≡ number → index_in vertices number ≡ Some i
index_at [] i number d r h e = absurd (omega (arith, h))
index_at (v ∷ vertices) zero number d r h e = index_now (v.0 == number) (option_map (λ i. i + 1) (index_in vertices number)) (same_test v.0 number e)
index_at (v ∷ vertices) (suc i) number d r h e =
    let l : i < length vertices = omega (arith, h) in
    let above = rises_above v.0 vertices i d r l in
    let n : v.0 ≢ number = omega (arith, above, e) in
    index_past (v.0 == number) (index_in vertices number) (other_test v.0 number n)
    ∙ ap (option_map (λ i. i + 1)) (index_at vertices i number d (rises_tail v.0 vertices r) l e)
    ∙ ap Some (omega arith)

-- a number that no vertex has leads nowhere
pub index_absent : (vertices : List (ℕ × ℕ)) (number : ℕ) → ((k : ℕ) (d : ℕ × ℕ) → k < length vertices → (get_or vertices k d).0 ≢ number) → index_in vertices number ≡ None
index_absent [] number h = refl
index_absent (v ∷ vertices) number h =
    index_past (v.0 == number) (index_in vertices number) (other_test v.0 number (h zero v (omega arith)))
    ∙ ap (option_map (λ i. i + 1)) (index_absent vertices number (λ k d l. h (suc k) d (omega (arith, l))))

-- the numbers rise from place to place
pub numbers_rise : (vertices : List (ℕ × ℕ)) (i j : ℕ) (d : ℕ × ℕ) → IsRising vertices → i ≤ j → j < length vertices → (get_or vertices i d).0 ≤ (get_or vertices j d).0
numbers_rise [] i j d r le l = absurd (omega (arith, l))
numbers_rise (v ∷ vertices) zero zero d r le l = omega arith
numbers_rise (v ∷ vertices) zero (suc j) d r le l = omega (arith, rises_above v.0 vertices j d r (omega (arith, l)))
numbers_rise (v ∷ vertices) (suc i) zero d r le l = absurd (omega (arith, le))
numbers_rise (v ∷ vertices) (suc i) (suc j) d r le l = numbers_rise vertices i j d (rises_tail v.0 vertices r) (omega (arith, le)) (omega (arith, l))

answers_rise : (m n number : ℕ) → m ≤ n → ordering_index (nat_cmp m number) ≤ ordering_index (nat_cmp n number)
answers_rise m n number h = grind (arith, nat_tests)

pub equal_means : (m n : ℕ) → nat_cmp m n ≡ Equal → m ≡ n
equal_means m n h = grind (arith, nat_tests)

pub less_means : (m n : ℕ) → nat_cmp m n ≡ Less → m < n
less_means m n h = grind (arith, nat_tests)

pub greater_means : (m n : ℕ) → nat_cmp m n ≡ Greater → n < m
greater_means m n h = grind (arith, nat_tests)

-- the numbers can be searched
pub searchable : (vertices : List (ℕ × ℕ)) (number : ℕ) → IsRising vertices → IsNonDecreasingBy (λ v. ordering_index (nat_cmp v.0 number)) vertices
searchable vertices number r = λ i j d le l. answers_rise (get_or vertices i d).0 (get_or vertices j d).0 number (numbers_rise vertices i j d r le l)

-- what a vertex's index says
found_at : (v : ℕ × ℕ) (vertices : List (ℕ × ℕ)) (number index : ℕ) (c : Bool) (o : Option ℕ) → (v.0 == number) ≡ c → ((i : ℕ) → o ≡ Some i → (i < length vertices) × ((get_or vertices i (0, 0)).0 ≡ number))
    → cond c (Some 0) (option_map (λ i. i + 1) o) ≡ Some index → (index < suc (length vertices)) × ((get_or (v ∷ vertices) index (0, 0)).0 ≡ number)
found_at v vertices number index true o t later e =
    let z : 0 ≡ index = cc in subst (λ i. (i < suc (length vertices)) × ((get_or (v ∷ vertices) i (0, 0)).0 ≡ number)) z (omega arith, test_means v.0 number t)
found_at v vertices number index false None t later e = absurd (let x : None ≡ Some index = e in cc)
found_at v vertices number index false (Some i) t later e =
    let z : i + 1 ≡ index = cc in
    let s : suc i ≡ index = omega (arith, z) in
    let rest = later i refl in
    let l = rest.0 in
    subst (λ j. (j < suc (length vertices)) × ((get_or (v ∷ vertices) j (0, 0)).0 ≡ number)) s (omega (arith, l), rest.1)

pub index_says : (vertices : List (ℕ × ℕ)) (number index : ℕ) → index_in vertices number ≡ Some index → (index < length vertices) × ((get_or vertices index (0, 0)).0 ≡ number)
index_says [] number index e = absurd (let x : None ≡ Some index = e in cc)
index_says (v ∷ vertices) number index e = found_at v vertices number index (v.0 == number) (index_in vertices number) refl (λ i. index_says vertices number i) e

-- where there is no index, no vertex has the number
none_at : (v : ℕ × ℕ) (vertices : List (ℕ × ℕ)) (number : ℕ) (c : Bool) (o : Option ℕ) → (v.0 == number) ≡ c → (o ≡ None → (k : ℕ) → k < length vertices → (get_or vertices k (0, 0)).0 ≢ number)
    → cond c (Some 0) (option_map (λ i. i + 1) o) ≡ None → (k : ℕ) → k < suc (length vertices) → (get_or (v ∷ vertices) k (0, 0)).0 ≢ number
none_at v vertices number true o t later e k l = absurd (let x : Some 0 ≡ None = e in cc)
none_at v vertices number false (Some i) t later e k l = absurd (let x : Some (i + 1) ≡ None = e in cc)
none_at v vertices number false None t later e zero l = test_fails v.0 number t
none_at v vertices number false None t later e (suc k) l = later refl k (omega (arith, l))

pub index_none_says : (vertices : List (ℕ × ℕ)) (number : ℕ) → index_in vertices number ≡ None → (k : ℕ) → k < length vertices → (get_or vertices k (0, 0)).0 ≢ number
index_none_says [] number e k l = absurd (omega (arith, l))
index_none_says (v ∷ vertices) number e k l = none_at v vertices number (v.0 == number) (index_in vertices number) refl (index_none_says vertices number) e k l

-- the same of whatever the index is
pub found_says : (vertices : List (ℕ × ℕ)) (number : ℕ) (o : Option ℕ) → o ≡ index_in vertices number → IfSome o (λ index. (index < length vertices) × ((get_or vertices index (0, 0)).0 ≡ number))
found_says vertices number None e = tt
found_says vertices number (Some index) e = index_says vertices number index (sym e)

pub absent_says : (vertices : List (ℕ × ℕ)) (number : ℕ) (o : Option ℕ) → o ≡ index_in vertices number → IfNone o ((v : ℕ) → v < length vertices → (get_or vertices v (0, 0)).0 ≢ number)
absent_says vertices number None e = index_none_says vertices number (sym e)
absent_says vertices number (Some index) e = tt

-- a search that ends between smaller and larger numbers has met none that is equal
pub not_between : (vertices : List (ℕ × ℕ)) (number place : ℕ) → IsPartitionPoint (λ v. nat_cmp v.0 number ≡ Less) (λ v. nat_cmp v.0 number ≡ Greater) vertices place
    → (k : ℕ) (d : ℕ × ℕ) → k < length vertices → (get_or vertices k d).0 ≢ number
not_between vertices number place h k d l = elim (cases_lt k place) [
  | inl low ↦ let less = less_means (get_or vertices k d).0 number (h.0 k d (omega arith) low) in omega (arith, less)
  | inr high ↦ let more = greater_means (get_or vertices k d).0 number (h.1 k d high l) in omega (arith, more)
]
