-- Each fragment of a job has a row for each place, and names no place that it lacks.
use Rattle.std.proofs.Common.{◌≡◌, ◌≢◌, ℕ, suc, ◌+◌, ◌<◌, Bool, true, false, not, cond, ◌==◌, nat_lt, List, [], ◌∷◌, ◌++◌, length, map, flat_map, Some, None, refl, subst, inl, inr, arith, Contains}
use Rattle.std.specs.Prelude.{All, option_to_list}
use Rattle.std.specs.List.{AllByRecursion, position_or_len}
use Rattle.std.proofs.lemmas.Bool.Decides.{nat_tests}
use Rattle.std.proofs.lemmas.List.{length-append, length-map}
use Rattle.std.proofs.lemmas.List.Elements.{All-from_recursion}
use Rattle.graph_core.specs.declared.job.Job.{Job}
use Rattle.graph_core.specs.declared.fragment.Reading.{Reading}
use Rattle.graph_core.specs.Queries.{reads_of}
use Rattle.graph_core.specs.Parts.{IsFragment}
use Rattle.graph_core.specs.Fragments.{owned_of, mirrors_of, places_of, place_of, readings_of, readers_of, routes_of, fragment_of, insert_reading, sorted_readings, comes_before}
use Rattle.graph_core.proofs.Lists.{contains_here, contains_later, contains_none, contains_cases}

module _ {X : Type 0} (P : X → Type 0) where
  all-append : (xs ys : List X) → AllByRecursion P xs → AllByRecursion P ys → AllByRecursion P (xs ++ ys)
  all-append [] ys h k = k
  all-append (x ∷ xs) ys h k = (h.0, all-append xs ys h.1 k)

  all-flat_map : {W : Type 0} (f : W → List X) (ws : List W) → ((w : W) → Contains ws w → AllByRecursion P (f w)) → AllByRecursion P (flat_map f ws)
  all-flat_map f [] h = tt
  all-flat_map f (w ∷ ws) h = all-append (f w) (flat_map f ws) (h w (contains_here w ws)) (all-flat_map f ws (λ v c. h v (contains_later w ws v c)))

  all-map : {W : Type 0} (f : W → X) (ws : List W) → AllByRecursion (λ w. P (f w)) ws → AllByRecursion P (map f ws)
  all-map f [] h = tt
  all-map f (w ∷ ws) h = (h.0, all-map f ws h.1)

  all-image : {W : Type 0} (f : W → X) (ws : List W) → ((w : W) → P (f w)) → AllByRecursion P (map f ws)
  all-image f [] h = tt
  all-image f (w ∷ ws) h = (h w, all-image f ws h)

  all-if : (c : Bool) (xs : List X) → AllByRecursion P xs → AllByRecursion P (cond c xs [])
  all-if true xs h = h
  all-if false xs h = tt

module _ (P : Reading → Type 0) where
  insert_case : (c : Bool) (a b : Reading) (bs : List Reading) → P a → P b → AllByRecursion P bs → AllByRecursion P (insert_reading a bs) → AllByRecursion P (cond c (b ∷ insert_reading a bs) (a ∷ b ∷ bs))
  insert_case true a b bs pa pb ps qs = (pb, qs)
  insert_case false a b bs pa pb ps qs = (pa, (pb, ps))

  all-insert_reading : (a : Reading) (bs : List Reading) → P a → AllByRecursion P bs → AllByRecursion P (insert_reading a bs)
  all-insert_reading a [] pa ps = (pa, tt)
  all-insert_reading a (b ∷ bs) pa ps = insert_case (comes_before b a) a b bs pa ps.0 ps.1 (all-insert_reading a bs pa ps.1)

  all-sorted_readings : (bs : List Reading) → AllByRecursion P bs → AllByRecursion P (sorted_readings bs)
  all-sorted_readings [] ps = tt
  all-sorted_readings (a ∷ bs) ps = all-insert_reading a (sorted_readings bs) ps.0 (all-sorted_readings bs ps.1)

-- a place that is found
all-position : (c : Bool) (q n : ℕ) → (c ≡ true → q < n) → AllByRecursion (λ p. p < n) (option_to_list (cond c (Some q) None))
all-position true q n h = (h refl, tt)
all-position false q n h = tt

below_from_test : (m n : ℕ) → nat_lt m n ≡ true → m < n
below_from_test m n h = grind (arith, nat_tests)

other_from_test : (m n : ℕ) → (m == n) ≡ false → m ≢ n
other_from_test m n h = grind (arith, nat_tests)

first_case : (c : Bool) (k n : ℕ) → (c ≡ false → k < n) → cond (not c) (1 + k) 0 < suc n
first_case true k n h = omega arith
first_case false k n h = omega (arith, h refl)

-- what stands in the first of two lists is found there
position-first : (xs ys : List ℕ) (w : ℕ) → Contains xs w → position_or_len (λ u. u == w) (xs ++ ys) < length xs
position-first [] ys w c = contains_none w c
position-first (x ∷ xs) ys w c =
    first_case (x == w) (position_or_len (λ u. u == w) (xs ++ ys)) (length xs)
    (λ e. elim (contains_cases x xs w c) [ inl s ↦ absurd (other_from_test x w e s) | inr d ↦ position-first xs ys w d ])

module _ (job : Job) (i : ℕ) where
  place_in_range : (v : ℕ) → AllByRecursion (λ p. p < length (places_of job i)) (place_of job i v)
  place_in_range v =
      let q = position_or_len (λ u. u == v) (places_of job i) in
      all-position (nat_lt q (length (places_of job i))) q (length (places_of job i)) (below_from_test q (length (places_of job i)))

  place_owned : (w : ℕ) → Contains (owned_of job i) w → AllByRecursion (λ p. p < length (owned_of job i)) (place_of job i w)
  place_owned w c =
      let q = position_or_len (λ u. u == w) (places_of job i) in
      all-position (nat_lt q (length (places_of job i))) q (length (owned_of job i)) (λ _. position-first (owned_of job i) (mirrors_of job i) w c)

  pub readings_in_range : (v : ℕ) → AllByRecursion (λ r. r.place < length (places_of job i)) (readings_of job i v)
  readings_in_range v =
      let P : Reading → Type 0 = λ r. r.place < length (places_of job i) in
      all-sorted_readings P _ (all-flat_map P _ (reads_of job.graph job.query v) (λ r c. all-map P _ (place_of job i r.vertex) (place_in_range r.vertex)))

  pub readers_in_range : (u : ℕ) → AllByRecursion (λ r. r.place < length (owned_of job i)) (readers_of job i u)
  readers_in_range u =
      let P : Reading → Type 0 = λ r. r.place < length (owned_of job i) in
      all-sorted_readings P _ (all-flat_map P _ (owned_of job i) (λ w c.
      all-flat_map P _ (reads_of job.graph job.query w) (λ r d. all-if P (r.vertex == u) _ (all-map P _ (place_of job i w) (place_owned w c)))))

  pub fragment_is_one : IsFragment (fragment_of job i)
  fragment_is_one =
      let reading : Reading → Type 0 = λ r. r.place < length (owned_of job i) + length (mirrors_of job i) in
      let reader : Reading → Type 0 = λ r. r.place < length (owned_of job i) in
      let n = length-append (owned_of job i) (mirrors_of job i) in
      let placed : Reading → Type 0 = λ r. r.place < length (places_of job i) in
      record {
        readings_len = length-map (owned_of job i) (readings_of job i);
        readers_len = omega (arith, n, length-map (places_of job i) (readers_of job i));
        routes_len = length-map (owned_of job i) (routes_of job);
        readings = All-from_recursion (λ row. All reading row) (map (readings_of job i) (owned_of job i))
            (all-image (λ row. All reading row) (readings_of job i) (owned_of job i) (λ v.
            let P : ℕ → Type 0 = λ m. All (λ r. r.place < m) (readings_of job i v) in
            subst P n (All-from_recursion placed (readings_of job i v) (readings_in_range v))));
        readers = All-from_recursion (λ row. All reader row) (map (readers_of job i) (places_of job i))
            (all-image (λ row. All reader row) (readers_of job i) (places_of job i) (λ u. All-from_recursion reader (readers_of job i u) (readers_in_range u)));
      }
