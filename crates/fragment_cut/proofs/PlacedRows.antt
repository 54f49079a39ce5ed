-- The rows of all reads, with a fragment's places for vertices, are its readings.
use Rattle.std.proofs.Common.{◌≡◌, ◌≢◌, ℕ, ◌+◌, ◌-◌, ◌<◌, ◌≤◌, Bool, true, false, not, cond, ◌==◌, ◌&&◌, List, [], ◌∷◌, ◌++◌, length, map, filter, flat_map, slice_index, get_or, refl, ◌∙◌, sym, ap, inl, inr, arith}
use Rattle.std.specs.Prelude.{sum_by, nat_lt}
use Rattle.std.specs.List.{AllByRecursion}
use Rattle.std.specs.List.Sorted.{IsNonDecreasing}
use Rattle.std.proofs.lemmas.Bool.{cases_lt, cases_eq}
use Rattle.std.proofs.lemmas.Bool.Decides.{nat_tests}
use Rattle.std.proofs.lemmas.List.{length-append, get_or_append_left, get_or-append-add}
use Rattle.std.proofs.lemmas.List.FromFn.{get_or-range_with_len, length-range_with_len}
use Rattle.std.proofs.lemmas.List.Kept.{IsNonDecreasingBy-filter}
use Rattle.std.proofs.lemmas.List.Sums.{sum_by-cons, sum_by-append}
use Rattle.graph_core.specs.declared.job.Job.{Job}
use Rattle.graph_core.specs.declared.fragment.Reading.{Reading}
use Rattle.graph_core.specs.Graphs.{count_of, IsJob}
use Rattle.graph_core.specs.Queries.{Read, reads_of}
use Rattle.graph_core.specs.Fragments.{owner, numbers_below, owned_of, mirrors_of, places_of, place_of, is_read_in, readings_of, sorted_readings, StandsAt}
use Rattle.graph_core.proofs.Sums.{sum-map, sum-flat_map, sum-same, sum_one, sum_by-sorted_readings}
use Rattle.graph_core.proofs.FragmentPlaces.{read_stands}
use Rattle.fragment_cut.specs.Filing.{reading_at, reads_table, placed_reading, is_owned_in, is_mirrored_in, placed_row, placed_rows}
use Rattle.fragment_cut.proofs.InOrder.{SameSums, goes, Rises, RisesFrom, tail-rises, rises-sorted, rising_is_sorted}
use Rattle.fragment_cut.proofs.TurnedTables.{rises_past, rises_joined}
use Rattle.fragment_cut.proofs.Placing.{every_from, every-map, every-sorted, map_by_places, map_range_same, reads-row, placed_read}

-- ---- a part of a list, mapped, stays in order

module _ (keep : Reading → Bool) (f : Reading → Reading) (S : Reading → Type 0) (mono : (r s : Reading) → S r → S s → keep r ≡ true → keep s ≡ true → goes r s → goes (f r) (f s)) where
  kept_from : (r : Reading) (xs : List Reading) → S r → keep r ≡ true → RisesFrom r xs → AllByRecursion S xs → RisesFrom (f r) (map f (filter keep xs))
  kept_from r [] q k h a = tt
  kept_from r (s ∷ xs) q k h a = kept_case (keep s) refl (λ t. kept_from s xs a.0 t h.1 a.1) (kept_from r xs q k (rises_past r s xs h.0 h.1) a.1)
    where
      kept_case : (c : Bool) → keep s ≡ c → (keep s ≡ true → RisesFrom (f s) (map f (filter keep xs))) → RisesFrom (f r) (map f (filter keep xs)) → RisesFrom (f r) (map f (cond c (s ∷ filter keep xs) (filter keep xs)))
      kept_case true t here past = (mono r s q a.0 k t h.0, here t)
      kept_case false t here past = past

  kept_rises : (xs : List Reading) → Rises xs → AllByRecursion S xs → Rises (map f (filter keep xs))
  kept_rises [] h a = tt
  kept_rises (r ∷ xs) h a = kept_case (keep r) refl (kept_rises xs (tail-rises r xs h) a.1)
    where
      kept_case : (c : Bool) → keep r ≡ c → Rises (map f (filter keep xs)) → Rises (map f (cond c (r ∷ filter keep xs) (filter keep xs)))
      kept_case true t past = kept_from r xs a.0 t h a.1
      kept_case false t past = past

-- what passes a test has a property
every_kept : (keep : Reading → Bool) (f : Reading → Reading) (Q : Reading → Type 0) → ((r : Reading) → keep r ≡ true → Q (f r)) → (xs : List Reading) → AllByRecursion Q (map f (filter keep xs))
every_kept keep f Q h [] = tt
every_kept keep f Q h (r ∷ xs) = kept_case (keep r) refl (every_kept keep f Q h xs)
  where
    kept_case : (c : Bool) → keep r ≡ c → AllByRecursion Q (map f (filter keep xs)) → AllByRecursion Q (map f (cond c (r ∷ filter keep xs) (filter keep xs)))
    kept_case true t past = (h r t, past)
    kept_case false t past = past

from_first : (n : ℕ) (z : Reading) (ys : List Reading) → z.place < n → Rises ys → AllByRecursion (λ (y : Reading). n ≤ y.place) ys → RisesFrom z ys
from_first n z [] l r a = tt
from_first n z (y ∷ ys) l r a = (lower z y (omega (arith, l, a.0)), r)
  where
    lower : (x y : Reading) → x.place < y.place → goes x y
    lower x y h = grind (arith, nat_tests)

-- the two parts have all of a list
parts_sum : (keep : Reading → Bool) (g f : Reading → _) (xs : List Reading) → sum_by g (map f (filter keep xs) ++ map f (filter (λ r. not (keep r)) xs)) ≡ sum_by (λ r. g (f r)) xs
parts_sum keep g f xs = sum_by-append g (map f (filter keep xs)) (map f (filter (λ r. not (keep r)) xs)) ∙ both xs
  where
    both_case : (c : Bool) (r : Reading) (a b m : ℕ) (xs ys : List Reading) → a ≡ sum_by g (map f xs) → b ≡ sum_by g (map f ys) → a + b ≡ m → sum_by g (map f (cond c (r ∷ xs) xs)) + sum_by g (map f (cond (not c) (r ∷ ys) ys)) ≡ g (f r) + m
    both_case true r a b m xs ys e h l = omega (arith, e, h, l, sum_by-cons g (f r) (map f xs))
    both_case false r a b m xs ys e h l = omega (arith, e, h, l, sum_by-cons g (f r) (map f ys))

    both : (xs : List Reading) → sum_by g (map f (filter keep xs)) + sum_by g (map f (filter (λ r. not (keep r)) xs)) ≡ sum_by (λ r. g (f r)) xs
    both [] = refl
    both (r ∷ xs) = both_case (keep r) r _ _ _ (filter keep xs) (filter (λ r. not (keep r)) xs) refl refl (both xs) ∙ sym (sum_by-cons (λ r. g (f r)) r xs)

-- ---- vertices stand in rising order

RisesOn : List ℕ → ℕ → ℕ → Type 0
RisesOn vs low high = (a b : ℕ) → low ≤ a → a ≤ b → b < high → get_or vs a 0 ≤ get_or vs b 0

range_rises : (n : ℕ) → IsNonDecreasing (numbers_below n)
range_rises n a b d l m =
    let len = length-range_with_len 0 n in
    let x = get_or-range_with_len 0 n a d (omega (arith, l, m, len)) in
    let y = get_or-range_with_len 0 n b d (omega (arith, m, len)) in
    omega (arith, l, x, y)

module _ (job : Job) (i : ℕ) where
  owned_rise : RisesOn (places_of job i) 0 (length (owned_of job i))
  unfolding RisesOn
  owned_rise a b l h m =
      let rise = IsNonDecreasingBy-filter (λ v. v) (λ v. owner job v == i) (numbers_below (count_of job.graph)) (range_rises (count_of job.graph)) a b 0 h m in
      let x = get_or_append_left (owned_of job i) (mirrors_of job i) 0 a (omega (arith, h, m)) in
      let y = get_or_append_left (owned_of job i) (mirrors_of job i) 0 b m in
      omega (arith, rise, x, y)

  mirrors_rise : RisesOn (places_of job i) (length (owned_of job i)) (length (places_of job i))
  unfolding RisesOn
  mirrors_rise a b l h m =
      let us = owned_of job i in
      let ws = mirrors_of job i in
      let n = length-append us ws in
      let rise = IsNonDecreasingBy-filter (λ v. v) (λ v. not (owner job v == i) && is_read_in job i v) (numbers_below (count_of job.graph)) (range_rises (count_of job.graph)) (a - length us) (b - length us) 0 (omega (arith, l, h)) (omega (arith, l, h, m, n)) in
      let p : a ≡ length us + (a - length us) = omega (arith, l) in
      let q : b ≡ length us + (b - length us) = omega (arith, l, h) in
      let x = ap (λ k. get_or (us ++ ws) k 0) p ∙ get_or-append-add us ws (a - length us) 0 in
      let y = ap (λ k. get_or (us ++ ws) k 0) q ∙ get_or-append-add us ws (b - length us) 0 in
      omega (arith, rise, x, y)

-- ---- a row of a fragment

module _ (job : Job) (is : IsJob job) (i : ℕ) (small : i < job.settings.fragments) (P : List ℕ) (right : (p v : ℕ) → StandsAt (places_of job i) p v → slice_index P v ≡ p) where
  abbrev n : ℕ
  n = length (owned_of job i)

  -- what is read stands in the fragment
  abbrev Stands : Reading → Type 0
  Stands r = (q : ℕ) × StandsAt (places_of job i) q r.place

  weights : (r s : Reading) (a b : ℕ) → goes r s → (r.place ≡ s.place → a ≡ b) → (r.place < s.place → a < b) → goes (record { place = a; weight = r.weight }) (record { place = b; weight = s.weight })
  weights r s a b h e l = elim (cases_eq r.place s.place) [
    | inl q ↦ same (e q) q h
    | inr d ↦ lower (l (before h d))
  ]
    where
      same : a ≡ b → r.place ≡ s.place → goes r s → goes (record { place = a; weight = r.weight }) (record { place = b; weight = s.weight })
      same x y z = grind (arith, nat_tests, x, y, z)

      lower : a < b → goes (record { place = a; weight = r.weight }) (record { place = b; weight = s.weight })
      lower x = grind (arith, nat_tests, x)

      before : goes r s → r.place ≢ s.place → r.place < s.place
      before x y = grind (arith, nat_tests, x, y)

  -- within a part whose vertices rise, places rise with vertices
  placed_goes : (low high : ℕ) → RisesOn (places_of job i) low high → (r s : Reading) → Stands r → Stands s → low ≤ slice_index P r.place → slice_index P s.place < high → slice_index P r.place < high → low ≤ slice_index P s.place
      → goes r s → goes (placed_reading P r) (placed_reading P s)
  unfolding RisesOn
  placed_goes low high rise r s x y lr hs hr ls h =
      let a = right x.0 r.place x.1 in
      let b = right y.0 s.place y.1 in
      weights r s (slice_index P r.place) (slice_index P s.place) h (ap (slice_index P)) (λ l. elim (cases_lt (slice_index P r.place) (slice_index P s.place)) [
        | inl m ↦ m
        | inr m ↦
            let e = x.1.1 in
            let f = y.1.1 in
            let up = rise y.0 x.0 (omega (arith, b, ls)) (omega (arith, a, b, m)) (omega (arith, a, hr)) in
            absurd (omega (arith, up, e, f, l))
      ])

  owned_test : (k : ℕ) → nat_lt k n ≡ true → k < n
  owned_test k h = grind (arith, nat_tests, h)

  mirrored_test : (k : ℕ) → not (nat_lt k n) ≡ true → n ≤ k
  mirrored_test k h = grind (arith, nat_tests, h)

  place_inside : (r : Reading) → Stands r → slice_index P r.place < length (places_of job i)
  place_inside r x = let a = right x.0 r.place x.1 in let l = x.1.0 in omega (arith, a, l)

  row_rises : (row : List Reading) → Rises row → AllByRecursion Stands row → Rises (placed_row P n row)
  row_rises row h a =
      let own = kept_rises (is_owned_in P n) (placed_reading P) Stands
      (λ r s x y k m g. placed_goes 0 n (owned_rise job i) r s x y (omega arith) (owned_test (slice_index P s.place) m) (owned_test (slice_index P r.place) k) (omega arith) g) row h a in
      let far = kept_rises (is_mirrored_in P n) (placed_reading P) Stands
      (λ r s x y k m g. placed_goes n (length (places_of job i)) (mirrors_rise job i) r s x y (mirrored_test (slice_index P r.place) k) (place_inside s y) (place_inside r x) (mirrored_test (slice_index P s.place) m) g) row h a in
      let past = every_kept (is_mirrored_in P n) (placed_reading P) (λ r. n ≤ r.place) (λ r k. mirrored_test (slice_index P r.place) k) row in
      rises_joined (λ r. r.place < n) (map (placed_reading P) (filter (is_mirrored_in P n) row)) (λ z q. from_first n z _ q far past)
      (map (placed_reading P) (filter (is_owned_in P n) row)) own (every_kept (is_owned_in P n) (placed_reading P) (λ r. r.place < n) (λ r k. owned_test (slice_index P r.place) k) row) far

  row_is : (p : ℕ) → p < n → placed_row P n (get_or (reads_table job.graph job.query) (slice_index (owned_of job i) p) []) ≡ readings_of job i (slice_index (owned_of job i) p)
  row_is p h =
      let v = slice_index (owned_of job i) p in
      let reads = reads_of job.graph job.query v in
      let row = sorted_readings (map reading_at reads) in
      let stand : AllByRecursion Stands row = every-sorted Stands (map reading_at reads) (every-map Stands reading_at reads (every_from (λ r. Stands (reading_at r)) reads (λ r c. read_stands job is i small p v r (h, refl) c))) in
      let sums : SameSums (placed_row P n row) (flat_map (λ r. map (λ q. record { place = q; weight = r.weight }) (place_of job i r.vertex)) reads) = λ f.
      parts_sum (is_owned_in P n) f (placed_reading P) row
      ∙ sum_by-sorted_readings (λ r. f (placed_reading P r)) (map reading_at reads)
      ∙ sum-map (λ r. f (placed_reading P r)) reading_at reads
      ∙ sum-same (λ (r : Read). f (record { place = slice_index P r.vertex; weight = r.weight })) (λ r. sum_by f (map (λ q. record { place = q; weight = r.weight }) (place_of job i r.vertex))) reads
      (λ r c. sum_one f (record { place = slice_index P r.vertex; weight = r.weight }) ∙ sym (ap (λ ps. sum_by f (map (λ q. record { place = q; weight = r.weight }) ps)) (placed_read job is i small P right p h r c)))
      ∙ sym (sum-flat_map f (λ r. map (λ q. record { place = q; weight = r.weight }) (place_of job i r.vertex)) reads) in
      ap (placed_row P n) (reads-row job is i small p h) ∙ rising_is_sorted (placed_row P n row) (flat_map (λ r. map (λ q. record { place = q; weight = r.weight }) (place_of job i r.vertex)) reads) (row_rises row (rises-sorted (map reading_at reads)) stand) sums

  pub rows_placed : placed_rows (owned_of job i) P (reads_table job.graph job.query) ≡ map (readings_of job i) (owned_of job i)
  rows_placed =
      sym (map_by_places (λ v. placed_row P n (get_or (reads_table job.graph job.query) v [])) (owned_of job i))
      ∙ map_range_same _ (λ p. readings_of job i (slice_index (owned_of job i) p)) 0 n (λ p _ m. row_is p (omega (arith, m)))
      ∙ map_by_places (readings_of job i) (owned_of job i)
