-- The only fragment of a job has the tables of the graph.
use Rattle.std.proofs.Common.{◌≡◌, ℕ, zero, suc, ◌+◌, ◌<◌, ◌≤◌, Bool, true, false, not, ◌&&◌, cond, ◌==◌, List, [], ◌∷◌, ◌++◌, map, filter, flat_map, slice_index, Contains, refl, ◌∙◌, sym, ap, subst, arith, append-nil, eq-eqb}
use Rattle.std.specs.Prelude.{sum_by}
use Rattle.std.specs.List.{range_with_len}
use Rattle.std.proofs.lemmas.List.FromFn.{length-range_with_len, get_or-map-range_with_len}
use Rattle.std.proofs.lemmas.List.{map-id}
use Rattle.graph_core.specs.declared.job.Job.{Job}
use Rattle.graph_core.specs.declared.fragment.Reading.{Reading}
use Rattle.graph_core.specs.Graphs.{count_of, IsJob}
use Rattle.graph_core.specs.Queries.{Read, reads_of}
use Rattle.graph_core.specs.Fragments.{owner, numbers_below, owned_of, mirrors_of, places_of, place_of, is_read_in, readings_of, readers_of, StandsAt}
use Rattle.graph_core.proofs.Cutting.{owner-lt}
use Rattle.graph_core.proofs.Sums.{sum-map, sum-flat_map, sum-same, sum_one, sum_range_same}
use Rattle.graph_core.proofs.FragmentPlaces.{places_inside, read_stands, place_is}
use Rattle.fragment_cut.specs.Filing.{reading_at, reads_table, readers_at, readers_table}
use Rattle.fragment_cut.specs.Halves.{HalfLists, half_of}
use Rattle.fragment_cut.proofs.InOrder.{SameSums, sorted_same}
use Rattle.fragment_cut.proofs.Placing.{map_range_same}
use Rattle.fragment_cut.proofs.Turning.{readers-by_vertex}

module _ (test : ℕ → Bool) where
  keep : (c : Bool) (x : ℕ) (ys zs : List ℕ) → c ≡ true → ys ≡ zs → cond c (x ∷ ys) ys ≡ x ∷ zs
  keep true x ys zs e h = ap (λ l. x ∷ l) h
  keep false x ys zs e h = absurd (let x : false ≡ true = e in cc)

  leave : (c : Bool) (x : ℕ) (ys zs : List ℕ) → c ≡ false → ys ≡ zs → cond c (x ∷ ys) ys ≡ zs
  leave false x ys zs e h = h
  leave true x ys zs e h = absurd (let x : true ≡ false = e in cc)

  filter_all : (a n : ℕ) → ((k : ℕ) → a ≤ k → k < a + n → test k ≡ true) → filter test (range_with_len a n) ≡ range_with_len a n
  filter_all a zero h = refl
  filter_all a (suc n) h = keep (test a) a (filter test (range_with_len (a + 1) n)) (range_with_len (a + 1) n) (h a (omega arith) (omega arith)) (filter_all (a + 1) n (λ k l m. h k (omega (arith, l)) (omega (arith, m))))

  filter_nothing : (a n : ℕ) → ((k : ℕ) → a ≤ k → k < a + n → test k ≡ false) → filter test (range_with_len a n) ≡ []
  filter_nothing a zero h = refl
  filter_nothing a (suc n) h = leave (test a) a (filter test (range_with_len (a + 1) n)) [] (h a (omega arith) (omega arith)) (filter_nothing (a + 1) n (λ k l m. h k (omega (arith, l)) (omega (arith, m))))

module _ (job : Job) (is : IsJob job) (one : job.settings.fragments ≡ 1) where
  small : 0 < job.settings.fragments
  small = omega (arith, one)

  abbrev n : ℕ
  n = count_of job.graph

  owner_is : (v : ℕ) → v < n → (owner job v == 0) ≡ true
  owner_is v h = let l = owner-lt job v small h in eq-eqb (owner job v) 0 (omega (arith, l, one))

  pub owned_are : owned_of job 0 ≡ numbers_below n
  owned_are = filter_all (λ v. owner job v == 0) 0 n (λ v l m. owner_is v (omega (arith, m)))

  pub mirrors_are : mirrors_of job 0 ≡ []
  mirrors_are = filter_nothing (λ v. not (owner job v == 0) && is_read_in job 0 v) 0 n (λ v l m. ap (λ b. not b && is_read_in job 0 v) (owner_is v (omega (arith, m))))

  places_are : places_of job 0 ≡ numbers_below n
  places_are = ap (λ l. l ++ mirrors_of job 0) owned_are ∙ ap (λ l. numbers_below n ++ l) mirrors_are ∙ append-nil (numbers_below n)

  number_at : (v : ℕ) → v < n → slice_index (numbers_below n) v ≡ v
  number_at v h = ap (λ l. slice_index l v) (sym (map-id (numbers_below n))) ∙ get_or-map-range_with_len (λ k. k) 0 n v v 0 h (omega arith)

  stands : (v : ℕ) → v < n → StandsAt (places_of job 0) v v
  stands v h = subst (λ l. StandsAt l v v) (sym places_are) (omega (arith, length-range_with_len 0 n, h), number_at v h)

  owned_stands : (v : ℕ) → v < n → StandsAt (owned_of job 0) v v
  owned_stands v h = subst (λ l. StandsAt l v v) (sym owned_are) (omega (arith, length-range_with_len 0 n, h), number_at v h)

  place_at : (v : ℕ) → v < n → place_of job 0 v ≡ v ∷ []
  place_at v h = place_is job is 0 small v v (stands v h)

  read_inside : (v : ℕ) (r : Read) → v < n → Contains (reads_of job.graph job.query v) r → r.vertex < n
  read_inside v r h c = let s = read_stands job is 0 small v v r (owned_stands v h) c in places_inside job is 0 small s.0 r.vertex s.1

  readings-sums : (v : ℕ) → v < n → SameSums (map reading_at (reads_of job.graph job.query v)) (flat_map (λ r. map (λ p. record { place = p; weight = r.weight }) (place_of job 0 r.vertex)) (reads_of job.graph job.query v))
  readings-sums v h f =
      sum-map f reading_at (reads_of job.graph job.query v)
      ∙ sum-same (λ r. f (reading_at r)) (λ r. sum_by f (map (λ p. record { place = p; weight = r.weight }) (place_of job 0 r.vertex))) (reads_of job.graph job.query v)
      (λ r c. sum_one f (reading_at r) ∙ sym (ap (λ ps. sum_by f (map (λ p. record { place = p; weight = r.weight }) ps)) (place_at r.vertex (read_inside v r h c))))
      ∙ sym (sum-flat_map f (λ r. map (λ p. record { place = p; weight = r.weight }) (place_of job 0 r.vertex)) (reads_of job.graph job.query v))

  pub readings_are : reads_table job.graph job.query ≡ map (readings_of job 0) (owned_of job 0)
  readings_are =
      map_range_same _ (readings_of job 0) 0 n (λ v l m. sorted_same (map reading_at (reads_of job.graph job.query v)) (flat_map (λ r. map (λ p. record { place = p; weight = r.weight }) (place_of job 0 r.vertex)) (reads_of job.graph job.query v)) (readings-sums v (omega (arith, m))))
      ∙ ap (map (readings_of job 0)) (sym owned_are)

  reader_term : (f : Reading → ℕ) (w : ℕ) (r : Read) (b : Bool) → place_of job 0 w ≡ w ∷ [] → cond b (f (record { place = w; weight = r.weight })) 0 ≡ sum_by f (cond b (map (λ p. record { place = p; weight = r.weight }) (place_of job 0 w)) [])
  reader_term f w r true e = sum_one f (record { place = w; weight = r.weight }) ∙ sym (ap (λ ps. sum_by f (map (λ p. record { place = p; weight = r.weight }) ps)) e)
  reader_term f w r false e = refl

  abbrev inner : ℕ → ℕ → Read → List Reading
  inner u w r = cond (r.vertex == u) (map (λ p. record { place = p; weight = r.weight }) (place_of job 0 w)) []

  abbrev row : ℕ → ℕ → List Reading
  row u w = flat_map (inner u w) (reads_of job.graph job.query w)

  readers-sums : (u : ℕ) → SameSums (readers_at job.graph job.query u) (flat_map (row u) (owned_of job 0))
  readers-sums u f =
      readers-by_vertex job.graph job.query u f
      ∙ sum_range_same _ (λ w. sum_by f (row u w)) 0 n (λ w l m.
      sum-same _ (λ r. sum_by f (inner u w r)) (reads_of job.graph job.query w) (λ r c. reader_term f w r (r.vertex == u) (place_at w (omega (arith, m))))
      ∙ sym (sum-flat_map f (inner u w) (reads_of job.graph job.query w)))
      ∙ ap (sum_by (λ w. sum_by f (row u w))) (sym owned_are)
      ∙ sym (sum-flat_map f (row u) (owned_of job 0))

  pub readers_are : readers_table job.graph job.query ≡ map (readers_of job 0) (places_of job 0)
  readers_are =
      map_range_same _ (readers_of job 0) 0 n (λ u l m. sorted_same (readers_at job.graph job.query u) (flat_map (row u) (owned_of job 0)) (readers-sums u))
      ∙ ap (map (readers_of job 0)) (sym places_are)

  pub only_half : (owned mirrors : List ℕ) (readings readers : List (List Reading)) → owned ≡ numbers_below n → mirrors ≡ [] → readings ≡ reads_table job.graph job.query → readers ≡ readers_table job.graph job.query
      → (let h : HalfLists = record { owned = owned; mirrors = mirrors; readings = readings; readers = readers } in h) ≡ half_of job 0
  only_half owned mirrors readings readers eo em er es =
      ap (λ o. let h : HalfLists = record { owned = o; mirrors = mirrors; readings = readings; readers = readers } in h) (eo ∙ sym owned_are)
      ∙ ap (λ m. let h : HalfLists = record { owned = owned_of job 0; mirrors = m; readings = readings; readers = readers } in h) (em ∙ sym mirrors_are)
      ∙ ap (λ r. let h : HalfLists = record { owned = owned_of job 0; mirrors = mirrors_of job 0; readings = r; readers = readers } in h) (er ∙ readings_are)
      ∙ ap (λ s. let h : HalfLists = record { owned = owned_of job 0; mirrors = mirrors_of job 0; readings = map (readings_of job 0) (owned_of job 0); readers = s } in h) (es ∙ readers_are)
