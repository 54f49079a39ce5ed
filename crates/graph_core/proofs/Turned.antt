-- The readers of a fragment are its readings turned round.
use Rattle.std.proofs.Common.{◌≡◌, ◌≢◌, ℕ, ◌<◌, inl, inr, Bool, true, false, ◌==◌, ◌&&◌, cond, List, [], length, map, flat_map, slice_index, refl, ◌∙◌, sym, ap, arith, eq-eqb}
use Rattle.std.specs.Prelude.{sum_by}
use Rattle.std.proofs.lemmas.Bool.{cases_eq, ne_eqb}
use Rattle.std.proofs.lemmas.List.{get_or-map, length-append}
use Rattle.graph_core.specs.declared.job.Job.{Job}
use Rattle.graph_core.specs.declared.fragment.Reading.{Reading}
use Rattle.graph_core.specs.Graphs.{IsJob}
use Rattle.graph_core.specs.Queries.{Read, reads_of}
use Rattle.graph_core.specs.Fragments.{owned_of, mirrors_of, places_of, place_of, readings_of, readers_of, fragment_of, StandsAt}
use Rattle.graph_core.specs.Theorems.{times_in, ReadersAreTurnedReadings}
use Rattle.graph_core.proofs.Sums.{sum-flat_map, sum-same, sum-zero, sum_one, sum_range_same, sum_range_one, sum_by_places, sum_by-sorted_readings}
use Rattle.graph_core.proofs.FragmentPlaces.{places_once, read_stands, place_is, owned_placed}

abbrev one_if : Bool → ℕ
one_if b = cond b 1 0

-- 1 for a reading of this place and weight
abbrev is_at : ℕ → ℕ → Reading → ℕ
is_at place weight r = one_if ((r.place == place) && (r.weight == weight))

abbrev reading : ℕ → ℕ → Reading
reading place weight = record { place = place; weight = weight }

none : (b c : Bool) (k p : ℕ) → k ≢ p → cond b (one_if ((k == p) && c)) 0 ≡ 0
none true c k p d = ap (λ t. one_if (t && c)) (ne_eqb k p d)
none false c k p d = refl

both : (b c : Bool) (p : ℕ) → cond b (one_if ((p == p) && c)) 0 ≡ one_if (b && c)
both true c p = ap (λ t. one_if (t && c)) (eq-eqb p p refl)
both false c p = refl

module _ (job : Job) (is : IsJob job) (i : ℕ) (small : i < job.settings.fragments) (p q weight : ℕ) (owned : p < length (owned_of job i)) (placed : q < length (places_of job i)) where
  abbrev vertex_at : ℕ → ℕ
  vertex_at k = slice_index (owned_of job i) k

  abbrev read_vertex : ℕ
  read_vertex = slice_index (places_of job i) q

  abbrev row_of : ℕ → Read → List Reading
  row_of v r = map (λ k. record { place = k; weight = r.weight }) (place_of job i v)

  abbrev reads_at : ℕ → List Read
  reads_at k = reads_of job.graph job.query (vertex_at k)

  -- what is counted of one vertex that reads
  counted : ℕ → ℕ
  counted k = sum_by (λ (r : Read). cond (r.vertex == read_vertex) (one_if ((k == p) && (r.weight == weight))) 0) (reads_at k)

  one_row : (k v : ℕ) (r : Read) (f : Reading → ℕ) → StandsAt (places_of job i) k v → sum_by f (row_of v r) ≡ f (reading k r.weight)
  one_row k v r f h = ap (λ ps. sum_by f (map (λ k. record { place = k; weight = r.weight }) ps)) (place_is job is i small k v h) ∙ sym (sum_one f (reading k r.weight))

  reader_row : (k : ℕ) (r : Read) (b : Bool) → k < length (owned_of job i) → sum_by (is_at p weight) (cond b (row_of (vertex_at k) r) []) ≡ cond b (one_if ((k == p) && (r.weight == weight))) 0
  reader_row k r true l = one_row k (vertex_at k) r (is_at p weight) (owned_placed job is i small k (vertex_at k) (l, refl))
  reader_row k r false l = refl

  reader-times : times_in (readers_of job i read_vertex) p weight ≡ counted p
  unfolding counted
  reader-times =
      let inner : ℕ → Read → List Reading = λ v r. cond (r.vertex == read_vertex) (row_of v r) [] in
      let row : ℕ → List Reading = λ v. flat_map (inner v) (reads_of job.graph job.query v) in
      sum_by-sorted_readings (is_at p weight) (flat_map row (owned_of job i))
      ∙ sum-flat_map (is_at p weight) row (owned_of job i)
      ∙ sym (sum_by_places (λ v. sum_by (is_at p weight) (row v)) (owned_of job i))
      ∙ sum_range_same _ counted 0 (length (owned_of job i)) (λ k _ m.
      sum-flat_map (is_at p weight) (inner (vertex_at k)) (reads_at k)
      ∙ sum-same _ (λ (r : Read). cond (r.vertex == read_vertex) (one_if ((k == p) && (r.weight == weight))) 0) (reads_at k) (λ r c. reader_row k r (r.vertex == read_vertex) (omega (arith, m))))
      ∙ sum_range_one counted p 0 (length (owned_of job i)) (λ k d. sum-zero _ (reads_at k) (λ r. none (r.vertex == read_vertex) (r.weight == weight) k p d)) (omega arith) (omega (arith, owned))

  -- place q is that of a vertex exactly where the vertex stands there
  same_place : (k v : ℕ) → StandsAt (places_of job i) k v → (k == q) ≡ (v == read_vertex)
  same_place k v h = elim (cases_eq k q) [
    | inl e ↦ eq-eqb k q e ∙ sym (eq-eqb v read_vertex (sym h.1 ∙ ap (slice_index (places_of job i)) e))
    | inr d ↦ ne_eqb k q d ∙ sym (ne_eqb v read_vertex (λ e. d (places_once job is i small k q v h (placed, sym e))))
  ]

  reading-times : times_in (readings_of job i (vertex_at p)) q weight ≡ counted p
  unfolding counted
  reading-times =
      sum_by-sorted_readings (is_at q weight) (flat_map (λ r. row_of r.vertex r) (reads_at p))
      ∙ sum-flat_map (is_at q weight) (λ r. row_of r.vertex r) (reads_at p)
      ∙ sum-same _ _ (reads_at p) (λ r c.
      let s = read_stands job is i small p (vertex_at p) r (owned, refl) c in
      one_row s.0 r.vertex r (is_at q weight) s.1
      ∙ ap (λ b. one_if (b && (r.weight == weight))) (same_place s.0 r.vertex s.1)
      ∙ sym (both (r.vertex == read_vertex) (r.weight == weight) p))

  turned : times_in (readers_of job i read_vertex) p weight ≡ times_in (readings_of job i (vertex_at p)) q weight
  turned = reader-times ∙ sym reading-times

pub readers_turned : (job : Job) (i : ℕ) → IsJob job → i < job.settings.fragments → ReadersAreTurnedReadings (fragment_of job i)
readers_turned job i is small p q weight owned placed =
    let inside : q < length (places_of job i) = omega (arith, placed, length-append (owned_of job i) (mirrors_of job i)) in
    ap (λ row. times_in row p weight) (get_or-map (readers_of job i) (places_of job i) q 0 [] inside)
    ∙ turned job is i small p q weight owned inside
    ∙ sym (ap (λ row. times_in row q weight) (get_or-map (readings_of job i) (owned_of job i) p 0 [] owned))
