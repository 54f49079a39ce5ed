-- Each equation of a job stands in exactly one of its fragments.
use Rattle.std.proofs.Common.{◌≡◌, ℕ, ◌<◌, Bool, true, false, cond, List, [], ◌∷◌, ◌++◌, length, map, flat_map, slice_index_or, Contains, refl, ◌∙◌, sym, ap, subst, arith}
use Rattle.std.specs.List.Sorted.{IsPermutation}
use Rattle.std.proofs.lemmas.List.{get_or-map, map-append}
use Rattle.std.proofs.lemmas.List.FromFn.{get_or-map-range_with_len, length-map-range_with_len}
use Rattle.std.proofs.lemmas.List.Sorted.{IsPermutation-refl, IsPermutation-cons, IsPermutation-trans, IsPermutation-middle, IsPermutation-map}
use Rattle.graph_core.specs.declared.job.Job.{Job}
use Rattle.graph_core.specs.declared.fragment.Reading.{Reading}
use Rattle.graph_core.specs.Graphs.{IsJob}
use Rattle.graph_core.specs.Parts.{FragmentLists}
use Rattle.graph_core.specs.Queries.{Read, reads_of}
use Rattle.graph_core.specs.Fragments.{owned_of, place_of, readings_of, fragment_of, fragments_of, sorted_readings, insert_reading, comes_before, StandsAt, Piece, no_piece, piece_at, piece_of, pieces_of, IsOwnedAt}
use Rattle.graph_core.proofs.Lists.{contains_here, contains_later}
use Rattle.graph_core.proofs.Cutting as Cutting
use Rattle.fragment_cut.specs.Cut.{no_fragment, fragment_at, OwnsAt, read_at, EachEquationOnce}
use Rattle.graph_core.proofs.FragmentPlaces.{read_stands, place_is}

-- ---- sorting moves readings

insert_case : (c : Bool) (a b : Reading) (bs : List Reading) → IsPermutation (a ∷ bs) (insert_reading a bs) → IsPermutation (a ∷ b ∷ bs) (cond c (b ∷ insert_reading a bs) (a ∷ b ∷ bs))
insert_case true a b bs h = IsPermutation-trans (a ∷ b ∷ bs) (b ∷ a ∷ bs) (b ∷ insert_reading a bs) (IsPermutation-middle (a ∷ []) b bs) (IsPermutation-cons b (a ∷ bs) (insert_reading a bs) h)
insert_case false a b bs h = IsPermutation-refl (a ∷ b ∷ bs)

insert_moves : (a : Reading) (bs : List Reading) → IsPermutation (a ∷ bs) (insert_reading a bs)
insert_moves a [] = IsPermutation-refl (a ∷ [])
insert_moves a (b ∷ bs) = insert_case (comes_before b a) a b bs (insert_moves a bs)

sort_moves : (bs : List Reading) → IsPermutation bs (sorted_readings bs)
sort_moves [] = IsPermutation-refl []
sort_moves (a ∷ bs) = IsPermutation-trans (a ∷ bs) (a ∷ sorted_readings bs) (insert_reading a (sorted_readings bs)) (IsPermutation-cons a bs (sorted_readings bs) (sort_moves bs)) (insert_moves a (sorted_readings bs))

-- ---- readings, back as reads

back_each : (back : Reading → Read) (rows : Read → List Reading) (reads : List Read) → ((r : Read) → Contains reads r → map back (rows r) ≡ r ∷ []) → map back (flat_map rows reads) ≡ reads
back_each back rows [] h = refl
back_each back rows (r ∷ reads) h =
    map-append back (rows r) (flat_map rows reads) ∙ ap (λ l. l ++ map back (flat_map rows reads)) (h r (contains_here r reads))
    ∙ ap (λ l. r ∷ l) (back_each back rows reads (λ x c. h x (contains_later r reads x c)))

module _ (job : Job) (is : IsJob job) where
  abbrev fragments : List FragmentLists
  fragments = fragments_of job

  count-fragments : length fragments ≡ job.settings.fragments
  count-fragments = length-map-range_with_len (fragment_of job) 0 job.settings.fragments

  count-pieces : length (pieces_of job) ≡ job.settings.fragments
  count-pieces = length-map-range_with_len (piece_of job) 0 job.settings.fragments

  the-fragment : (i : ℕ) → i < job.settings.fragments → fragment_at fragments i ≡ fragment_of job i
  the-fragment i h = get_or-map-range_with_len (fragment_of job) 0 job.settings.fragments i i no_fragment h (omega arith)

  the-piece : (i : ℕ) → i < job.settings.fragments → piece_at (pieces_of job) i ≡ piece_of job i
  the-piece i h = get_or-map-range_with_len (piece_of job) 0 job.settings.fragments i i no_piece h (omega arith)

  to_piece : (i p v : ℕ) → OwnsAt fragments i p v → (i < job.settings.fragments) × StandsAt (owned_of job i) p v × IsOwnedAt (pieces_of job) i p v
  to_piece i p v h =
      let n = count-fragments in
      let m = count-pieces in
      let l = h.0 in
      let small : i < job.settings.fragments = omega (arith, n, l) in
      let stands = subst (λ (x : FragmentLists). StandsAt x.owned p v) (the-fragment i small) h.1 in
      (small, stands, (omega (arith, m, small), subst (λ (x : Piece). StandsAt x.owned p v) (sym (the-piece i small)) stands))

  from_piece : (i p v : ℕ) → IsOwnedAt (pieces_of job) i p v → OwnsAt fragments i p v
  from_piece i p v h =
      let n = count-fragments in
      let m = count-pieces in
      let l = h.0 in
      let small : i < job.settings.fragments = omega (arith, m, l) in
      (omega (arith, n, small), subst (λ (x : FragmentLists). StandsAt x.owned p v) (sym (the-fragment i small)) (subst (λ (x : Piece). StandsAt x.owned p v) (the-piece i small) h.1))

  abbrev unsorted : ℕ → ℕ → List Reading
  unsorted i v = flat_map (λ r. map (λ q. record { place = q; weight = r.weight }) (place_of job i r.vertex)) (reads_of job.graph job.query v)

  reads_back : (i p v : ℕ) → i < job.settings.fragments → StandsAt (owned_of job i) p v → map (read_at (fragment_of job i)) (unsorted i v) ≡ reads_of job.graph job.query v
  reads_back i p v small h = back_each (read_at (fragment_of job i)) (λ r. map (λ q. record { place = q; weight = r.weight }) (place_of job i r.vertex)) (reads_of job.graph job.query v) (λ r c.
      let s = read_stands job is i small p v r h c in
      ap (λ ps. map (read_at (fragment_of job i)) (map (λ q. record { place = q; weight = r.weight }) ps)) (place_is job is i small s.0 r.vertex s.1)
      ∙ ap (λ u. let x : Read = record { vertex = u; weight = r.weight } in x ∷ []) s.1.1)

  readings-row : (i p v : ℕ) → StandsAt (owned_of job i) p v → slice_index_or (fragment_of job i).readings p [] ≡ sorted_readings (unsorted i v)
  readings-row i p v h = get_or-map (readings_of job i) (owned_of job i) p 0 [] h.0 ∙ ap (readings_of job i) h.1

  pub once_each : EachEquationOnce job fragments
  once_each = record {
    owned = λ v h. let r = (Cutting.fragments_cut job is).owned v h in (r.0, r.1, from_piece r.0 r.1 v r.2);
    owned_once = λ i p j q v h k. (Cutting.fragments_cut job is).owned_once i p j q v (to_piece i p v h).2 (to_piece j q v k).2;
    reads = λ i p v h.
        let t = to_piece i p v h in
        let moved = IsPermutation-map (read_at (fragment_of job i)) (unsorted i v) (sorted_readings (unsorted i v)) (sort_moves (unsorted i v)) in
        let at_row = subst (λ l. IsPermutation (map (read_at (fragment_of job i)) (unsorted i v)) (map (read_at (fragment_of job i)) l)) (sym (readings-row i p v t.1)) moved in
        let at_reads = subst (λ l. IsPermutation l (map (read_at (fragment_of job i)) (slice_index_or (fragment_of job i).readings p []))) (reads_back i p v t.0 t.1) at_row in
        subst (λ (x : FragmentLists). IsPermutation (reads_of job.graph job.query v) (map (read_at x) (slice_index_or x.readings p []))) (sym (the-fragment i t.0)) at_reads;
  }

pub once_each_at : (job : Job) (made : List FragmentLists) → IsJob job → made ≡ fragments_of job → EachEquationOnce job made
once_each_at job made is e = subst (EachEquationOnce job) (sym e) (once_each job is)
