-- Rows whose values are set, and the rows of a job's vertices.
use Rattle.std.proofs.Common.{◌≡◌, ◌≢◌, ℕ, ◌+◌, ◌<◌, ◌≤◌, zero, suc, inl, inr, List, [], ◌∷◌, ◌++◌, length, take, drop, map, get_or, set, slice_index, sym, ap, subst, ◌∙◌, arith}
use Rattle.std.specs.List.{range_with_len}
use Rattle.std.proofs.Math.Seq.{take-append_seam}
use Rattle.std.proofs.lemmas.Bool.{cases_eq}
use Rattle.std.proofs.lemmas.List.{same_lists, length-map, get_or-map, get_or_default, get_or-set_same, get_or-set_other}
use Rattle.std.proofs.lemmas.Slice.Zip.{AllZip-long}
use Rattle.std.proofs.lemmas.List.FromFn.{length-map-range_with_len, get_or-map-range_with_len}
use Rattle.graph_core.specs.Fragments.{StandsAt, IsOwnedAt, Piece, no_piece, piece_at, piece_of, pieces_of, fragment_of, fragments_of}
use Rattle.graph_core.specs.Graphs.{count_of, IsJob}
use Rattle.graph_core.specs.Parts.{FragmentLists, place_count}
use Rattle.graph_core.specs.declared.job.Job.{Job}
use Rattle.graph_core.proofs.Cutting.{fragments_cut, stands_left}
use Rattle.pie_core.specs.Locals.{LocalValues}
use Rattle.answer_text.specs.declared.answer.AnswerRow.{AnswerRow}
use Rattle.answer_text.specs.AnswerText.{answer_row}
use Rattle.answer_text.specs.Assembled.{FitParts, values_at, ids_of, value_in}

-- ---- one value is set

module _ (owned values : List ℕ) (once : (p q v : ℕ) → StandsAt owned p v → StandsAt owned q v → p ≡ q)
    (before rows : List AnswerRow) (place : ℕ) (here : place < length owned) (inside : slice_index owned place < length rows) (id : ℕ) where
  abbrev next : List AnswerRow
  next = set rows (slice_index owned place) (answer_row id (slice_index values place))

  pub set_next : ((p v : ℕ) → p < place → StandsAt owned p v → value_in rows v ≡ slice_index values p)
      → (p v : ℕ) → p < place + 1 → StandsAt owned p v → value_in next v ≡ slice_index values p
  set_next h p v l s =
      elim (cases_eq p place) [
        | inl e ↦
            let at : slice_index owned place ≡ v = ap (slice_index owned) (sym e) ∙ s.1 in
            subst (λ u. value_in next u ≡ slice_index values p) at
            (ap (λ (r : AnswerRow). r.value) (get_or-set_same rows (slice_index owned place) (answer_row id (slice_index values place)) (answer_row 0 0) inside) ∙ ap (slice_index values) (sym e))
        | inr d ↦
            let apart : v ≢ slice_index owned place = λ e. d (once p place v s (here, sym e)) in
            ap (λ (r : AnswerRow). r.value) (get_or-set_other rows (slice_index owned place) v (answer_row id (slice_index values place)) (answer_row 0 0) apart) ∙ h p v (omega (arith, l, d)) s
      ]

  pub others_next : ((v : ℕ) → ((p : ℕ) → p < place → StandsAt owned p v → ⊥) → value_in rows v ≡ value_in before v)
      → (v : ℕ) → ((p : ℕ) → p < place + 1 → StandsAt owned p v → ⊥) → value_in next v ≡ value_in before v
  others_next h v none =
      let apart : v ≢ slice_index owned place = λ e. none place (omega arith) (here, sym e) in
      ap (λ (r : AnswerRow). r.value) (get_or-set_other rows (slice_index owned place) v (answer_row id (slice_index values place)) (answer_row 0 0) apart)
      ∙ h v (λ p l. none p (omega (arith, l)))

-- ---- rows with the numbers of the vertices

pub rows_long : (f : ℕ → ℕ) (n : ℕ) (rows : List AnswerRow) → ids_of rows ≡ ids_of (map (λ v. answer_row (f v) 0) (range_with_len 0 n)) → length rows ≡ n
rows_long f n rows ids =
    let blank : List AnswerRow = map (λ v. answer_row (f v) 0) (range_with_len 0 n) in
    sym (length-map rows (λ r. r.id)) ∙ ap length ids ∙ length-map blank (λ r. r.id) ∙ length-map-range_with_len (λ v. answer_row (f v) 0) 0 n

pub rows_are : (f : ℕ → ℕ) (n : ℕ) (rows : List AnswerRow) → ids_of rows ≡ ids_of (map (λ v. answer_row (f v) 0) (range_with_len 0 n))
    → rows ≡ map (λ v. answer_row (f v) (value_in rows v)) (range_with_len 0 n)
rows_are f n rows ids =
    let blank : List AnswerRow = map (λ v. answer_row (f v) 0) (range_with_len 0 n) in
    let long = rows_long f n rows ids in
    same_lists rows (map (λ v. answer_row (f v) (value_in rows v)) (range_with_len 0 n)) (long ∙ sym (length-map-range_with_len (λ v. answer_row (f v) (value_in rows v)) 0 n))
    (λ k d l.
    let m : k < n = omega (arith, l, long) in
    let id : (get_or rows k (answer_row 0 0)).id ≡ f k =
    sym (get_or-map (λ (r : AnswerRow). r.id) rows k (answer_row 0 0) 0 l) ∙ ap (λ (ns : List ℕ). get_or ns k 0) ids
    ∙ get_or-map (λ (r : AnswerRow). r.id) blank k (answer_row 0 0) 0 (omega (arith, m, length-map-range_with_len (λ v. answer_row (f v) 0) 0 n))
    ∙ ap (λ (r : AnswerRow). r.id) (get_or-map-range_with_len (λ v. answer_row (f v) 0) 0 n k k (answer_row 0 0) m (omega arith)) in
    get_or_default rows k d (answer_row 0 0) l ∙ ap (λ i. answer_row i (value_in rows k)) id
    ∙ sym (get_or-map-range_with_len (λ v. answer_row (f v) (value_in rows v)) 0 n k k d m (omega arith)))

pub written_back : (n : ℕ) (new old : List AnswerRow) → n ≡ length new → take n (new ++ drop (length new) old) ≡ new
written_back n new old e = ap (λ m. take m (new ++ drop (length new) old)) e ∙ take-append_seam new (drop (length new) old)

-- ---- a fragment of a job

module _ (job : Job) (is : IsJob job) (parts : List FragmentLists) (same : parts ≡ fragments_of job) where
  pub count_pieces : length (pieces_of job) ≡ length parts
  count_pieces =
      length-map-range_with_len (piece_of job) 0 job.settings.fragments
      ∙ sym (length-map-range_with_len (fragment_of job) 0 job.settings.fragments) ∙ ap length (sym same)

  module _ (i : ℕ) (part : FragmentLists) (here : i < length parts) (at : part ≡ get_or parts i part) where
    piece_owned : part.owned ≡ (piece_at (pieces_of job) i).owned
    piece_owned =
        let l : i < job.settings.fragments = omega (arith, here, ap length same, length-map-range_with_len (fragment_of job) 0 job.settings.fragments) in
        ap (λ (f : FragmentLists). f.owned) (at ∙ ap (λ (fs : List FragmentLists). get_or fs i part) same ∙ get_or-map-range_with_len (fragment_of job) 0 job.settings.fragments i i part l (omega arith))
        ∙ ap (λ (p : Piece). p.owned) (sym (get_or-map-range_with_len (piece_of job) 0 job.settings.fragments i i no_piece l (omega arith)))

    is_owned : (p v : ℕ) → StandsAt part.owned p v → IsOwnedAt (pieces_of job) i p v
    is_owned p v s = (omega (arith, here, count_pieces), subst (λ vs. StandsAt vs p v) piece_owned s)

    stands : (p v : ℕ) → IsOwnedAt (pieces_of job) i p v → StandsAt part.owned p v
    stands p v o = subst (λ vs. StandsAt vs p v) (sym piece_owned) o.1

    pub part_once : (p q v : ℕ) → StandsAt part.owned p v → StandsAt part.owned q v → p ≡ q
    part_once p q v s t = ((fragments_cut job is).owned_once i p i q v (is_owned p v s) (is_owned q v t)).1

    pub part_inside : (p d : ℕ) → p < length part.owned → get_or part.owned p d < count_of job.graph
    part_inside p d l =
        let piece = piece_at (pieces_of job) i in
        let o = is_owned p (get_or part.owned p d) (l, get_or_default part.owned p 0 d l) in
        let s = stands_left piece.owned piece.mirrors p (get_or part.owned p d) o.1 in
        subst (λ v. v < count_of job.graph) s.1 ((fragments_cut job is).in_range i p o.0 s.0)

    -- a fragment before this one owns no vertex of it
    part_apart : (j p v : ℕ) → j < i → IsOwnedAt (pieces_of job) j p v → (q : ℕ) → StandsAt part.owned q v → ⊥
    part_apart j p v l o q s =
        let e = ((fragments_cut job is).owned_once j p i q v o (is_owned q v s)).0 in
        omega (arith, e, l)

    -- once its values are set, the fragments up to this one have theirs
    pub owners_next : (rows after : List AnswerRow) (locals : List LocalValues)
        → ((j p v : ℕ) → j < i → IsOwnedAt (pieces_of job) j p v → value_in rows v ≡ slice_index (values_at locals j) p)
        → ((p v : ℕ) → StandsAt part.owned p v → value_in after v ≡ slice_index (values_at locals i) p)
        → ((v : ℕ) → ((p : ℕ) → StandsAt part.owned p v → ⊥) → value_in after v ≡ value_in rows v)
        → (j p v : ℕ) → j < i + 1 → IsOwnedAt (pieces_of job) j p v → value_in after v ≡ slice_index (values_at locals j) p
    owners_next rows after locals before set others j p v l o =
        elim (cases_eq j i) [
          | inl e ↦
              subst (λ k. value_in after v ≡ slice_index (values_at locals k) p) (sym e)
              (set p v (stands p v (subst (λ k. IsOwnedAt (pieces_of job) k p v) e o)))
          | inr d ↦ let m : j < i = omega (arith, l, d) in others v (part_apart j p v m o) ∙ before j p v m o
        ]

-- ---- the values of a fragment

fits_at : (parts : List FragmentLists) (locals : List LocalValues) (i : ℕ) (part : FragmentLists) (local : LocalValues) → FitParts parts locals → i < length parts
    → length (get_or locals i local).values ≡ place_count (get_or parts i part)
fits_at [] [] i part local fit here = absurd (omega (arith, here))
fits_at [] (y ∷ ys) i part local fit here = absurd (omega (arith, here))
fits_at (x ∷ xs) [] i part local fit here = absurd fit
fits_at (x ∷ xs) (y ∷ ys) zero part local fit here = fit.0
fits_at (x ∷ xs) (y ∷ ys) (suc i) part local fit here = fits_at xs ys i part local fit.1 (omega (arith, here))

module _ (parts : List FragmentLists) (locals : List LocalValues) (fit : FitParts parts locals) (i : ℕ) (here : i < length parts) where
  pub local_here : i < length locals
  local_here = omega (arith, here, AllZip-long (λ (part : FragmentLists) (local : LocalValues). length local.values ≡ place_count part) parts locals fit)

  module _ (local : LocalValues) (to : local ≡ get_or locals i local) where
    pub local_long : (part : FragmentLists) → part ≡ get_or parts i part → length part.owned ≤ length local.values
    local_long part at =
        let long : length local.values ≡ place_count part = ap (λ (l : LocalValues). length l.values) to ∙ fits_at parts locals i part local fit here ∙ ap place_count (sym at) in
        omega (arith, long)

    pub local_values : values_at locals i ≡ local.values
    local_values = get_or-map (λ (l : LocalValues). l.values) locals i local [] local_here ∙ ap (λ (l : LocalValues). l.values) (sym to)
