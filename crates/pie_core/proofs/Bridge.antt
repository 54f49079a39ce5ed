-- A fragment's rows in terms of what its vertices read.
use Rattle.std.proofs.Common.{◌≡◌, ◌≢◌, ℕ, zero, suc, ◌+◌, ◌<◌, ◌⊎◌, inl, inr, Bool, true, false, not, cond, ◌==◌, refl, sym, ◌∙◌, ap, subst, arith, List, [], ◌∷◌, ◌++◌, length, map, flat_map, slice_index, slice_index_or, Contains, position, option_to_list, Option, Some, None}
use Rattle.std.specs.Prelude.{nat_lt}
use Rattle.std.specs.List.{position_or_len}
use Rattle.std.proofs.lemmas.Bool.{eqb-true, eq-eqb, ne_eqb, lt-ltb}
use Rattle.std.proofs.lemmas.List.{get_or-map}
use Rattle.std.proofs.lemmas.List.Elements.{Contains-get_or}
use Rattle.std.proofs.lemmas.List.FromFn.{length-map-range_with_len, get_or-map-range_with_len}
use Rattle.std.proofs.lemmas.List.Quantifiers.{position-Some}
use Rattle.graph_core.specs.declared.job.Job.{Job}
use Rattle.graph_core.specs.declared.fragment.Reading.{Reading}
use Rattle.graph_core.specs.Graphs.{IsJob}
use Rattle.graph_core.specs.Queries.{Read, reads_of, equations_of}
use Rattle.graph_core.specs.Fragments.{pieces_of, piece_at, piece_of, no_piece, places, owned_of, mirrors_of, places_of, place_of, readings_of, readers_of, insert_reading, sorted_readings, comes_before, StandsAt, AreCutOf}
use Rattle.graph_core.proofs.Lists.{contains_here, contains_later, contains_none, contains_cases, contains_map, map_contains, contains_flat_map, flat_map_contains}
use Rattle.graph_core.proofs.Cutting.{fragments_cut, stands_left}
use Rattle.pie_core.specs.Solutions.{value_at}

-- ---- sorting keeps what a list holds

insert_gives : (a : Reading) (bs : List Reading) (r : Reading) → Contains (insert_reading a bs) r → (a ≡ r) ⊎ Contains bs r
insert_gives a [] r c = contains_cases a [] r c
insert_gives a (b ∷ bs) r c = go (comes_before b a) (λ d. insert_gives a bs r d) c
  where
    go : (t : Bool) → (Contains (insert_reading a bs) r → (a ≡ r) ⊎ Contains bs r) → Contains (cond t (b ∷ insert_reading a bs) (a ∷ b ∷ bs)) r → (a ≡ r) ⊎ Contains (b ∷ bs) r
    go true again c = elim (contains_cases b (insert_reading a bs) r c) [
      | inl e ↦ inr (subst (λ x. Contains (b ∷ bs) x) e (contains_here b bs))
      | inr d ↦ elim (again d) [ inl e ↦ inl e | inr f ↦ inr (contains_later b bs r f) ]
    ]
    go false again c = contains_cases a (b ∷ bs) r c

insert_has_new : (a : Reading) (bs : List Reading) → Contains (insert_reading a bs) a
insert_has_new a [] = contains_here a []
insert_has_new a (b ∷ bs) = go (comes_before b a) (insert_has_new a bs)
  where
    go : (t : Bool) → Contains (insert_reading a bs) a → Contains (cond t (b ∷ insert_reading a bs) (a ∷ b ∷ bs)) a
    go true again = contains_later b (insert_reading a bs) a again
    go false again = contains_here a (b ∷ bs)

insert_has_old : (a : Reading) (bs : List Reading) (r : Reading) → Contains bs r → Contains (insert_reading a bs) r
insert_has_old a [] r c = contains_none r c
insert_has_old a (b ∷ bs) r c = go (comes_before b a) (λ d. insert_has_old a bs r d)
  where
    go : (t : Bool) → (Contains bs r → Contains (insert_reading a bs) r) → Contains (cond t (b ∷ insert_reading a bs) (a ∷ b ∷ bs)) r
    go true again = elim (contains_cases b bs r c) [
      | inl e ↦ subst (λ x. Contains (b ∷ insert_reading a bs) x) e (contains_here b (insert_reading a bs))
      | inr d ↦ contains_later b (insert_reading a bs) r (again d)
    ]
    go false again = contains_later a (b ∷ bs) r c

pub sorted_gives : (bs : List Reading) (r : Reading) → Contains (sorted_readings bs) r → Contains bs r
sorted_gives [] r c = c
sorted_gives (a ∷ bs) r c = elim (insert_gives a (sorted_readings bs) r c) [
  | inl e ↦ subst (λ x. Contains (a ∷ bs) x) e (contains_here a bs)
  | inr d ↦ contains_later a bs r (sorted_gives bs r d)
]

pub sorted_has : (bs : List Reading) (r : Reading) → Contains bs r → Contains (sorted_readings bs) r
sorted_has [] r c = c
sorted_has (a ∷ bs) r c = elim (contains_cases a bs r c) [
  | inl e ↦ subst (λ x. Contains (insert_reading a (sorted_readings bs)) x) e (insert_has_new a (sorted_readings bs))
  | inr d ↦ insert_has_old a (sorted_readings bs) r (sorted_has bs r d)
]

-- ---- the place of a vertex

first_place : (vs : List ℕ) (m v : ℕ) → StandsAt vs m v → (q : ℕ) × (position_or_len (λ u. u == v) vs ≡ q) × StandsAt vs q v
first_place [] m v h = absurd (omega (arith, h.0))
first_place (u ∷ vs) zero v h = (0, ap {B = ℕ} (λ b. cond (not b) (1 + position_or_len (λ u. u == v) vs) 0) (eq-eqb u v h.1), h)
first_place (u ∷ vs) (suc m) v h = step (u == v) refl (first_place vs m v (omega (arith, h.0), h.1))
  where
    step : (b : Bool) → (u == v) ≡ b → ((q : ℕ) × (position_or_len (λ u. u == v) vs ≡ q) × StandsAt vs q v) → (q : ℕ) × (cond (not b) (1 + position_or_len (λ u. u == v) vs) 0 ≡ q) × StandsAt (u ∷ vs) q v
    step true e r = (0, refl, (omega arith, eqb-true u v e))
    step false e r = let l = r.2.0 in let f = r.1 in (suc r.0, omega (arith, f), (omega (arith, l), r.2.1))

one_place : (o : Option ℕ) (q : ℕ) → Contains (option_to_list o) q → o ≡ Some q
one_place None q c = contains_none q c
one_place (Some p) q c = elim (contains_cases p [] q c) [ inl e ↦ ap (λ n. Some n) e | inr d ↦ contains_none q d ]

-- ---- a list of values as an assignment

pub value_at-stands : (us xs : List ℕ) (q v : ℕ) → StandsAt us q v → ((p : ℕ) → StandsAt us p v → p ≡ q) → value_at us xs v ≡ slice_index xs q
value_at-stands [] xs q v h once = absurd (omega (arith, h.0))
value_at-stands (u ∷ us) [] q v h once = refl
value_at-stands (u ∷ us) (x ∷ xs) zero v h once = ap (λ b. cond b x (value_at us xs v)) (eq-eqb u v h.1)
value_at-stands (u ∷ us) (x ∷ xs) (suc q) v h once =
    let other : u ≢ v = λ e. let first = once 0 (omega arith, e) in absurd (omega (arith, first)) in
    ap (λ b. cond b x (value_at us xs v)) (ne_eqb u v other)
    ∙ value_at-stands us xs q v (omega (arith, h.0), h.1) (λ p k. let l = k.0 in let same = once (suc p) (omega (arith, l), k.1) in omega (arith, same))

-- ---- the rows of a fragment of a job

module _ (job : Job) (i : ℕ) (is_job : IsJob job) (in_job : i < job.settings.fragments) where
  cut : AreCutOf (equations_of job) (pieces_of job)
  cut = fragments_cut job is_job

  in_pieces : i < length (pieces_of job)
  in_pieces = let e = length-map-range_with_len (piece_of job) 0 job.settings.fragments in omega (arith, e, in_job)

  piece-is : piece_at (pieces_of job) i ≡ piece_of job i
  piece-is = get_or-map-range_with_len (piece_of job) 0 job.settings.fragments i i no_piece in_job (omega arith)

  -- a place's vertex is one of the equations'
  pub place_inside : (p : ℕ) → p < length (places_of job i) → slice_index (places_of job i) p < (equations_of job).count
  place_inside p h =
      let r = cut.in_range i p in_pieces (subst (λ piece. p < length (places piece)) (sym piece-is) h) in
      subst (λ piece. slice_index (places piece) p < (equations_of job).count) piece-is r

  -- no vertex has two places
  pub places_apart : (p q v : ℕ) → StandsAt (places_of job i) p v → StandsAt (places_of job i) q v → p ≡ q
  places_apart p q v h k = cut.apart i p q v (subst (λ piece. StandsAt (piece.owned ++ piece.mirrors) p v) (sym piece-is) h) (subst (λ piece. StandsAt (piece.owned ++ piece.mirrors) q v) (sym piece-is) k)

  -- what an owned vertex reads has a place
  pub read_stands : (p v : ℕ) (r : Read) → StandsAt (owned_of job i) p v → Contains (reads_of job.graph job.query v) r → (q : ℕ) × StandsAt (places_of job i) q r.vertex
  read_stands p v r h c =
      let s = cut.reads i p v r.vertex (in_pieces, subst (λ piece. StandsAt piece.owned p v) (sym piece-is) h) (contains_map (λ (r : Read). r.vertex) (reads_of job.graph job.query v) r c) in
      (s.0, subst (λ piece. StandsAt (piece.owned ++ piece.mirrors) s.0 r.vertex) piece-is s.1)

  pub place_gives : (v q : ℕ) → Contains (place_of job i v) q → StandsAt (places_of job i) q v
  place_gives v q c =
      let s = position-Some (λ u. u == v) (places_of job i) q 0 (one_place _ q c) in
      (s.0, eqb-true (slice_index (places_of job i) q) v s.1)

  pub place_has : (v q : ℕ) → StandsAt (places_of job i) q v → Contains (place_of job i v) q
  place_has v q h =
      let vs = places_of job i in
      let r = first_place vs q v h in
      let l = r.2.0 in
      let found : position (λ u. u == v) vs ≡ Some r.0 = ap (λ p. cond (nat_lt p (length vs)) (Some p) None) r.1 ∙ ap (λ b. cond b (Some r.0) None) (lt-ltb r.0 (length vs) l) in
      let same = places_apart r.0 q v r.2 h in
      subst (λ o. Contains (option_to_list o) q) (sym (found ∙ ap (λ n. Some n) same)) (contains_here q [])

  -- the value of a place is that of its vertex
  pub value-at_place : (xs : List ℕ) (q v : ℕ) → StandsAt (places_of job i) q v → value_at (places_of job i) xs v ≡ slice_index xs q
  value-at_place xs q v h = value_at-stands (places_of job i) xs q v h (λ p k. places_apart p q v k h)

  -- a reading is a read of a vertex with a place
  abbrev reading_of : Read → ℕ → Reading
  reading_of r p = record { place = p; weight = r.weight }

  chosen : (b : Bool) (xs : List Reading) (e : Reading) → Contains (cond b xs []) e → (b ≡ true) × Contains xs e
  chosen true xs e c = (refl, c)
  chosen false xs e c = contains_none e c

  -- the readers of the vertex at place q are the owned vertices that read it
  pub record Reads (p q w : ℕ) : Type 0 where
    pub vertex : ℕ
    pub read : Read
    pub stands : StandsAt (owned_of job i) p vertex
    pub is_read : Contains (reads_of job.graph job.query vertex) read
    pub at : StandsAt (places_of job i) q read.vertex
    pub weighs : read.weight ≡ w

  row_gives : (v : ℕ) (r : Read) (e : Reading) → Contains (map (reading_of r) (place_of job i v)) e → StandsAt (places_of job i) e.place v × (r.weight ≡ e.weight)
  row_gives v r e c =
      let f = map_contains (reading_of r) (place_of job i v) e c in
      (subst (λ n. StandsAt (places_of job i) n v) (ap (λ (x : Reading). x.place) f.2) (place_gives v f.0 f.1), ap (λ (x : Reading). x.weight) f.2)

  -- a place of an owned vertex is an owned place
  owned_stands : (p v : ℕ) → Contains (owned_of job i) v → StandsAt (places_of job i) p v → StandsAt (owned_of job i) p v
  owned_stands p v c h =
      let there : StandsAt (owned_of job i) c.0 v = (c.1, at_index (owned_of job i) c.0 v c.1 c.2) in
      subst (λ n. StandsAt (owned_of job i) n v) (places_apart c.0 p v (stands_left (owned_of job i) (mirrors_of job i) c.0 v there) h) there
    where
      at_index : (vs : List ℕ) (k v : ℕ) → k < length vs → slice_index_or vs k v ≡ v → slice_index vs k ≡ v
      at_index [] k v l e = absurd (omega (arith, l))
      at_index (u ∷ vs) zero v l e = e
      at_index (u ∷ vs) (suc k) v l e = at_index vs k v (omega (arith, l)) e

  holds : (vs : List ℕ) (p v : ℕ) → StandsAt vs p v → Contains vs v
  holds vs p v h = subst (λ u. Contains vs u) h.1 (Contains-get_or vs p 0 h.0)

  -- a reader's row has exactly the owned vertices that read the place's vertex
  pub reader_gives : (q u : ℕ) (e : Reading) → StandsAt (places_of job i) q u → Contains (readers_of job i u) e → Reads e.place q e.weight
  reader_gives q u e h c =
      let f = flat_map_contains _ (owned_of job i) e (sorted_gives _ e c) in
      let g = flat_map_contains _ (reads_of job.graph job.query f.0) e f.2 in
      let r : Read = g.0 in
      let k = chosen (r.vertex == u) (map (reading_of r) (place_of job i f.0)) e g.2 in
      let same : r.vertex ≡ u = eqb-true r.vertex u k.0 in
      let m = row_gives f.0 r e k.1 in
      record {
        vertex = f.0;
        read = r;
        stands = owned_stands e.place f.0 f.1 m.0;
        is_read = g.1;
        at = subst (λ x. StandsAt (places_of job i) q x) (sym same) h;
        weighs = m.1;
      }

  pub reader_has : (p q w : ℕ) (reads : Reads p q w) → Contains (readers_of job i reads.read.vertex) (record { place = p; weight = w })
  reader_has p q w reads =
      let v = reads.vertex in
      let r : Read = reads.read in
      let u = r.vertex in
      let place = place_has v p (stands_left (owned_of job i) (mirrors_of job i) p v reads.stands) in
      let in_row : Contains (map (reading_of r) (place_of job i v)) (reading_of r p) = contains_map (reading_of r) (place_of job i v) p place in
      let picked : Contains (cond (r.vertex == u) (map (reading_of r) (place_of job i v)) []) (reading_of r p) = subst (λ b. Contains (cond b (map (reading_of r) (place_of job i v)) []) (reading_of r p)) (sym (eq-eqb u u refl)) in_row in
      let f : Read → List Reading = λ s. cond (s.vertex == u) (map (reading_of s) (place_of job i v)) [] in
      let all : ℕ → List Reading = λ x. flat_map (λ s. cond (s.vertex == u) (map (reading_of s) (place_of job i x)) []) (reads_of job.graph job.query x) in
      let mid : Contains (all v) (reading_of r p) = contains_flat_map f (reads_of job.graph job.query v) r (reading_of r p) reads.is_read picked in
      let whole : Contains (flat_map all (owned_of job i)) (reading_of r p) = contains_flat_map all (owned_of job i) v (reading_of r p) (holds (owned_of job i) p v reads.stands) mid in
      subst (λ n. Contains (readers_of job i u) (record { place = p; weight = n })) reads.weighs (sorted_has _ (reading_of r p) whole)

  -- and a row of readings has exactly what the place's vertex reads
  pub reading_gives : (p v : ℕ) (e : Reading) → StandsAt (owned_of job i) p v → Contains (readings_of job i v) e → Reads p e.place e.weight
  reading_gives p v e h c =
      let g = flat_map_contains _ (reads_of job.graph job.query v) e (sorted_gives _ e c) in
      let r : Read = g.0 in
      let m = row_gives r.vertex r e g.2 in
      record { vertex = v; read = r; stands = h; is_read = g.1; at = m.0; weighs = m.1 }

  pub reading_has : (p q w : ℕ) (reads : Reads p q w) → Contains (readings_of job i reads.vertex) (record { place = q; weight = w })
  reading_has p q w reads =
      let r : Read = reads.read in
      let row : Read → List Reading = λ s. map (reading_of s) (place_of job i s.vertex) in
      let here : Contains (row r) (reading_of r q) = contains_map (reading_of r) (place_of job i r.vertex) q (place_has r.vertex q reads.at) in
      let whole = contains_flat_map row (reads_of job.graph job.query reads.vertex) r (reading_of r q) reads.is_read here in
      subst (λ n. Contains (readings_of job i reads.vertex) (record { place = q; weight = n })) reads.weighs (sorted_has _ (reading_of r q) whole)

  -- ---- the rows by place

  pub readers_row : (q : ℕ) → q < length (places_of job i) → slice_index_or (map (readers_of job i) (places_of job i)) q [] ≡ readers_of job i (slice_index (places_of job i) q)
  readers_row q h = get_or-map (readers_of job i) (places_of job i) q 0 [] h

  pub readings_row : (p : ℕ) → p < length (owned_of job i) → slice_index_or (map (readings_of job i) (owned_of job i)) p [] ≡ readings_of job i (slice_index (owned_of job i) p)
  readings_row p h = get_or-map (readings_of job i) (owned_of job i) p 0 [] h

  pub in_readers_row : (p q w : ℕ) → Reads p q w → Contains (slice_index_or (map (readers_of job i) (places_of job i)) q []) (record { place = p; weight = w })
  in_readers_row p q w reads =
      subst (λ row. Contains row (record { place = p; weight = w })) (sym (readers_row q reads.at.0))
      (subst (λ u. Contains (readers_of job i u) (record { place = p; weight = w })) (sym reads.at.1) (reader_has p q w reads))

  pub from_readers_row : (q : ℕ) (e : Reading) → q < length (places_of job i) → Contains (slice_index_or (map (readers_of job i) (places_of job i)) q []) e → Reads e.place q e.weight
  from_readers_row q e h c = reader_gives q (slice_index (places_of job i) q) e (h, refl) (subst (λ row. Contains row e) (readers_row q h) c)

  pub in_readings_row : (p q w : ℕ) → Reads p q w → Contains (slice_index_or (map (readings_of job i) (owned_of job i)) p []) (record { place = q; weight = w })
  in_readings_row p q w reads =
      subst (λ row. Contains row (record { place = q; weight = w })) (sym (readings_row p reads.stands.0))
      (subst (λ v. Contains (readings_of job i v) (record { place = q; weight = w })) (sym reads.stands.1) (reading_has p q w reads))

  pub from_readings_row : (p : ℕ) (e : Reading) → p < length (owned_of job i) → Contains (slice_index_or (map (readings_of job i) (owned_of job i)) p []) e → Reads p e.place e.weight
  from_readings_row p e h c = reading_gives p (slice_index (owned_of job i) p) e (h, refl) (subst (λ row. Contains row e) (readings_row p h) c)
