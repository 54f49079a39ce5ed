-- The tables of a fragment are the rows of its readings and readers.
use Rattle.std.proofs.Common.{◌≡◌, ◌≢◌, ℕ, zero, suc, ◌+◌, ◌<◌, ◌≤◌, Bool, true, false, not, ◌&&◌, ◌||◌, cond, ◌==◌, List, [], ◌∷◌, ◌++◌, length, map, filter, flat_map, slice_index, slice_index_or, Contains, refl, ◌∙◌, sym, ap, subst, inl, inr, arith, eq-eqb}
use Rattle.std.specs.Prelude.{All, sum_by}
use Rattle.std.specs.List.{AllByRecursion, range_with_len, list_any}
use Rattle.std.proofs.lemmas.Bool.{ne_eqb, cases_eq}
use Rattle.std.proofs.lemmas.List.{get_or_default}
use Rattle.std.proofs.lemmas.List.FromFn.{length-map-range_with_len, get_or-map-range_with_len, length-range_with_len}
use Rattle.std.proofs.lemmas.List.Sums.{length-filter, count_by-le-length}
use Rattle.std.proofs.lemmas.List.Elements.{All-from_recursion}
use Rattle.std.proofs.lemmas.List.Folds.{list_any-append}
use Rattle.graph_core.specs.declared.job.Job.{Job}
use Rattle.graph_core.specs.declared.fragment.Reading.{Reading}
use Rattle.graph_core.specs.Graphs.{count_of, IsJob}
use Rattle.graph_core.specs.Queries.{Read, reads_of}
use Rattle.graph_core.specs.Fragments.{owner, numbers_below, owned_of, mirrors_of, places_of, place_of, is_read_in, readings_of, readers_of, sorted_readings, insert_reading, comes_before, StandsAt}
use Rattle.graph_core.proofs.Lists.{contains_here, contains_later}
use Rattle.fragment_cut.specs.Filing.{Filed, reading_of, filed_under, table, reading_at, reads_table, file_under, filed_rows}
use Rattle.fragment_cut.proofs.EdgeFiles.{with_place, turned}
use Rattle.graph_core.proofs.Sums.{sum-map, sum-flat_map, sum-same, sum-zero, sum_one, sum_range_same, sum_range_one, by_places, sum_by_places, sum_by-sorted_readings}
use Rattle.graph_core.proofs.FragmentPlaces.{places_once, places_inside, read_stands, place_is, owned_placed}
use Rattle.fragment_cut.proofs.InOrder.{SameSums, sorted_same}
use Rattle.fragment_cut.proofs.SortedFiled.{sum_under}

-- ---- lists by place

pub map_by_places : {Y : Type 0} (f : ℕ → Y) (xs : List ℕ) → map (λ p. f (slice_index xs p)) (numbers_below (length xs)) ≡ map f xs
map_by_places f xs = ends (numbers_below (length xs)) ∙ ap (map f) (by_places xs)
  where
    ends : (ps : List ℕ) → map (λ p. f (slice_index xs p)) ps ≡ map f (map (slice_index xs) ps)
    ends [] = refl
    ends (p ∷ ps) = ap (λ l. f (slice_index xs p) ∷ l) (ends ps)

pub map_range_same : {Y : Type 0} (f g : ℕ → Y) (a n : ℕ) → ((k : ℕ) → a ≤ k → k < a + n → f k ≡ g k) → map f (range_with_len a n) ≡ map g (range_with_len a n)
map_range_same f g a zero h = refl
map_range_same f g a (suc n) h = ap (λ y. y ∷ map f (range_with_len (a + 1) n)) (h a (omega arith) (omega arith)) ∙ ap (λ l. g a ∷ l) (map_range_same f g (a + 1) n (λ k l m. h k (omega (arith, l)) (omega (arith, m))))

-- ---- the fragment's places

module _ (job : Job) (is : IsJob job) (i : ℕ) (small : i < job.settings.fragments) where
  pub owned_stands : (p : ℕ) → p < length (owned_of job i) → StandsAt (owned_of job i) p (slice_index (owned_of job i) p)
  owned_stands p h = (h, refl)

  pub owned_inside : (p v : ℕ) → StandsAt (owned_of job i) p v → v < count_of job.graph
  owned_inside p v h = places_inside job is i small p v (owned_placed job is i small p v h)

  -- the row of an owned vertex in the table of all reads
  pub reads-row : (p : ℕ) → p < length (owned_of job i) → slice_index_or (reads_table job.graph job.query) (slice_index (owned_of job i) p) [] ≡ sorted_readings (map reading_at (reads_of job.graph job.query (slice_index (owned_of job i) p)))
  reads-row p h =
      let v = slice_index (owned_of job i) p in
      get_or-map-range_with_len (λ v. sorted_readings (map reading_at (reads_of job.graph job.query v))) 0 (count_of job.graph) v v [] (owned_inside p v (owned_stands p h)) (omega arith)

  abbrev filed_in : List Filed
  filed_in = filed_rows (owned_of job i) (reads_table job.graph job.query) (length (owned_of job i))

  -- a sum over what the fragment reads
  sum-filed : (g : Filed → ℕ) → sum_by g filed_in ≡ sum_by (λ p. sum_by (λ r. g (record { row = p; place = r.vertex; weight = r.weight })) (reads_of job.graph job.query (slice_index (owned_of job i) p))) (numbers_below (length (owned_of job i)))
  sum-filed g =
      sum-flat_map g (λ p. map (file_under p) (slice_index_or (reads_table job.graph job.query) (slice_index (owned_of job i) p) [])) (numbers_below (length (owned_of job i)))
      ∙ sum_range_same _ _ 0 (length (owned_of job i)) (λ p l m.
      let v = slice_index (owned_of job i) p in
      ap (λ row. sum_by g (map (file_under p) row)) (reads-row p (omega (arith, m)))
      ∙ sum-map g (file_under p) (sorted_readings (map reading_at (reads_of job.graph job.query v)))
      ∙ sum_by-sorted_readings (λ r. g (file_under p r)) (map reading_at (reads_of job.graph job.query v))
      ∙ sum-map (λ r. g (file_under p r)) reading_at (reads_of job.graph job.query v))

  -- ---- the readings and readers, where P is the place of each vertex

  module _ (P : List ℕ) (right : (p v : ℕ) → StandsAt (places_of job i) p v → slice_index P v ≡ p) where
    abbrev vertex_at : ℕ → ℕ
    vertex_at p = slice_index (owned_of job i) p

    pub placed_read : (p : ℕ) → p < length (owned_of job i) → (r : Read) → Contains (reads_of job.graph job.query (vertex_at p)) r → place_of job i r.vertex ≡ slice_index P r.vertex ∷ []
    placed_read p h r c =
        let s = read_stands job is i small p (vertex_at p) r (owned_stands p h) c in
        place_is job is i small s.0 r.vertex s.1 ∙ ap (λ q. q ∷ []) (sym (right s.0 r.vertex s.1))

    -- a sum over what the fragment reads, by place
    sum-placed : (g : Filed → ℕ) → sum_by g (map (with_place P) filed_in) ≡ sum_by (λ p. sum_by (λ r. g (record { row = p; place = slice_index P r.vertex; weight = r.weight })) (reads_of job.graph job.query (vertex_at p))) (numbers_below (length (owned_of job i)))
    sum-placed g = sum-map g (with_place P) filed_in ∙ sum-filed (λ e. g (with_place P e))

    when_same : (p : ℕ) (h : ℕ) → cond (p == p) h 0 ≡ h
    when_same p h = ap (λ b. cond b h 0) (eq-eqb p p refl)

    when_other : (k p : ℕ) (h : ℕ) → k ≢ p → cond (k == p) h 0 ≡ 0
    when_other k p h d = ap (λ b. cond b h 0) (ne_eqb k p d)

    readings-sums : (p : ℕ) → p < length (owned_of job i) → SameSums (filed_under (map (with_place P) filed_in) p) (flat_map (λ r. map (λ q. record { place = q; weight = r.weight }) (place_of job i r.vertex)) (reads_of job.graph job.query (vertex_at p)))
    readings-sums p h f =
        let term : Read → ℕ = λ r. f (record { place = slice_index P r.vertex; weight = r.weight }) in
        sum_under f p (map (with_place P) filed_in)
        ∙ sum-placed (λ e. cond (e.row == p) (f (reading_of e)) 0)
        ∙ sum_range_one (λ k. sum_by (λ r. cond (k == p) (term r) 0) (reads_of job.graph job.query (vertex_at k))) p 0 (length (owned_of job i)) (λ k d. sum-zero _ (reads_of job.graph job.query (vertex_at k)) (λ r. when_other k p (term r) d)) (omega arith) (omega (arith, h))
        ∙ sum-same (λ r. cond (p == p) (term r) 0) (λ r. sum_by f (map (λ q. record { place = q; weight = r.weight }) (place_of job i r.vertex))) (reads_of job.graph job.query (vertex_at p))
        (λ r c. when_same p (term r) ∙ sum_one f (record { place = slice_index P r.vertex; weight = r.weight }) ∙ sym (ap (λ ps. sum_by f (map (λ q. record { place = q; weight = r.weight }) ps)) (placed_read p h r c)))
        ∙ sym (sum-flat_map f (λ r. map (λ q. record { place = q; weight = r.weight }) (place_of job i r.vertex)) (reads_of job.graph job.query (vertex_at p)))

    pub readings_are : table (map (with_place P) filed_in) (length (owned_of job i)) ≡ map (readings_of job i) (owned_of job i)
    readings_are =
        map_range_same _ (λ p. readings_of job i (vertex_at p)) 0 (length (owned_of job i)) (λ p l m. sorted_same (filed_under (map (with_place P) filed_in) p) (flat_map (λ r. map (λ q. record { place = q; weight = r.weight }) (place_of job i r.vertex)) (reads_of job.graph job.query (vertex_at p))) (readings-sums p (omega (arith, m))))
        ∙ map_by_places (readings_of job i) (owned_of job i)

    -- what stands at place q is u exactly where the place of u is q
    same_place : (q p : ℕ) (r : Read) → q < length (places_of job i) → p < length (owned_of job i) → Contains (reads_of job.graph job.query (vertex_at p)) r → (slice_index P r.vertex == q) ≡ (r.vertex == slice_index (places_of job i) q)
    same_place q p r l h c =
        let s = read_stands job is i small p (vertex_at p) r (owned_stands p h) c in
        let there = right s.0 r.vertex s.1 in
        elim (cases_eq s.0 q) [
          | inl e ↦ eq-eqb (slice_index P r.vertex) q (there ∙ e) ∙ sym (eq-eqb r.vertex (slice_index (places_of job i) q) (sym s.1.1 ∙ ap (slice_index (places_of job i)) e))
          | inr d ↦ ne_eqb (slice_index P r.vertex) q (λ e. d (sym there ∙ e)) ∙ sym (ne_eqb r.vertex (slice_index (places_of job i) q) (λ e. d (places_once job is i small s.0 q r.vertex s.1 (l, sym e))))
        ]

    reader_term : (f : Reading → ℕ) (p u : ℕ) (r : Read) (b : Bool) → place_of job i (vertex_at p) ≡ p ∷ [] → cond b (f (record { place = p; weight = r.weight })) 0 ≡ sum_by f (cond b (map (λ q. record { place = q; weight = r.weight }) (place_of job i (vertex_at p))) [])
    reader_term f p u r true e = sum_one f (record { place = p; weight = r.weight }) ∙ sym (ap (λ ps. sum_by f (map (λ q. record { place = q; weight = r.weight }) ps)) e)
    reader_term f p u r false e = refl

    readers-sums : (q : ℕ) → q < length (places_of job i) → SameSums (filed_under (map turned (map (with_place P) filed_in)) q)
        (flat_map (λ w. flat_map (λ r. cond (r.vertex == slice_index (places_of job i) q) (map (λ p. record { place = p; weight = r.weight }) (place_of job i w)) []) (reads_of job.graph job.query w)) (owned_of job i))
    readers-sums q l f =
        let u = slice_index (places_of job i) q in
        let inner : ℕ → Read → List Reading = λ w r. cond (r.vertex == u) (map (λ p. record { place = p; weight = r.weight }) (place_of job i w)) [] in
        let row : ℕ → List Reading = λ w. flat_map (inner w) (reads_of job.graph job.query w) in
        sum_under f q (map turned (map (with_place P) filed_in))
        ∙ sum-map (λ e. cond (e.row == q) (f (reading_of e)) 0) turned (map (with_place P) filed_in)
        ∙ sum-placed (λ e. cond (e.place == q) (f (record { place = e.row; weight = e.weight })) 0)
        ∙ sum_range_same _ (λ p. sum_by f (row (vertex_at p))) 0 (length (owned_of job i)) (λ p _ m.
        let h : p < length (owned_of job i) = omega (arith, m) in
        sum-same (λ r. cond (slice_index P r.vertex == q) (f (record { place = p; weight = r.weight })) 0) (λ r. sum_by f (inner (vertex_at p) r)) (reads_of job.graph job.query (vertex_at p))
        (λ r c. ap (λ b. cond b (f (record { place = p; weight = r.weight })) 0) (same_place q p r l h c)
        ∙ reader_term f p u r (r.vertex == u) (place_is job is i small p (vertex_at p) (owned_placed job is i small p (vertex_at p) (owned_stands p h))))
        ∙ sym (sum-flat_map f (inner (vertex_at p)) (reads_of job.graph job.query (vertex_at p))))
        ∙ sum_by_places (λ w. sum_by f (row w)) (owned_of job i)
        ∙ sym (sum-flat_map f row (owned_of job i))

    pub readers_are : table (map turned (map (with_place P) filed_in)) (length (places_of job i)) ≡ map (readers_of job i) (places_of job i)
    readers_are =
        map_range_same _ (λ q. readers_of job i (slice_index (places_of job i) q)) 0 (length (places_of job i)) (λ q l m. sorted_same (filed_under (map turned (map (with_place P) filed_in)) q)
        (flat_map (λ w. flat_map (λ r. cond (r.vertex == slice_index (places_of job i) q) (map (λ p. record { place = p; weight = r.weight }) (place_of job i w)) []) (reads_of job.graph job.query w)) (owned_of job i)) (readers-sums q (omega (arith, m))))
        ∙ map_by_places (readers_of job i) (places_of job i)

-- ---- what is read

module _ {X : Type 0} (p : X → Bool) where
  any-flat_map : {Y : Type 0} (h : Y → List X) (ys : List Y) → list_any p (flat_map h ys) ≡ list_any (λ y. list_any p (h y)) ys
  any-flat_map h [] = refl
  any-flat_map h (y ∷ ys) = list_any-append p (h y) (flat_map h ys) ∙ ap (λ b. list_any p (h y) || b) (any-flat_map h ys)

  any-map : {Y : Type 0} (h : Y → X) (ys : List Y) → list_any p (map h ys) ≡ list_any (λ y. p (h y)) ys
  any-map h [] = refl
  any-map h (y ∷ ys) = ap (λ b. p (h y) || b) (any-map h ys)

any_range_same : (f g : ℕ → Bool) (a n : ℕ) → ((k : ℕ) → a ≤ k → k < a + n → f k ≡ g k) → list_any f (range_with_len a n) ≡ list_any g (range_with_len a n)
any_range_same f g a zero h = refl
any_range_same f g a (suc n) h = ap (λ b. b || list_any f (range_with_len (a + 1) n)) (h a (omega arith) (omega arith)) ∙ ap (λ b. g a || b) (any_range_same f g (a + 1) n (λ k l m. h k (omega (arith, l)) (omega (arith, m))))

or_swap : (x y z : Bool) → (x || (y || z)) ≡ (y || (x || z))
or_swap true true z = refl
or_swap true false z = refl
or_swap false true z = refl
or_swap false false z = refl

module _ (p : Reading → Bool) where
  any_step : (c : Bool) (a b : Reading) (bs : List Reading) → list_any p (insert_reading a bs) ≡ (p a || list_any p bs) → list_any p (cond c (b ∷ insert_reading a bs) (a ∷ b ∷ bs)) ≡ (p a || (p b || list_any p bs))
  any_step true a b bs h = ap (λ x. p b || x) h ∙ or_swap (p b) (p a) (list_any p bs)
  any_step false a b bs h = refl

  any-insert : (a : Reading) (bs : List Reading) → list_any p (insert_reading a bs) ≡ (p a || list_any p bs)
  any-insert a [] = refl
  any-insert a (b ∷ bs) = any_step (comes_before b a) a b bs (any-insert a bs)

  any-sorted : (bs : List Reading) → list_any p (sorted_readings bs) ≡ list_any p bs
  any-sorted [] = refl
  any-sorted (a ∷ bs) = any-insert a (sorted_readings bs) ∙ ap (λ x. p a || x) (any-sorted bs)

any_by_places : (h : ℕ → Bool) (xs : List ℕ) → list_any (λ p. h (slice_index xs p)) (numbers_below (length xs)) ≡ list_any h xs
any_by_places h xs = sym (any-map h (slice_index xs) (numbers_below (length xs))) ∙ ap (list_any h) (by_places xs)

module _ (job : Job) (is : IsJob job) (i : ℕ) (small : i < job.settings.fragments) where
  -- a vertex stands in an entry exactly where the fragment reads it
  pub read_where : (v : ℕ) → list_any (λ (e : Filed). e.place == v) (filed_rows (owned_of job i) (reads_table job.graph job.query) (length (owned_of job i))) ≡ is_read_in job i v
  read_where v =
      let test : Filed → Bool = λ e. e.place == v in
      any-flat_map test (λ p. map (file_under p) (slice_index_or (reads_table job.graph job.query) (slice_index (owned_of job i) p) [])) (numbers_below (length (owned_of job i)))
      ∙ any_range_same _ (λ p. list_any (λ r. r.vertex == v) (reads_of job.graph job.query (slice_index (owned_of job i) p))) 0 (length (owned_of job i)) (λ p l m.
      let w = slice_index (owned_of job i) p in
      ap (λ row. list_any test (map (file_under p) row)) (reads-row job is i small p (omega (arith, m)))
      ∙ any-map test (file_under p) (sorted_readings (map reading_at (reads_of job.graph job.query w)))
      ∙ any-sorted (λ r. r.place == v) (map reading_at (reads_of job.graph job.query w))
      ∙ any-map (λ (r : Reading). r.place == v) reading_at (reads_of job.graph job.query w))
      ∙ any_by_places (λ w. list_any (λ r. r.vertex == v) (reads_of job.graph job.query w)) (owned_of job i)

-- ---- what holds of each entry

module _ {X : Type 0} (Q : X → Type 0) where
  pub every_from : (xs : List X) → ((x : X) → Contains xs x → Q x) → AllByRecursion Q xs
  every_from [] h = tt
  every_from (x ∷ xs) h = (h x (contains_here x xs), every_from xs (λ y c. h y (contains_later x xs y c)))

  pub every-append : (xs ys : List X) → AllByRecursion Q xs → AllByRecursion Q ys → AllByRecursion Q (xs ++ ys)
  every-append [] ys h k = k
  every-append (x ∷ xs) ys h k = (h.0, every-append xs ys h.1 k)

  pub every-map : {W : Type 0} (f : W → X) (ws : List W) → AllByRecursion (λ w. Q (f w)) ws → AllByRecursion Q (map f ws)
  every-map f [] h = tt
  every-map f (w ∷ ws) h = (h.0, every-map f ws h.1)

  pub every-rows : (f : ℕ → List X) (a n : ℕ) → ((k : ℕ) → a ≤ k → k < a + n → AllByRecursion Q (f k)) → AllByRecursion Q (flat_map f (range_with_len a n))
  every-rows f a zero h = tt
  every-rows f a (suc n) h = every-append (f a) (flat_map f (range_with_len (a + 1) n)) (h a (omega arith) (omega arith)) (every-rows f (a + 1) n (λ k l m. h k (omega (arith, l)) (omega (arith, m))))

module _ (Q : Reading → Type 0) where
  every_step : (c : Bool) (a b : Reading) (bs : List Reading) → Q a → Q b → AllByRecursion Q bs → AllByRecursion Q (insert_reading a bs) → AllByRecursion Q (cond c (b ∷ insert_reading a bs) (a ∷ b ∷ bs))
  every_step true a b bs pa pb ps qs = (pb, qs)
  every_step false a b bs pa pb ps qs = (pa, (pb, ps))

  every-insert : (a : Reading) (bs : List Reading) → Q a → AllByRecursion Q bs → AllByRecursion Q (insert_reading a bs)
  every-insert a [] pa ps = (pa, tt)
  every-insert a (b ∷ bs) pa ps = every_step (comes_before b a) a b bs pa ps.0 ps.1 (every-insert a bs pa ps.1)

  pub every-sorted : (bs : List Reading) → AllByRecursion Q bs → AllByRecursion Q (sorted_readings bs)
  every-sorted [] ps = tt
  every-sorted (a ∷ bs) ps = every-insert a (sorted_readings bs) ps.0 (every-sorted bs ps.1)

filtered_few : (p : ℕ → Bool) (n : ℕ) → length (filter p (numbers_below n)) ≤ n
filtered_few p n = omega (arith, length-filter p (numbers_below n), count_by-le-length p (numbers_below n), length-range_with_len 0 n)

module _ (job : Job) (is : IsJob job) (i : ℕ) (small : i < job.settings.fragments) where
  every-filed : (Q : Filed → Type 0) → ((p : ℕ) (r : Read) → p < length (owned_of job i) → Contains (reads_of job.graph job.query (slice_index (owned_of job i) p)) r → Q (record { row = p; place = r.vertex; weight = r.weight }))
      → All Q (filed_rows (owned_of job i) (reads_table job.graph job.query) (length (owned_of job i)))
  every-filed Q h =
      All-from_recursion Q _ (every-rows Q (λ p. map (file_under p) (slice_index_or (reads_table job.graph job.query) (slice_index (owned_of job i) p) [])) 0 (length (owned_of job i)) (λ p l m.
      let m2 : p < length (owned_of job i) = omega (arith, m) in
      let reads = reads_of job.graph job.query (slice_index (owned_of job i) p) in
      let R : Reading → Type 0 = λ r. Q (file_under p r) in
      subst (λ row. AllByRecursion Q (map (file_under p) row)) (sym (reads-row job is i small p m2))
      (every-map Q (file_under p) (sorted_readings (map reading_at reads)) (every-sorted R (map reading_at reads) (every-map R reading_at reads (every_from (λ r. R (reading_at r)) reads (λ r c. h p r m2 c)))))))

  pub filed_owned : All (λ (e : Filed). e.row < length (owned_of job i)) (filed_rows (owned_of job i) (reads_table job.graph job.query) (length (owned_of job i)))
  filed_owned = every-filed (λ e. e.row < length (owned_of job i)) (λ p r h c. h)

  pub filed_placed : (P : List ℕ) → ((p v : ℕ) → StandsAt (places_of job i) p v → slice_index P v ≡ p)
      → All (λ (e : Filed). slice_index P e.place < length (places_of job i)) (filed_rows (owned_of job i) (reads_table job.graph job.query) (length (owned_of job i)))
  filed_placed P right = every-filed (λ e. slice_index P e.place < length (places_of job i)) (λ p r h c.
      let s = read_stands job is i small p (slice_index (owned_of job i) p) r (h, refl) c in
      let e = right s.0 r.vertex s.1 in
      let l = s.1.0 in
      omega (arith, e, l))

  pub few_owned : length (owned_of job i) ≤ 1000000
  few_owned = let few = is.graph.few_vertices in omega (arith, few, filtered_few (λ v. owner job v == i) (count_of job.graph))

  pub few_mirrors : length (mirrors_of job i) ≤ 1000000
  few_mirrors = let few = is.graph.few_vertices in omega (arith, few, filtered_few (λ v. not (owner job v == i) && is_read_in job i v) (count_of job.graph))

  pub all_owned_inside : All (λ v. v < length (reads_table job.graph job.query)) (owned_of job i)
  all_owned_inside k d h =
      let n = length-map-range_with_len (λ v. sorted_readings (map reading_at (reads_of job.graph job.query v))) 0 (count_of job.graph) in
      let r = owned_inside job is i small k (slice_index (owned_of job i) k) (h, refl) in
      let e = get_or_default (owned_of job i) k d 0 h in
      omega (arith, n, r, e)

  pub all_places_inside : All (λ v. v < count_of job.graph) (places_of job i)
  all_places_inside k d h =
      let r = places_inside job is i small k (slice_index (places_of job i) k) (h, refl) in
      let e = get_or_default (places_of job i) k d 0 h in
      omega (arith, r, e)
