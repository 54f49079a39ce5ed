-- The fragments of a job are a proper cut of its equations.
use Rattle.std.proofs.Common.{◌≡◌, ℕ, zero, suc, ◌+◌, ◌*◌, ◌/◌, ◌%◌, ◌^◌, ◌<◌, ◌≤◌, ◌⊎◌, inl, inr, Bool, true, false, not, ◌&&◌, ◌==◌, cond, refl, sym, ◌∙◌, ap, subst, arith, List, [], ◌∷◌, ◌++◌, length, map, filter, flat_map, slice_index, slice_index_or, Contains, position, option_to_list, Option, Some, None}
use Rattle.std.specs.List.{list_any, range_with_len}
use Rattle.std.proofs.lemmas.Bool.{and_parts, and_from, or_left, or_right, eqb-true, eqb-false, eq-eqb, ne_eqb, cases_eq, cases_lt, not-true, not_from_false, both_ways, lt-ltb}
use Rattle.std.proofs.lemmas.List.{length-map, get_or-map}
use Rattle.std.proofs.lemmas.List.FromFn.{length-map-range_with_len, get_or-map-range_with_len}
use Rattle.std.specs.List.{position_or_len}
use Rattle.std.proofs.lemmas.List.Quantifiers.{position-Some}
use Rattle.std.specs.Prelude.{nat_lt}
use native.Mathlib.Nat.{mul-le-mul_right, suc-mul, mul_comm, div-lt_iff_lt-mul, mod-lt}
use Rattle.graph_core.specs.declared.settings.Cut.{Cut}
use Rattle.graph_core.specs.declared.settings.Cut.TheVariants.{Range, Hash}
use Rattle.graph_core.specs.declared.job.Job.{Job}
use Rattle.graph_core.specs.declared.fragment.Route.{Route}
use Rattle.graph_core.specs.Graphs.{count_of, number_at}
use Rattle.graph_core.specs.Queries.{Read, reads_of, equations_of}
use Rattle.std.proofs.lemmas.List.Elements.{Contains-append_left, Contains-append_right, Contains-append_cases}
use Rattle.graph_core.proofs.Lists.{any_from, map_contains}
use Rattle.graph_core.proofs.EdgeReads.{reads_in}
use Rattle.graph_core.specs.Fragments.{Piece, no_piece, piece_at, piece_of, pieces_of, places, owner, owner_of, owned_of, mirrors_of, places_of, FragmentsCut, is_read_in, route_to, routes_of, StandsAt, IsOwnedAt, AreCutOf}

-- ---- numbers that pass a test, in order

module _ (test : ℕ → Bool) where
  pub passes : (a n p v : ℕ) → StandsAt (filter test (range_with_len a n)) p v → (test v ≡ true) × (a ≤ v) × (v < a + n)
  passes a zero p v h = absurd (omega (arith, h.0))
  passes a (suc n) p v h = go (λ q k. passes (a + 1) n q v k) (test a) refl p h
    where
      go : ((q : ℕ) → StandsAt (filter test (range_with_len (a + 1) n)) q v → (test v ≡ true) × (a + 1 ≤ v) × (v < a + 1 + n)) → (t : Bool) → test a ≡ t → (p : ℕ) →
          StandsAt (cond t (a ∷ filter test (range_with_len (a + 1) n)) (filter test (range_with_len (a + 1) n))) p v → (test v ≡ true) × (a ≤ v) × (v < a + suc n)
      go again true e zero k = let x = k.1 in (ap test (sym x) ∙ e, omega (arith, x), omega (arith, x))
      go again true e (suc p) k = let l = k.0 in let r = again p (omega (arith, l), k.1) in let x = r.1 in let y = r.2 in (r.0, omega (arith, x), omega (arith, y))
      go again false e p k = let r = again p k in let x = r.1 in let y = r.2 in (r.0, omega (arith, x), omega (arith, y))

  pub stands_where : (a n v : ℕ) → a ≤ v → v < a + n → test v ≡ true → (p : ℕ) × StandsAt (filter test (range_with_len a n)) p v
  stands_where a zero v l h e = absurd (omega (arith, l, h))
  stands_where a (suc n) v l h e = go (λ m. stands_where (a + 1) n v m (omega (arith, h)) e) (test a) refl
    where
      go : (a + 1 ≤ v → (p : ℕ) × StandsAt (filter test (range_with_len (a + 1) n)) p v) → (t : Bool) → test a ≡ t → (p : ℕ) × StandsAt (cond t (a ∷ filter test (range_with_len (a + 1) n)) (filter test (range_with_len (a + 1) n))) p v
      go again true q =
          elim (cases_eq a v) [
            | inl s ↦ (0, (omega arith, s))
            | inr s ↦ let r = again (omega (arith, l, s)) in let x = r.1.0 in (suc r.0, (omega (arith, x), r.1.1))
          ]
      go again false q =
          elim (cases_eq a v) [
            | inl s ↦ absurd (both_ways (test a) q (ap test s ∙ e))
            | inr s ↦ again (omega (arith, l, s))
          ]

  pub stands_once : (a n p q v : ℕ) → StandsAt (filter test (range_with_len a n)) p v → StandsAt (filter test (range_with_len a n)) q v → p ≡ q
  stands_once a zero p q v h k = absurd (omega (arith, h.0))
  stands_once a (suc n) p q v h k = go (λ p q h k. stands_once (a + 1) n p q v h k) (λ p h. passes (a + 1) n p v h) (test a) p q h k
    where
      go : ((p q : ℕ) → StandsAt (filter test (range_with_len (a + 1) n)) p v → StandsAt (filter test (range_with_len (a + 1) n)) q v → p ≡ q) →
          ((p : ℕ) → StandsAt (filter test (range_with_len (a + 1) n)) p v → (test v ≡ true) × (a + 1 ≤ v) × (v < a + 1 + n)) → (t : Bool) (p q : ℕ) →
          StandsAt (cond t (a ∷ filter test (range_with_len (a + 1) n)) (filter test (range_with_len (a + 1) n))) p v → StandsAt (cond t (a ∷ filter test (range_with_len (a + 1) n)) (filter test (range_with_len (a + 1) n))) q v → p ≡ q
      go again above true zero zero h k = refl
      go again above true zero (suc q) h k = let l = k.0 in let r = (above q (omega (arith, l), k.1)).1 in let x = h.1 in absurd (omega (arith, r, x))
      go again above true (suc p) zero h k = let l = h.0 in let r = (above p (omega (arith, l), h.1)).1 in let x = k.1 in absurd (omega (arith, r, x))
      go again above true (suc p) (suc q) h k = let l = h.0 in let m = k.0 in ap suc (again p q (omega (arith, l), h.1) (omega (arith, m), k.1))
      go again above false p q h k = again p q h k

-- ---- lists of vertices

pub stands_left : (us ws : List ℕ) (p v : ℕ) → StandsAt us p v → StandsAt (us ++ ws) p v
stands_left [] ws p v h = absurd (omega (arith, h.0))
stands_left (u ∷ us) ws zero v h = (omega arith, h.1)
stands_left (u ∷ us) ws (suc p) v h = let k = stands_left us ws p v (omega (arith, h.0), h.1) in (omega (arith, k.0), k.1)

pub stands_right : (us ws : List ℕ) (m v : ℕ) → StandsAt ws m v → StandsAt (us ++ ws) (length us + m) v
stands_right [] ws m v h = let P : ℕ → Type 0 = λ n. StandsAt ws n v in subst P (omega arith) h
stands_right (u ∷ us) ws m v h =
    let k = stands_right us ws m v h in
    let P : ℕ → Type 0 = λ n. StandsAt (u ∷ (us ++ ws)) n v in
    let q : P (suc (length us + m)) = (omega (arith, k.0), k.1) in
    subst P (omega arith) q

pub stands_cases : (us ws : List ℕ) (p v : ℕ) → StandsAt (us ++ ws) p v → StandsAt us p v ⊎ ((m : ℕ) × (p ≡ length us + m) × StandsAt ws m v)
stands_cases [] ws p v h = inr (p, omega arith, h)
stands_cases (u ∷ us) ws zero v h = inl (omega arith, h.1)
stands_cases (u ∷ us) ws (suc p) v h =
    elim (stands_cases us ws p v (omega (arith, h.0), h.1)) [
      | inl k ↦ inl (omega (arith, k.0), k.1)
      | inr k ↦ inr (k.0, omega (arith, k.1), k.2)
    ]

any_at : (test : ℕ → Bool) (vs : List ℕ) (p v : ℕ) → StandsAt vs p v → test v ≡ true → list_any test vs ≡ true
any_at test [] p v h e = absurd (omega (arith, h.0))
any_at test (u ∷ vs) zero v h e = or_left (test u) (list_any test vs) (ap test h.1 ∙ e)
any_at test (u ∷ vs) (suc p) v h e = or_right (test u) (list_any test vs) (any_at test vs p v (omega (arith, h.0), h.1) e)

-- a vertex that is read is one of the reads
read_any : (rs : List Read) (u : ℕ) → Contains (map (λ (r : Read). r.vertex) rs) u → list_any (λ r. r.vertex == u) rs ≡ true
read_any rs u c = let f = map_contains (λ (r : Read). r.vertex) rs u c in any_from (λ (r : Read). r.vertex == u) rs f.0 f.1 (eq-eqb f.0.vertex u f.2)

-- ---- the pieces of a job

module _ (job : Job) where
  abbrev n : ℕ
  n = count_of job.graph

  abbrev f : ℕ
  f = job.settings.fragments

  piece-count : length (pieces_of job) ≡ f
  piece-count = length-map-range_with_len (piece_of job) 0 f

  pieces-at : (i : ℕ) → i < length (pieces_of job) → piece_at (pieces_of job) i ≡ piece_of job i
  pieces-at i h = let e = piece-count in get_or-map-range_with_len (piece_of job) 0 f i i no_piece (omega (arith, h, e)) (omega arith)

  owned_by : (i p v : ℕ) → StandsAt (owned_of job i) p v → (owner job v ≡ i) × (v < n)
  owned_by i p v h = let r = passes (λ v. owner job v == i) 0 n p v h in let x = r.2 in (eqb-true (owner job v) i r.0, omega (arith, x))

  owned_place : (v : ℕ) → v < n → (p : ℕ) × StandsAt (owned_of job (owner job v)) p v
  owned_place v h = stands_where (λ u. owner job u == owner job v) 0 n v (omega arith) (omega (arith, h)) (eq-eqb (owner job v) (owner job v) refl)

  mirror_of : (i m v : ℕ) → StandsAt (mirrors_of job i) m v → ((owner job v ≡ i) → ⊥) × (v < n)
  mirror_of i m v h =
      let r = passes (λ v. not (owner job v == i) && is_read_in job i v) 0 n m v h in
      let x = r.2 in
      (eqb-false (owner job v) i (not-true _ (and_parts _ _ r.0).0), omega (arith, x))

  -- what an owned vertex reads is owned or a mirror
  read_place : (i p v u : ℕ) → StandsAt (owned_of job i) p v → u < n → Contains (map (λ r. r.vertex) (reads_of job.graph job.query v)) u → (q : ℕ) × StandsAt (places_of job i) q u
  read_place i p v u h l c =
      elim (cases_eq (owner job u) i) [
        | inl e ↦
            let r = stands_where (λ w. owner job w == i) 0 n u (omega arith) (omega (arith, l)) (eq-eqb (owner job u) i e) in
            (r.0, stands_left (owned_of job i) (mirrors_of job i) r.0 u r.1)
        | inr d ↦
            let read = any_at (λ w. list_any (λ r. r.vertex == u) (reads_of job.graph job.query w)) (owned_of job i) p v h (read_any (reads_of job.graph job.query v) u c) in
            let r = stands_where (λ w. not (owner job w == i) && is_read_in job i w) 0 n u (omega arith) (omega (arith, l)) (and_from _ _ (not_from_false _ (ne_eqb (owner job u) i d)) read) in
            (length (owned_of job i) + r.0, stands_right (owned_of job i) (mirrors_of job i) r.0 u r.1)
      ]

-- ---- owners are in range

share_lt : (a b f : ℕ) → 0 < f → a < b → (a * f) / b < f
share_lt a b f hf h =
    let b_pos : 0 < b = omega (arith, h) in
    let m : suc a * f ≤ b * f = mul-le-mul_right f h in
    let s = suc-mul a f in
    let c = mul_comm b f in
    (div-lt_iff_lt-mul b_pos).1 (omega (arith, m, s, c, hf))

pub owner-lt : (job : Job) (v : ℕ) → 0 < job.settings.fragments → v < count_of job.graph → owner job v < job.settings.fragments
owner-lt job v hf h = go job.settings.cut
  where
    go : (c : Cut) → owner_of c job.settings.fragments (number_at job.graph v) v (count_of job.graph) < job.settings.fragments
    go Range = share_lt v (count_of job.graph) job.settings.fragments hf h
    go Hash = share_lt ((number_at job.graph v * 2654435769) % 2 ^ 32) (2 ^ 32) job.settings.fragments hf (mod-lt (number_at job.graph v * 2654435769) (omega arith))

-- ---- routes

-- the place at which a number stands is found
found : (vs : List ℕ) (m v : ℕ) → StandsAt vs m v → (q : ℕ) × (position (λ u. u == v) vs ≡ Some q) × StandsAt vs q v
found vs m v h =
    let r = go vs m h in
    let l = r.2.0 in
    (r.0, ap (λ q. cond (nat_lt q (length vs)) (Some q) None) r.1 ∙ ap (λ b. cond b (Some r.0) None) (lt-ltb r.0 (length vs) l), r.2)
  where
    go : (vs : List ℕ) (m : ℕ) → StandsAt vs m v → (q : ℕ) × (position_or_len (λ u. u == v) vs ≡ q) × StandsAt vs q v
    go [] m h = absurd (omega (arith, h.0))
    go (u ∷ vs) zero h = (0, ap {B = ℕ} (λ b. cond (not b) (1 + position_or_len (λ u. u == v) vs) 0) (eq-eqb u v h.1), h)
    go (u ∷ vs) (suc m) h = step (u == v) refl (go vs m (omega (arith, h.0), h.1))
      where
        step : (b : Bool) → (u == v) ≡ b → ((q : ℕ) × (position_or_len (λ u. u == v) vs ≡ q) × StandsAt vs q v) → (q : ℕ) × (cond (not b) (1 + position_or_len (λ u. u == v) vs) 0 ≡ q) × StandsAt (u ∷ vs) q v
        step true e r = (0, refl, (omega arith, eqb-true u v e))
        step false e r = let l = r.2.0 in let f = r.1 in (suc r.0, omega (arith, f), (omega (arith, l), r.2.1))

module _ (job : Job) (v : ℕ) where
  abbrev routes_over : ℕ → ℕ → List Route
  routes_over a n = flat_map (route_to job v) (range_with_len a n)

  -- a route leads to a mirror
  route_stands : (k : ℕ) (t : Route) → Contains (route_to job v k) t → (t.fragment ≡ k) × StandsAt (mirrors_of job k) t.mirror v
  route_stands k t c = go (position (λ u. u == v) (mirrors_of job k)) refl c
    where
      go : (o : Option ℕ) → position (λ u. u == v) (mirrors_of job k) ≡ o → Contains (map (λ m. let r : Route = record { fragment = k; mirror = m } in r) (option_to_list o)) t → (t.fragment ≡ k) × StandsAt (mirrors_of job k) t.mirror v
      go None e c = let l = c.1 in absurd (omega (arith, l))
      go (Some m) e c = at m e c.0 c.1 c.2
        where
          at : (m : ℕ) → position (λ u. u == v) (mirrors_of job k) ≡ Some m → (j : ℕ) → j < 1 → slice_index_or (let r : Route = record { fragment = k; mirror = m } in r ∷ []) j t ≡ t → (t.fragment ≡ k) × StandsAt (mirrors_of job k) t.mirror v
          at m e zero l q =
              let s = position-Some (λ u. u == v) (mirrors_of job k) m 0 e in
              let same : m ≡ t.mirror = ap (λ (r : Route). r.mirror) q in
              (sym (ap (λ (r : Route). r.fragment) q), subst (λ x. StandsAt (mirrors_of job k) x v) same (s.0, eqb-true (slice_index (mirrors_of job k) m) v s.1))
          at m e (suc j) l q = absurd (omega (arith, l))

  routes_stand : (a n : ℕ) (t : Route) → Contains (routes_over a n) t → (a ≤ t.fragment) × (t.fragment < a + n) × StandsAt (mirrors_of job t.fragment) t.mirror v
  routes_stand a zero t c = let l = c.1 in absurd (omega (arith, l))
  routes_stand a (suc n) t c =
      elim (Contains-append_cases (route_to job v a) (routes_over (a + 1) n) t c) [
        | inl h ↦ let r = route_stands a t h in let e = r.0 in (omega (arith, e), omega (arith, e), subst (λ k. StandsAt (mirrors_of job k) t.mirror v) (sym e) r.1)
        | inr h ↦ let r = routes_stand (a + 1) n t h in let x = r.0 in let y = r.1 in (omega (arith, x), omega (arith, y), r.2)
      ]

  -- each mirror has its route
  route_is : (k m : ℕ) → StandsAt (mirrors_of job k) m v → Contains (route_to job v k) (record { fragment = k; mirror = m })
  route_is k m h =
      let r = found (mirrors_of job k) m v h in
      let same = stands_once (λ w. not (owner job w == k) && is_read_in job k w) 0 (count_of job.graph) r.0 m v r.2 h in
      let e : route_to job v k ≡ record { fragment = k; mirror = m } ∷ [] =
      ap (λ o. map (λ m. let r : Route = record { fragment = k; mirror = m } in r) (option_to_list o)) (r.1 ∙ ap (λ q. Some q) same) in
      subst (λ l. Contains l (record { fragment = k; mirror = m })) (sym e) (0, omega arith, refl)

  routes_are : (a n k m : ℕ) → a ≤ k → k < a + n → StandsAt (mirrors_of job k) m v → Contains (routes_over a n) (record { fragment = k; mirror = m })
  routes_are a zero k m l h s = absurd (omega (arith, l, h))
  routes_are a (suc n) k m l h s =
      elim (cases_eq a k) [
        | inl e ↦ Contains-append_left (route_to job v a) (routes_over (a + 1) n) (record { fragment = k; mirror = m }) (subst (λ q. Contains (route_to job v q) (record { fragment = k; mirror = m })) (sym e) (route_is k m s))
        | inr d ↦ Contains-append_right (route_to job v a) (routes_over (a + 1) n) (record { fragment = k; mirror = m }) (routes_are (a + 1) n k m (omega (arith, l, d)) (omega (arith, h)) s)
      ]

  index_default : (xs : List Route) (x : ℕ) (c d : Route) → x < length xs → slice_index_or xs x c ≡ slice_index_or xs x d
  index_default [] x c d h = absurd (omega (arith, h))
  index_default (r ∷ xs) zero c d h = refl
  index_default (r ∷ xs) (suc x) c d h = index_default xs x c d (omega (arith, h))

  fragment_at : (a n x : ℕ) (d : Route) → x < length (routes_over a n) → a ≤ (slice_index_or (routes_over a n) x d).fragment
  fragment_at a n x d h = let t = slice_index_or (routes_over a n) x d in (routes_stand a n t (x, h, index_default (routes_over a n) x t d h)).0

  once : (a n x y : ℕ) (d : Route) → x < length (routes_over a n) → y < length (routes_over a n) → slice_index_or (routes_over a n) x d ≡ slice_index_or (routes_over a n) y d → x ≡ y
  once a zero x y d h k e = absurd (omega (arith, h))
  once a (suc n) x y d h k e = go (λ x y h k e. once (a + 1) n x y d h k e) (λ x h. fragment_at (a + 1) n x d h) (position (λ u. u == v) (mirrors_of job a)) x y h k e
    where
      go : ((x y : ℕ) → x < length (routes_over (a + 1) n) → y < length (routes_over (a + 1) n) → slice_index_or (routes_over (a + 1) n) x d ≡ slice_index_or (routes_over (a + 1) n) y d → x ≡ y) →
          ((x : ℕ) → x < length (routes_over (a + 1) n) → a + 1 ≤ (slice_index_or (routes_over (a + 1) n) x d).fragment) → (o : Option ℕ) (x y : ℕ) →
          let l : List Route = map (λ m. record { fragment = a; mirror = m }) (option_to_list o) ++ routes_over (a + 1) n in
          x < length l → y < length l → slice_index_or l x d ≡ slice_index_or l y d → x ≡ y
      go again above None x y h k e = again x y h k e
      go again above (Some m) zero zero h k e = refl
      go again above (Some m) zero (suc y) h k e = let f = above y (omega (arith, k)) in let g = ap (λ (r : Route). r.fragment) e in absurd (omega (arith, f, g))
      go again above (Some m) (suc x) zero h k e = let f = above x (omega (arith, h)) in let g = ap (λ (r : Route). r.fragment) e in absurd (omega (arith, f, g))
      go again above (Some m) (suc x) (suc y) h k e = ap suc (again x y (omega (arith, h)) (omega (arith, k)) e)

-- ---- the cut

module _ (job : Job) (some : 0 < job.settings.fragments) (reads_in : (v u : ℕ) → Contains (map (λ (r : Read). r.vertex) (reads_of job.graph job.query v)) u → u < count_of job.graph) where
  abbrev ps : List Piece
  ps = pieces_of job

  -- in the words of the job
  to_job : (i p v : ℕ) → IsOwnedAt ps i p v → (i < job.settings.fragments) × StandsAt (owned_of job i) p v
  to_job i p v h = let e = piece-count job in let l = h.0 in (omega (arith, e, l), subst (λ (q : Piece). StandsAt q.owned p v) (pieces-at job i h.0) h.1)

  in_pieces : (i : ℕ) → i < job.settings.fragments → i < length ps
  in_pieces i h = let e = piece-count job in omega (arith, e, h)

  place_cases : (i p v : ℕ) → i < length ps → StandsAt (places (piece_at ps i)) p v → StandsAt (owned_of job i) p v ⊎ ((m : ℕ) × (p ≡ length (owned_of job i) + m) × StandsAt (mirrors_of job i) m v)
  place_cases i p v h s = stands_cases (owned_of job i) (mirrors_of job i) p v (subst (λ (q : Piece). StandsAt (places q) p v) (pieces-at job i h) s)

  place_in_range : (i p v : ℕ) → i < length ps → StandsAt (places (piece_at ps i)) p v → v < count_of job.graph
  place_in_range i p v h s = elim (place_cases i p v h s) [ inl k ↦ (owned_by job i p v k).1 | inr k ↦ (mirror_of job i k.0 v k.2).1 ]

  places_apart : (i p q v : ℕ) → i < length ps → StandsAt (places (piece_at ps i)) p v → StandsAt (places (piece_at ps i)) q v → p ≡ q
  places_apart i p q v h s t = go (place_cases i p v h s) (place_cases i q v h t)
    where
      go : StandsAt (owned_of job i) p v ⊎ ((m : ℕ) × (p ≡ length (owned_of job i) + m) × StandsAt (mirrors_of job i) m v) →
          StandsAt (owned_of job i) q v ⊎ ((m : ℕ) × (q ≡ length (owned_of job i) + m) × StandsAt (mirrors_of job i) m v) → p ≡ q
      go (inl a) (inl b) = stands_once (λ w. owner job w == i) 0 (count_of job.graph) p q v a b
      go (inl a) (inr b) = absurd ((mirror_of job i b.0 v b.2).0 (owned_by job i p v a).0)
      go (inr a) (inl b) = absurd ((mirror_of job i a.0 v a.2).0 (owned_by job i q v b).0)
      go (inr a) (inr b) =
          let e = stands_once (λ w. not (owner job w == i) && is_read_in job i w) 0 (count_of job.graph) a.0 b.0 v a.2 b.2 in
          let x = a.1 in let y = b.1 in omega (arith, e, x, y)

  routes_at : (i p v : ℕ) → IsOwnedAt ps i p v → slice_index_or (piece_at ps i).routes p [] ≡ routes_of job v
  routes_at i p v h =
      let o = (to_job i p v h).1 in
      ap (λ (q : Piece). slice_index_or q.routes p []) (pieces-at job i h.0) ∙ (get_or-map (routes_of job) (owned_of job i) p 0 [] o.0 ∙ ap (routes_of job) o.1)

  past_end : {X : Type 0} (xs : List X) (k : ℕ) (d : X) → length xs ≤ k → slice_index_or xs k d ≡ d
  past_end [] k d h = refl
  past_end (x ∷ xs) zero d h = absurd (omega (arith, h))
  past_end (x ∷ xs) (suc k) d h = past_end xs k d (omega (arith, h))

  all_apart : (i p q v : ℕ) → StandsAt (places (piece_at ps i)) p v → StandsAt (places (piece_at ps i)) q v → p ≡ q
  all_apart i p q v s t =
      elim (cases_lt i (length ps)) [
        | inl h ↦ places_apart i p q v h s t
        | inr h ↦ let l = (subst (λ (x : Piece). StandsAt (places x) p v) (past_end ps i no_piece h) s).0 in absurd (omega (arith, l))
      ]

  routes_apart : (i p a b : ℕ) (d : Route) → let l : List Route = slice_index_or (piece_at ps i).routes p [] in
      a < length l → b < length l → slice_index_or l a d ≡ slice_index_or l b d → a ≡ b
  routes_apart i p a b d h k e =
      let P : List Route → Type 0 = λ l. a < length l → b < length l → slice_index_or l a d ≡ slice_index_or l b d → a ≡ b in
      let none : P [] = λ h k e. absurd (omega (arith, h)) in
      elim (cases_lt i (length ps)) [
        | inl l ↦
            elim (cases_lt p (length (owned_of job i))) [
              | inl m ↦
                  let v = slice_index (owned_of job i) p in
                  let there : IsOwnedAt ps i p v = (l, subst (λ (q : Piece). StandsAt q.owned p v) (sym (pieces-at job i l)) (m, refl)) in
                  let at : P (routes_of job v) = λ h k e. once job v 0 job.settings.fragments a b d h k e in
                  let here : P (slice_index_or (piece_at ps i).routes p []) = subst P (sym (routes_at i p v there)) at in
                  here h k e
              | inr m ↦
                  let len = length-map (owned_of job i) (routes_of job) in
                  let gone : slice_index_or (piece_at ps i).routes p [] ≡ [] =
                  ap (λ (q : Piece). slice_index_or q.routes p []) (pieces-at job i l) ∙ past_end (map (routes_of job) (owned_of job i)) p [] (omega (arith, len, m)) in
                  let here : P (slice_index_or (piece_at ps i).routes p []) = subst P (sym gone) none in
                  here h k e
            ]
        | inr l ↦
            let gone : slice_index_or (piece_at ps i).routes p [] ≡ [] = ap (λ (q : Piece). slice_index_or q.routes p []) (past_end ps i no_piece l) in
            let here : P (slice_index_or (piece_at ps i).routes p []) = subst P (sym gone) none in
            here h k e
      ]

  pub pieces_are_cut : AreCutOf (equations_of job) ps
  pieces_are_cut =
      record {
        owned = λ v h.
            let r = owned_place job v h in
            let i_in = in_pieces (owner job v) (owner-lt job v some h) in
            (owner job v, r.0, (i_in, subst (λ (q : Piece). StandsAt q.owned r.0 v) (sym (pieces-at job (owner job v) i_in)) r.1));
        owned_once = λ i p j q v h k.
            let a = (to_job i p v h).1 in
            let b = (to_job j q v k).1 in
            let same : i ≡ j = sym (owned_by job i p v a).0 ∙ (owned_by job j q v b).0 in
            (same, stands_once (λ w. owner job w == j) 0 (count_of job.graph) p q v (subst (λ x. StandsAt (owned_of job x) p v) same a) b);
        in_range = λ i p h k. place_in_range i p (slice_index (places (piece_at ps i)) p) h (k, refl);
        apart = all_apart;
        reads = λ i p v u h c.
            let a = (to_job i p v h).1 in
            let r = read_place job i p v u a (reads_in v u c) c in
            (r.0, subst (λ (q : Piece). StandsAt (places q) r.0 u) (sym (pieces-at job i h.0)) r.1);
        routes_len = λ i h. ap (λ (q : Piece). length q.routes) (pieces-at job i h) ∙ (length-map (owned_of job i) (routes_of job) ∙ sym (ap (λ (q : Piece). length q.owned) (pieces-at job i h)));
        routes = λ i p v k m h. (
          (λ c.
              let r = routes_stand job v 0 job.settings.fragments (record { fragment = k; mirror = m }) (subst (λ l. Contains l (record { fragment = k; mirror = m })) (routes_at i p v h) c) in
              let l = r.1 in
              let k_in = in_pieces k (omega (arith, l)) in
              (k_in, subst (λ (q : Piece). StandsAt q.mirrors m v) (sym (pieces-at job k k_in)) r.2)),
          (λ c.
              let e = piece-count job in
              let l = c.0 in
              subst (λ l. Contains l (record { fragment = k; mirror = m })) (sym (routes_at i p v h))
              (routes_are job v 0 job.settings.fragments k m (omega arith) (omega (arith, e, l)) (subst (λ (q : Piece). StandsAt q.mirrors m v) (pieces-at job k c.0) c.1))),
        );
        routes_once = routes_apart;
      }

-- the fragments of a job are a proper cut
pub fragments_cut : FragmentsCut
fragments_cut job h = let some = h.settings.fragments.0 in pieces_are_cut job (omega (arith, some)) (reads_in job.graph job.query h.graph)
