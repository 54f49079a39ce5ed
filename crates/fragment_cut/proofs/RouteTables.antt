-- The rows of all mirrors, turned round, are the routes.
use Rattle.std.proofs.Common.{◌≡◌, ◌≢◌, ℕ, zero, suc, ◌+◌, ◌<◌, ◌≤◌, ◌^◌, Bool, true, false, not, ◌&&◌, cond, ◌==◌, List, [], ◌∷◌, ◌++◌, length, map, filter, flat_map, slice_index, get_or, Option, Some, None, refl, ◌∙◌, sym, ap, inl, inr, arith, eqb-true, eq-eqb}
use Rattle.std.specs.Prelude.{All, nat_lt, option_to_list, position}
use Rattle.std.specs.List.{AllByRecursion, range_with_len, position_or_len}
use Rattle.std.proofs.lemmas.Bool.{ne_eqb, eqb-false, cases_eq}
use Rattle.std.proofs.lemmas.Bool.Decides.{nat_tests}
use Rattle.std.proofs.lemmas.List.{map-append, get_or_default}
use Rattle.std.proofs.lemmas.List.FromFn.{map-range_with_len_more, get_or-map-range_with_len, length-map-range_with_len}
use Rattle.std.proofs.lemmas.Simd.{map-map}
use Rattle.std.proofs.lemmas.List.Elements.{All-from_recursion, recursion_from_All}
use Rattle.std.proofs.lemmas.List.Quantifiers.{position-Some}
use Rattle.std.proofs.lemmas.List.Sums.{fails_before_first}
use Rattle.graph_core.specs.declared.job.Job.{Job}
use Rattle.graph_core.specs.declared.fragment.Reading.{Reading}
use Rattle.graph_core.specs.declared.fragment.Route.{Route}
use Rattle.graph_core.specs.Graphs.{count_of, IsJob}
use Rattle.graph_core.specs.Fragments.{owner, numbers_below, owned_of, mirrors_of, is_read_in, route_to, routes_of}
use Rattle.graph_core.proofs.Cutting as Cutting
use Rattle.fragment_cut.specs.Filing.{Filed, reading_of, filed_under, rows_under, turned_under, turned_entries, all_turned}
use Rattle.fragment_cut.specs.Owners.{StandOnce}
use Rattle.fragment_cut.specs.Routing.{mirror_reading, mirror_row, mirror_rows, route_of, reading_to, routes_table, routes_in}
use Rattle.fragment_cut.proofs.SortedFiled.{map_same}
use Rattle.fragment_cut.proofs.EdgeFiles.{under-append}
use Rattle.fragment_cut.specs.Halves.{HalfLists, half_of}
use Rattle.fragment_cut.proofs.Placing.{every-rows}
use Rattle.fragment_cut.proofs.EdgeFiles.{all_at}

-- ---- one fragment

-- mirror m of fragment k, filed under its vertex
abbrev filed_mirror : ℕ → List ℕ → ℕ → Filed
filed_mirror k mirrors m = turned_under k (mirror_reading mirrors m)

abbrev filed_mirrors : ℕ → List ℕ → List Filed
filed_mirrors k mirrors = map (filed_mirror k mirrors) (numbers_below (length mirrors))

-- no entry of a run belongs to this row
under_none : (h : ℕ → Filed) (v a n : ℕ) → ((k : ℕ) → a ≤ k → k < a + n → (h k).row ≢ v) → filed_under (map h (range_with_len a n)) v ≡ []
under_none h v a zero d = refl
under_none h v a (suc n) d = ap (λ b. map reading_of (cond b (h a ∷ filter (λ e. e.row == v) (map h (range_with_len (a + 1) n))) (filter (λ e. e.row == v) (map h (range_with_len (a + 1) n))))) (ne_eqb (h a).row v (d a (omega arith) (omega arith)))
    ∙ under_none h v (a + 1) n (λ k l m. d k (omega (arith, l)) (omega (arith, m)))

-- one entry does
under_one : (h : ℕ → Filed) (v a n q : ℕ) → a ≤ q → q < a + n → (h q).row ≡ v → ((k : ℕ) → a ≤ k → k < a + n → k ≢ q → (h k).row ≢ v) → filed_under (map h (range_with_len a n)) v ≡ reading_of (h q) ∷ []
under_one h v a zero q l m e d = absurd (omega (arith, l, m))
under_one h v a (suc n) q l m e d = elim (cases_eq a q) [
  | inl s ↦
      ap (λ b. map reading_of (cond b (h a ∷ filter (λ e. e.row == v) (map h (range_with_len (a + 1) n))) (filter (λ e. e.row == v) (map h (range_with_len (a + 1) n))))) (eq-eqb (h a).row v (ap (λ k. (h k).row) s ∙ e))
      ∙ ap (λ r. reading_of (h a) ∷ r) (under_none h v (a + 1) n (λ k o p. d k (omega (arith, o)) (omega (arith, p)) (λ r. omega (arith, o, r, s))))
      ∙ ap (λ k. reading_of (h k) ∷ []) s
  | inr s ↦
      ap (λ b. map reading_of (cond b (h a ∷ filter (λ e. e.row == v) (map h (range_with_len (a + 1) n))) (filter (λ e. e.row == v) (map h (range_with_len (a + 1) n))))) (ne_eqb (h a).row v (d a (omega arith) (omega arith) s))
      ∙ under_one h v (a + 1) n q (omega (arith, l, s)) (omega (arith, m)) e (λ k o p r. d k (omega (arith, o)) (omega (arith, p)) r)
]

-- the mirrors of v in a fragment are its routes there
module _ (vs : List ℕ) (once : StandOnce vs) (k v : ℕ) where
  routes_found : (o : Option ℕ) → position (λ u. u == v) vs ≡ o → filed_under (filed_mirrors k vs) v ≡ map reading_to (map (λ m. record { fragment = k; mirror = m }) (option_to_list o))
  routes_found (Some q) e =
      let s = position-Some (λ u. u == v) vs q 0 e in
      let is : slice_index vs q ≡ v = eqb-true (slice_index vs q) v s.1 in
      let low = s.0 in
      under_one (filed_mirror k vs) v 0 (length vs) q (omega arith) (omega (arith, low)) is (λ j o p d f. d (once j q v (omega (arith, p), f) (s.0, is)))
  routes_found None e =
      under_none (filed_mirror k vs) v 0 (length vs) (λ j o p f. nowhere (nat_lt (position_or_len (λ u. u == v) vs) (length vs)) refl e j (omega (arith, p)) f)
    where
      nowhere : (b : Bool) → nat_lt (position_or_len (λ u. u == v) vs) (length vs) ≡ b → cond b (Some (position_or_len (λ u. u == v) vs)) None ≡ None → (j : ℕ) → j < length vs → slice_index vs j ≡ v → ⊥
      nowhere true t e j l f = let x : Some (position_or_len (λ u. u == v) vs) ≡ None = e in cc
      nowhere false t e j l f =
          let past : length vs ≤ position_or_len (λ u. u == v) vs = grind (arith, nat_tests, t) in
          let no = fails_before_first (λ u. u == v) vs j 0 (omega (arith, past, l)) in
          eqb-false (slice_index vs j) v no f

-- ---- all fragments

module _ (job : Job) (v : ℕ) where
  mirrors_once : (k : ℕ) → StandOnce (mirrors_of job k)
  mirrors_once k p q u h l = Cutting.stands_once (λ w. not (owner job w == k) && is_read_in job k w) 0 (count_of job.graph) p q u h l

  routes_under : (a n : ℕ) → filed_under (flat_map (λ k. filed_mirrors k (mirrors_of job k)) (range_with_len a n)) v ≡ map reading_to (flat_map (route_to job v) (range_with_len a n))
  routes_under a zero = refl
  routes_under a (suc n) =
      under-append (filed_mirrors a (mirrors_of job a)) (flat_map (λ k. filed_mirrors k (mirrors_of job k)) (range_with_len (a + 1) n)) v
      ∙ ap (λ l. l ++ filed_under (flat_map (λ k. filed_mirrors k (mirrors_of job k)) (range_with_len (a + 1) n)) v) (routes_found (mirrors_of job a) (mirrors_once a) a v (position (λ u. u == v) (mirrors_of job a)) refl)
      ∙ ap (λ l. map reading_to (route_to job v a) ++ l) (routes_under (a + 1) n)
      ∙ sym (map-append reading_to (route_to job v a) (flat_map (route_to job v) (range_with_len (a + 1) n)))

-- the mirrors, each filed under its vertex
module _ (job : Job) where
  abbrev n : ℕ
  n = job.settings.fragments

  abbrev of_fragment : ℕ → List Filed
  of_fragment k = filed_mirrors k (mirrors_of job k)

  rows_len : length (mirror_rows job) ≡ n
  rows_len = length-map-range_with_len (λ k. mirror_row (mirrors_of job k)) 0 n

  row_turned : (k : ℕ) → k < n → map (turned_under k) (get_or (mirror_rows job) k []) ≡ of_fragment k
  row_turned k h =
      ap (map (turned_under k)) (get_or-map-range_with_len (λ k. mirror_row (mirrors_of job k)) 0 n k k [] h (omega arith))
      ∙ map-map (turned_under k) (mirror_reading (mirrors_of job k)) (numbers_below (length (mirrors_of job k)))

  rows_turned : (a m : ℕ) → a + m ≤ n → flat_map (λ w. map (turned_under w) (get_or (mirror_rows job) w [])) (range_with_len a m) ≡ flat_map of_fragment (range_with_len a m)
  rows_turned a zero h = refl
  rows_turned a (suc m) h =
      ap (λ l. l ++ flat_map (λ w. map (turned_under w) (get_or (mirror_rows job) w [])) (range_with_len (a + 1) m)) (row_turned a (omega (arith, h)))
      ∙ ap (λ l. of_fragment a ++ l) (rows_turned (a + 1) m (omega (arith, h)))

  mirrors_turned : all_turned (mirror_rows job) ≡ flat_map of_fragment (numbers_below n)
  mirrors_turned = ap (turned_entries (mirror_rows job)) rows_len ∙ rows_turned 0 n (omega arith)

-- ---- the tables

pub mirrors_more : (mirrors : List ℕ) (old new : List Reading) (m : ℕ) → new ≡ old ++ mirror_reading mirrors m ∷ [] → old ≡ map (mirror_reading mirrors) (numbers_below m) → new ≡ map (mirror_reading mirrors) (numbers_below (m + 1))
mirrors_more mirrors old new m e h = e ∙ ap (λ l. l ++ mirror_reading mirrors m ∷ []) h ∙ sym (map-range_with_len_more (mirror_reading mirrors) 0 m m (omega arith))

pub mirror_rows_more : (job : Job) (k : ℕ) (row : List Reading) (old new : List (List Reading)) → new ≡ old ++ row ∷ [] → row ≡ mirror_row (mirrors_of job k) → old ≡ map (λ k. mirror_row (mirrors_of job k)) (numbers_below k)
    → new ≡ map (λ k. mirror_row (mirrors_of job k)) (numbers_below (k + 1))
mirror_rows_more job k row old new e f h =
    e ∙ ap (λ l. l ++ row ∷ []) h ∙ ap (λ r. map (λ k. mirror_row (mirrors_of job k)) (numbers_below k) ++ r ∷ []) f
    ∙ sym (map-range_with_len_more (λ k. mirror_row (mirrors_of job k)) 0 k k (omega arith))

pub half_at : (job : Job) (halves : List HalfLists) (k : ℕ) (half : HalfLists) → halves ≡ map (half_of job) (numbers_below job.settings.fragments) → k < job.settings.fragments → half ≡ get_or halves k half → half ≡ half_of job k
half_at job halves k half e h r = r ∙ ap (λ l. get_or l k half) e ∙ get_or-map-range_with_len (half_of job) 0 job.settings.fragments k k half h (omega arith)

pub halves_len : (job : Job) (halves : List HalfLists) → halves ≡ map (half_of job) (numbers_below job.settings.fragments) → length halves ≡ job.settings.fragments
halves_len job halves e = ap length e ∙ length-map-range_with_len (half_of job) 0 job.settings.fragments

-- the entries name vertices
every_range : (Q : Filed → Type 0) (h : ℕ → Filed) (a n : ℕ) → ((k : ℕ) → a ≤ k → k < a + n → Q (h k)) → AllByRecursion Q (map h (range_with_len a n))
every_range Q h a zero q = tt
every_range Q h a (suc n) q = (q a (omega arith) (omega arith), every_range Q h (a + 1) n (λ k l m. q k (omega (arith, l)) (omega (arith, m))))

mirrors_filed_inside : (job : Job) → All (λ (e : Filed). e.row < count_of job.graph) (flat_map (λ k. filed_mirrors k (mirrors_of job k)) (numbers_below job.settings.fragments))
mirrors_filed_inside job =
    let Q : Filed → Type 0 = λ e. e.row < count_of job.graph in
    All-from_recursion Q (flat_map (λ k. filed_mirrors k (mirrors_of job k)) (numbers_below job.settings.fragments)) (every-rows Q (λ k. filed_mirrors k (mirrors_of job k)) 0 job.settings.fragments (λ k _ _.
    every_range Q (filed_mirror k (mirrors_of job k)) 0 (length (mirrors_of job k)) (λ m _ l.
    let r = Cutting.passes (λ v. not (owner job v == k) && is_read_in job k v) 0 (count_of job.graph) m (slice_index (mirrors_of job k) m) (omega (arith, l), refl) in
    let x = r.2 in omega (arith, x))))

module _ (job : Job) (rows : List (List Reading)) (count : ℕ) (e : rows ≡ mirror_rows job) (f : count ≡ count_of job.graph) where
  pub mirrors_short : IsJob job → length rows < 2 ^ 32
  mirrors_short is = let few = is.settings.fragments.1 in omega (arith, few, ap length e, rows_len job)

  pub mirrors_inside : All (λ (x : Filed). x.row < count) (all_turned rows)
  mirrors_inside = all_at (λ (x : Filed). x.row) (all_turned rows) _ count (count_of job.graph) (ap all_turned e ∙ mirrors_turned job) f (mirrors_filed_inside job)

  pub routes_made : rows_under (all_turned rows) count ≡ routes_table job
  routes_made =
      ap (λ l. rows_under l count) (ap all_turned e ∙ mirrors_turned job) ∙ ap (rows_under (flat_map (of_fragment job) (numbers_below job.settings.fragments))) f
      ∙ map_same _ (λ v. map reading_to (routes_of job v)) (λ v. routes_under job v 0 job.settings.fragments) (numbers_below (count_of job.graph))

-- ---- the routes of a fragment's vertices

read_back : (routes : List Route) → map route_of (map reading_to routes) ≡ routes
read_back [] = refl
read_back (r ∷ routes) = ap (λ l. r ∷ l) (read_back routes)

pub routes_in_is : (job : Job) (v : ℕ) → v < count_of job.graph → routes_in (routes_table job) v ≡ routes_of job v
routes_in_is job v h = ap (map route_of) (get_or-map-range_with_len (λ v. map reading_to (routes_of job v)) 0 (count_of job.graph) v v [] h (omega arith)) ∙ read_back (routes_of job v)

map_agree : {X Y : Type 0} (f g : X → Y) (xs : List X) → AllByRecursion (λ x. f x ≡ g x) xs → map f xs ≡ map g xs
map_agree f g [] h = refl
map_agree f g (x ∷ xs) h = ap (λ y. y ∷ map f xs) h.0 ∙ ap (λ l. g x ∷ l) (map_agree f g xs h.1)

pub owned_routes : (job : Job) (i : ℕ) → map (routes_in (routes_table job)) (owned_of job i) ≡ map (routes_of job) (owned_of job i)
owned_routes job i =
    let P : ℕ → Type 0 = λ v. routes_in (routes_table job) v ≡ routes_of job v in
    map_agree (routes_in (routes_table job)) (routes_of job) (owned_of job i) (recursion_from_All P (owned_of job i) (λ k d h.
    let r = Cutting.passes (λ v. owner job v == i) 0 (count_of job.graph) k (slice_index (owned_of job i) k) (h, refl) in
    let x = r.2 in
    let e = get_or_default (owned_of job i) k d 0 h in
    routes_in_is job (get_or (owned_of job i) k d) (omega (arith, x, e))))

pub routes_len : (job : Job) → length (routes_table job) ≡ count_of job.graph
routes_len job = length-map-range_with_len (λ v. map reading_to (routes_of job v)) 0 (count_of job.graph)
