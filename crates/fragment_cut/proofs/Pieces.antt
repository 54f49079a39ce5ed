-- Steps of the loops that gather a fragment's vertices.
use Rattle.std.proofs.Common.{◌≡◌, ◌≢◌, ℕ, ◌+◌, ◌<◌, Bool, true, false, not, ◌&&◌, cond, ◌==◌, List, [], ◌∷◌, ◌++◌, length, map, filter, flat_map, slice_index, slice_index_or, get_or, refl, ◌∙◌, sym, ap, inl, inr, arith, eq-eqb, append-nil}
use Rattle.std.proofs.lemmas.Bool.{ne_eqb, and_from, not_from_false}
use Rattle.std.proofs.lemmas.List.{map-id}
use Rattle.std.proofs.lemmas.List.FromFn.{map-range_with_len_more, length-map-range_with_len, get_or-map-range_with_len}
use Rattle.std.proofs.lemmas.List.Concat.{flat_map-append}
use Rattle.std.proofs.lemmas.List.Elements.{filter-append}
use Rattle.graph_core.specs.declared.job.Job.{Job}
use Rattle.graph_core.specs.declared.fragment.Reading.{Reading}
use Rattle.graph_core.specs.Graphs.{count_of}
use Rattle.graph_core.specs.Fragments.{owner, numbers_below, is_read_in}
use Rattle.fragment_cut.specs.Filing.{Filed, file_under, filed_rows}
use Rattle.graph_core.specs.Fragments.{StandsAt}
use Rattle.graph_core.proofs.Cutting.{stands_left, stands_right, stands_cases}
use Rattle.fragment_cut.specs.Owners.{owners_of, StandOnce, StandsNowhere}

pub numbers_more : (n : ℕ) → numbers_below (n + 1) ≡ numbers_below n ++ n ∷ []
numbers_more n = sym (map-id (numbers_below (n + 1))) ∙ map-range_with_len_more (λ k. k) 0 n n (omega arith) ∙ ap (λ l. l ++ n ∷ []) (map-id (numbers_below n))

module _ (p : ℕ → Bool) (n : ℕ) (old new : List ℕ) where
  passes-more : filter p (numbers_below (n + 1)) ≡ filter p (numbers_below n) ++ cond (p n) (n ∷ []) []
  passes-more = ap (filter p) (numbers_more n) ∙ filter-append p (numbers_below n) (n ∷ [])

  pub taken : p n ≡ true → old ≡ filter p (numbers_below n) → new ≡ old ++ n ∷ [] → new ≡ filter p (numbers_below (n + 1))
  taken e h g = g ∙ ap (λ l. l ++ n ∷ []) h ∙ ap (λ b. filter p (numbers_below n) ++ cond b (n ∷ []) []) (sym e) ∙ sym passes-more

  pub left : p n ≡ false → old ≡ filter p (numbers_below n) → new ≡ old → new ≡ filter p (numbers_below (n + 1))
  left e h g = g ∙ h ∙ sym (append-nil (filter p (numbers_below n))) ∙ ap (λ b. filter p (numbers_below n) ++ cond b (n ∷ []) []) (sym e) ∙ sym passes-more

module _ (job : Job) (owners : List ℕ) (e : owners ≡ owners_of job) where
  pub owners_len : length owners ≡ count_of job.graph
  owners_len = ap length e ∙ length-map-range_with_len (owner job) 0 (count_of job.graph)

  pub owner_at : (v : ℕ) → v < count_of job.graph → get_or owners v 0 ≡ owner job v
  owner_at v h = ap (λ l. get_or l v 0) e ∙ get_or-map-range_with_len (owner job) 0 (count_of job.graph) v v 0 h (omega arith)

  pub owned_test : (v i : ℕ) → v < count_of job.graph → get_or owners v 0 ≡ i → (owner job v == i) ≡ true
  owned_test v i h q = eq-eqb (owner job v) i (sym (owner_at v h) ∙ q)

  pub foreign_test : (v i : ℕ) → v < count_of job.graph → get_or owners v 0 ≢ i → (owner job v == i) ≡ false
  foreign_test v i h q = ne_eqb (owner job v) i (λ r. q (owner_at v h ∙ r))

  pub mirror_test : (v i : ℕ) → v < count_of job.graph → get_or owners v 0 ≢ i → is_read_in job i v ≡ true → (not (owner job v == i) && is_read_in job i v) ≡ true
  mirror_test v i h q r = and_from (not (owner job v == i)) (is_read_in job i v) (not_from_false (owner job v == i) (foreign_test v i h q)) r

  pub unread_test : (v i : ℕ) → is_read_in job i v ≡ false → (not (owner job v == i) && is_read_in job i v) ≡ false
  unread_test v i r = ap (λ b. not (owner job v == i) && b) r ∙ both (not (owner job v == i))
    where
      both : (b : Bool) → (b && false) ≡ false
      both true = refl
      both false = refl

  pub own_test : (v i : ℕ) → v < count_of job.graph → get_or owners v 0 ≡ i → (not (owner job v == i) && is_read_in job i v) ≡ false
  own_test v i h q = ap (λ b. not b && is_read_in job i v) (owned_test v i h q)

-- one row more
pub filed_rows_more : (vertices : List ℕ) (rows : List (List Reading)) (n : ℕ) (row : List Reading) (old new : List Filed) → old ≡ filed_rows vertices rows n → row ≡ slice_index_or rows (slice_index vertices n) []
    → new ≡ old ++ map (file_under n) row → new ≡ filed_rows vertices rows (n + 1)
filed_rows_more vertices rows n row old new h r e =
    let f : ℕ → List Filed = λ p. map (file_under p) (slice_index_or rows (slice_index vertices p) []) in
    e ∙ ap (λ l. l ++ map (file_under n) row) h ∙ ap (λ x. filed_rows vertices rows n ++ map (file_under n) x) r
    ∙ sym (ap (flat_map f) (numbers_more n) ∙ flat_map-append f (numbers_below n) (n ∷ []) ∙ ap (λ l. flat_map f (numbers_below n) ++ l) (append-nil (f n)))

-- first the owned vertices are numbered, and then the mirrors
module _ (owned mirrors before first after : List ℕ) (once : StandOnce (owned ++ mirrors))
    (first_numbered : (k v : ℕ) → StandsAt owned k v → slice_index first v ≡ 0 + k)
    (then_numbered : (k v : ℕ) → StandsAt mirrors k v → slice_index after v ≡ length owned + k)
    (then_others : (v : ℕ) → StandsNowhere mirrors v → slice_index after v ≡ slice_index first v) where
  pub numbered_all : (p v : ℕ) → StandsAt (owned ++ mirrors) p v → slice_index after v ≡ p
  numbered_all p v h = elim (stands_cases owned mirrors p v h) [
    | inl s ↦
        let apart : StandsNowhere mirrors v = λ k m. let same = once p (length owned + k) v h (stands_right owned mirrors k v m) in let l = s.0 in omega (arith, same, l) in
        let e = first_numbered p v s in
        then_others v apart ∙ omega (arith, e)
    | inr s ↦ let e = s.1 in then_numbered s.0 v s.2 ∙ sym e
  ]

pub once_left : (owned mirrors : List ℕ) → StandOnce (owned ++ mirrors) → StandOnce owned
once_left owned mirrors once j k v h l = once j k v (stands_left owned mirrors j v h) (stands_left owned mirrors k v l)

pub once_right : (owned mirrors : List ℕ) → StandOnce (owned ++ mirrors) → StandOnce mirrors
once_right owned mirrors once j k v h l =
    let e = once (length owned + j) (length owned + k) v (stands_right owned mirrors j v h) (stands_right owned mirrors k v l) in
    omega (arith, e)
