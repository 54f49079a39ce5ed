-- Marks of the vertices that are read, and the parts of rows that are placed.
use Rattle.std.proofs.Common.{◌≡◌, ℕ, ◌+◌, ◌<◌, Bool, true, false, cond, ◌||◌, ◌==◌, List, [], ◌∷◌, ◌++◌, length, map, filter, take, set, get_or, refl, ◌∙◌, sym, ap, subst, inl, inr, arith, eq-eqb}
use Rattle.std.specs.Prelude.{All, slice_index}
use Rattle.std.specs.List.{list_any, position_or_len}
use Rattle.std.proofs.lemmas.Bool.{ne_eqb, cases_eq}
use Rattle.std.proofs.lemmas.Grind.{get_or-set_at}
use Rattle.std.proofs.lemmas.List.{append_assoc, map-append, take_more, get_or-set_other}
use Rattle.std.proofs.lemmas.List.Folds.{list_any-append}
use Rattle.std.proofs.lemmas.List.Elements.{filter-append}
use Rattle.std.proofs.lemmas.List.FromFn.{get_or-map-range_with_len}
use Rattle.std.proofs.lemmas.List.Sums.{position_or_len_is}
use Rattle.graph_core.specs.declared.job.Job.{Job}
use Rattle.graph_core.specs.declared.fragment.Reading.{Reading}
use Rattle.graph_core.specs.Graphs.{count_of, IsJob}
use Rattle.graph_core.specs.Fragments.{numbers_below, places_of, StandsAt}
use Rattle.graph_core.proofs.FragmentPlaces.{places_once, places_inside}
use Rattle.fragment_cut.specs.Filing.{Filed}

module _ {X Y : Type 0} (f : X → Y) (first : List Y) (row : List X) (k : ℕ) (d : X) (inside : k < length row) where
  pub part_more : first ++ map f (take (k + 1) row) ≡ (first ++ map f (take k row)) ++ f (get_or row k d) ∷ []
  part_more =
      ap (λ l. first ++ map f l) (take_more row k d inside) ∙ ap (λ l. first ++ l) (map-append f (take k row) (get_or row k d ∷ []))
      ∙ sym (append_assoc first (map f (take k row)) (f (get_or row k d) ∷ []))

  -- one more of those that pass a test
  pub kept_more : (keep : X → Bool) (old new : List Y) → new ≡ old ++ cond (keep (get_or row k d)) (f (get_or row k d) ∷ []) [] → old ≡ first ++ map f (filter keep (take k row)) → new ≡ first ++ map f (filter keep (take (k + 1) row))
  kept_more keep old new e h =
      e ∙ ap (λ l. l ++ cond (keep (get_or row k d)) (f (get_or row k d) ∷ []) []) h
      ∙ append_assoc first (map f (filter keep (take k row))) (cond (keep (get_or row k d)) (f (get_or row k d) ∷ []) [])
      ∙ ap (λ l. first ++ (map f (filter keep (take k row)) ++ l)) (through (keep (get_or row k d)))
      ∙ ap (λ l. first ++ l) (sym (ap (λ l. map f (filter keep l)) (take_more row k d inside) ∙ ap (map f) (filter-append keep (take k row) (get_or row k d ∷ [])) ∙ map-append f (filter keep (take k row)) (filter keep (get_or row k d ∷ []))))
    where
      through : (c : Bool) → cond c (f (get_or row k d) ∷ []) [] ≡ map f (cond c (get_or row k d ∷ []) [])
      through true = refl
      through false = refl

or_true : (b : Bool) → (b || (true || false)) ≡ true
or_true true = refl
or_true false = refl

or_false : (b : Bool) → (b || (false || false)) ≡ b
or_false true = refl
or_false false = refl

module _ (marks : List Bool) (n : ℕ) (len : length marks ≡ n) (done : List Filed) (each : (v : ℕ) → v < n → get_or marks v false ≡ list_any (λ (e : Filed). e.place == v) done) where
  pub marked_more : (e : Filed) → e.place < n → (v : ℕ) → v < n → get_or (set marks e.place true) v false ≡ list_any (λ (x : Filed). x.place == v) (done ++ e ∷ [])
  marked_more e h v l =
      let test : Filed → Bool = λ x. x.place == v in
      elim (cases_eq e.place v) [
        | inl q ↦
            get_or-set_at marks e.place v true false (sym q) (omega (arith, len, h))
            ∙ sym (list_any-append test done (e ∷ []) ∙ ap (λ b. list_any test done || (b || false)) (eq-eqb e.place v q) ∙ or_true (list_any test done))
        | inr d ↦
            get_or-set_other marks e.place v true false (λ x. d (sym x)) ∙ each v l
            ∙ sym (list_any-append test done (e ∷ []) ∙ ap (λ b. list_any test done || (b || false)) (ne_eqb e.place v d) ∙ or_false (list_any test done))
      ]

  pub marked_at : (other : List Filed) → done ≡ other → (v : ℕ) → v < n → get_or marks v false ≡ list_any (λ (x : Filed). x.place == v) other
  marked_at other e v l = each v l ∙ ap (list_any (λ (x : Filed). x.place == v)) e

-- a row of a table has what all rows have
pub in_row : (n : ℕ) (rows : List (List Reading)) (v k : ℕ) (d : Reading) (row : List Reading) → All (λ row. All (λ (r : Reading). r.place < n) row) rows → v < length rows → row ≡ get_or rows v [] → k < length row → (get_or row k d).place < n
in_row n rows v k d row h l e m =
    let P : List Reading → Type 0 = λ row. All (λ (r : Reading). r.place < n) row in
    let all : All (λ (r : Reading). r.place < n) row = subst P (sym e) (h v [] l) in
    all k d m

-- ---- a list of the places of vertices

pub places_listed : (job : Job) (is : IsJob job) (i : ℕ) → i < job.settings.fragments → (P : List ℕ) × ((p v : ℕ) → StandsAt (places_of job i) p v → slice_index P v ≡ p)
places_listed job is i small =
    let vs = places_of job i in
    let place : ℕ → ℕ = λ v. position_or_len (λ u. u == v) vs in (
      map place (numbers_below (count_of job.graph)),
      λ p v h.
          get_or-map-range_with_len place 0 (count_of job.graph) v v 0 (places_inside job is i small p v h) (omega arith)
          ∙ position_or_len_is (λ u. u == v) vs p 0 (omega (arith, h.0))
          (λ k l. ne_eqb (slice_index vs k) v (λ e. let same = places_once job is i small k p v (omega (arith, l, h.0), e) h in omega (arith, same, l)))
          (λ l. eq-eqb (slice_index vs p) v h.1),
    )
