-- The posts of listed places: where these are the ones whose values changed, they are all posts.
use Rattle.std.proofs.Common.{◌≡◌, ◌≢◌, ℕ, zero, suc, ◌+◌, ◌<◌, ◌≤◌, Bool, true, false, not, ◌==◌, cond, if◌then◌else◌, refl, sym, ◌∙◌, ap, subst, arith, add-one, List, [], ◌∷◌, ◌++◌, length, filter, flat_map, take, slice_index, slice_index_or, All}
use Rattle.std.specs.List.{range_with_len}
use Rattle.std.proofs.lemmas.Bool.{eq-eqb}
use Rattle.std.proofs.lemmas.Grind.{flat_map-append}
use Rattle.std.proofs.lemmas.List.{append-nil, take_all}
use Rattle.std.proofs.lemmas.List.Elements.{filter-append, filter_passes, All-get_or}
use Rattle.std.proofs.Math.Seq.{take-suc}
use Rattle.graph_core.specs.declared.fragment.Route.{Route}
use Rattle.base_machine.specs.Machine.{Post, posts_to}
use Rattle.pie_core.specs.FallenPlaces.{has_fallen, fallen_since}
use Rattle.pie_core.proofs.FallenLists.{all_owned}
use Rattle.token_cut.specs.CutValues.{CutValues}
use Rattle.hub_engine.specs.declared.desk.Desk.{Desk}
use Rattle.hub_engine.specs.declared.sender.Sender.{Sender}
use Rattle.hub_engine.specs.Posting.{mailed, AreBegun, posts_along, recorded_with}
use Rattle.hub_engine.proofs.Mailing.{AreMailed, mailed_more, mailed_same, rows_more}

-- what is posted to worker k from these places
pub listed_posts : ℕ → List ℕ → List (List Route) → List ℕ → List Post
listed_posts k new routes places = flat_map (λ p. posts_along k (slice_index new p) (slice_index_or routes p [])) places

pub listed_none : (k : ℕ) (new : List ℕ) (routes : List (List Route)) → listed_posts k new routes [] ≡ []
unfolding listed_posts
listed_none k new routes = refl

pub listed_more : (k : ℕ) (new : List ℕ) (routes : List (List Route)) (places : List ℕ) (i d : ℕ) → i < length places →
    listed_posts k new routes (take i places) ++ posts_along k (slice_index new (slice_index_or places i d)) (slice_index_or routes (slice_index_or places i d) []) ≡ listed_posts k new routes (take (i + 1) places)
unfolding listed_posts
listed_more k new routes places i d h =
    let p : ℕ = slice_index_or places i d in
    let f : ℕ → List Post = λ q. posts_along k (slice_index new q) (slice_index_or routes q []) in
    let next : take (i + 1) places ≡ take i places ++ p ∷ [] = ap (λ n. take n places) (add-one i) ∙ take-suc places i d h in
    sym (ap (flat_map f) next ∙ (flat_map-append f (take i places) (p ∷ []) ∙ ap (λ l. flat_map f (take i places) ++ l) (append-nil (f p))))

range-push : (a n : ℕ) → range_with_len a (suc n) ≡ range_with_len a n ++ (a + n) ∷ []
range-push a zero = let here : a ≡ a + 0 = omega arith in ap (λ m. m ∷ []) here
range-push a (suc n) =
    let last : a + 1 + n ≡ a + suc n = omega arith in
    ap (λ l. a ∷ l) (range-push (a + 1) n ∙ ap (λ m. range_with_len (a + 1) n ++ m ∷ []) last)

module _ (k : ℕ) (old new : List ℕ) (routes : List (List Route)) where
  abbrev f : ℕ → List Post
  f q = posts_along k (slice_index new q) (slice_index_or routes q [])

  one_place : (c : Bool) (p : ℕ) → flat_map f (cond (not c) (p ∷ []) []) ≡ (if c then [] else f p)
  one_place true p = refl
  one_place false p = append-nil (f p)

  pub listed_up_to : (p : ℕ) → p ≤ length routes → p ≤ length old → p ≤ length new → flat_map f (filter (has_fallen old new) (range_with_len 0 p)) ≡ posts_to k old new (take p routes)
  listed_up_to zero h l m = refl
  listed_up_to (suc p) h l m =
      let test : ℕ → Bool = has_fallen old new in
      let at : 0 + p ≡ p = omega arith in
      let range : range_with_len 0 (suc p) ≡ range_with_len 0 p ++ p ∷ [] = range-push 0 p ∙ ap (λ n. range_with_len 0 p ++ n ∷ []) at in
      ap (λ l. flat_map f (filter test l)) range
      ∙ (ap (flat_map f) (filter-append test (range_with_len 0 p) (p ∷ []))
      ∙ (flat_map-append f (filter test (range_with_len 0 p)) (filter test (p ∷ []))
      ∙ (ap (λ l. l ++ flat_map f (filter test (p ∷ []))) (listed_up_to p (omega (arith, h)) (omega (arith, l)) (omega (arith, m)))
      ∙ (ap (λ l. posts_to k old new (take p routes) ++ l) (one_place (slice_index old p == slice_index new p) p)
      ∙ rows_more k old new routes p (omega (arith, h)) (omega (arith, l)) (omega (arith, m))))))

pub listed_all : (k : ℕ) (old new : List ℕ) (routes : List (List Route)) → length routes ≡ length old → length old ≤ length new → listed_posts k new routes (fallen_since old new) ≡ posts_to k old new routes
unfolding listed_posts
listed_all k old new routes r l =
    listed_up_to k old new routes (length old) (omega (arith, r)) (omega arith) l ∙ ap (posts_to k old new) (take_all (length old) routes (omega (arith, r)))

-- ---- what holds of a listed place

pub listed_owned : (old new places : List ℕ) (i d : ℕ) → places ≡ fallen_since old new → i < length places → slice_index_or places i d < length old
listed_owned old new places i d e h = All-get_or (λ p. p < length old) places i d h (subst (All (λ p. p < length old)) (sym e) (all_owned old new))

pub listed_changed : (old new places : List ℕ) (i d : ℕ) → places ≡ fallen_since old new → i < length places → slice_index old (slice_index_or places i d) ≢ slice_index new (slice_index_or places i d)
listed_changed old new places i d e h s =
    let passes : has_fallen old new (slice_index_or places i d) ≡ true
    = All-get_or (λ p. has_fallen old new p ≡ true) places i d h (subst (All (λ p. has_fallen old new p ≡ true)) (sym e) (filter_passes (has_fallen old new) (range_with_len 0 (length old))))
    in let fails : has_fallen old new (slice_index_or places i d) ≡ false
    = ap not (eq-eqb (slice_index old (slice_index_or places i d)) (slice_index new (slice_index_or places i d)) s)
    in absurd (let x : true ≡ false = sym passes ∙ fails in cc)

-- ---- while the posts of listed places are sent

pub listed_step : (sender : Sender) (new : List ℕ) (routes : List (List Route)) (places : List ℕ) (i value : ℕ) (row : List Route) (olds desks desks' : List Desk) (first cut cut' : CutValues) (begun begun' : List Bool) →
    AreMailed sender [] olds first (λ j. listed_posts j new routes (take i places)) begun desks cut → length olds ≤ 64 → i < length places →
    value ≡ slice_index new (slice_index places i) → row ≡ slice_index_or routes (slice_index places i) [] →
    desks' ≡ mailed sender begun (λ j. posts_along j value row) desks → AreBegun begun (λ j. posts_along j value row) begun' → cut' ≡ recorded_with sender (λ j. posts_along j value row) cut →
    AreMailed sender [] olds first (λ j. listed_posts j new routes (take (i + 1) places)) begun' desks' cut'
listed_step sender new routes places i value row olds desks desks' first cut cut' begun begun' m few h ev er mail batches late =
    mailed_more sender [] begun begun' olds desks desks' first cut cut' (λ j. listed_posts j new routes (take i places)) (λ j. posts_along j value row) (λ j. listed_posts j new routes (take (i + 1) places)) m few mail batches late
    (λ j.
    ap (λ v. listed_posts j new routes (take i places) ++ posts_along j v row) ev
    ∙ (ap (λ q. listed_posts j new routes (take i places) ++ posts_along j (slice_index new (slice_index places i)) q) er ∙ listed_more j new routes places i 0 h))

pub listed_ends : (sender : Sender) (old new : List ℕ) (routes : List (List Route)) (places : List ℕ) (i : ℕ) (olds desks : List Desk) (first cut : CutValues) (begun : List Bool) →
    AreMailed sender [] olds first (λ j. listed_posts j new routes (take i places)) begun desks cut → places ≡ fallen_since old new → length places ≤ i → length routes ≡ length old → length old ≤ length new →
    AreMailed sender [] olds first (λ j. posts_to j old new (take (length routes) routes)) begun desks cut
listed_ends sender old new routes places i olds desks first cut begun m e h r l =
    mailed_same sender [] begun olds desks first cut (λ j. listed_posts j new routes (take i places)) (λ j. posts_to j old new (take (length routes) routes)) m
    (λ j.
    append-nil (listed_posts j new routes (take i places))
    ∙ (ap (listed_posts j new routes) (take_all i places h ∙ e) ∙ (listed_all j old new routes r l ∙ ap (posts_to j old new) (sym (take_all (length routes) routes (omega arith))))))
