-- Steps of the loops that make all fragments.
use Rattle.std.proofs.Common.{◌≡◌, ℕ, ◌+◌, ◌<◌, List, [], ◌∷◌, ◌++◌, ◌==◌, length, map, take, drop, get_or, refl, ◌∙◌, sym, ap, subst, arith}
use Rattle.std.specs.Prelude.{All}
use Rattle.std.proofs.lemmas.List.{length-take, length-append, length-drop}
use Rattle.std.proofs.lemmas.List.FromFn.{map-range_with_len_more}
use Rattle.graph_core.specs.declared.job.Job.{Job}
use Rattle.graph_core.specs.declared.fragment.Reading.{Reading}
use Rattle.graph_core.specs.declared.fragment.Route.{Route}
use Rattle.graph_core.specs.Graphs.{count_of, number_at}
use Rattle.graph_core.specs.Parts.{FragmentLists, IsFragment}
use Rattle.graph_core.specs.Fragments.{owner, owner_of, numbers_below, owned_of, fragment_of, fragments_of}
use Rattle.graph_core.proofs.FragmentRows.{fragment_is_one}
use Rattle.graph_core.proofs.Cutting as Cutting
use Rattle.std.proofs.lemmas.List.{get_or_default}
use Rattle.fragment_cut.specs.Halves.{HalfLists, half_of, whole}
use Rattle.fragment_cut.specs.Routing.{routes_in, routes_table}
use Rattle.fragment_cut.proofs.EdgeFiles.{all_at}
use Rattle.fragment_cut.proofs.RouteTables.{half_at, halves_len, owned_routes, routes_len}

-- one more item of a list by index
pub push_more : {X : Type 0} (f : ℕ → X) (n : ℕ) (old new : List X) (x : X) → new ≡ old ++ x ∷ [] → old ≡ map f (numbers_below n) → x ≡ f n → new ≡ map f (numbers_below (n + 1))
push_more f n old new x e h g = e ∙ ap (λ l. l ++ x ∷ []) h ∙ ap (λ y. map f (numbers_below n) ++ y ∷ []) g ∙ sym (map-range_with_len_more f 0 n n (omega arith))

pub owner_is : (job : Job) (v count id found : ℕ) → found ≡ owner_of job.settings.cut job.settings.fragments id v count → count ≡ count_of job.graph → id ≡ number_at job.graph v → found ≡ owner job v
owner_is job v count id found e f g = e ∙ ap (owner_of job.settings.cut job.settings.fragments id v) f ∙ ap (λ n. owner_of job.settings.cut job.settings.fragments n v (count_of job.graph)) g

-- a vector that is lent as a slice keeps its length
pub still_long : (new items : List ℕ) (len n : ℕ) → len ≡ length items → length items ≡ n → length (take len (new ++ drop (length new) items)) ≡ n
still_long new items len n e f = omega (arith, length-take len (new ++ drop (length new) items), length-append new (drop (length new) items), length-drop (length new) items, e, f)

-- the next half is that of the next number
pub half_turn : (job : Job) (halves yielded : List HalfLists) (number : ℕ) (half : HalfLists) → halves ≡ map (half_of job) (numbers_below job.settings.fragments) → number ≡ length yielded
    → (length yielded < length halves) × (half ≡ get_or halves (length yielded) half) → (half ≡ half_of job number) × (number < job.settings.fragments)
half_turn job halves yielded number half e f h =
    let n = halves_len job halves e in
    let l = h.0 in
    let below : number < job.settings.fragments = omega (arith, n, l, f) in
    (half_at job halves number half e below (h.1 ∙ ap (λ k. get_or halves k half) (sym f)), below)

pub half_end : (job : Job) (halves yielded : List HalfLists) (number : ℕ) (made : List FragmentLists) → halves ≡ map (half_of job) (numbers_below job.settings.fragments) → number ≡ length yielded
    → length yielded ≡ length halves → made ≡ map (fragment_of job) (numbers_below number) → made ≡ fragments_of job
half_end job halves yielded number made e f g h = h ∙ ap (λ n. map (fragment_of job) (numbers_below n)) (f ∙ g ∙ halves_len job halves e)

pub half_owned_inside : (job : Job) (i : ℕ) (half : HalfLists) (rows : List (List Reading)) (owned : List ℕ) → half ≡ half_of job i → rows ≡ routes_table job → owned ≡ half.owned → All (λ v. v < length rows) owned
half_owned_inside job i half rows owned e f g =
    all_at (λ (v : ℕ). v) owned (owned_of job i) (length rows) (count_of job.graph) (g ∙ ap (λ (h : HalfLists). h.owned) e) (ap length f ∙ routes_len job) (λ k d h.
    let r = Cutting.passes (λ v. owner job v == i) 0 (count_of job.graph) k (get_or (owned_of job i) k 0) (h, refl) in
    let x = r.2 in
    let q = get_or_default (owned_of job i) k d 0 h in
    omega (arith, x, q))

pub whole_is : (job : Job) (i : ℕ) (half : HalfLists) (rows : List (List Reading)) (owned : List ℕ) (own : List (List Route)) → half ≡ half_of job i → rows ≡ routes_table job → owned ≡ half.owned → own ≡ map (routes_in rows) owned → whole half i own ≡ fragment_of job i
whole_is job i half rows owned own e f g h =
    let routes = h ∙ ap (map (routes_in rows)) (g ∙ ap (λ (x : HalfLists). x.owned) e) ∙ ap (λ t. map (routes_in t) (owned_of job i)) f ∙ owned_routes job i in
    ap (λ x. whole x i own) e ∙ ap (whole (half_of job i) i) routes

pub whole_is_one : (job : Job) (i : ℕ) (f : FragmentLists) → f ≡ fragment_of job i → IsFragment f
whole_is_one job i f e = subst IsFragment (sym e) (fragment_is_one job i)
