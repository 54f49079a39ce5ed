-- The sizes of a job's fragments, and the mail of a snapshot as posts.
use Rattle.std.proofs.Common.{◌≡◌, ℕ, ◌+◌, ◌≤◌, Bool, true, false, not, ◌||◌, ◌==◌, if◌then◌else◌, refl, sym, ◌∙◌, ap, subst, arith, List, [], ◌∷◌, ◌++◌, length, map, slice_index_or, All}
use Rattle.std.specs.List.{AllZip, list_any}
use Rattle.std.proofs.lemmas.Bool.{false≢true, true≢false}
use Rattle.std.proofs.lemmas.List.{append-nil, length-map, length-append}
use Rattle.std.proofs.lemmas.List.FromFn.{length-map-range_with_len, get_or-map-range_with_len}
use Rattle.std.proofs.lemmas.Slice.Zip.{AllZip-long}
use Rattle.value_order.specs.declared.TheConstants.{NOTHING}
use Rattle.value_order.specs.declared.order.Order.{Order}
use Rattle.graph_core.specs.declared.job.Job.{Job}
use Rattle.graph_core.specs.Graphs.{count_of, IsJob}
use Rattle.graph_core.specs.Parts.{FragmentLists, place_count}
use Rattle.graph_core.specs.Fragments.{piece_of, places, numbers_below, fragment_of, fragments_of, owned_of, mirrors_of}
use Rattle.message_buffer.specs.BufferValues.{BufferValues}
use Rattle.message_buffer.specs.Buffers.{with_batch}
use Rattle.token_cut.specs.Parts.{PartValues, SnapshotParts}
use Rattle.token_cut.specs.Shapes.{PartStarts, sizes_in}
use Rattle.token_cut.specs.CutValues.{CutValues}
use Rattle.token_cut.specs.Recording.{new_cut}
use Rattle.token_cut.proofs.Sizing.{sizes_stay}
use Rattle.pie_core.specs.Solutions.{starts_of}
use Rattle.pie_core.proofs.Starting.{few-pass}
use Rattle.base_machine.specs.Machine.{Post, system_of, is_empty, posts_from}
use Rattle.base_machine.specs.Fitness.{IsInForm, IsPartInForm}
use Rattle.base_machine.proofs.Giving.{below-length}
use Rattle.hub_engine.specs.declared.desk.Desk.{Desk}
use Rattle.hub_engine.specs.Posting.{with_posts}
use Rattle.hub_engine.specs.Openings.{IsPartFor, HasFewPlaces, IsEmptyCut, with_start_mail, new_desks}

-- ---- the fragments of a job

-- a fragment has at most as many owned places, and as many mirrors, as there are vertices
few_places : (job : Job) → IsJob job → (i : ℕ) → HasFewPlaces (fragment_of job i)
few_places job is_job i =
    let limit = is_job.graph.few_vertices in
    let owned : length (owned_of job i) ≤ count_of job.graph = few-pass _ (count_of job.graph) in
    let mirrors : length (mirrors_of job i) ≤ count_of job.graph = few-pass _ (count_of job.graph) in
    record { owned = omega (arith, owned, limit); mirrors = omega (arith, mirrors, limit) }

pub all_few : (job : Job) → IsJob job → (parts : List FragmentLists) → parts ≡ fragments_of job → All HasFewPlaces parts
all_few job is_job parts all k d h =
    let n = job.settings.fragments in
    let len : length parts ≡ n = ap length all ∙ length-map-range_with_len (fragment_of job) 0 n in
    let at : slice_index_or parts k d ≡ fragment_of job k = ap (λ ps. slice_index_or ps k d) all ∙ get_or-map-range_with_len (fragment_of job) 0 n k k d (omega (arith, h, len)) (omega arith) in
    subst HasFewPlaces (sym at) (few_places job is_job k)

part_fits : (job : Job) → IsJob job → (i : ℕ) (part : PartValues) → IsPartInForm (system_of job) (piece_of job i) part → IsPartFor (fragment_of job i) part
part_fits job is_job i part form =
    let piece = piece_of job i in
    let e = (system_of job).equations in
    let values = below-length e.order part.values (starts_of e (places piece)) form.values in
    let count = length-map (places piece) e.start in
    let all = length-append piece.owned piece.mirrors in
    let mail = AllZip-long _ part.mail (starts_of e piece.mirrors) form.mail in
    let mirrors = length-map piece.mirrors e.start in
    record { few = few_places job is_job i; values = values ∙ (count ∙ all); mail = sym mail ∙ mirrors }

parts_fit : (job : Job) → IsJob job → (is : List ℕ) (parts : List PartValues) → AllZip (IsPartInForm (system_of job)) (map (piece_of job) is) parts → AllZip IsPartFor (map (fragment_of job) is) parts
parts_fit job is_job [] [] h = tt
parts_fit job is_job [] (part ∷ parts) h = absurd h
parts_fit job is_job (i ∷ is) [] h = absurd h
parts_fit job is_job (i ∷ is) (part ∷ parts) h = (part_fits job is_job i part h.0, parts_fit job is_job is parts h.1)

-- each part of a start in the form has the sizes of its fragment
pub all_fit : (job : Job) → IsJob job → (fragments : List FragmentLists) (start : SnapshotParts) → fragments ≡ fragments_of job → IsInForm (system_of job) start → AllZip IsPartFor fragments start.parts
all_fit job is_job fragments start same form =
    subst (λ (parts : List FragmentLists). AllZip IsPartFor parts start.parts) (sym same) (parts_fit job is_job (numbers_below job.settings.fragments) start.parts form.parts)

pub few_fragments : (job : Job) → IsJob job → (fragments : List FragmentLists) → fragments ≡ fragments_of job → length fragments ≤ 64
few_fragments job is_job fragments same =
    let n = job.settings.fragments in
    let len : length fragments ≡ n = ap length same ∙ length-map-range_with_len (fragment_of job) 0 n in
    let few = is_job.settings.fragments.1 in
    omega (arith, len, few)

-- ---- the mail of a part as posts

-- there are posts where a value isn't NOTHING
pub values_are_posts : (m : ℕ) (xs : List ℕ) → list_any (λ value. not (value == NOTHING)) xs ≡ not (is_empty (posts_from m xs))
values_are_posts m [] = refl
values_are_posts m (x ∷ xs) = go (x == NOTHING) (values_are_posts (m + 1) xs)
  where
    go : (b : Bool) → list_any (λ value. not (value == NOTHING)) xs ≡ not (is_empty (posts_from (m + 1) xs)) →
        (not b || list_any (λ value. not (value == NOTHING)) xs) ≡ not (is_empty (if b then posts_from (m + 1) xs else record { mirror = m; value = x } ∷ posts_from (m + 1) xs))
    go true h = h
    go false h = refl

-- what is left where no value is one, and where some are
left_as_it_was : (posts : List Post) (old : BufferValues) → not (is_empty posts) ≡ false → old ≡ (if is_empty posts then old else with_posts false posts (with_batch false old))
left_as_it_was [] old h = refl
left_as_it_was (p ∷ posts) old h = absurd (true≢false h)

posted_once : (posts : List Post) (old : BufferValues) → not (is_empty posts) ≡ true → with_posts false posts (with_batch false old) ≡ (if is_empty posts then old else with_posts false posts (with_batch false old))
posted_once [] old h = absurd (false≢true h)
posted_once (p ∷ posts) old h = refl

pub no_start_mail : (mail : List ℕ) (old : BufferValues) → list_any (λ value. not (value == NOTHING)) mail ≡ false → old ≡ with_start_mail mail old
no_start_mail mail old h = left_as_it_was (posts_from 0 mail) old (sym (values_are_posts 0 mail) ∙ h)

pub start_mail : (mail : List ℕ) (old begun new : BufferValues) → list_any (λ value. not (value == NOTHING)) mail ≡ true → begun ≡ with_batch false old → new ≡ with_posts false (posts_from 0 mail) begun → new ≡ with_start_mail mail old
start_mail mail old begun new h first second =
    second ∙ (ap (λ (b : BufferValues). with_posts false (posts_from 0 mail) b) first ∙ posted_once (posts_from 0 mail) old (sym (values_are_posts 0 mail) ∙ h))

-- ---- the desks

-- none is left to make
pub no_fragments_left : (order : Order) (counters : ℕ) (fragments : List FragmentLists) (parts : List PartValues) (made all : List Desk) → fragments ≡ [] → made ++ new_desks order counters fragments parts ≡ all → made ≡ all
no_fragments_left order counters fragments parts made all none h = sym (append-nil made) ∙ (ap (λ (l : List FragmentLists). made ++ new_desks order counters l parts) (sym none) ∙ h)

no_desks : (order : Order) (counters : ℕ) (fragments : List FragmentLists) → new_desks order counters fragments [] ≡ []
no_desks order counters [] = refl
no_desks order counters (f ∷ fragments) = refl

pub no_parts_left : (order : Order) (counters : ℕ) (fragments : List FragmentLists) (parts : List PartValues) (made all : List Desk) → parts ≡ [] → made ++ new_desks order counters fragments parts ≡ all → made ≡ all
no_parts_left order counters fragments parts made all none h =
    sym (append-nil made) ∙ (ap (λ (l : List Desk). made ++ l) (sym (no_desks order counters fragments)) ∙ (ap (λ (l : List PartValues). made ++ new_desks order counters fragments l) (sym none) ∙ h))

-- ---- the recording

pub cut_is_empty : (every : ℕ) (order : Order) (fragments : List FragmentLists) (shape : List PartStarts) → (1 ≤ every → sizes_in shape ≡ map (λ part. (place_count part, length part.mirrors)) fragments) → (cut : CutValues) → cut ≡ new_cut (record { order = order; parts = shape }) →
    IsEmptyCut every order fragments cut
cut_is_empty every order fragments shape sizes cut is =
    subst (IsEmptyCut every order fragments) (sym is) (record { meets = refl; closed = refl; sizes = λ h. sizes_stay.new (record { order = order; parts = shape }) ∙ sizes h })
