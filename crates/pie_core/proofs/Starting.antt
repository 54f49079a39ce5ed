-- A fragment of a job that is loaded with its start values is ready to be evaluated.
use Rattle.std.proofs.Common.{◌≡◌, ℕ, ◌+◌, ◌*◌, ◌^◌, ◌<◌, ◌≤◌, Bool, refl, sym, ◌∙◌, ap, subst, arith, List, ◌++◌, length, filter, slice_index, slice_index_or}
use Rattle.std.proofs.lemmas.List.{get_or_default, length-append, length-map, length-replicate, length-take-le}
use Rattle.std.proofs.lemmas.List.Sums.{length-filter, count_by-le-length}
use Rattle.std.proofs.lemmas.List.FromFn.{length-range_with_len, length-map-range_with_len, get_or-map-range_with_len}
use Rattle.graph_core.specs.declared.job.Job.{Job}
use Rattle.graph_core.specs.Graphs.{count_of, IsJob}
use Rattle.graph_core.specs.Parts.{FragmentLists, place_count}
use Rattle.graph_core.specs.Equations.{Equations}
use Rattle.graph_core.specs.Queries.{equations_of}
use Rattle.graph_core.specs.Fragments.{numbers_below, owned_of, mirrors_of, fragment_of, fragments_of}
use Rattle.graph_core.proofs.Cutting.{stands_left, stands_right}
use Rattle.pie_core.specs.Locals.{LocalValues}
use Rattle.pie_core.specs.LocalCalls.{new_local, loaded}
use Rattle.pie_core.specs.Solutions.{AllBelow, IsReadyFor, starts_of}
use Rattle.pie_core.proofs.Lists.{AllBelow-refl}
use Rattle.pie_core.proofs.Bridge.{place_inside}

-- ---- the vertices of a fragment are the job's, and few

pub owned-inside : (job : Job) → IsJob job → (part : FragmentLists) (us : List ℕ) → part.number < job.settings.fragments → part ≡ fragment_of job part.number → us ≡ part.owned → (k d : ℕ) → k < length us → slice_index_or us k d < count_of job.graph
owned-inside job is_job part us small is_part same k d h =
    let i = part.number in
    let vs = owned_of job i in
    let all : us ≡ vs = same ∙ ap (λ (p : FragmentLists). p.owned) is_part in
    let l : k < length vs = omega (arith, h, ap length all) in
    let there = stands_left vs (mirrors_of job i) k (slice_index vs k) (l, refl) in
    omega (arith, place_inside job i is_job small k there.0, there.1, ap (λ xs. slice_index_or xs k d) all, get_or_default vs k d 0 l)

pub mirrors-inside : (job : Job) → IsJob job → (part : FragmentLists) (us : List ℕ) → part.number < job.settings.fragments → part ≡ fragment_of job part.number → us ≡ part.mirrors → (k d : ℕ) → k < length us → slice_index_or us k d < count_of job.graph
mirrors-inside job is_job part us small is_part same k d h =
    let i = part.number in
    let vs = mirrors_of job i in
    let all : us ≡ vs = same ∙ ap (λ (p : FragmentLists). p.mirrors) is_part in
    let l : k < length vs = omega (arith, h, ap length all) in
    let there = stands_right (owned_of job i) vs k (slice_index vs k) (l, refl) in
    omega (arith, place_inside job i is_job small (length (owned_of job i) + k) there.0, there.1, ap (λ xs. slice_index_or xs k d) all, get_or_default vs k d 0 l)

-- of the numbers below n at most n pass a test
pub few-pass : (test : ℕ → Bool) (n : ℕ) → length (filter test (numbers_below n)) ≤ n
few-pass test n = omega (arith, length-filter test (numbers_below n), count_by-le-length test (numbers_below n), length-range_with_len 0 n)

-- a fragment of a job has no more places than two for each vertex
pub few-places : (job : Job) → IsJob job → (part : FragmentLists) → part ≡ fragment_of job part.number → place_count part < 2 ^ 32
few-places job is_job part is_part =
    let n = count_of job.graph in
    let same = ap (λ (p : FragmentLists). place_count p) is_part in
    let owned : length (owned_of job part.number) ≤ n = few-pass _ n in
    let mirrors : length (mirrors_of job part.number) ≤ n = few-pass _ n in
    let few = is_job.graph.few_vertices in
    omega (arith, same, owned, mirrors, few)

-- ---- the values at the start

pub loaded-ready : (e : Equations) (job : Job) (part : FragmentLists) (made local : LocalValues) (counters n : ℕ) (starts : List ℕ) → e ≡ equations_of job → part.number < job.settings.fragments → part ≡ fragment_of job part.number →
    starts ≡ starts_of (equations_of job) (part.owned ++ part.mirrors) → made ≡ new_local (length part.owned) (length part.mirrors) counters → counters ≡ n → local ≡ loaded made starts → IsReadyFor e job part local n
loaded-ready e job part made local counters n starts same number is_part is_start is_made is_count is_local =
    let places = part.owned ++ part.mirrors in
    let all : local.values ≡ starts_of e places = ap (λ (l : LocalValues). l.values) is_local ∙ is_start ∙ ap (λ x. starts_of x places) (sym same) in
    let owned : length made.before ≡ length part.owned = ap (λ (l : LocalValues). length l.before) is_made ∙ length-replicate (length part.owned) 0 in
    let count : length starts ≡ length places = ap length is_start ∙ length-map places (equations_of job).start in
    let both = length-append part.owned part.mirrors in
    let kept = length-take-le (length made.before) starts (omega (arith, owned, count, both)) in
    let before = ap (λ (l : LocalValues). length l.before) is_local in
    record {
      number = number;
      is_part = is_part;
      below_start = subst (λ xs. AllBelow e.order xs (starts_of e places)) (sym all) (AllBelow-refl e.order (starts_of e places));
      owned = before ∙ kept ∙ owned;
      room = ap (λ (l : LocalValues). length l.counters) is_local ∙ ap (λ (l : LocalValues). length l.counters) is_made ∙ length-replicate (length part.owned * counters) 0 ∙ ap (λ m. length part.owned * m) is_count;
    }

-- ---- the fragments of a job, one by one

pub part-count : (job : Job) (parts : List FragmentLists) → parts ≡ fragments_of job → length parts ≡ job.settings.fragments
part-count job parts all = ap length all ∙ length-map-range_with_len (fragment_of job) 0 job.settings.fragments

pub nth-part : (job : Job) (parts : List FragmentLists) (i : ℕ) (part : FragmentLists) → parts ≡ fragments_of job → i < length parts → part ≡ slice_index_or parts i part → (part.number < job.settings.fragments) × (part ≡ fragment_of job part.number)
nth-part job parts i part all inside here =
    let n = job.settings.fragments in
    let small : i < n = omega (arith, inside, part-count job parts all) in
    let at : part ≡ fragment_of job i = here ∙ ap (λ ps. slice_index_or ps i part) all ∙ get_or-map-range_with_len (fragment_of job) 0 n i i part small (omega arith) in
    let number : part.number ≡ i = ap (λ (p : FragmentLists). p.number) at in
    (omega (arith, small, number), at ∙ ap (fragment_of job) (sym number))
