-- The places of a job's fragments are vertices of the job, and few.
use Rattle.std.proofs.Common.{◌≡◌, ℕ, ◌<◌, ◌≤◌, sym, ◌∙◌, ap, subst, arith, List, [], ◌∷◌, length, map, take, slice_index_or, All}
use Rattle.std.specs.List.{AllByRecursion}
use Rattle.std.proofs.lemmas.List.{length-map, take_all}
use Rattle.std.proofs.lemmas.List.Elements.{All-filter}
use Rattle.std.proofs.lemmas.List.FromFn.{length-range_with_len, get_or-range_with_len, length-map-range_with_len, get_or-map-range_with_len}
use Rattle.value_order.specs.declared.order.Order.{Order}
use Rattle.graph_core.specs.declared.job.Job.{Job}
use Rattle.graph_core.specs.Graphs.{count_of, IsJob}
use Rattle.graph_core.specs.Parts.{FragmentLists}
use Rattle.graph_core.specs.Queries.{equations_of}
use Rattle.graph_core.specs.Fragments.{numbers_below, owned_of, mirrors_of, fragment_of, fragments_of}
use Rattle.pie_core.proofs.Starting.{few-pass}
use Rattle.token_cut.specs.Shapes.{PartStarts, IsPartShape, IsShape}
use Rattle.coordinator.specs.Shapes.{starts_in, shape_of}

pub numbers_inside : (n : ℕ) → All (λ v. v < n) (numbers_below n)
numbers_inside n k d h = let l = length-range_with_len 0 n in let at = get_or-range_with_len 0 n k d (omega (arith, h, l)) in omega (arith, at, h, l)

few_owned : (job : Job) (i : ℕ) → length (owned_of job i) ≤ count_of job.graph
few_owned job i = few-pass _ (count_of job.graph)

few_mirrors : (job : Job) (i : ℕ) → length (mirrors_of job i) ≤ count_of job.graph
few_mirrors job i = few-pass _ (count_of job.graph)

-- ---- one fragment of a list of them

module _ (job : Job) (parts : List FragmentLists) (k : ℕ) (part : FragmentLists) (all : parts ≡ fragments_of job) (inside : k < length parts) (here : part ≡ slice_index_or parts k part) where
  part_is : part ≡ fragment_of job k
  part_is =
      let n = job.settings.fragments in
      let len : length parts ≡ n = ap length all ∙ length-map-range_with_len (fragment_of job) 0 n in
      here ∙ (ap (λ ps. slice_index_or ps k part) all ∙ get_or-map-range_with_len (fragment_of job) 0 n k k part (omega (arith, inside, len)) (omega arith))

  pub owned_inside : All (λ v. v < count_of job.graph) part.owned
  owned_inside = subst (λ (p : FragmentLists). All (λ v. v < count_of job.graph) p.owned) (sym part_is) (All-filter _ (λ v. v < count_of job.graph) (numbers_below (count_of job.graph)) (numbers_inside (count_of job.graph)))

  pub mirrors_inside : All (λ v. v < count_of job.graph) part.mirrors
  mirrors_inside = subst (λ (p : FragmentLists). All (λ v. v < count_of job.graph) p.mirrors) (sym part_is) (All-filter _ (λ v. v < count_of job.graph) (numbers_below (count_of job.graph)) (numbers_inside (count_of job.graph)))

-- ---- the limits

part_in_limits : (job : Job) → IsJob job → (i : ℕ) → IsPartShape (starts_in job (fragment_of job i))
part_in_limits job is i =
    let most = is.graph.few_vertices in
    let owned = length-map (owned_of job i) (equations_of job).start in
    let mirrors = length-map (mirrors_of job i) (equations_of job).start in
    record { few_owned = omega (arith, owned, most, few_owned job i); few_mirrors = omega (arith, mirrors, most, few_mirrors job i) }

parts_in_limits : (job : Job) → IsJob job → (is : List ℕ) → AllByRecursion IsPartShape (map (starts_in job) (map (fragment_of job) is))
parts_in_limits job h [] = tt
parts_in_limits job h (i ∷ is) = (part_in_limits job h i, parts_in_limits job h is)

pub in_limits : (job : Job) → IsJob job → IsShape (shape_of job)
in_limits job is =
    let few = is.settings.fragments.1 in
    let a = length-map (fragments_of job) (starts_in job) in
    let b = length-map-range_with_len (fragment_of job) 0 job.settings.fragments in
    record { few = omega (arith, few, a, b); parts = parts_in_limits job is (numbers_below job.settings.fragments) }

-- the start values of all fragments are a shape, whatever the order
pub whole_in_limits : (job : Job) (fragments : List FragmentLists) (order : Order) (parts : List PartStarts) (k : ℕ) → IsJob job → fragments ≡ fragments_of job → length fragments ≤ k → parts ≡ map (starts_in job) (take k fragments) →
    IsShape (record { order = order; parts = parts })
whole_in_limits job fragments order parts k is all past made =
    let same : parts ≡ map (starts_in job) (fragments_of job) = made ∙ (ap (map (starts_in job)) (take_all k fragments past) ∙ ap (map (starts_in job)) all) in
    let limits = in_limits job is in
    subst (λ ps. IsShape (record { order = order; parts = ps })) (sym same) (record { few = limits.few; parts = limits.parts })
