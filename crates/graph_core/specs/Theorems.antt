-- The laws of a query's equations, and of the fragments of its job.
use Rattle.std.specs.Prelude.{◌≡◌, ℕ, ◌+◌, ◌<◌, ◌≤◌, ◌↔◌, ◌==◌, ◌&&◌, List, [], length, slice_index_or, count_by, Contains, IsTrue}
use Rattle.value_order.specs.Order.{Below}
use Rattle.graph_core.specs.declared.pattern.PatternLink.{PatternLink}
use Rattle.graph_core.specs.declared.fragment.Reading.{Reading}
use Rattle.graph_core.specs.declared.query.Query.{Query}
use Rattle.graph_core.specs.declared.query.Query.TheVariants.{Dist, Label, Reach, Sim}
use Rattle.graph_core.specs.declared.job.Job.{Job}
use Rattle.graph_core.specs.Digraph.{Digraph}
use Rattle.graph_core.specs.Graphs.{count_of}
use Rattle.graph_core.specs.Meaning.{IsValueOf, AreValues}
use Rattle.graph_core.specs.Equations.{Assignment, IsGreatest}
use Rattle.graph_core.specs.Queries.{Read, has_bit, order_of, start_value, reads_of, equations_on, equations_of}
use Rattle.graph_core.specs.Parts.{FragmentLists, place_count}

-- The greatest solution of a query's equations, and nothing else, has the query's value at each vertex.
abbrev pub GreatestIsValues : Digraph → Query → Type 0
GreatestIsValues g q = (x : Assignment) → IsGreatest (equations_on g q) x ↔ ((v : ℕ) → v < count_of g → IsValueOf g q v (x v))

-- the same of a job
abbrev pub GreatestIsMeaning : Job → Type 0
GreatestIsMeaning job = (x : Assignment) → IsGreatest (equations_of job) x ↔ AreValues job x

-- What the rule of a query asks of the value of v beside the start: no vertex that it reads allows less, or some vertex
-- that it reads meets each link of each of its nodes.
abbrev pub MeetsRule : Digraph → Query → ℕ → Assignment → Type 0
MeetsRule g (Dist source) v x = (r : Read) → Contains (reads_of g (Dist source) v) r → x v ≤ x r.vertex + r.weight
MeetsRule g Label v x = (r : Read) → Contains (reads_of g Label v) r → x v ≤ x r.vertex
MeetsRule g (Reach source) v x = (r : Read) → Contains (reads_of g (Reach source) v) r → x v ≤ x r.vertex
MeetsRule g (Sim pattern) v x =
    (link : PatternLink) → Contains pattern.links link → IsTrue (has_bit (x v) link.from) → (r : Read) × Contains (reads_of g (Sim pattern) v) r × IsTrue (has_bit (x r.vertex) link.to)

-- Below its start, a value lies below its equation exactly where it meets the rule.
abbrev pub BelowStartsRulesDecide : Digraph → Query → Type 0
BelowStartsRulesDecide g q =
    (v : ℕ) (x : Assignment) → Below (order_of q) (x v) (start_value g q v) → Below (order_of q) (x v) ((equations_on g q).phi v x) ↔ MeetsRule g q v x

-- how often a row has a reading of this place and this weight
abbrev pub times_in : List Reading → ℕ → ℕ → ℕ
times_in row place weight = count_by (λ r. (r.place == place) && (r.weight == weight)) row

-- Place p stands among the readers of place q as often as it reads q, by each weight.
abbrev pub ReadersAreTurnedReadings : FragmentLists → Type 0
ReadersAreTurnedReadings part =
    (p q weight : ℕ) → p < length part.owned → q < place_count part → times_in (slice_index_or part.readers q []) p weight ≡ times_in (slice_index_or part.readings p []) q weight
