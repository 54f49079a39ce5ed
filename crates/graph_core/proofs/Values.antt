-- The greatest solution of a query's equations is what the query means.
use Rattle.std.proofs.Common.{ℕ, ◌≡◌, ◌<◌}
use Rattle.graph_core.specs.declared.query.Query.{Query}
use Rattle.graph_core.specs.declared.query.Query.TheVariants.{Dist, Label, Reach, Sim}
use Rattle.graph_core.specs.declared.job.Job.{Job}
use Rattle.graph_core.specs.Digraph.{Digraph}
use Rattle.graph_core.specs.Graphs.{count_of, IsGraph, IsQuery, IsJob}
use Rattle.graph_core.specs.Meaning.{AreValues}
use Rattle.graph_core.specs.Equations.{Assignment}
use Rattle.graph_core.specs.Queries.{equations_of}
use Rattle.graph_core.specs.Theorems.{GreatestIsValues, GreatestIsMeaning}
use Rattle.graph_core.proofs.Greatest.{greatest_is_there, greatest_is_one}
use Rattle.graph_core.proofs.Lawful.{lawful}
use Rattle.graph_core.proofs.Labels.{label-meaning}
use Rattle.graph_core.proofs.Reaches.{reach-meaning}
use Rattle.graph_core.proofs.Distances.{distance-meaning}
use Rattle.graph_core.proofs.Simulations.{simulation-meaning}

meaning : (g : Digraph) (q : Query) → IsGraph g → IsQuery q → GreatestIsValues g q
meaning g (Dist source) h k = distance-meaning g source h
meaning g Label h k = label-meaning g h
meaning g (Reach source) h k = reach-meaning g source h
meaning g (Sim pattern) h k = simulation-meaning g pattern h k

pub job-meaning : (job : Job) → IsJob job → GreatestIsMeaning job
job-meaning job h = meaning job.graph job.query h.graph h.query

pub values_there : (job : Job) → IsJob job → (x : Assignment) × AreValues job x
values_there job h =
    let r = greatest_is_there (equations_of job) (lawful job.graph job.query h.graph) in
    (r.0, (job-meaning job h r.0).0 r.1)

pub values_one : (job : Job) (x y : Assignment) → IsJob job → AreValues job x → AreValues job y → (v : ℕ) → v < count_of job.graph → x v ≡ y v
values_one job x y h a b = greatest_is_one (equations_of job) (lawful job.graph job.query h.graph) x y ((job-meaning job h x).1 a) ((job-meaning job h y).1 b)
