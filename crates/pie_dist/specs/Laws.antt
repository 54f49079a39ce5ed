-- What the equations of distances ask for, as a statement.
use Rattle.std.specs.Prelude.{ℕ, ◌<◌, ◌↔◌, [], ◌∷◌, ⊤}
use Rattle.graph_core.specs.declared.query.Query.{Query}
use Rattle.graph_core.specs.declared.query.Query.TheVariants.{Dist, Label, Reach, Sim}
use Rattle.graph_core.specs.declared.job.Job.{Job}
use Rattle.graph_core.specs.Graphs.{count_of}
use Rattle.graph_core.specs.Meaning.{IsDistance}
use Rattle.graph_core.specs.Equations.{Assignment, Equations, IsGreatest}

-- an assignment is the greatest solution exactly where it gives each vertex its distance
abbrev pub GiveDistances : Equations → Job → Query → Type 0
GiveDistances e job (Dist source) = (x : Assignment) → IsGreatest e x ↔ ((v : ℕ) → v < count_of job.graph → IsDistance job.graph (source ∷ []) v (x v))
GiveDistances e job Label = ⊤
GiveDistances e job (Reach source) = ⊤
GiveDistances e job (Sim pattern) = ⊤
