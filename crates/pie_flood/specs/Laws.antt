-- What the equations of labels and of reachability ask for, as statements.
use Rattle.std.specs.Prelude.{ℕ, ◌<◌, ◌↔◌, [], ◌∷◌, ⊤}
use Rattle.graph_core.specs.declared.query.Query.{Query}
use Rattle.graph_core.specs.declared.query.Query.TheVariants.{Dist, Label, Reach, Sim}
use Rattle.graph_core.specs.declared.job.Job.{Job}
use Rattle.graph_core.specs.Graphs.{count_of}
use Rattle.graph_core.specs.Meaning.{IsLeastJoined, IsReached}
use Rattle.graph_core.specs.Equations.{Assignment, Equations, IsGreatest}

-- an assignment is the greatest solution exactly where it gives each vertex the least number of a vertex that is joined to it
abbrev pub GiveLeastJoined : Equations → Job → Type 0
GiveLeastJoined e job = (x : Assignment) → IsGreatest e x ↔ ((v : ℕ) → v < count_of job.graph → IsLeastJoined job.graph v (x v))

-- an assignment is the greatest solution exactly where it is 0 at the vertices that a walk from the source leads to, and else 1
abbrev pub GiveReached : Equations → Job → Query → Type 0
GiveReached e job (Reach source) = (x : Assignment) → IsGreatest e x ↔ ((v : ℕ) → v < count_of job.graph → IsReached job.graph (source ∷ []) v (x v))
GiveReached e job (Dist source) = ⊤
GiveReached e job Label = ⊤
GiveReached e job (Sim pattern) = ⊤
