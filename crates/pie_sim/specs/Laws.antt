-- What the equations of a simulation ask for, as a statement.
use Rattle.std.specs.Prelude.{ℕ, ◌<◌, ◌↔◌, ⊤}
use Rattle.graph_core.specs.declared.query.Query.{Query}
use Rattle.graph_core.specs.declared.query.Query.TheVariants.{Dist, Label, Reach, Sim}
use Rattle.graph_core.specs.declared.job.Job.{Job}
use Rattle.graph_core.specs.Graphs.{count_of}
use Rattle.graph_core.specs.Meaning.{AreSimulated}
use Rattle.graph_core.specs.Equations.{Assignment, Equations, IsGreatest}

-- an assignment is the greatest solution exactly where the bits of each vertex are the nodes that some simulation relates to it
abbrev pub GiveSimulated : Equations → Job → Query → Type 0
GiveSimulated e job (Dist source) = ⊤
GiveSimulated e job Label = ⊤
GiveSimulated e job (Reach source) = ⊤
GiveSimulated e job (Sim pattern) = (x : Assignment) → IsGreatest e x ↔ ((v : ℕ) → v < count_of job.graph → AreSimulated job.graph pattern v (x v))
