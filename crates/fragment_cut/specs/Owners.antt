-- Owners of vertices, and where vertices stand in a list.
use Rattle.std.specs.Prelude.{◌≡◌, ℕ, List, map}
use Rattle.graph_core.specs.declared.job.Job.{Job}
use Rattle.graph_core.specs.Graphs.{count_of}
use Rattle.graph_core.specs.Fragments.{owner, numbers_below, StandsAt}

-- the owner of each vertex, by index
abbrev pub owners_of : Job → List ℕ
owners_of job = map (owner job) (numbers_below (count_of job.graph))

abbrev pub StandsNowhere : List ℕ → ℕ → Type 0
StandsNowhere vs v = (k : ℕ) → StandsAt vs k v → ⊥

-- no vertex stands at two places
abbrev pub StandOnce : List ℕ → Type 0
StandOnce vs = (j k v : ℕ) → StandsAt vs j v → StandsAt vs k v → j ≡ k
