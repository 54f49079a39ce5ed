-- The jobs that ask for distances.
use Rattle.std.specs.Prelude.{⊤}
use Rattle.graph_core.specs.declared.query.Query.{Query}
use Rattle.graph_core.specs.declared.query.Query.TheVariants.{Dist, Label, Reach, Sim}
use Rattle.graph_core.specs.declared.job.Job.{Job}
use Rattle.graph_core.specs.Graphs.{IsJob}

abbrev pub AsksDistances : Query → Type 0
AsksDistances (Dist source) = ⊤
AsksDistances Label = ⊥
AsksDistances (Reach source) = ⊥
AsksDistances (Sim pattern) = ⊥

abbrev pub IsDistJob : Job → Type 0
IsDistJob job = IsJob job × AsksDistances job.query
