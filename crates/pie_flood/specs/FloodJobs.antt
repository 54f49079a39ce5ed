-- The jobs that ask for labels, and those that ask for reachability.
use Rattle.std.specs.Prelude.{⊤}
use Rattle.graph_core.specs.declared.query.Query.{Query}
use Rattle.graph_core.specs.declared.query.Query.TheVariants.{Dist, Label, Reach, Sim}
use Rattle.graph_core.specs.declared.job.Job.{Job}
use Rattle.graph_core.specs.Graphs.{IsJob}

abbrev pub AsksLabels : Query → Type 0
AsksLabels (Dist source) = ⊥
AsksLabels Label = ⊤
AsksLabels (Reach source) = ⊥
AsksLabels (Sim pattern) = ⊥

abbrev pub IsLabelJob : Job → Type 0
IsLabelJob job = IsJob job × AsksLabels job.query

abbrev pub AsksReachability : Query → Type 0
AsksReachability (Dist source) = ⊥
AsksReachability Label = ⊥
AsksReachability (Reach source) = ⊤
AsksReachability (Sim pattern) = ⊥

abbrev pub IsReachJob : Job → Type 0
IsReachJob job = IsJob job × AsksReachability job.query
