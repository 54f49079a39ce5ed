use Rattle.graph_core.specs.declared.query.Query.{Query}
use Rattle.graph_core.specs.declared.query.Query.TheVariants.{Dist, Label, Reach, Sim}
use Rattle.graph_core.specs.declared.settings.Settings.{Settings}
use Rattle.graph_core.specs.declared.job.Job.{Job}
use Rattle.graph_core.specs.Digraph.{Digraph}
use Rattle.graph_core.specs.Graphs.{IsGraph}
use Rattle.graph_core.specs.Queries.{equations_of}
use Rattle.graph_core.proofs.Labels.{label-meaning}
use Rattle.pie_flood.specs.FloodJobs.{AsksLabels}
use Rattle.pie_flood.specs.Laws.{GiveLeastJoined}
use Rattle.pie_flood.proofs.laws.label_equations.Goals as goal

by_query : (g : Digraph) (settings : Settings) (q : Query) → IsGraph g → AsksLabels q → let job : Job = record { graph = g; query = q; settings = settings } in GiveLeastJoined (equations_of job) job
by_query g settings (Dist source) h asks = absurd asks
by_query g settings Label h asks = label-meaning g h
by_query g settings (Reach source) h asks = absurd asks
by_query g settings (Sim pattern) h asks = absurd asks

pub returns : goal.returns
returns c = λ job is_for. by_query job.graph job.settings job.query is_for.0.graph is_for.1
