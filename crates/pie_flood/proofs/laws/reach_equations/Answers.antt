use Rattle.graph_core.specs.declared.query.Query.{Query}
use Rattle.graph_core.specs.declared.query.Query.TheVariants.{Dist, Label, Reach, Sim}
use Rattle.graph_core.specs.declared.settings.Settings.{Settings}
use Rattle.graph_core.specs.declared.job.Job.{Job}
use Rattle.graph_core.specs.Digraph.{Digraph}
use Rattle.graph_core.specs.Graphs.{IsGraph}
use Rattle.graph_core.specs.Queries.{equations_of}
use Rattle.graph_core.proofs.Reaches.{reach-meaning}
use Rattle.pie_flood.specs.Laws.{GiveReached}
use Rattle.pie_flood.proofs.laws.reach_equations.Goals as goal

by_query : (g : Digraph) (settings : Settings) (q : Query) → IsGraph g → let job : Job = record { graph = g; query = q; settings = settings } in GiveReached (equations_of job) job q
by_query g settings (Dist source) h = tt
by_query g settings Label h = tt
by_query g settings (Reach source) h = reach-meaning g source h
by_query g settings (Sim pattern) h = tt

pub returns : goal.returns
returns c = λ job is_for. by_query job.graph job.settings job.query is_for.0.graph
