use Rattle.graph_core.specs.declared.query.Query.{Query}
use Rattle.graph_core.specs.declared.query.Query.TheVariants.{Dist, Label, Reach, Sim}
use Rattle.graph_core.specs.declared.settings.Settings.{Settings}
use Rattle.graph_core.specs.declared.job.Job.{Job}
use Rattle.graph_core.specs.Digraph.{Digraph}
use Rattle.graph_core.specs.Graphs.{IsGraph, IsQuery}
use Rattle.graph_core.specs.Queries.{equations_of}
use Rattle.graph_core.proofs.Simulations.{simulation-meaning}
use Rattle.pie_sim.specs.Laws.{GiveSimulated}
use Rattle.pie_sim.proofs.laws.sim_equations.Goals as goal

by_query : (g : Digraph) (settings : Settings) (q : Query) → IsGraph g → IsQuery q → let job : Job = record { graph = g; query = q; settings = settings } in GiveSimulated (equations_of job) job q
by_query g settings (Dist source) h k = tt
by_query g settings Label h k = tt
by_query g settings (Reach source) h k = tt
by_query g settings (Sim pattern) h k = simulation-meaning g pattern h k

pub returns : goal.returns
returns c = λ job is_for. by_query job.graph job.settings job.query is_for.is_job.graph is_for.is_job.query
