-- The equations of distances are least equations, in which a reading costs the weight.
use Rattle.std.proofs.Common.{◌+◌, [], ◌∷◌, map, refl}
use Rattle.graph_core.specs.declared.query.Query.{Query}
use Rattle.graph_core.specs.declared.query.Query.TheVariants.{Dist, Label, Reach, Sim}
use Rattle.graph_core.specs.declared.settings.Settings.{Settings}
use Rattle.graph_core.specs.declared.job.Job.{Job}
use Rattle.graph_core.specs.declared.TheConstants.{FAR}
use Rattle.graph_core.specs.Digraph.{Digraph}
use Rattle.graph_core.specs.Graphs.{IsJob}
use Rattle.graph_core.specs.Queries.{Read, reads_of}
use Rattle.pie_lowering.specs.LeastEquations.{whole_weight, IsLeastJob}
use Rattle.pie_lowering.proofs.LeastJobs.{zero-least, least-job}
use Rattle.pie_dist.specs.DistJobs.{AsksDistances, IsDistJob}

by_query : (g : Digraph) (settings : Settings) (q : Query) → AsksDistances q → let job : Job = record { graph = g; query = q; settings = settings } in IsJob job → IsLeastJob whole_weight job
by_query g settings (Dist source) h is_job =
    let job : Job = record { graph = g; query = Dist source; settings = settings } in
    least-job whole_weight job is_job refl (λ v x. zero-least g (source ∷ []) v FAR (map (λ (r : Read). x r.vertex + r.weight) (reads_of g (Dist source) v)))
by_query g settings Label h is_job = absurd h
by_query g settings (Reach source) h is_job = absurd h
by_query g settings (Sim pattern) h is_job = absurd h

pub dist-least : (job : Job) → IsDistJob job → IsLeastJob whole_weight job
dist-least job is_for = by_query job.graph job.settings job.query is_for.1 is_for.0
