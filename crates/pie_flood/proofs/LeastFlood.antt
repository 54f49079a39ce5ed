-- The equations of labels and of reachability are least equations, in which a reading costs nothing.
use Rattle.std.proofs.Common.{[], ◌∷◌, map, refl, ◌∙◌, ap}
use Rattle.graph_core.specs.declared.query.Query.{Query}
use Rattle.graph_core.specs.declared.query.Query.TheVariants.{Dist, Label, Reach, Sim}
use Rattle.graph_core.specs.declared.settings.Settings.{Settings}
use Rattle.graph_core.specs.declared.job.Job.{Job}
use Rattle.graph_core.specs.Digraph.{Digraph}
use Rattle.graph_core.specs.Graphs.{number_at, IsJob}
use Rattle.graph_core.specs.Queries.{Read, least_of, start_value, reads_of}
use Rattle.pie_lowering.specs.LeastEquations.{no_cost, IsLeastJob}
use Rattle.pie_lowering.proofs.LeastJobs.{zero-least, costs-nothing, least-job}
use Rattle.pie_flood.specs.FloodJobs.{AsksLabels, IsLabelJob, AsksReachability, IsReachJob}

labels_by : (g : Digraph) (settings : Settings) (q : Query) → AsksLabels q → let job : Job = record { graph = g; query = q; settings = settings } in IsJob job → IsLeastJob no_cost job
labels_by g settings (Dist source) h is_job = absurd h
labels_by g settings Label h is_job =
    let job : Job = record { graph = g; query = Label; settings = settings } in
    least-job no_cost job is_job refl (λ v x. ap (least_of (number_at g v)) (costs-nothing x (reads_of g Label v)))
labels_by g settings (Reach source) h is_job = absurd h
labels_by g settings (Sim pattern) h is_job = absurd h

pub label-least : (job : Job) → IsLabelJob job → IsLeastJob no_cost job
label-least job is_for = labels_by job.graph job.settings job.query is_for.1 is_for.0

reach_by : (g : Digraph) (settings : Settings) (q : Query) → AsksReachability q → let job : Job = record { graph = g; query = q; settings = settings } in IsJob job → IsLeastJob no_cost job
reach_by g settings (Dist source) h is_job = absurd h
reach_by g settings Label h is_job = absurd h
reach_by g settings (Reach source) h is_job =
    let job : Job = record { graph = g; query = Reach source; settings = settings } in
    least-job no_cost job is_job refl
    (λ v x. zero-least g (source ∷ []) v 1 (map (λ (r : Read). x r.vertex) (reads_of g (Reach source) v)) ∙ ap (least_of (start_value g (Reach source) v)) (costs-nothing x (reads_of g (Reach source) v)))
reach_by g settings (Sim pattern) h is_job = absurd h

pub reach-least : (job : Job) → IsReachJob job → IsLeastJob no_cost job
reach-least job is_for = reach_by job.graph job.settings job.query is_for.1 is_for.0
