use Rattle.std.proofs.Common.{◌≡◌, ◌∙◌, List, subst}
use Rattle.std.specs.Prelude.{IfOk}
use Rattle.graph_core.specs.declared.fragment.Reading.{Reading}
use Rattle.fragment_cut.proofs.EdgeRows.{dist_readers, reach_readers, label_readers, sim_readers}
use Rattle.fragment_cut.proofs.reads.readers_table.Goals as goal

pub returns-in-Dist : goal.returns-in-Dist
returns-in-Dist c =
    let job = c.args.job.now in
    subst (λ (t : List (List Reading)). IfOk c.targets_table.result (λ made. made ≡ t)) (dist_readers job.graph c.requires.graph job.query c.in-Dist.field-0 c.in-Dist.is) c.targets_table.ensures

pub returns-in-Reach : goal.returns-in-Reach
returns-in-Reach c =
    let job = c.args.job.now in
    subst (λ (t : List (List Reading)). IfOk c.targets_table-in-Reach.result (λ made. made ≡ t)) (reach_readers job.graph c.requires.graph job.query c.in-Reach.field-0 c.in-Reach.is) c.targets_table-in-Reach.ensures

pub returns-in-Label : goal.returns-in-Label
returns-in-Label c =
    let job = c.args.job.now in
    subst (λ (t : List (List Reading)). IfOk c.copy_of.result (λ made. made ≡ t)) (c.requires.reads ∙ label_readers job.graph c.requires.graph job.query c.in-Label.is) c.copy_of.ensures

pub returns-in-Sim : goal.returns-in-Sim
returns-in-Sim c =
    let job = c.args.job.now in
    subst (λ (t : List (List Reading)). IfOk c.sources_table.result (λ made. made ≡ t)) (sim_readers job.graph c.requires.graph job.query c.in-Sim.field-0 c.in-Sim.is) c.sources_table.ensures
