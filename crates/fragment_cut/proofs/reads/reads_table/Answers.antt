use Rattle.std.proofs.Common.{◌≡◌, List, sym, subst}
use Rattle.graph_core.specs.declared.query.Query.{Query}
use Rattle.fragment_cut.specs.Filing.{reads_table}
use Rattle.std.specs.Prelude.{IfOk}
use Rattle.graph_core.specs.declared.fragment.Reading.{Reading}
use Rattle.fragment_cut.proofs.EdgeRows.{dist_reads, reach_reads, sim_reads}
use Rattle.fragment_cut.proofs.reads.reads_table.Goals as goal

pub returns-in-Sim : goal.returns-in-Sim
returns-in-Sim c =
    let job = c.args.job.now in
    subst (λ (t : List (List Reading)). IfOk c.targets_table.result (λ made. made ≡ t)) (sim_reads job.graph c.requires job.query c.in-Sim.field-0 c.in-Sim.is) c.targets_table.ensures

pub returns-in-Dist : goal.returns-in-Dist
returns-in-Dist c =
    let job = c.args.job.now in
    subst (λ (t : List (List Reading)). IfOk c.sources_table.result (λ made. made ≡ t)) (dist_reads job.graph c.requires job.query c.in-Dist.field-0 c.in-Dist.is) c.sources_table.ensures

pub returns-in-Reach : goal.returns-in-Reach
returns-in-Reach c =
    let job = c.args.job.now in
    subst (λ (t : List (List Reading)). IfOk c.sources_table-in-Reach.result (λ made. made ≡ t)) (reach_reads job.graph c.requires job.query c.in-Reach.field-0 c.in-Reach.is) c.sources_table-in-Reach.ensures

pub returns-in-Label : goal.returns-in-Label
returns-in-Label c =
    let job = c.args.job.now in
    subst (λ (q : Query). IfOk c.ends_table.result (λ made. made ≡ reads_table job.graph q)) (sym c.in-Label.is) c.ends_table.ensures
