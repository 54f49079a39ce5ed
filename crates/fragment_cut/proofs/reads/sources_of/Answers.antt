use Rattle.std.proofs.Common.{◌≡◌, List, subst}
use Rattle.std.specs.Prelude.{IfOk}
use Rattle.graph_core.specs.declared.fragment.Reading.{Reading}
use Rattle.fragment_cut.proofs.EdgeRows.{sources_short, sources_inside, sources_are}
use Rattle.fragment_cut.proofs.reads.sources_of.Goals as goal

pub turned_table-requires-clause-short : goal.turned_table-requires-clause-short
turned_table-requires-clause-short c = sources_short c.args.graph.now c.requires.graph c.args.targets.now c.requires.targets

pub turned_table-requires-clause-inside : goal.turned_table-requires-clause-inside
turned_table-requires-clause-inside c = sources_inside c.args.graph.now c.requires.graph c.args.targets.now c.count.result c.requires.targets c.count.ensures.count

pub returns : goal.returns
returns c =
    subst (λ (t : List (List Reading)). IfOk c.turned_table.result (λ made. made ≡ t))
    (sources_are c.args.graph.now c.requires.graph c.args.targets.now c.count.result c.requires.targets c.count.ensures.count) c.turned_table.ensures
