use Rattle.std.proofs.Common.{◌≡◌, List, map, subst}
use Rattle.std.specs.Prelude.{IfOk}
use Rattle.graph_core.specs.declared.fragment.Reading.{Reading}
use Rattle.graph_core.specs.Digraph.{count_of}
use Rattle.fragment_cut.specs.Filing.{by_source, by_target}
use Rattle.fragment_cut.proofs.EdgeEnds.{table_in_order, ends_are, ends_short, ends_len}
use Rattle.fragment_cut.proofs.reads.ends_table.Goals as goal

pub merged_table-requires-clause-short : goal.merged_table-requires-clause-short
merged_table-requires-clause-short c = ends_short c.args.graph.now c.in_ok-targets.targets c.in_ok-sources.sources c.in_ok-targets.ensures c.in_ok-sources.ensures c.requires

pub merged_table-requires-clause-len : goal.merged_table-requires-clause-len
merged_table-requires-clause-len c = ends_len c.args.graph.now c.in_ok-targets.targets c.in_ok-sources.sources c.in_ok-targets.ensures c.in_ok-sources.ensures

pub merged_table-requires-clause-first : goal.merged_table-requires-clause-first
merged_table-requires-clause-first c = table_in_order (map by_source c.args.graph.now.edges) (count_of c.args.graph.now) c.in_ok-targets.targets c.in_ok-targets.ensures

pub merged_table-requires-clause-second : goal.merged_table-requires-clause-second
merged_table-requires-clause-second c = table_in_order (map by_target c.args.graph.now.edges) (count_of c.args.graph.now) c.in_ok-sources.sources c.in_ok-sources.ensures

pub returns : goal.returns
returns c =
    subst (λ (t : List (List Reading)). IfOk c.merged_table.result (λ made. made ≡ t))
    (ends_are c.args.graph.now c.in_ok-targets.targets c.in_ok-sources.sources c.in_ok-targets.ensures c.in_ok-sources.ensures) c.merged_table.ensures
