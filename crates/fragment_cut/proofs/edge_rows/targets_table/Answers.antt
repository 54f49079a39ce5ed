use Rattle.std.proofs.Common.{◌≡◌, List, subst}
use Rattle.std.specs.Prelude.{IfOk}
use Rattle.graph_core.specs.declared.fragment.Reading.{Reading}
use Rattle.fragment_cut.proofs.EdgeRows.{edges_rise, edges_inside, rows_are_table}
use Rattle.fragment_cut.proofs.edge_rows.targets_table.Goals as goal

pub rows_of-requires-clause-rising : goal.rows_of-requires-clause-rising
rows_of-requires-clause-rising c = edges_rise c.args.graph.now c.requires c.edges.result.now c.edges.ensures.edges

pub rows_of-requires-clause-in_range : goal.rows_of-requires-clause-in_range
rows_of-requires-clause-in_range c = edges_inside c.args.graph.now c.requires c.edges.result.now c.count.result c.edges.ensures.edges c.count.ensures.count

pub returns : goal.returns
returns c =
    subst (λ (t : List (List Reading)). IfOk c.rows_of.result (λ made. made ≡ t))
    (rows_are_table c.args.graph.now c.requires c.edges.result.now c.count.result c.edges.ensures.edges c.count.ensures.count) c.rows_of.ensures
