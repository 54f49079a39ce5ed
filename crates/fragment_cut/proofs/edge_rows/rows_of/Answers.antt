use Rattle.std.proofs.Common.{◌∙◌, map}
use Rattle.fragment_cut.specs.Filing.{by_source}
use Rattle.fragment_cut.proofs.FiledRows.{rows_more}
use Rattle.fragment_cut.proofs.EdgeRows.{split_edges, row_edges}
use Rattle.fragment_cut.proofs.edge_rows.rows_of.Goals as goal

pub loop-row-preserved : goal.loop-row-preserved
loop-row-preserved c =
    let edges = c.args.edges.now in
    let row = c.loop-row.row in
    let start = c.loop-row.start in
    let end = c.end_of-end.result in
    let found = c.end_of-end.ensures in
    let items = c.deref.ensures.value ∙ c.in_ok-read_targets.ensures ∙ row_edges edges row start end c.requires.rising c.loop-row.invariant.split found.from found.within found.same found.other in
    record {
      made = c.in_ok-push_row.ensures.ok ∙ rows_more (map by_source edges) row c.deref.result.now c.loop-row.made c.loop-row.invariant.made items;
      split = split_edges edges row start end c.requires.rising c.loop-row.invariant.split found.from found.within found.same found.other;
    }
