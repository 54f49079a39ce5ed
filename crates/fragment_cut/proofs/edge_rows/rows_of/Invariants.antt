use Rattle.std.proofs.Common.{◌≡◌, map}
use Rattle.fragment_cut.specs.Filing.{rows_under, by_source}
use Rattle.fragment_cut.proofs.FiledRows.{SplitAt}
use Rattle.fragment_cut.proofs.edge_rows.rows_of.Given as goal

abbrev pub invariant-loop-row : goal.invariant-loop-row
invariant-loop-row l = record { made : l.made ≡ rows_under (map by_source l.edges) l.row; split : SplitAt (map by_source l.edges) l.row l.start }
