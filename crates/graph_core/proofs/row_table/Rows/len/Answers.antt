use Rattle.std.proofs.Common.{length, ap, arith}
use Rattle.graph_core.proofs.RowTables.{length-rows_at}
use Rattle.graph_core.proofs.row_table.Rows.len.Goals as goal

pub returns : goal.returns
returns g c = omega (arith, length-rows_at c.self.inside.items.items c.self.inside.offsets.items, ap length c.self.view_is)
