use Rattle.std.proofs.Common.{◌≡◌, ◌-◌, length, vec_len, get_or, ap, ◌∙◌, arith}
use Rattle.std.proofs.lemmas.List.{get_or_read}
use Rattle.graph_core.proofs.RowTables.{total_is}
use Rattle.graph_core.proofs.row_table.Rows.total.Goals as goal

pub returns : goal.returns
returns g c =
    let items = c.self.inside.items in
    let offsets = c.self.inside.offsets in
    let are = c.self.invariant in
    let at : c.len.result - 1 ≡ length offsets.items - 1 = omega (arith, c.len.ensures, offsets.ok.0) in
    let last = get_or_read offsets.items (c.len.result - 1) c.index.result.now (omega (arith, are.some, c.len.ensures, offsets.ok.0)) c.index.ensures 0 in
    total_is items.items offsets.items (vec_len items) are items.ok.0 c.args.self.now c.index.result.now c.self.view_is (last ∙ ap (λ i. get_or offsets.items i 0) at)
