use Rattle.std.proofs.Common.{length, vec_len, ap, ◌∙◌, arith, rules}
use Rattle.std.specs.List.{slice_range}
use Rattle.graph_core.proofs.RowTables.{length-rows_at, row-stands}
use Rattle.graph_core.proofs.row_table.Rows.row.Goals as goal

pub index-start-requires : goal.index-start-requires
index-start-requires g c = omega (arith, length-rows_at c.self.inside.items.items c.self.inside.offsets.items, ap length c.self.view_is)

pub overflow_add-index : goal.overflow_add-index
overflow_add-index g c = omega (arith, length-rows_at c.self.inside.items.items c.self.inside.offsets.items, ap length c.self.view_is, c.self.inside.offsets.small)

pub index-end-requires : goal.index-end-requires
index-end-requires g c = omega (arith, length-rows_at c.self.inside.items.items c.self.inside.offsets.items, ap length c.self.view_is)

pub offset_bounds-deref-start : goal.offset_bounds-deref-start
offset_bounds-deref-start g c =
    let at = row-stands c.self.inside.items.items c.self.inside.offsets.items c.args.self.now (vec_len c.self.inside.items) c.index-start.result.now c.index-end.result.now c.args.index c.self.invariant c.self.inside.items.ok.0 c.self.view_is c.requires c.index-start.ensures c.index-end.ensures in
    omega arith

pub slice_bounds-result-count : goal.slice_bounds-result-count
slice_bounds-result-count g c =
    let at = row-stands c.self.inside.items.items c.self.inside.offsets.items c.args.self.now (vec_len c.self.inside.items) c.index-start.result.now c.index-end.result.now c.args.index c.self.invariant c.self.inside.items.ok.0 c.self.view_is c.requires c.index-start.ensures c.index-end.ensures in
    omega arith

pub slice_bounds-result-start : goal.slice_bounds-result-start
slice_bounds-result-start g c =
    let at = row-stands c.self.inside.items.items c.self.inside.offsets.items c.args.self.now (vec_len c.self.inside.items) c.index-start.result.now c.index-end.result.now c.args.index c.self.invariant c.self.inside.items.ok.0 c.self.view_is c.requires c.index-start.ensures c.index-end.ensures in
    search rules

pub slice_bounds-result-end : goal.slice_bounds-result-end
slice_bounds-result-end g c =
    let at = row-stands c.self.inside.items.items c.self.inside.offsets.items c.args.self.now (vec_len c.self.inside.items) c.index-start.result.now c.index-end.result.now c.args.index c.self.invariant c.self.inside.items.ok.0 c.self.view_is c.requires c.index-start.ensures c.index-end.ensures in
    search rules

pub returns : goal.returns
returns g c =
    let at = row-stands c.self.inside.items.items c.self.inside.offsets.items c.args.self.now (vec_len c.self.inside.items) c.index-start.result.now c.index-end.result.now c.args.index c.self.invariant c.self.inside.items.ok.0 c.self.view_is c.requires c.index-start.ensures c.index-end.ensures in
    ap (λ xs. slice_range xs c.index-start.result.now c.index-end.result.now) c.deref.ensures.value ∙ at.is
