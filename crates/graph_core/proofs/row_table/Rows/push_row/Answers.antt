use Rattle.std.proofs.Common.{◌≡◌, ℕ, subst, ◌+◌, ◌++◌, ◌∷◌, [], true, length, sym, ap, ◌∙◌, arith}
use Rattle.std.specs.Result.{is_ok}
use Rattle.std.proofs.lemmas.Grind.{common_steps}
use Rattle.graph_core.specs.RowTable.{AreOffsets, rows_at}
use Rattle.graph_core.proofs.RowTables.{rows_at-push, taken}
use Rattle.graph_core.proofs.row_table.Rows.push_row.Goals as goal

pub returns-clause-ok : goal.returns-clause-ok
returns-clause-ok g c =
    let P : ℕ → Type 0 = λ n. AreOffsets c.self.inside.offsets.items n in
    let are : AreOffsets c.self.inside.offsets.items (length c.self.inside.items.items) = subst P c.self.inside.items.ok.0 c.self.invariant in
    let went : is_ok c.extend_from_slice.result ≡ true = sym c.map_err.ensures.variant ∙ ap is_ok c.in_ok-map_err.was in
    let pushed : is_ok c.push.result ≡ true = grind (arith, common_steps, c.is_err.ensures, c.if-is_err.false) in
    let items : c.extend_from_slice.new.self.items ≡ c.self.inside.items.items ++ c.args.row.now = taken (is_ok c.extend_from_slice.result) c.extend_from_slice.new.self.items (c.self.inside.items.items ++ c.args.row.now) c.self.inside.items.items went c.extend_from_slice.ensures.items in
    let offsets : c.push.new.self.items ≡ c.self.inside.offsets.items ++ c.in_ok-end.end ∷ [] = taken (is_ok c.push.result) c.push.new.self.items (c.self.inside.offsets.items ++ c.in_ok-end.end ∷ []) c.self.inside.offsets.items pushed c.push.ensures.items in
    let end : c.in_ok-end.end ≡ length c.self.inside.items.items + length c.args.row.now = omega (arith, c.in_ok-end.ensures, c.len-start.ensures, c.self.inside.items.ok.0) in
    ap (λ xs. rows_at xs c.push.new.self.items) items ∙ ap (rows_at (c.self.inside.items.items ++ c.args.row.now)) offsets
    ∙ rows_at-push c.self.inside.items.items c.args.row.now c.self.inside.offsets.items c.in_ok-end.end are end
    ∙ ap (λ rs. rs ++ c.args.row.now ∷ []) c.self.view_is
