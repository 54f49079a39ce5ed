use Rattle.std.proofs.Common.{◌≡◌, ◌+◌, ◌/◌, ◌^◌, true, false, sym, ◌∙◌, subst, slice_index, slice_index_or, []}
use Rattle.std.specs.Int.{bit_at}
use Rattle.std.proofs.lemmas.Bool.{eq-eqb, ne_eqb}
use Rattle.std.proofs.lemmas.Nat.{and_mask}
use Rattle.pie_core.specs.Locals.{LocalValues}
use Rattle.graph_core.specs.Queries.{has_bit}
use Rattle.pie_sim.specs.Counting.{ColumnsFell}
use Rattle.pie_sim.proofs.Columns.{columns-passed, columns-more}
use Rattle.pie_sim.proofs.counted.lower_columns.Goals as goal
use Rattle.pie_sim.proofs.counted.lower_columns.Goals.{then-fallen-node-eq1, else-fallen-node-eq1}

pub nodes-preserved : goal.nodes-preserved
nodes-preserved c =
    let nodes = c.args.nodes.now in
    let row = slice_index_or c.args.part.now.readers c.args.place [] in
    let fallen = c.args.fallen in
    let end = c.nodes.column in
    let node = slice_index nodes end in
    let start = c.args.local.now in
    let old = c.nodes.local in
    elim c.if-fallen-node-eq1.branch [
      | then-fallen-node-eq1 w ↦
          let lost : has_bit fallen (slice_index nodes end) ≡ true = eq-eqb (bit_at fallen node) 1 (sym (and_mask (fallen / 2 ^ node) 1) ∙ w.if-fallen-node-eq1.true) in
          subst (λ (l : LocalValues). ColumnsFell nodes row fallen (end + 1) start l) (sym w.local-is) (columns-more nodes row fallen end start old c.nodes.invariant c.nodes-test.true w.lower_column.new.local lost w.lower_column.ensures)
      | else-fallen-node-eq1 w ↦
          let none : has_bit fallen (slice_index nodes end) ≡ false = ne_eqb (bit_at fallen node) 1 (λ e. w.if-fallen-node-eq1.false (and_mask (fallen / 2 ^ node) 1 ∙ e)) in
          subst (λ (l : LocalValues). ColumnsFell nodes row fallen (end + 1) start l) (sym w.local-is) (columns-passed nodes row fallen end start old c.nodes.invariant c.nodes-test.true none)
    ]
