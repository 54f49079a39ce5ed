use Rattle.std.proofs.Common.{◌≡◌, ◌≢◌, ◌⊎◌, inl, inr, refl, ◌-◌, slice_index}
use Rattle.pie_dist.proofs.Trees.{none_in, root_place, root_nearest, pop_leaf, pop_heap}
use Rattle.pie_dist.proofs.rows.rows_pop.Goals as goal
use Rattle.pie_dist.proofs.rows.rows_pop.Goals.{then-room-eq0-via-then-room-eq0, then-room-eq0-via-else-room-eq0+then-rows-eq0}

pub returns-then-room-eq0-clause-popped : goal.returns-then-room-eq0-clause-popped
returns-then-room-eq0-clause-popped c =
    let none : (c.args.room ≡ 0) ⊎ (slice_index c.args.rows.now 1 ≡ 0) =
    elim c.then-room-eq0.branch [ then-room-eq0-via-then-room-eq0 w ↦ inl w.if-room-eq0.true | then-room-eq0-via-else-room-eq0+then-rows-eq0 w ↦ inr w.if-rows-eq0.true ] in
    (none_in c.args.room c.args.rows.now c.requires none, refl)

pub refresh-requires-clause-heap : goal.refresh-requires-clause-heap
refresh-requires-clause-heap c =
    let rows = c.args.rows.now in
    pop_leaf c.args.room (slice_index rows 1 - 1) rows c.requires (root_place c.args.room rows c.requires c.if-room-eq0.false c.if-rows-eq0.false).0

pub returns-clause-popped : goal.returns-clause-popped
returns-clause-popped c =
    let rows = c.args.rows.now in
    let at = root_place c.args.room rows c.requires c.if-room-eq0.false c.if-rows-eq0.false in (
      root_nearest c.args.room rows c.requires c.if-room-eq0.false c.if-rows-eq0.false,
      pop_heap c.args.room (slice_index rows 1 - 1) rows c.refresh.new.rows c.requires at.0 c.refresh.ensures.kept,
    )
