use Rattle.std.proofs.Common.{◌≡◌, arith}
use Rattle.pie_dist.proofs.Trees.{lower_leaf, lower_heap}
use Rattle.pie_dist.proofs.rows.rows_lower.Goals as goal

pub refresh-requires-clause-heap : goal.refresh-requires-clause-heap
refresh-requires-clause-heap c = lower_leaf c.args.room c.args.place c.lesser-least.result c.args.rows.now c.requires.heap c.requires.place

pub returns-clause-lowered : goal.returns-clause-lowered
returns-clause-lowered c =
    lower_heap c.args.room c.args.place c.args.key c.lesser-least.result c.args.rows.now c.refresh.new.rows c.requires.heap c.requires.place c.lesser-least.ensures c.refresh.ensures.kept
