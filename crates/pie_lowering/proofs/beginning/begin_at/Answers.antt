use Rattle.std.proofs.Common.{inr}
use Rattle.pie_lowering.proofs.Steps.{listed-others}
use Rattle.pie_lowering.proofs.beginning.begin_at.Goals as goal

pub returns-then-is_nothing-clause-others : goal.returns-then-is_nothing-clause-others
returns-then-is_nothing-clause-others g c = λ other inside h.
    inr (c.work_off.ensures.holds other inside (listed-others g.C.Cost.cost_of c.args.part.now c.args.local.now c.enqueue.new.self c.args.place other c.enqueue.ensures.added h))
