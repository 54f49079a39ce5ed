use Rattle.noted_lock.specs.Sights.{lock_id}
use Rattle.lane_loop.specs.Meetings.{MayTakeTurn}
use Rattle.lane_loop.proofs.tests.goes_idle.Given as goal

abbrev pub invariant-turns : goal.invariant-turns
invariant-turns g l = MayTakeTurn (lock_id l.lock) (g.P.Pie.is_for l.program) l.fragments 0 l.seat
