use Rattle.pie_dist.specs.Worked.{one_range}
use Rattle.pie_dist.proofs.WorkedParts.{one_is_for, whole_ready}
use Rattle.pie_dist.proofs.tests.evaluates_the_whole.Goals as goal

pub peval-requires : goal.peval-requires
peval-requires g c = (one_range, one_is_for, whole_ready c.in_ok-part.part c.in_ok-local.local c.load.new.self c.counters.result c.in_ok-part.ensures (c.counters.ensures one_range one_is_for) c.in_ok-local.ensures c.load.ensures)
