use Rattle.std.proofs.Common.{arith, ap, List, slice_index_or}
use Rattle.noted_lock.specs.declared.seat.LockSeat.{LockSeat}
use Rattle.noted_lock.specs.Sights.{lock_id}
use Rattle.lane_loop.proofs.Beginnings.{three_are, may_turn}
use Rattle.lane_loop.proofs.tests.opened.Goals as goal

pub returns-clause-first : goal.returns-clause-first
returns-clause-first g c =
    let t = c.notes_tell.ensures in
    let o = c.in_ok-hub.ensures in
    let are = c.in_ok-lock.ensures.seats in
    let seats =
    three_are c.in_ok-lock.seats.items c.pop.new.self.items c.pop-2.new.self.items c.pop-3.new.self.items c.in-Some-pop-2.first c.in-Some-pop.second c.in-Some._coordinator are.0 c.in-Some.ensures.items c.in-Some-pop.ensures.items
    c.in-Some-pop-2.ensures.items in
    may_turn t.begin t.empty c.in_ok-hub.hub c.args.job.now (g.P.Pie.counters_for c.args.job.now) c.args.start (lock_id c.in_ok-lock.lock) (g.P.Pie.is_for c.args.program.now) c.args.fragments.now c.in_ok-lock.seats.items 0 c.in-Some-pop-2.first o.hub o.beginning.0
    o.beginning.1 c.requires.fragments c.requires.program (omega (arith, c.requires.lanes)) are (omega arith) (ap (λ (s : List LockSeat). slice_index_or s 0 c.in-Some-pop-2.first) seats)

pub returns-clause-second : goal.returns-clause-second
returns-clause-second g c =
    let t = c.notes_tell.ensures in
    let o = c.in_ok-hub.ensures in
    let are = c.in_ok-lock.ensures.seats in
    let seats =
    three_are c.in_ok-lock.seats.items c.pop.new.self.items c.pop-2.new.self.items c.pop-3.new.self.items c.in-Some-pop-2.first c.in-Some-pop.second c.in-Some._coordinator are.0 c.in-Some.ensures.items c.in-Some-pop.ensures.items
    c.in-Some-pop-2.ensures.items in
    may_turn t.begin t.empty c.in_ok-hub.hub c.args.job.now (g.P.Pie.counters_for c.args.job.now) c.args.start (lock_id c.in_ok-lock.lock) (g.P.Pie.is_for c.args.program.now) c.args.fragments.now c.in_ok-lock.seats.items 1 c.in-Some-pop.second o.hub o.beginning.0
    o.beginning.1 c.requires.fragments c.requires.program (omega (arith, c.requires.lanes)) are (omega arith) (ap (λ (s : List LockSeat). slice_index_or s 1 c.in-Some-pop.second) seats)
