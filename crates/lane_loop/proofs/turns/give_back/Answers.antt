use Rattle.std.proofs.Common.{reverse}
use Rattle.grape_event.specs.declared.event.Event.TheVariants.{Give}
use Rattle.legal_journal.specs.Past.{has_ended}
use Rattle.lane_loop.proofs.Steps.{may_take_back, of_unless, gave}
use Rattle.lane_loop.proofs.turns.give_back.Goals as goal

pub give-requires : goal.give-requires
give-requires g c =
    let t = c.notes_tell.ensures in
    let may = may_take_back t.grounds t.begin t.works c.args.hub.now g.P.Pie.counters_for c.args.lane c.args.work c.stands.ensures.hub c.stands.ensures.counters c.requires.evaluated in
    record { out = may.out; work = may.given }

pub returns : goal.returns
returns g c =
    let t = c.notes_tell.ensures in
    let old = c.args.hub.now in
    let may = may_take_back t.grounds t.begin t.works old g.P.Pie.counters_for c.args.lane c.args.work c.stands.ensures.hub c.stands.ensures.counters c.requires.evaluated in
    let same = of_unless (has_ended (reverse old.hub.journal.events)) old.hub c.give.new.self.hub (Give c.args.work.worker) c.give.ensures.given in
    let gave = gave t.begin t.empty t.records old c.give.new.self c.args.lane c.stands.ensures.hub c.give.ensures.hub may.in_range may.out same c.give.ensures.record in
    record { given = c.give.ensures.given; ground = gave.ground; empty = gave.empty; calls = gave.calls; answer = gave.answer; others = c.give.ensures.others }
