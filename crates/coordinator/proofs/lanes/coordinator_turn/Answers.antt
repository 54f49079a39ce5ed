use Rattle.std.proofs.Common.{rules, refl, ◌∙◌, subst}
use Rattle.noted_lock.specs.Sights.{seat_note}
use Rattle.coordinator.specs.Visits.{LeavesFrom}
use Rattle.coordinator.specs.declared.leave.Leave.{Leave}
use Rattle.coordinator.proofs.Leaves.{may_put, did_is_none, others_are_none, leaves_other, used_same}
use Rattle.coordinator.proofs.lanes.coordinator_turn.Goals as goal

pub duty_turn-duty-requires-clause-note : goal.duty_turn-duty-requires-clause-note
duty_turn-duty-requires-clause-note g c = (c.requires.kept.0, c.requires.kept.1, c.requires.kept.2)

pub keep_sealed-requires-clause-sealed : goal.keep_sealed-requires-clause-sealed
keep_sealed-requires-clause-sealed g c =
    let kept = c.requires.kept in (
      kept.0,
      kept.1,
      may_put c.args.job.now c.duty_turn-duty.result.0 c.in-Sealed.epoch kept.0 kept.1 (seat_note c.duty_turn-duty.result.1) c.args.keeper.now c.duty_turn-duty.new.into c.in-Sealed.is kept.3 (c.duty_turn-duty.ensures.duty kept.0 kept.1 kept.2),
    )

pub returns-in-Did-clause-leaves : goal.returns-in-Did-clause-leaves
returns-in-Did-clause-leaves g c start cuts is has =
    let d = g.D.Disk in
    leaves_other d.content d.images d.moment d.faults d.honest c.args.job.now c.args.keeper.now c.args.disk.now c.duty_turn-duty.result.0 start cuts (seat_note c.duty_turn-duty.result.1) c.duty_turn-duty.new.into
    (did_is_none c.duty_turn-duty.result.0 c.in-Did.field-0 c.in-Did.is) has (c.duty_turn-duty.ensures.duty start cuts is)

pub returns-in-AllKept-default-clause-leaves : goal.returns-in-AllKept-default-clause-leaves
returns-in-AllKept-default-clause-leaves g c start cuts is has =
    let d = g.D.Disk in
    let may = may_put c.args.job.now c.duty_turn-duty.result.0 c.in-Sealed.epoch start cuts (seat_note c.duty_turn-duty.result.1) c.args.keeper.now c.duty_turn-duty.new.into c.in-Sealed.is has (c.duty_turn-duty.ensures.duty start cuts is) in
    subst (λ (leave : Leave). LeavesFrom d.content d.images d.moment d.faults d.honest c.args.job.now c.args.keeper.now c.args.disk.now start cuts leave (seat_note c.keep_sealed.result.1) c.keep_sealed.new.keeper c.keep_sealed.new.disk)
    c.in-AllKept-default.is-0 (c.keep_sealed.ensures.leaves start cuts may)

pub returns-in-Waits-default-clause-leaves : goal.returns-in-Waits-default-clause-leaves
returns-in-Waits-default-clause-leaves g c start cuts is has =
    let d = g.D.Disk in
    let may = may_put c.args.job.now c.duty_turn-duty.result.0 c.in-Sealed.epoch start cuts (seat_note c.duty_turn-duty.result.1) c.args.keeper.now c.duty_turn-duty.new.into c.in-Sealed.is has (c.duty_turn-duty.ensures.duty start cuts is) in
    subst (λ (leave : Leave). LeavesFrom d.content d.images d.moment d.faults d.honest c.args.job.now c.args.keeper.now c.args.disk.now start cuts leave (seat_note c.keep_sealed.result.1) c.keep_sealed.new.keeper c.keep_sealed.new.disk)
    c.in-Waits-default.is-0 (c.keep_sealed.ensures.leaves start cuts may)

pub returns-in-Nothing : goal.returns-in-Nothing
returns-in-Nothing g c =
    let d = g.D.Disk in
    let old = c.requires.first in
    let seat = c.visit-served.ensures.seat in
    record {
      own = c.duty_turn-duty.ensures.seat;
      ground = c.duty_turn-duty.ensures.ground;
      first = record { lock = seat.0 ∙ old.lock; number = seat.1; ground = (old.ground.0, c.visit-served.ensures.ground ∙ old.ground.1); empty = λ _. c.visit-served.ensures.empty };
      answer = search rules;
      used = used_same d.moment d.honest c.args.job.now c.args.disk.now;
      digest = refl;
      leaves = λ start cuts is has.
          leaves_other d.content d.images d.moment d.faults d.honest c.args.job.now c.args.keeper.now c.args.disk.now c.duty_turn-duty.result.0 start cuts (seat_note c.duty_turn-duty.result.1) c.duty_turn-duty.new.into
          (others_are_none c.duty_turn-duty.result.0 c.in-Nothing.is) has (c.duty_turn-duty.ensures.duty start cuts is);
    }
