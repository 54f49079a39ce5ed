use Rattle.std.proofs.Common.{◌∙◌, subst}
use Rattle.noted_lock.specs.Sights.{seat_note}
use Rattle.grape_hub.specs.Notes.{answer_in}
use Rattle.lane_loop.specs.declared.served.Served.TheVariants.{Did, Idle}
use Rattle.coordinator.specs.Leaving.{LeavesNote}
use Rattle.coordinator.specs.declared.leave.Leave.{Leave}
use Rattle.coordinator.proofs.Leaves.{going_is_kept, did_goes_on, idle_goes_on, leaves_on, used_on}
use Rattle.coordinator.proofs.lanes.take_duties.Goals as goal

pub turns-preserved-in-Did : goal.turns-preserved-in-Did
turns-preserved-in-Did g c =
    let d = g.D.Disk in
    let job = c.args.job.now in
    let inv = c.turns.invariant in
    let turn = c.coordinator_turn-leave in
    let kept = going_is_kept turn.result.0 turn.result.1 Did (answer_in (seat_note turn.result.3)) turn.ensures.answer c.in-Did.is did_goes_on in
    let leaves = leaves_on d.content d.images d.moment d.faults d.honest job c.args.keeper.now c.args.disk.now c.turns.keeper c.turns.disk turn.result.0 (seat_note c.turns.own) (seat_note turn.result.2) turn.new.keeper turn.new.disk
    inv.leaves inv.digest inv.used.honest_stays turn.ensures.leaves in
    record {
      own = turn.ensures.own;
      first = turn.ensures.first;
      ground = turn.ensures.ground ∙ inv.ground;
      used = used_on d.moment d.honest job c.args.disk.now c.turns.disk turn.new.disk inv.used turn.ensures.used;
      digest = turn.ensures.digest ∙ inv.digest;
      leaves = subst (λ (leave : Leave). LeavesNote d.content d.images d.moment d.faults d.honest job c.args.keeper.now c.args.disk.now leave (seat_note turn.result.2) turn.new.keeper turn.new.disk) kept leaves;
    }

pub turns-preserved : goal.turns-preserved
turns-preserved g c =
    let d = g.D.Disk in
    let job = c.args.job.now in
    let inv = c.turns.invariant in
    let turn = c.coordinator_turn-leave in
    let kept = going_is_kept turn.result.0 turn.result.1 Idle (answer_in (seat_note turn.result.3)) turn.ensures.answer c.in-Idle.is idle_goes_on in
    let leaves = leaves_on d.content d.images d.moment d.faults d.honest job c.args.keeper.now c.args.disk.now c.turns.keeper c.turns.disk turn.result.0 (seat_note c.turns.own) (seat_note turn.result.2) turn.new.keeper turn.new.disk
    inv.leaves inv.digest inv.used.honest_stays turn.ensures.leaves in
    record {
      own = turn.ensures.own;
      first = turn.ensures.first;
      ground = turn.ensures.ground ∙ inv.ground;
      used = used_on d.moment d.honest job c.args.disk.now c.turns.disk turn.new.disk inv.used turn.ensures.used;
      digest = turn.ensures.digest ∙ inv.digest;
      leaves = subst (λ (leave : Leave). LeavesNote d.content d.images d.moment d.faults d.honest job c.args.keeper.now c.args.disk.now leave (seat_note turn.result.2) turn.new.keeper turn.new.disk) kept leaves;
    }

pub returns-in-Ended-clause-leaves : goal.returns-in-Ended-clause-leaves
returns-in-Ended-clause-leaves g c =
    let d = g.D.Disk in
    let inv = c.turns.invariant in
    let turn = c.coordinator_turn-leave in
    leaves_on d.content d.images d.moment d.faults d.honest c.args.job.now c.args.keeper.now c.args.disk.now c.turns.keeper c.turns.disk turn.result.0 (seat_note c.turns.own) (seat_note turn.result.2) turn.new.keeper turn.new.disk inv.leaves inv.digest
    inv.used.honest_stays turn.ensures.leaves
