use Rattle.std.proofs.Common.{Bool, false, Result, Err, sym, ap, subst, ◌++◌, ◌∷◌, []}
use Rattle.token_cut.specs.Shapes.{Starts, IsShape}
use Rattle.grape_event.specs.declared.event.StopCause.{StopCause}
use Rattle.noted_lock.specs.Sights.{seat_note}
use Rattle.coordinator.specs.Leaving.{IsNoteOf}
use Rattle.coordinator.specs.Visits.{waiting_after}
use Rattle.coordinator.proofs.Places.{in_limits}
use Rattle.coordinator.proofs.Leaves.{leaves_kept, leaves_late, leaves_failed}
use Rattle.coordinator.proofs.lanes.keep_sealed.Goals as goal

pub put-requires-clause-shape : goal.put-requires-clause-shape
put-requires-clause-shape g c = subst (λ (s : Starts). IsShape s) (sym c.requires.shape) (in_limits c.args.job.now c.requires.job)

pub returns-then-goes_on-clause-leaves : goal.returns-then-goes_on-clause-leaves
returns-then-goes_on-clause-leaves g c start cuts may =
    let d = g.D.Disk in
    let job = c.args.job.now in
    let more = cuts ++ c.args.keeper.now.into ∷ [] in
    let note = subst (λ (b : Bool). IsNoteOf job start (waiting_after b c.args.epoch) false more (seat_note c.kept_turn-goes_on.result.1)) c.if-goes_on.true (c.kept_turn-goes_on.ensures.kept start more may.sealed.noted) in
    leaves_kept d.content d.images d.moment d.faults d.honest job c.args.shape.now c.requires.shape c.args.keeper.now c.put.new.self c.args.disk.now c.put.new.disk start cuts c.args.epoch (seat_note c.args.own) (seat_note c.kept_turn-goes_on.result.1) may
    note c.in-Ok.ensures.noted c.in-Ok.ensures.last c.put.ensures.same.1 c.in-Ok.ensures.no_fault c.in-Ok.ensures.one

pub returns-else-goes_on-clause-leaves : goal.returns-else-goes_on-clause-leaves
returns-else-goes_on-clause-leaves g c start cuts may =
    let d = g.D.Disk in
    let job = c.args.job.now in
    let more = cuts ++ c.args.keeper.now.into ∷ [] in
    let note = subst (λ (b : Bool). IsNoteOf job start (waiting_after b c.args.epoch) false more (seat_note c.kept_turn-goes_on.result.1)) c.if-goes_on.false (c.kept_turn-goes_on.ensures.kept start more may.sealed.noted) in
    leaves_late d.content d.images d.moment d.faults d.honest job c.args.shape.now c.requires.shape c.args.keeper.now c.put.new.self c.args.disk.now c.put.new.disk start cuts c.args.epoch (seat_note c.args.own) (seat_note c.kept_turn-goes_on.result.1) may
    note c.in-Ok.ensures.noted c.in-Ok.ensures.last c.in-Ok.ensures.one

pub returns-in-Err-clause-leaves : goal.returns-in-Err-clause-leaves
returns-in-Err-clause-leaves g c start cuts may =
    let d = g.D.Disk in
    let job = c.args.job.now in
    let more = cuts ++ c.args.keeper.now.into ∷ [] in
    leaves_failed d.content d.images d.moment d.faults d.honest job c.args.shape.now c.requires.shape c.args.keeper.now c.put.new.self c.args.disk.now c.put.new.disk start cuts c.args.epoch c.in-Err.cause (seat_note c.args.own)
    (seat_note c.stop_turn-own.result) may (c.stop_turn-own.ensures.stopped start more may.sealed.noted) c.in-Err.ensures.not_noted (λ e. c.in-Err.ensures.disk_fault (ap {B = Result (Unit {0}) StopCause} (λ (cause : StopCause). Err cause) e)) c.in-Err.ensures.crash
