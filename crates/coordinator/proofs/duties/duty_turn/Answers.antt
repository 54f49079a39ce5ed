use Rattle.std.proofs.Common.{◌<◌, ℕ, List, sym, ◌∙◌, ap, subst}
use Rattle.noted_lock.specs.Sights.{lock_id, seat_note}
use Rattle.grape_hub.specs.LanedHub.{LanedHub}
use Rattle.grape_hub.specs.Notes.{note_of}
use Rattle.coordinator.specs.Visits.{NothingWaits, DutyLeaves}
use Rattle.coordinator.proofs.Visits.{duty_ground}
use Rattle.coordinator.proofs.Seating.{note_here, coordinator_seat}
use Rattle.coordinator.proofs.duties.duty_turn.Goals as goal

pub serve_duty-duty-requires-clause-note : goal.serve_duty-duty-requires-clause-note
serve_duty-duty-requires-clause-note g c =
    subst (λ (ns : List ℕ). NothingWaits c.args.job.now ns) (sym (note_here c.value.result.now c.enter-inside.result.held c.args.job.now.settings.lanes _ _ c.value.ensures.value c.requires.seat.number c.enter-inside.ensures.note)) c.requires.note

pub leave-requires : goal.leave-requires
leave-requires g c =
    let same = c.enter-inside.ensures.same in
    record {
      others = λ k l differ.
          c.serve_duty-duty.ensures.others k (λ e. differ (e ∙ sym (same.1 ∙ c.requires.seat.number)))
          ∙ (ap (λ (x : LanedHub). note_of x k) c.value.ensures.value ∙ sym (c.enter-inside.ensures.entry k (subst (λ n. k < n) same.2 l)));
    }

pub returns : goal.returns
returns g c =
    let z = lock_id c.args.lock.now in
    let job = c.args.job.now in
    let n = job.settings.lanes in
    let here = note_here c.value.result.now c.enter-inside.result.held n _ _ c.value.ensures.value c.requires.seat.number c.enter-inside.ensures.note in
    let same = c.enter-inside.ensures.same in
    let left = c.leave.ensures.same in
    let number = same.1 ∙ c.requires.seat.number in
    let there = c.leave.ensures.note ∙ ap (λ (m : ℕ). note_of c.serve_duty-duty.new.hub m) number in
    let note = c.requires.note in
    let duty = subst (λ (ns : List ℕ). DutyLeaves job c.serve_duty-duty.result ns c.args.into.now (seat_note c.leave.result) c.serve_duty-duty.new.into) here
    (subst (λ (ns : List ℕ). DutyLeaves job c.serve_duty-duty.result (note_of c.value.result.now n) c.args.into.now ns c.serve_duty-duty.new.into) (sym there) c.serve_duty-duty.ensures.duty) in
    let ground = duty_ground job c.serve_duty-duty.result note.0 note.1 c.args.into.now (seat_note c.leave.result) c.serve_duty-duty.new.into (duty note.0 note.1 note.2) in
    record {
      seat = coordinator_seat z job note.0 c.leave.result (left.0 ∙ (same.0 ∙ c.requires.seat.lock)) (left.1 ∙ number) ground;
      ground = ground ∙ sym note.2.ground;
      duty = duty;
    }
