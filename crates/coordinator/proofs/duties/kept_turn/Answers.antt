use Rattle.std.proofs.Common.{◌<◌, ℕ, List, sym, ◌∙◌, ap, subst}
use Rattle.noted_lock.specs.Sights.{lock_id, seat_note}
use Rattle.grape_hub.specs.LanedHub.{LanedHub}
use Rattle.grape_hub.specs.Notes.{note_of}
use Rattle.coordinator.specs.Visits.{EpochWaits, KeptLeaves}
use Rattle.coordinator.proofs.Seating.{note_here, coordinator_seat}
use Rattle.coordinator.proofs.duties.kept_turn.Goals as goal

pub serve_kept-goes_on-requires : goal.serve_kept-goes_on-requires
serve_kept-goes_on-requires g c =
    record { waits = subst (λ (ns : List ℕ). EpochWaits c.args.job.now c.args.epoch ns) (sym (note_here c.value.result.now c.enter-inside.result.held c.args.job.now.settings.lanes _ _ c.value.ensures.value c.requires.seat.number c.enter-inside.ensures.note)) c.requires.waits }

pub leave-requires : goal.leave-requires
leave-requires g c =
    let same = c.enter-inside.ensures.same in
    record {
      others = λ k l differ.
          c.serve_kept-goes_on.ensures.others k (λ e. differ (e ∙ sym (same.1 ∙ c.requires.seat.number)))
          ∙ (ap (λ (x : LanedHub). note_of x k) c.value.ensures.value ∙ sym (c.enter-inside.ensures.entry k (subst (λ n. k < n) same.2 l)));
    }

pub returns : goal.returns
returns g c =
    let z = lock_id c.args.lock.now in
    let job = c.args.job.now in
    let n = job.settings.lanes in
    let here = note_here c.value.result.now c.enter-inside.result.held n _ _ c.value.ensures.value c.requires.seat.number c.enter-inside.ensures.note in
    let same = c.enter-inside.ensures.same in
    let left = c.leave.ensures.same in
    let number = same.1 ∙ c.requires.seat.number in
    let there = c.leave.ensures.note ∙ ap (λ (m : ℕ). note_of c.serve_kept-goes_on.new.hub m) number in
    let waits = c.requires.waits in
    let kept = subst (λ (ns : List ℕ). KeptLeaves job c.serve_kept-goes_on.result c.args.epoch ns (seat_note c.leave.result)) here
    (subst (λ (ns : List ℕ). KeptLeaves job c.serve_kept-goes_on.result c.args.epoch (note_of c.value.result.now n) ns) (sym there) c.serve_kept-goes_on.ensures.kept) in
    let ground = (kept waits.0 waits.1 waits.2).ground in
    record {
      seat = coordinator_seat z job waits.0 c.leave.result (left.0 ∙ (same.0 ∙ c.requires.seat.lock)) (left.1 ∙ number) ground;
      ground = ground ∙ sym waits.2.ground;
      kept = kept;
    }
