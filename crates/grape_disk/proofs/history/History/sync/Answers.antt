use Rattle.std.proofs.Common.{arith, ℕ, List, ◌++◌, false, replicate, ap, ◌∙◌, reverse}
use Rattle.grape_disk.specs.Platters.{synced}
use Rattle.grape_disk.proofs.Standing.{one_more_step, after_sync}
use Rattle.grape_disk.specs.Whole.{IsWhole, platter_whole}
use Rattle.grape_disk.specs.Histories.{stands}
use Rattle.grape_disk.proofs.history.History.sync.Goals as goal

pub invariant_of-self-2 : goal.invariant_of-self-2
invariant_of-self-2 c =
    let was = c.self.inside
    in let whole : IsWhole (stands was) = rw c.self.invariant.now (platter_whole was.start.items (reverse was.steps.items))
    in let copied = rw c.unwrap.ensures at c.extend_from_slice.ensures.items
    in let stable = copied ∙ ap (λ (s : List ℕ). s ++ c.deref.result.now) c.clear.ensures.items ∙ c.deref.ensures.value
    in let pending = c.fill.ensures.items (λ y e. e) ∙ ap (λ (n : ℕ). replicate n false) (was.pending.ok.0 ∙ whole.marks)
    in record {
      now = one_more_step _ _ _ c.args.moment synced _ _ c.self.invariant.now c.in_ok-push.ensures.items (after_sync (stands was) _ _ stable pending);
      fits = c.self.invariant.fits;
      room_stable = omega (arith, c.self.invariant.room_stable);
      room_read = c.self.invariant.room_read;
      room_pending = omega (arith, c.self.invariant.room_pending);
    }
