use Rattle.std.proofs.Common.{arith, ◌≡◌, ℕ, List, [], ◌∷◌, ◌++◌, ap, ◌∙◌, length}
use Rattle.grape_disk.specs.Platters.{wrote}
use Rattle.grape_disk.specs.Images.{written}
use Rattle.grape_disk.specs.Histories.{stands}
use Rattle.grape_disk.specs.Placed.{length-placed}
use Rattle.grape_disk.proofs.Standing.{one_more_step, after_write}
use Rattle.grape_disk.proofs.history.History.write.Goals as goal

pub invariant_of-self-2 : goal.invariant_of-self-2
invariant_of-self-2 c =
    let was = c.self.inside
    in let file = c.args.from.now
    in let size : length c.put.new.file.items ≡ length (written c.args.at file was.read.items) = ap length c.put.ensures.items
    in let room = ap (λ h. h.room) c.self.view_is
    in let pushed = c.in_ok-push.ensures.items ∙ ap (λ (b : List ℕ). was.steps.items ++ (c.args.moment, wrote c.args.at b) ∷ []) c.in_ok-bytes.ensures.items
    in record {
      now = one_more_step _ _ _ c.args.moment (wrote c.args.at file) _ _ c.self.invariant.now pushed (after_write (stands was) c.args.at file _ _ c.put.ensures.items c.mark.ensures.items);
      fits = omega (arith, size, length-placed 0 c.args.at file was.read.items, c.self.invariant.fits, c.requires, room);
      room_stable = c.self.invariant.room_stable;
      room_read = omega (arith, c.put.ensures.room, c.self.invariant.room_read);
      room_pending = omega (arith, c.mark.ensures.room, c.self.invariant.room_pending);
    }
