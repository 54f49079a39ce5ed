use Rattle.std.proofs.Common.{arith, ◌≡◌, ap, Bool, true, false, List, length, reverse, slice_index_or, subst}
use Rattle.grape_disk.specs.Histories.{stands}
use Rattle.grape_disk.specs.Whole.{IsWhole, platter_whole}
use Rattle.grape_disk.proofs.history.History.image.Goals as goal

pub mixed-requires-clause-marks : goal.mixed-requires-clause-marks
mixed-requires-clause-marks c =
    let was = c.self.inside
    in let whole : IsWhole (stands was) = rw c.self.invariant.now (platter_whole was.start.items (reverse was.steps.items))
    in let marks = ap (λ (ms : List Bool). length ms) c.deref-in-Mixed.ensures.value
    in omega (arith, c.mixed_length-count.ensures.bound, whole.marks, whole.no_shorter, marks, was.read.ok.0, was.stable.ok.0)

pub mixed-requires-clause-bytes : goal.mixed-requires-clause-bytes
mixed-requires-clause-bytes c =
    let was = c.self.inside
    in let whole : IsWhole (stands was) = rw c.self.invariant.now (platter_whole was.start.items (reverse was.steps.items))
    in λ i down. rw c.deref-in-Mixed-2.ensures.value (whole.stable i (subst (λ (ms : List Bool). slice_index_or ms i true ≡ false) c.deref-in-Mixed.ensures.value down)).0
