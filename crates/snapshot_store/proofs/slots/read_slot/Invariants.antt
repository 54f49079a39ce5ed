use Rattle.std.proofs.Common.{◌≡◌, ◌-◌}
use Rattle.snapshot_store.specs.Reads.{Unwritten}
use Rattle.snapshot_store.proofs.SlotRead.{Fed}
use Rattle.snapshot_store.proofs.slots.read_slot.Given as goal

abbrev pub invariant-loop-done : goal.invariant-loop-done
invariant-loop-done g l =
    Fed (g.D.Disk.content l.fn.disk) l.shape l.place l.number l.epoch l.done l.reader l.snapshot
    × Unwritten g.D.Disk.content g.D.Disk.images g.D.Disk.moment g.D.Disk.honest l.fn.disk l.disk
    × (g.D.Disk.faults l.disk ≡ g.D.Disk.faults l.fn.disk)

abbrev pub decreases-loop-done : goal.decreases-loop-done
decreases-loop-done g l = l.end - l.done
