use Rattle.std.proofs.Common.{◌-◌}
use Rattle.snapshot_file.specs.Bodies.{body_bytes}
use Rattle.snapshot_store.proofs.Staged.{Stages}
use Rattle.snapshot_store.proofs.body.stage_body.Given as goal

abbrev pub invariant-loop-done : goal.invariant-loop-done
invariant-loop-done g l = Stages g.D.Disk.content g.D.Disk.images g.D.Disk.moment g.D.Disk.faults g.D.Disk.honest l.at (body_bytes l.snapshot) l.fn.disk l.done l.disk

abbrev pub decreases-loop-done : goal.decreases-loop-done
decreases-loop-done g l = l.end - l.done
