use Rattle.std.proofs.Common.{inl}
use Rattle.grape_disk.specs.MemDisks.{images_of, now}
use Rattle.grape_disk.specs.Picks.{picked}
use Rattle.grape_disk.specs.Whole.{platter_whole}
use Rattle.grape_disk.proofs.Picking.{picked_image, answers}
use Rattle.grape_disk.proofs.mem_disk.MemDisk.crash_image.Goals as goal

pub returns-clause-image : goal.returns-clause-image
returns-clause-image c =
    let disk = c.args.self.now
    in answers (λ v. v.items) (images_of disk disk.calls) (picked c.args.pick (now disk)) c.image.result
    (inl (picked_image c.args.pick (now disk) (platter_whole disk.file.start disk.file.done))) (rw (← c.self.view_is) c.image.ensures)
