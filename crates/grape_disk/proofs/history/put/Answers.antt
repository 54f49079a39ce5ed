use Rattle.std.proofs.Common.{arith, refl}
use Rattle.grape_disk.proofs.Overwritten.{put_in}
use Rattle.grape_disk.proofs.history.put.Goals as goal

pub returns-clause-items : goal.returns-clause-items
returns-clause-items c =
    let size = rw c.unwrap.ensures at c.resize.ensures.len
    in let items = rw c.unwrap.ensures at c.resize.ensures.items
    in put_in 0 c.args.at _ _ _ c.max.result _ c.args.bytes.now _ c.args.file.now.items _ _ size c.args.file.now.ok.0 (omega (arith, c.max.ensures, c.len.ensures)) items c.deref_mut.ensures.value c.copy_from_slice.ensures.after (omega arith) refl
