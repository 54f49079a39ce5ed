use Rattle.std.proofs.Common.{IsTrue, sym, subst, Option}
use Rattle.snapshot_store.specs.Stores.{StoreValue}
use Rattle.recovery.specs.Crashes.{MayHaveKept}
use Rattle.coordinator.specs.Keeping.{digest_in, last_in}
use Rattle.coordinator.proofs.keeper.Keeper.put.Goals as goal

pub returns-in-Err-Disk-clause-crash : goal.returns-in-Err-Disk-clause-crash
returns-in-Err-Disk-clause-crash g c =
    let D = g.D.Disk in
    subst (λ (o : Option StoreValue).
    IsTrue (D.honest c.args.disk.now) → MayHaveKept D.content D.images D.moment c.args.shape.now (digest_in o) c.args.self.now.into (last_in o) c.args.self.now.kept.items c.keep.new.kept.items c.args.disk.now c.keep.new.disk)
    (sym c.in-Some.is) c.in-Err-Disk.ensures.crash

pub returns-in-Err-NoMemory-clause-crash : goal.returns-in-Err-NoMemory-clause-crash
returns-in-Err-NoMemory-clause-crash g c =
    let D = g.D.Disk in
    subst (λ (o : Option StoreValue).
    IsTrue (D.honest c.args.disk.now) → MayHaveKept D.content D.images D.moment c.args.shape.now (digest_in o) c.args.self.now.into (last_in o) c.args.self.now.kept.items c.keep.new.kept.items c.args.disk.now c.keep.new.disk)
    (sym c.in-Some.is) c.in-Err-NoMemory.ensures.crash
