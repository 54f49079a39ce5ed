use Rattle.std.proofs.Common.{arith, refl}
use Rattle.grape_disk.proofs.Moments.{earlier_later, same_from}
use Rattle.grape_disk.proofs.mem_disk.MemDisk.begin.Goals as goal

pub invariant_of-self : goal.invariant_of-self
invariant_of-self c = earlier_later _ _ _ (omega (arith, c.saturating_add-self-inside.ensures)) c.self.invariant

pub invariant_of-self-else-refused : goal.invariant_of-self-else-refused
invariant_of-self-else-refused c = earlier_later _ _ _ (omega (arith, c.saturating_add-self-inside.ensures)) c.self.invariant

pub returns-then-refused-clause-same : goal.returns-then-refused-clause-same
returns-then-refused-clause-same c =
    same_from _ _ _ c.self.view_is c.self.invariant refl (omega (arith, c.saturating_add-self-inside.ensures))

pub returns-clause-same : goal.returns-clause-same
returns-clause-same c =
    same_from _ _ _ c.self.view_is c.self.invariant refl (omega (arith, c.saturating_add-self-inside.ensures))
