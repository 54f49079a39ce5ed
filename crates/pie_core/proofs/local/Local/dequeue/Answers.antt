use Rattle.std.proofs.Common.{◌≡◌, ◌<◌, ℕ, IfSome, length, arith, ap, subst}
use Rattle.pie_core.specs.declared.local.Lists.{Lists}
use Rattle.pie_core.specs.Locals.{LocalValues}
use Rattle.pie_core.proofs.local.Local.dequeue.Goals as goal

pub returns-clause-owned : goal.returns-clause-owned
returns-clause-owned c =
    let same : length c.self.inside.lists.value.before.items ≡ length c.args.self.now.before = ap (λ (l : LocalValues). length l.before) c.self.view_is
    in let room : length c.self.inside.lists.value.worklist ≡ length c.args.self.now.before = omega (arith, c.self.invariant, same)
    in subst (λ (n : ℕ). IfSome c.pop.result (λ place. place < n)) room (subst (λ (l : Lists). IfSome c.pop.result (λ place. place < length l.worklist)) c.deref_mut.ensures.value c.pop.ensures.inside)
