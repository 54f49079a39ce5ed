use Rattle.std.proofs.Common.{ℕ, sym, ◌∙◌, subst, arith}
use Rattle.grape_port.specs.Ports.{Rose}
use Rattle.snapshot_store.proofs.Assembled.{told_so}
use Rattle.snapshot_store.proofs.Opens.{opens_some}
use Rattle.snapshot_store.proofs.store.Store.open.Goals as goal

pub returns-clause-answer : goal.returns-clause-answer
returns-clause-answer g c = λ file told.
    let size = c.in_ok-size.ensures.length file told in
    let at_len = c.len.ensures.same ∙ told in
    told_so _ _ _ _ c.opened_from.ensures.opens file (c.read_front.ensures.unwritten.reads ∙ at_len) (omega (arith, size)) (sym size) (c.in_ok-front.ensures.front file at_len)

-- the bytes that were read, and zeros elsewhere
pub returns-clause-read : goal.returns-clause-read
returns-clause-read g c =
    opens_some (g.D.Disk.content c.read_front.new.disk) c.args.shape.now c.args.digest.now c.in_ok-front.front c.in_ok-size.size c.opened_from.result (omega arith) c.opened_from.ensures.opens

pub returns-clause-disk_fault : goal.returns-clause-disk_fault
returns-clause-disk_fault g c = λ is.
    subst (λ (n : ℕ). Rose n (g.D.Disk.faults c.opened_from.new.disk)) (c.in_ok-front.ensures.no_fault ∙ c.in_ok-size.ensures.counts.ok) (c.opened_from.ensures.disk_fault is)
