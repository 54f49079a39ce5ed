use Rattle.std.proofs.Common.{arith, ◌≡◌, true, false, length, subst, sym}
use Rattle.grape_disk.specs.Images.{Writes}
use Rattle.grape_disk.specs.MemDisks.{MemDiskState, images_of, calls_of}
use Rattle.grape_disk.proofs.Moments.{numbered, writes_from}
use Rattle.grape_disk.proofs.mem_disk.MemDiskDisk.write_at.Goals as goal

pub returns-in_default-clause-writes : goal.returns-in_default-clause-writes
returns-in_default-clause-writes c =
    let never : false ≡ true → ⊥ = λ e. cc in
    subst (λ (s : MemDiskState). Writes images_of calls_of c.args.at (length c.args.from.now) c.args.self.now s) (sym c.forget.ensures.state)
    (writes_from _ _ _ c.args.at c.args.from.now false c.self.view_is (λ e. absurd (never e)) (λ e. absurd (never e)) (λ e. c.in_default.ensures.no_memory) c.saturating_add-self-inside.ensures
    (omega (arith, c.saturating_add-self-inside.ensures)) c.self.invariant)

pub returns-then-refused-clause-writes : goal.returns-then-refused-clause-writes
returns-then-refused-clause-writes c =
    let tried = c.in-Ok.ensures in
    writes_from _ _ _ c.args.at c.args.from.now c.in-Ok.fits c.self.view_is (numbered _ _ _ _ tried.place) tried.done tried.not_done c.saturating_add-self-inside.ensures
    (omega (arith, c.saturating_add-self-inside.ensures)) c.self.invariant

pub returns-clause-writes : goal.returns-clause-writes
returns-clause-writes c =
    let tried = c.in-Ok.ensures in
    writes_from _ _ _ c.args.at c.args.from.now c.in-Ok.fits c.self.view_is (numbered _ _ _ _ tried.place) tried.done tried.not_done c.saturating_add-self-inside.ensures
    (omega (arith, c.saturating_add-self-inside.ensures)) c.self.invariant
