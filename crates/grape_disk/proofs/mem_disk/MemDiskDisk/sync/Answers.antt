use Rattle.std.proofs.Common.{arith, rules, ◌≡◌, ◌∙◌, true, ap, subst}
use Rattle.grape_disk.specs.Platters.{synced}
use Rattle.grape_disk.specs.MemDisks.{MemDiskState, did, AreEarlier}
use Rattle.grape_disk.proofs.Moments.{sync_call, sync_quiet, sync_fewer}
use Rattle.grape_disk.proofs.mem_disk.MemDiskDisk.sync.Goals as goal

pub returns-clause-durable : goal.returns-clause-durable
returns-clause-durable c =
    let is : c.sync.new.self ≡ did c.args.self.now.calls synced c.args.self.now.file = search rules
    in let begun : c.begin.result ≡ true = search rules
    in let state = c.self.view_is ∙ c.begin.ensures.called begun
    in let next = ap (λ (s : MemDiskState). s.calls) state
    in let earlier = subst (λ (s : MemDiskState). AreEarlier c.self.inside.calls s.file.done) state c.self.invariant
    in sync_call c.args.self.now _ is earlier (omega (arith, next, c.begin.ensures.number begun))

pub returns-clause-fewer : goal.returns-clause-fewer
returns-clause-fewer c =
    let is : c.sync.new.self ≡ did c.args.self.now.calls synced c.args.self.now.file = search rules
    in let begun : c.begin.result ≡ true = search rules
    in let state = c.self.view_is ∙ c.begin.ensures.called begun
    in let next = ap (λ (s : MemDiskState). s.calls) state
    in let earlier = subst (λ (s : MemDiskState). AreEarlier c.self.inside.calls s.file.done) state c.self.invariant
    in sync_fewer c.args.self.now (record c.args.self.now { file = c.sync.new.self; calls = c.self.inside.calls }) is earlier (omega (arith, next, c.begin.ensures.number begun))

pub returns-clause-quiet : goal.returns-clause-quiet
returns-clause-quiet c =
    let is : c.sync.new.self ≡ did c.args.self.now.calls synced c.args.self.now.file = search rules
    in sync_quiet c.args.self.now _ is
