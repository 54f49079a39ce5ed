use Rattle.std.proofs.Common.{◌+◌, length, ◌∙◌, arith}
use Rattle.snapshot_store.specs.Steps.{KeepsGate}
use Rattle.snapshot_store.proofs.Blank.{gate_itself, keeps_gate}
use Rattle.snapshot_store.proofs.Moments.{leaves_quiet, leaves_then, leaves_within}
use Rattle.snapshot_store.proofs.create.write_blank.Goals as goal

pub returns-clause-crash : goal.returns-clause-crash
returns-clause-crash g c = λ honest file rest some.
    let top = c.args.end + 1 in
    let Q = KeepsGate file top in
    let r = c.requires in
    let honest-2 = c.write_at.ensures.counts.as_honest ∙ honest in
    let honest-3 = c.write_at-2.ensures.counts.as_honest ∙ honest-2 in
    let honest-4 = c.write_at-3.ensures.counts.as_honest ∙ honest-3 in
    let first = leaves_within g.D.Disk.content g.D.Disk.images g.D.Disk.moment _ _ Q 1 (length c.args.front.now) c.write_at.ensures.counts.later (c.write_at.ensures.crash honest)
    (keeps_gate file top 1 (length c.args.front.now) some (omega arith) (omega (arith, r.front))) (λ f image. gate_itself file top f (rest.only f image)) in
    let second = leaves_within g.D.Disk.content g.D.Disk.images g.D.Disk.moment _ _ Q c.args.gate 1 c.write_at-2.ensures.counts.later (c.write_at-2.ensures.crash honest-2)
    (keeps_gate file top c.args.gate 1 some r.gate (omega (arith, r.order))) first.1 in
    let third = leaves_within g.D.Disk.content g.D.Disk.images g.D.Disk.moment _ _ Q c.args.end 1 c.write_at-3.ensures.counts.later (c.write_at-3.ensures.crash honest-3)
    (keeps_gate file top c.args.end 1 some (omega (arith, r.gate, r.order)) (omega arith)) second.1 in
    let last = leaves_quiet g.D.Disk.content g.D.Disk.images g.D.Disk.moment _ _ Q c.sync.ensures.counts.later (c.sync.ensures.crash honest-4) in
    let two = leaves_then g.D.Disk.content g.D.Disk.images g.D.Disk.moment _ _ _ Q Q Q first.0 second.0 (λ f q. q) (λ f q. q) in
    let three = leaves_then g.D.Disk.content g.D.Disk.images g.D.Disk.moment _ _ _ Q Q Q two third.0 (λ f q. q) (λ f q. q) in
    leaves_then g.D.Disk.content g.D.Disk.images g.D.Disk.moment _ _ _ Q Q Q three last (λ f q. q) (λ f q. q)
