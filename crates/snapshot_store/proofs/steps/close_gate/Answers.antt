use Rattle.std.proofs.Common.{ℕ, List, sym, ◌∙◌, subst, arith}
use Rattle.grape_disk.specs.Images.{AtRest, Torn}
use Rattle.snapshot_store.specs.Steps.{ClosesGate}
use Rattle.snapshot_store.proofs.Gates.{closed_past, closed_open, gate_read, rest_same, on_ok}
use Rattle.snapshot_store.proofs.Moments.{leaves_quiet, leaves_then, within_quiet, within_then}
use Rattle.snapshot_store.proofs.steps.close_gate.Goals as goal

pub returns-then-size-at-clause-done : goal.returns-then-size-at-clause-done
returns-then-size-at-clause-done g c = λ honest file rest.
    let size = c.in_ok-size.ensures.length file rest.told in
    let now = rest_same g.D.Disk.content g.D.Disk.images g.D.Disk.moment _ _ file rest (c.len.ensures.crash honest).0 in
    subst (λ (f : List ℕ). AtRest g.D.Disk.content g.D.Disk.images g.D.Disk.moment c.len.new.self f) (sym (closed_past c.args.at file (omega arith))) now

pub returns-clause-done : goal.returns-clause-done
returns-clause-done g c = on_ok c.write_synced.result _ _ (λ done honest file rest.
    let after_len = rest_same g.D.Disk.content g.D.Disk.images g.D.Disk.moment _ _ file rest (c.len.ensures.crash honest).0 in
    let honest_len = c.len.ensures.counts.as_honest ∙ honest in
    let after_read = rest_same g.D.Disk.content g.D.Disk.images g.D.Disk.moment _ _ file after_len (c.read_at.ensures.crash honest_len).0 in
    let is = sym (gate_read c.args.at file c.read_at.new.to (c.in_ok-read_at.ensures.bytes file after_len.told)) ∙ c.if-gate-ne-OPEN.false in
    subst (λ (f : List ℕ). AtRest g.D.Disk.content g.D.Disk.images g.D.Disk.moment c.write_synced.new.disk f) (sym (closed_open c.args.at file is)) (done (c.read_at.ensures.counts.as_honest ∙ honest_len) file after_read.told))
    c.write_synced.ensures.done

pub returns-clause-crash : goal.returns-clause-crash
returns-clause-crash g c = λ honest file rest.
    let P = ClosesGate c.args.at file in
    let honest_len = c.len.ensures.counts.as_honest ∙ honest in
    let after_len = rest_same g.D.Disk.content g.D.Disk.images g.D.Disk.moment _ _ file rest (c.len.ensures.crash honest).0 in
    let after_read = rest_same g.D.Disk.content g.D.Disk.images g.D.Disk.moment _ _ file after_len (c.read_at.ensures.crash honest_len).0 in
    let is = sym (gate_read c.args.at file c.read_at.new.to (c.in_ok-read_at.ensures.bytes file after_len.told)) ∙ c.if-gate-ne-OPEN.false in
    let first = leaves_quiet g.D.Disk.content g.D.Disk.images g.D.Disk.moment _ _ P c.len.ensures.counts.later (c.len.ensures.crash honest).1 in
    let second = leaves_quiet g.D.Disk.content g.D.Disk.images g.D.Disk.moment _ _ P c.read_at.ensures.counts.later (c.read_at.ensures.crash honest_len).1 in
    let both = leaves_then g.D.Disk.content g.D.Disk.images g.D.Disk.moment _ _ _ P P P first second (λ f p. p) (λ f p. p) in
    let third = c.write_synced.ensures.crash (c.read_at.ensures.counts.as_honest ∙ honest_len) file after_read in
    leaves_then g.D.Disk.content g.D.Disk.images g.D.Disk.moment _ _ _ P (Torn c.args.at 1 file) P both third (λ f p. p) (λ f torn. (is, torn))

pub returns-clause-size : goal.returns-clause-size
returns-clause-size g c = λ honest most low.
    let images = g.D.Disk.images in
    let moment = g.D.Disk.moment in
    let since = g.met.D.Disk.since_earlier in
    let honest_len = c.len.ensures.counts.as_honest ∙ honest in
    let first = within_quiet images moment since _ _ most c.len.ensures.counts.later (c.len.ensures.crash honest).1 in
    let second = within_quiet images moment since _ _ most c.read_at.ensures.counts.later (c.read_at.ensures.crash honest_len).1 in
    let third = c.write_synced.ensures.size (c.read_at.ensures.counts.as_honest ∙ honest_len) most (omega (arith, low)) in
    within_then images moment since _ _ _ most (within_then images moment since _ _ _ most first second) third
