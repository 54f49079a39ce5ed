use Rattle.std.proofs.Common.{◌≡◌, inl, inr, ℕ, List, [], ◌∷◌, length, sym, ◌∙◌, ap, subst, arith}
use Rattle.grape_disk.specs.Images.{Torn, written}
use Rattle.snapshot_store.specs.Steps.{closed, ClosesGate, ClosesFile, HasShutGate}
use Rattle.snapshot_store.proofs.Blank.{closed_empty, closed_gate, written_gate}
use Rattle.snapshot_store.proofs.Gates.{rest_same, on_ok}
use Rattle.snapshot_store.proofs.Moments.{leaves_quiet, leaves_then, leaves_only, within_quiet, within_then}
use Rattle.snapshot_store.proofs.create.close_file.Goals as goal

pub returns-then-size-gt0-clause-done : goal.returns-then-size-gt0-clause-done
returns-then-size-gt0-clause-done g c = λ honest file rest.
    let rest-2 = c.in_ok-close_gate.ensures.done honest file rest in
    let honest-2 = c.close_gate.ensures.honest ∙ honest in
    let size = c.in_ok-size.ensures.length (closed 0 file) rest-2.told in
    (closed 0 file, rest_same g.D.Disk.content g.D.Disk.images g.D.Disk.moment _ _ (closed 0 file) rest-2 (c.len.ensures.crash honest-2).0, closed_gate file (omega (arith, size)))

pub returns-clause-done : goal.returns-clause-done
returns-clause-done g c = on_ok c.write_synced.result _ _ (λ done honest file rest.
    let rest-2 = c.in_ok-close_gate.ensures.done honest file rest in
    let honest-2 = c.close_gate.ensures.honest ∙ honest in
    let size = c.in_ok-size.ensures.length (closed 0 file) rest-2.told in
    let same = closed_empty file (omega (arith, size)) in
    let rest-3 = rest_same g.D.Disk.content g.D.Disk.images g.D.Disk.moment _ _ (closed 0 file) rest-2 (c.len.ensures.crash honest-2).0 in
    (written 0 (0 ∷ []) (closed 0 file), done (c.len.ensures.counts.as_honest ∙ honest-2) (closed 0 file) rest-3.told, subst (λ (f : List ℕ). HasShutGate file (written 0 (0 ∷ []) f)) (sym same) (written_gate file)))
    c.write_synced.ensures.done

pub returns-clause-crash : goal.returns-clause-crash
returns-clause-crash g c = λ honest file rest.
    let P = ClosesFile file in
    let rest-2 = c.in_ok-close_gate.ensures.done honest file rest in
    let honest-2 = c.close_gate.ensures.honest ∙ honest in
    let size = c.in_ok-size.ensures.length (closed 0 file) rest-2.told in
    let none : length (closed 0 file) ≡ 0 = omega (arith, size) in
    let same = closed_empty file none in
    let rest-3 = rest_same g.D.Disk.content g.D.Disk.images g.D.Disk.moment _ _ (closed 0 file) rest-2 (c.len.ensures.crash honest-2).0 in
    let first = leaves_only g.D.Disk.content g.D.Disk.images g.D.Disk.moment _ _ (ClosesGate 0 file) P (c.close_gate.ensures.crash honest file rest) (λ f closes. (inr closes.0, closes.1)) in
    let second = leaves_quiet g.D.Disk.content g.D.Disk.images g.D.Disk.moment _ _ P c.len.ensures.counts.later (c.len.ensures.crash honest-2).1 in
    let both = leaves_then g.D.Disk.content g.D.Disk.images g.D.Disk.moment _ _ _ P P P first second (λ f p. p) (λ f p. p) in
    leaves_then g.D.Disk.content g.D.Disk.images g.D.Disk.moment _ _ _ P _ P both (c.write_synced.ensures.crash (c.len.ensures.counts.as_honest ∙ honest-2) (closed 0 file) rest-3) (λ f p. p)
    (λ f torn. (inl (ap length (sym same) ∙ none), subst (λ (d : List ℕ). Torn 0 1 d f) same torn))

pub returns-clause-size : goal.returns-clause-size
returns-clause-size g c = λ honest most low.
    let images = g.D.Disk.images in
    let moment = g.D.Disk.moment in
    let since = g.met.D.Disk.since_earlier in
    let honest-2 = c.close_gate.ensures.honest ∙ honest in
    let first = c.close_gate.ensures.size honest most (omega (arith, low)) in
    let second = within_quiet images moment since _ _ most c.len.ensures.counts.later (c.len.ensures.crash honest-2).1 in
    let third = c.write_synced.ensures.size (c.len.ensures.counts.as_honest ∙ honest-2) most (omega (arith, low)) in
    within_then images moment since _ _ _ most (within_then images moment since _ _ _ most first second) third
