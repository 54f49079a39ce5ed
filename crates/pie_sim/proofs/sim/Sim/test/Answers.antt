use Rattle.std.proofs.Common.{◌∙◌, arith, ap, sym, subst, slice_index, slice_index_or, []}
use Rattle.pie_sim.specs.SimJobs.{HasBit}
use Rattle.pie_sim.specs.Falling.{is_read}
use Rattle.pie_sim.proofs.Bits.{below-bit, bit-below}
use Rattle.pie_sim.proofs.Steps.{tested-fallen, tested-settled}
use Rattle.pie_sim.proofs.sim.Sim.test.Goals as goal

pub lower-requires-clause-below : goal.lower-requires-clause-below
lower-requires-clause-below c =
    let place = c.args.place in
    let same = ap (λ xs. slice_index xs place) c.values-2.ensures.values in
    bit-below c.kept-kept.result (slice_index c.args.local.now.values place) (λ k b. subst (λ n. HasBit n k) same ((c.kept-kept.ensures k).0 b).0)

pub returns-clause-fallen : goal.returns-clause-fallen
returns-clause-fallen c =
    let sim = c.args.self.now.targets in
    let part = c.args.part.now in
    let old = c.args.local.now in
    let place = c.args.place in
    let kept = c.kept-kept.result in
    let row = slice_index_or part.readings place [] in
    let read = c.read_bits-read.result in
    let same = ap (λ xs. slice_index xs place) c.values-2.ensures.values in
    tested-fallen sim part old c.lower.new.local place kept c.lower.ensures.lowered (omega (arith, c.requires.place, c.requires.fits.places)) c.requires.place
    (bit-below kept (slice_index old.values place) (λ k b. subst (λ n. HasBit n k) same ((c.kept-kept.ensures k).0 b).0))
    (λ k b stay. (c.kept-kept.ensures k).1 (subst (λ n. HasBit n k) (sym same) b, bit-below (slice_index sim k) read (λ m t. (c.read_bits-read.ensures m ∙ ap (λ xs. is_read row xs m) c.values.ensures.values) ∙ stay m t)))

pub returns-clause-settled : goal.returns-clause-settled
returns-clause-settled c =
    let sim = c.args.self.now.targets in
    let part = c.args.part.now in
    let old = c.args.local.now in
    let place = c.args.place in
    let row = slice_index_or part.readings place [] in
    let read = c.read_bits-read.result in
    tested-settled sim part old c.lower.new.local place c.kept-kept.result c.lower.ensures.lowered (omega (arith, c.requires.place, c.requires.fits.places))
    (λ l k m b t. sym (c.read_bits-read.ensures m ∙ ap (λ xs. is_read row xs m) c.values.ensures.values) ∙ below-bit (slice_index sim k) read m ((c.kept-kept.ensures k).0 b).1 t)
