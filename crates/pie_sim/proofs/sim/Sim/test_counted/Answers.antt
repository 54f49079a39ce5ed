use Rattle.std.proofs.Common.{◌∙◌, arith, ap, sym, subst, slice_index}
use Rattle.pie_sim.specs.SimJobs.{HasBit}
use Rattle.pie_sim.proofs.Bits.{below-bit, bit-below}
use Rattle.pie_sim.proofs.Steps.{tested-fallen, tested-settled}
use Rattle.pie_sim.proofs.sim.Sim.test_counted.Goals as goal

pub lower_counted-requires-clause-below : goal.lower_counted-requires-clause-below
lower_counted-requires-clause-below c =
    let place = c.args.place in
    let same = ap (λ xs. slice_index xs place) c.values.ensures.values in
    bit-below c.kept-kept.result (slice_index c.args.local.now.values place) (λ k b. subst (λ n. HasBit n k) same ((c.kept-kept.ensures k).0 b).0)

pub returns-clause-fallen : goal.returns-clause-fallen
returns-clause-fallen c =
    let targets = c.args.self.now.targets in
    let part = c.args.part.now in
    let old = c.args.local.now in
    let place = c.args.place in
    let kept = c.kept-kept.result in
    let read = c.counted_bits-read.result in
    let same = ap (λ xs. slice_index xs place) c.values.ensures.values in
    tested-fallen targets part old c.lower_counted.new.local place kept c.lower_counted.ensures.lowered (omega (arith, c.requires.place, c.requires.fits.places)) c.requires.place
    (bit-below kept (slice_index old.values place) (λ k b. subst (λ n. HasBit n k) same ((c.kept-kept.ensures k).0 b).0))
    (λ k b stay. (c.kept-kept.ensures k).1 (subst (λ n. HasBit n k) (sym same) b, bit-below (slice_index targets k) read (λ m t. c.counted_bits-read.ensures m ∙ stay m t)))

pub returns-clause-settled : goal.returns-clause-settled
returns-clause-settled c =
    let targets = c.args.self.now.targets in
    let read = c.counted_bits-read.result in
    tested-settled targets c.args.part.now c.args.local.now c.lower_counted.new.local c.args.place c.kept-kept.result c.lower_counted.ensures.lowered (omega (arith, c.requires.place, c.requires.fits.places))
    (λ l k m b t. sym (c.counted_bits-read.ensures m) ∙ below-bit (slice_index targets k) read m ((c.kept-kept.ensures k).0 b).1 t)
