use Rattle.std.proofs.Common.{◌≡◌, ◌<◌, ◌∙◌, true, false, length, arith, ap, sym, subst, slice_index, w64}
use Rattle.std.specs.Int.{trailing_zeros}
use Rattle.std.proofs.lemmas.List.{get_or_default}
use Rattle.std.proofs.Math.Facts.{Fits-lt-pow}
use Rattle.std.proofs.lemmas.Nat.Bits.{bit_at-trailing_zeros}
use Rattle.value_order.specs.declared.order.Order.TheVariants.{Mask}
use Rattle.value_order.specs.Order.{Below}
use Rattle.pie_sim.specs.SimJobs.{SimValues}
use Rattle.pie_sim.proofs.Bits.{AreKept, without_bit, without-less, kept-first, kept-on, kept-off, kept-all}
use Rattle.pie_sim.proofs.sim.Sim.kept.Goals as goal
use Rattle.pie_sim.proofs.sim.Sim.kept.Goals.{then-not-below, else-not-below}

pub nodes-init : goal.nodes-init
nodes-init c = kept-first c.args.self.now.targets c.args.value c.args.read

pub nodes-smaller : goal.nodes-smaller
nodes-smaller c =
    let rest = c.nodes.rest in
    let lowest = bit_at-trailing_zeros w64 rest (omega (arith, c.nodes-test.true)) (Fits-lt-pow c.nodes.auto.rest-fits) in
    without-less rest (trailing_zeros w64 rest) lowest.0 lowest.1

pub nodes-preserved : goal.nodes-preserved
nodes-preserved c =
    let targets = c.args.self.now.targets in
    let value = c.args.value in
    let read = c.args.read in
    let kept = c.nodes.kept in
    let rest = c.nodes.rest in
    let rest_word = Fits-lt-pow c.nodes.auto.rest-fits in
    let lowest = bit_at-trailing_zeros w64 rest (omega (arith, c.nodes-test.true)) rest_word in
    let kept_word = Fits-lt-pow c.nodes.auto.kept-fits in
    let n = trailing_zeros w64 rest in
    let inside : n < length c.self.inside.targets.items = omega (arith, lowest.0, c.self.invariant.0) in
    let same : c.index.result.now ≡ slice_index targets n = c.index.ensures ∙ get_or_default c.self.inside.targets.items n c.index.result.now 0 inside ∙ ap (λ (v : SimValues). slice_index v.targets n) c.self.view_is in
    elim c.if-not-below.branch [
      | then-not-below w ↦ subst (AreKept targets value read (without_bit rest n)) (sym w.kept-is) (kept-off targets value read rest kept n lowest.0 rest_word c.nodes.invariant kept_word (λ b. absurd (let x : false ≡ true = sym w.if-not-below.true ∙ c.below.ensures.below.1 (subst (λ t. Below Mask t read) (sym same) b) in cc)))
      | else-not-below w ↦ subst (AreKept targets value read (without_bit rest n)) (sym w.kept-is) (kept-on targets value read rest kept n lowest.0 rest_word c.nodes.invariant (subst (λ t. Below Mask t read) same (c.below.ensures.below.0 w.if-not-below.false)))
    ]

pub returns : goal.returns
returns c = kept-all c.args.self.now.targets c.args.value c.args.read c.nodes.rest c.nodes.kept c.nodes-test.false c.nodes.invariant
