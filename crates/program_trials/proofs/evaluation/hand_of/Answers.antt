use Rattle.std.proofs.Common.{◌+◌, sym, subst}
use Rattle.std.proofs.lemmas.Bool.{eq-eqb, ne_eqb}
use Rattle.message_buffer.specs.HandValues.{HandValues}
use Rattle.program_trials.proofs.HandValues.{IsFilledTo, filled-past, filled-more}
use Rattle.program_trials.proofs.evaluation.hand_of.Goals as goal
use Rattle.program_trials.proofs.evaluation.hand_of.Goals.{then-mirror-every-eq0, else-mirror-every-eq0}

pub mirrors-preserved : goal.mirrors-preserved
mirrors-preserved c =
    let P : HandValues → Type 0 = λ hand. IsFilledTo c.args.every c.args.value c.args.mirrors (c.mirrors.mirror + 1) hand.values in
    let old = c.mirrors.hand in
    elim c.if-mirror-every-eq0.branch [
      | then-mirror-every-eq0 w ↦
          subst P (sym w.hand-is) (subst P (sym w.lower.ensures) (filled-more old.order c.args.every c.args.value c.args.mirrors c.mirrors.mirror old.values c.ranges.value.fits c.mirrors-test.true (eq-eqb _ 0 w.if-mirror-every-eq0.true) c.mirrors.invariant))
      | else-mirror-every-eq0 w ↦
          subst P (sym w.hand-is) (filled-past c.args.every c.args.value c.args.mirrors c.mirrors.mirror old.values c.mirrors-test.true (ne_eqb _ 0 w.if-mirror-every-eq0.false) c.mirrors.invariant)
    ]
