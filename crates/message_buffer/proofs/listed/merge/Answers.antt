use Rattle.std.proofs.Common.{◌∙◌, ap, sym, subst, arith}
use Rattle.message_buffer.specs.Buffers.{meets_of}
use Rattle.message_buffer.specs.Listed.{IsCalm}
use Rattle.message_buffer.proofs.Places.{meets_of-calm}
use Rattle.message_buffer.proofs.Kept.{all-fit, calm_is}
use Rattle.message_buffer.proofs.listed.merge.Goals as goal

pub returns-else-has_others-clause-met : goal.returns-else-has_others-clause-met
returns-else-has_others-clause-met c =
    let calm = calm_is c.args.values.now c.args.others.now (subst (λ b. IsCalm b c.args.others.now) c.if-has_others.false c.requires.calm) c.requires.same in
    sym (ap (meets_of c.args.order c.args.values.now) calm ∙ meets_of-calm c.args.order c.args.values.now (all-fit c.args.values.now (λ i. let f = c.type_inv.values i in omega (arith, f))))
