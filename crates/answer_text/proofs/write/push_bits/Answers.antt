use Rattle.std.proofs.Common.{◌≡◌, ◌∙◌, true, false, arith}
use Rattle.std.proofs.lemmas.Bool.Decides.{nat_tests}
use Rattle.graph_core.specs.Queries.{has_bit}
use Rattle.answer_text.proofs.Numbers.{pushed_next, pushed_same, pushed_at, all_pushed-none, all_pushed-some}
use Rattle.answer_text.proofs.write.push_bits.Goals as goal
use Rattle.answer_text.proofs.write.push_bits.Goals.{then-mask-bit-eq1, else-mask-bit-eq1}

pub bits-preserved : goal.bits-preserved
bits-preserved c = elim c.if-mask-bit-eq1.branch [
  | then-mask-bit-eq1 w ↦
      let here : has_bit c.args.mask c.bits.bit ≡ true = grind (arith, nat_tests)
      in rw (w.piece-is, w.none-is) (pushed_next _ _ _ _ _ _ c.bits.invariant here w.push_bit.ensures.text w.push_bit.ensures.short)
  | else-mask-bit-eq1 w ↦
      let absent : has_bit c.args.mask c.bits.bit ≡ false = grind (arith, nat_tests)
      in rw (w.piece-is, w.none-is) (pushed_same _ _ _ _ _ c.bits.invariant absent)
]

pub returns-then-none-clause-text : goal.returns-then-none-clause-text
returns-then-none-clause-text c =
    c.push.ensures ∙ all_pushed-none _ _ _ (pushed_at _ _ _ _ _ _ c.bits.invariant (omega arith) c.if-none.true)

pub returns-else-none-clause-text : goal.returns-else-none-clause-text
returns-else-none-clause-text c =
    all_pushed-some _ _ _ (pushed_at _ _ _ _ _ _ c.bits.invariant (omega arith) c.if-none.false)
