use Rattle.std.proofs.Common.{ℕ, ◌+◌, List, length, take, get_or, arith, sym, ap, ◌∙◌}
use Rattle.std.specs.Prelude.{max}
use Rattle.std.specs.List.{sum}
use Rattle.answer_text.specs.declared.answer.AnswerRow.{AnswerRow}
use Rattle.answer_text.specs.declared.totals.Totals.{Totals}
use Rattle.answer_text.specs.Summary.{distances_in, greatest_of}
use Rattle.answer_text.proofs.Tallies.{with_reached, with_far, length_more, sum_more, greatest_more, reached_test, far_test}
use Rattle.answer_text.proofs.totals.totals_of_rows.Goals as goal
use Rattle.answer_text.proofs.totals.totals_of_rows.Goals.{then-row-ne-FAR, else-row-ne-FAR}

pub loop-row-preserved : goal.loop-row-preserved
loop-row-preserved c =
    let rows = c.args.rows.now in
    let i = c.loop-row.row-index in
    let before = c.loop-row.invariant in
    let blank : AnswerRow = record { id = 0; value = 0 } in
    let value = (get_or rows i blank).value in
    let so_far = distances_in (take i rows) in
    elim c.if-row-ne-FAR.branch [
      | then-row-ne-FAR w ↦
          let more = with_reached rows i blank c.loop-row-test.true (reached_test value w.if-row-ne-FAR.true) in
          let reached = ap (λ (t : Totals). t.reached) w.totals-is in
          let sum_now = ap (λ (t : Totals). t.sum) w.totals-is in
          record {
            count = ap (λ (t : Totals). t.count) w.totals-is ∙ before.count;
            reached = reached ∙ ap (λ n. n + 1) before.reached ∙ sym (ap (λ (l : List ℕ). length l) more ∙ length_more so_far value);
            few = let l = before.few in omega (arith, reached, l);
            sum_is = sum_now ∙ ap (λ n. c.loop-row.totals.sum + n) w.from.ensures ∙ ap (λ n. n + value) before.sum_is ∙ sym (ap sum more ∙ sum_more so_far value);
            narrow = let l = before.narrow in let m = w.max.type_inv in let e = w.max.ensures in let f = w.from.ensures in omega (arith, sum_now, l, m, e, f);
            greatest = ap (λ (t : Totals). t.greatest) w.totals-is ∙ w.max.ensures ∙ ap (λ n. max n value) before.greatest ∙ sym (ap greatest_of more ∙ greatest_more so_far value);
          }
      | else-row-ne-FAR w ↦
          let more = with_far rows i blank c.loop-row-test.true (far_test value w.if-row-ne-FAR.false) in
          let reached = ap (λ (t : Totals). t.reached) w.totals-is in
          let sum_now = ap (λ (t : Totals). t.sum) w.totals-is in
          record {
            count = ap (λ (t : Totals). t.count) w.totals-is ∙ before.count;
            reached = reached ∙ before.reached ∙ sym (ap (λ (l : List ℕ). length l) more);
            few = let l = before.few in omega (arith, reached, l);
            sum_is = sum_now ∙ before.sum_is ∙ sym (ap sum more);
            narrow = let l = before.narrow in omega (arith, sum_now, l);
            greatest = ap (λ (t : Totals). t.greatest) w.totals-is ∙ before.greatest ∙ sym (ap greatest_of more);
          }
    ]
