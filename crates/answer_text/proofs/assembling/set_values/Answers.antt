use Rattle.std.proofs.Common.{◌<◌, ◌∙◌, length, get_or, slice_index, refl, arith}
use Rattle.std.proofs.Math.Seq.{map-set_same}
use Rattle.answer_text.specs.AnswerText.{answer_row}
use Rattle.answer_text.specs.declared.answer.AnswerRow.{AnswerRow}
use Rattle.answer_text.proofs.RowValues.{set_next, others_next}
use Rattle.answer_text.proofs.assembling.set_values.Goals as goal

pub loop-place-preserved : goal.loop-place-preserved
loop-place-preserved c =
    let here = c.loop-place.place in
    let vertex = slice_index c.args.owned.now here in
    let inside : vertex < length c.loop-place.rows = omega (arith, c.requires.inside here 0 c.loop-place-test.true, c.loop-place.auto.rows) in
    let id = (get_or c.loop-place.rows vertex (answer_row 0 0)).id in
    record {
      ids = map-set_same (λ (row : AnswerRow). row.id) c.loop-place.rows vertex (answer_row id (slice_index c.args.values.now here)) (answer_row 0 0) refl ∙ c.loop-place.invariant.ids;
      set = set_next c.args.owned.now c.args.values.now c.requires.once c.args.rows.now c.loop-place.rows here c.loop-place-test.true inside id c.loop-place.invariant.set;
      others = others_next c.args.owned.now c.args.values.now c.requires.once c.args.rows.now c.loop-place.rows here c.loop-place-test.true inside id c.loop-place.invariant.others;
    }
