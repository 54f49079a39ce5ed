use Rattle.std.proofs.Common.{arith, flat_map, take}
use Rattle.std.proofs.lemmas.Result.{err_from_is_err_and}
use Rattle.answer_text.specs.AnswerText.{row_text}
use Rattle.answer_text.proofs.Texts.{front_of_lines, puts_then_front, puts_line}
use Rattle.answer_text.proofs.write.put_rows.Goals as goal

pub returns-in_err-make_room-clause-err : goal.returns-in_err-make_room-clause-err
returns-in_err-make_room-clause-err g c =
    let p = err_from_is_err_and c.from_residual.result c.from_residual.ensures.1
    in rw p.1 (front_of_lines (row_text c.args.kind) c.args.rows.now c.loop-row.row-index _ _ c.args.piece.now (puts_then_front _ _ _ c.args.piece.now (flat_map (row_text c.args.kind) (take c.loop-row.row-index c.args.rows.now)) c.loop-row.piece c.loop-row.invariant.0 c.in_err-make_room.ensures.err))

pub loop-row-preserved : goal.loop-row-preserved
loop-row-preserved g c = (
  puts_line (row_text c.args.kind) c.args.rows.now c.loop-row.row-index _ _ _ (g.O.Sink.written c.make_room.new.out) c.args.piece.now c.loop-row.piece c.make_room.new.self _ c.loop-row-test.true c.loop-row.invariant.0 c.in_ok-make_room.ensures.put c.push_row.ensures,
  omega (arith, c.loop-row.invariant.1, c.make_room.ensures.faults_stay),
)
