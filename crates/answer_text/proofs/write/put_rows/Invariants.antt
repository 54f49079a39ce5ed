use Rattle.std.proofs.Common.{◌≤◌, take, flat_map}
use Rattle.answer_text.specs.AnswerText.{row_text}
use Rattle.answer_text.specs.Waiting.{Puts}
use Rattle.answer_text.proofs.write.put_rows.Given as goal

abbrev pub invariant-loop-row : goal.invariant-loop-row
invariant-loop-row g l = Puts (g.O.Sink.written l.initial.out) l.initial.piece (flat_map (row_text l.kind) (take l.row-index l.rows)) (g.O.Sink.written l.out) l.piece × (g.O.Sink.faults l.initial.out ≤ g.O.Sink.faults l.out)
