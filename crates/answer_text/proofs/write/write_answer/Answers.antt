use Rattle.std.proofs.Common.{◌≡◌, ℕ, List, OnErr, subst, ap, ◌∙◌}
use Rattle.grape_port.specs.Ports.{AppendsFront}
use Rattle.answer_text.specs.AnswerTable.{AnswerTable}
use Rattle.answer_text.specs.AnswerText.{answer_text}
use Rattle.answer_text.specs.declared.answer.AnswerRow.{AnswerRow}
use Rattle.answer_text.proofs.write.write_answer.Goals as goal

pub returns-clause-err : goal.returns-clause-err
returns-clause-err g c =
    let table = c.args.answer.now
    in let text : answer_text c.answer.inside.kind c.deref.result.now ≡ answer_text table.kind table.rows = ap (λ (rows : List AnswerRow). answer_text c.answer.inside.kind rows) c.deref.ensures.value ∙ ap (λ (t : AnswerTable). answer_text t.kind t.rows) c.answer.view_is
    in subst (λ (t : List ℕ). OnErr c.write_rows.result (AppendsFront (g.O.Sink.written c.args.out.now) t (g.O.Sink.written c.write_rows.new.out))) text c.write_rows.ensures.err
