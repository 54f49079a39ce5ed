use Rattle.std.proofs.Common.{◌++◌, ap, subst, ◌∙◌, append_assoc, Err}
use Rattle.std.proofs.lemmas.Result.{err_from_is_err_and}
use Rattle.graph_text.specs.Input.{shown_of}
use Rattle.graph_text.specs.ReaderState.{text_state}
use Rattle.graph_text.specs.Reader.{Answers, HasText}
use Rattle.graph_text.proofs.Reading.{answers_more, answer-exit, piece-front, text-rest}
use Rattle.graph_text.proofs.open_text.OpenText.read.Goals as goal

pub returns-in_err-end_line-clause-answer : goal.returns-in_err-end_line-clause-answer
returns-in_err-end_line-clause-answer c = λ text h.
    let p = err_from_is_err_and c.from_residual.result c.from_residual.ensures.1
    in let taken = c.lines.invariant.taken
    in answer-exit c.from_residual.result c.in_err-end_line.field-0.0 p.0 (shown_of (text ++ c.args.piece.now)) p.1 p.2
    (subst (λ front. Answers {A = Unit {0}} (Err c.in_err-end_line.field-0.0) (shown_of front))
    (piece-front text taken c.in-Some.end.now c.in-Some.others.now c.lines.rest.now c.args.piece.now c.lines.invariant.front c.in-Some.ensures.1)
    (answers_more c.in_err-end_line.field-0.0 ((text ++ taken) ++ c.in-Some.end.now) c.in-Some.others.now (c.in_err-end_line.ensures.answer (text ++ taken) (c.lines.invariant.reads text h))))

pub lines-preserved : goal.lines-preserved
lines-preserved c =
    let taken = c.lines.invariant.taken
    in record {
      taken = taken ++ c.in-Some.end.now;
      front = append_assoc taken c.in-Some.end.now c.in-Some.others.now ∙ ap (λ l. taken ++ l) c.in-Some.ensures.1 ∙ c.lines.invariant.front;
      reads = λ text h. subst (HasText (text_state c.end_line.new.self)) (append_assoc text taken c.in-Some.end.now) (c.in_ok-end_line.ensures.ok (text ++ taken) (c.lines.invariant.reads text h));
    }

pub returns-clause-ok : goal.returns-clause-ok
returns-clause-ok c =
    text-rest c.hold.result (text_state c.args.self.now) (text_state c.lines.self) (text_state c.hold.new.self) c.lines.invariant.taken c.lines.rest.now c.args.piece.now c.lines.invariant.front c.lines.invariant.reads c.hold.ensures.ok
