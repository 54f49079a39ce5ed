use Rattle.std.proofs.Common.{◌≡◌, ◌++◌, None, Err, subst, sym, ◌∙◌}
use Rattle.std.proofs.lemmas.Result.{err_from_is_err_and}
use Rattle.text_lines.specs.Lines.{lines_of, whole_lines, HasNoLineFeed}
use Rattle.text_lines.proofs.Cuts.{last_has_no_line_feed}
use Rattle.graph_text.specs.Input.{first_bad, cause_of, input_of}
use Rattle.graph_text.specs.ReaderState.{lines_state, text_state}
use Rattle.graph_text.specs.Reader.{Answers, HasLines}
use Rattle.graph_text.proofs.Reading.{gives-exit, gives_bad, gives_lines}
use Rattle.graph_text.proofs.open_text.OpenText.finish.Goals as goal

pub take_last-requires : goal.take_last-requires
take_last-requires c = subst HasNoLineFeed (sym (c.deref.ensures.value ∙ c.requires.1.line)) (last_has_no_line_feed c.requires.0)

pub returns-in_err-take_last-clause-answer : goal.returns-in_err-take_last-clause-answer
returns-in_err-take_last-clause-answer c = λ text h.
    let p = err_from_is_err_and c.from_residual.result c.from_residual.ensures.1
    in gives-exit c.from_residual.result c.in_err-take_last.field-0.0 p.0 (input_of text) p.1 p.2
    (gives_bad c.in_err-take_last.field-0.0 (text_state c.args.self) text h
    (subst (λ l. Answers {A = Unit {0}} (Err c.in_err-take_last.field-0.0) (first_bad cause_of (whole_lines text) (lines_of l))) c.deref.ensures.value (c.in_err-take_last.ensures.answer (whole_lines text) h.whole)))

pub returns-clause-answer : goal.returns-clause-answer
returns-clause-answer c = λ text h.
    gives_lines c.into_job.result (text_state c.args.self) text h
    (subst (λ l. first_bad cause_of (whole_lines text) (lines_of l) ≡ None) c.deref.ensures.value (c.in_ok-take_last.ensures.answer (whole_lines text) h.whole))
    (c.into_job.ensures.answer (whole_lines text ++ lines_of c.args.self.line.items)
    (subst (λ l. HasLines (lines_state c.take_last.new.self) (whole_lines text ++ lines_of l)) c.deref.ensures.value (c.in_ok-take_last.ensures.ok (whole_lines text) h.whole)))
