use Rattle.std.proofs.Common.{◌≡◌, [], ◌∷◌, ◌++◌, ◌+◌, None, length, sym, subst, ◌∙◌, ap, arith, Err}
use Rattle.std.specs.Prelude.{option_map}
use Rattle.std.proofs.lemmas.Result.{err_from_is_err_and}
use Rattle.text_lines.specs.Lines.{whole_lines}
use Rattle.text_lines.proofs.Lengths.{is_zero, no_bytes}
use Rattle.graph_text.specs.Input.{bad, cause_of, shown_of}
use Rattle.graph_text.specs.ReaderState.{text_state, lines_state}
use Rattle.graph_text.specs.Reader.{Answers, HasLines}
use Rattle.graph_text.proofs.Reading.{answer-exit, answer-line, text-taken, shown-line, text-line, shown-long}
use Rattle.graph_text.proofs.open_text.OpenText.end_line.Goals as goal

pub returns-then-is_empty-clause-answer : goal.returns-then-is_empty-clause-answer
returns-then-is_empty-clause-answer c = λ text h.
    let empty : c.args.self.now.line.items ≡ [] = no_bytes c.args.self.now.line.items (let e : c.args.self.now.line.len ≡ 0 = is_zero c.args.self.now.line.len (sym c.is_empty.ensures ∙ c.if-is_empty.true) in omega (arith, c.args.self.now.line.ok.0, e))
    in answer-line c.take_known.result (text_state c.args.self.now) text c.args.end.now c.args.end.now h c.requires.one (sym (ap (λ l. l ++ c.args.end.now) empty)) c.take_known.ensures.answer

pub returns-then-is_empty-clause-ok : goal.returns-then-is_empty-clause-ok
returns-then-is_empty-clause-ok c =
    let empty : c.args.self.now.line.items ≡ [] = no_bytes c.args.self.now.line.items (let e : c.args.self.now.line.len ≡ 0 = is_zero c.args.self.now.line.len (sym c.is_empty.ensures ∙ c.if-is_empty.true) in omega (arith, c.args.self.now.line.ok.0, e))
    in text-taken c.take_known.result (text_state c.args.self.now) _ c.args.end.now c.args.end.now c.requires.one (sym (ap (λ l. l ++ c.args.end.now) empty)) empty c.take_known.ensures.answer c.take_known.ensures.ok

pub returns-then-end-len-clause-answer : goal.returns-then-end-len-clause-answer
returns-then-end-len-clause-answer c = λ text h.
    subst (λ f. Answers {A = Unit {0}} (Err f) (shown_of (text ++ c.args.end.now))) (sym c.too_long.ensures)
    (shown-long (text_state c.args.self.now) text c.args.end.now h c.requires.one (omega (arith, c.args.self.now.line.ok.0, c.len.ensures, c.if-end-len.true)))

pub returns-in_err-take-clause-answer : goal.returns-in_err-take-clause-answer
returns-in_err-take-clause-answer c = λ text h.
    let p = err_from_is_err_and c.from_residual-in_err-take.result c.from_residual-in_err-take.ensures.1
    in answer-exit c.from_residual-in_err-take.result c.in_err-take.field-0.0 p.0 (shown_of (text ++ c.args.end.now)) p.1 p.2
    (answer-line (Err c.in_err-take.field-0.0) (text_state c.args.self.now) text c.args.end.now c.extend_from_slice.new.self.items h c.requires.one c.in_ok-extend_from_slice.ensures.items
    (λ lines k. subst (λ l. Answers {A = Unit {0}} (Err c.in_err-take.field-0.0) (option_map (bad (length lines + 1)) (cause_of lines l))) c.deref.ensures.value (c.in_err-take.ensures.answer lines k)))

pub returns-clause-answer : goal.returns-clause-answer
returns-clause-answer c = λ text h.
    shown-line (text_state c.args.self.now) text c.args.end.now c.extend_from_slice.new.self.items h c.requires.one c.in_ok-extend_from_slice.ensures.items
    ∙ subst (λ l. option_map (bad (length (whole_lines text) + 1)) (cause_of (whole_lines text) l) ≡ None) c.deref.ensures.value (c.in_ok-take.ensures.answer (whole_lines text) h.whole)

pub returns-clause-ok : goal.returns-clause-ok
returns-clause-ok c = λ text h.
    text-line (text_state c.args.self.now) _ text c.args.end.now c.extend_from_slice.new.self.items h c.requires.one c.in_ok-extend_from_slice.ensures.items c.clear.ensures.items
    (subst (λ l. option_map (bad (length (whole_lines text) + 1)) (cause_of (whole_lines text) l) ≡ None) c.deref.ensures.value (c.in_ok-take.ensures.answer (whole_lines text) h.whole))
    (subst (λ l. HasLines (lines_state c.take.new.self) (whole_lines text ++ l ∷ [])) c.deref.ensures.value (c.in_ok-take.ensures.ok (whole_lines text) h.whole))
