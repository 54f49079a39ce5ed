use Rattle.std.proofs.Common.{◌++◌, length, refl, sym, subst, ◌∙◌, arith, Err}
use Rattle.text_lines.proofs.Lengths.{some_bytes}
use Rattle.graph_text.specs.Input.{shown_of}
use Rattle.graph_text.specs.ReaderState.{text_state}
use Rattle.graph_text.specs.Reader.{Answers}
use Rattle.graph_text.proofs.Reading.{shown-too_long, text-held}
use Rattle.graph_text.proofs.open_text.OpenText.hold.Goals as goal

pub returns-then-is_too_long-clause-answer : goal.returns-then-is_too_long-clause-answer
returns-then-is_too_long-clause-answer c = λ text h.
    subst (λ f. Answers {A = Unit {0}} (Err f) (shown_of (text ++ c.args.rest.now))) (sym c.too_long.ensures)
    (shown-too_long (text_state c.args.self.now) text c.args.rest.now _ _ h c.requires (some_bytes (length c.args.rest.now) (sym c.is_empty.ensures ∙ c.if-is_empty.false)) (omega (arith, c.args.self.now.line.ok.0, c.len.ensures)) (sym c.is_too_long.ensures ∙ c.if-is_too_long.true))

pub returns-clause-answer : goal.returns-clause-answer
returns-clause-answer c = λ text h.
    shown-too_long (text_state c.args.self.now) text c.args.rest.now _ _ h c.requires (some_bytes (length c.args.rest.now) (sym c.is_empty.ensures ∙ c.if-is_empty.false)) (omega (arith, c.args.self.now.line.ok.0, c.len.ensures)) (sym c.is_too_long.ensures ∙ c.if-is_too_long.false)

pub returns-clause-ok : goal.returns-clause-ok
returns-clause-ok c = λ text h.
    text-held (text_state c.args.self.now) _ text c.args.rest.now h c.requires refl c.in_ok-extend_from_slice.ensures.items
    (shown-too_long (text_state c.args.self.now) text c.args.rest.now _ _ h c.requires (some_bytes (length c.args.rest.now) (sym c.is_empty.ensures ∙ c.if-is_empty.false)) (omega (arith, c.args.self.now.line.ok.0, c.len.ensures)) (sym c.is_too_long.ensures ∙ c.if-is_too_long.false))
