use Rattle.std.proofs.Common.{length, sym, subst, ◌∙◌}
use Rattle.text_lines.proofs.Lengths.{some_bytes}
use Rattle.graph_text.specs.ReaderState.{lines_state}
use Rattle.graph_text.specs.Reader.{Answers}
use Rattle.graph_text.proofs.Reading.{first-last, lines-last}
use Rattle.graph_text.proofs.whole_lines.WholeLines.take_last.Goals as goal

pub returns-clause-answer : goal.returns-clause-answer
returns-clause-answer c = λ lines h.
    subst (Answers c.take.result) (sym (first-last lines c.args.line.now c.requires (some_bytes (length c.args.line.now) (sym c.is_empty.ensures ∙ c.if-is_empty.false)))) (c.take.ensures.answer lines h)

pub returns-clause-ok : goal.returns-clause-ok
returns-clause-ok c =
    lines-last c.take.result (lines_state c.args.self.now) (lines_state c.take.new.self) c.args.line.now c.requires (some_bytes (length c.args.line.now) (sym c.is_empty.ensures ∙ c.if-is_empty.false)) c.take.ensures.ok
