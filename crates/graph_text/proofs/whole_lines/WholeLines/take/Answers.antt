use Rattle.std.proofs.Common.{sym, ◌∙◌}
use Rattle.graph_text.specs.ReaderState.{lines_state}
use Rattle.graph_text.proofs.Reading.{lines-added, short-line}
use Rattle.graph_text.proofs.whole_lines.WholeLines.take.Goals as goal

pub returns-in-Ok-clause-ok : goal.returns-in-Ok-clause-ok
returns-in-Ok-clause-ok c =
    lines-added c.add.result (lines_state c.args.self.now) (lines_state c.add.new.self) c.args.line.now c.in-Ok.statement
    c.add.ensures.answer c.add.ensures.count c.add.ensures.bytes c.add.ensures.says
    (sym c.read_statement.ensures ∙ c.in-Ok.is)
    (λ lines h. short-line (lines_state c.args.self.now) lines c.args.line.now c.length_before_line_feed.result _ h c.length_before_line_feed.ensures (sym c.is_too_long.ensures ∙ c.if-is_too_long.false))
