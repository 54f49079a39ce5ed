use Rattle.std.proofs.Common.{sym, ◌∙◌, arith}
use Rattle.text_lines.proofs.Lengths.{length_one}
use Rattle.line_statements.specs.declared.statement.Statement.TheVariants.{Joins}
use Rattle.graph_text.specs.ReaderState.{lines_state}
use Rattle.graph_text.proofs.Reading.{lines-added, short-line}
use Rattle.graph_text.proofs.whole_lines.WholeLines.take_edge.Goals as goal

pub add-requires-clause-some : goal.add-requires-clause-some
add-requires-clause-some c = omega (arith, length_one c.args.line.now c.requires.one)

pub returns-clause-ok : goal.returns-clause-ok
returns-clause-ok c =
    lines-added c.add.result (lines_state c.args.self.now) (lines_state c.add.new.self) c.args.line.now (Joins c.args.edge)
    c.add.ensures.answer c.add.ensures.count c.add.ensures.bytes c.add.ensures.says
    c.requires.says
    (λ lines h. short-line (lines_state c.args.self.now) lines c.args.line.now c.length_before_line_feed.result _ h c.length_before_line_feed.ensures (sym c.is_too_long.ensures ∙ c.if-is_too_long.false))
