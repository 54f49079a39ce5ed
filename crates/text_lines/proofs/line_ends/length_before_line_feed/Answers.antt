use Rattle.std.proofs.Common.{length, sym, ◌∙◌}
use Rattle.text_lines.proofs.Lengths.{length_before_feed, length_no_feed, length_empty, some_bytes, is_zero}
use Rattle.text_lines.proofs.line_ends.length_before_line_feed.Goals as goal
use Rattle.text_lines.proofs.line_ends.length_before_line_feed.Goals.{else-not-is_empty-via-then-not-is_empty+else-line-eq10, else-not-is_empty-via-else-not-is_empty}

pub returns-then-line-eq10 : goal.returns-then-line-eq10
returns-then-line-eq10 c = length_before_feed c.args.line.now (some_bytes (length c.args.line.now) (sym c.is_empty.ensures ∙ c.if-not-is_empty.true)) c.if-line-eq10.true

pub returns-else-not-is_empty : goal.returns-else-not-is_empty
returns-else-not-is_empty c =
    elim c.else-not-is_empty.branch [
      | else-not-is_empty-via-then-not-is_empty+else-line-eq10 w ↦ length_no_feed c.args.line.now w.if-line-eq10.false
      | else-not-is_empty-via-else-not-is_empty w ↦ length_empty c.args.line.now (is_zero (length c.args.line.now) (sym c.is_empty.ensures ∙ w.if-not-is_empty.false))
    ]
