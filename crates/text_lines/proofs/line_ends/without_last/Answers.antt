use Rattle.std.proofs.Common.{arith, sym}
use Rattle.text_lines.proofs.WordLemmas.{without-last, without-other}
use Rattle.text_lines.proofs.line_ends.without_last.Goals as goal

pub returns-in-len1-up : goal.returns-in-len1-up
returns-in-len1-up c = sym (without-last c.args.byte c.args.text.now (omega arith) c.if-last-byte.true)

pub returns-in_default-2 : goal.returns-in_default-2
returns-in_default-2 c = sym (without-other c.args.byte c.args.text.now (λ _ e. c.if-last-byte.false e))
