use Rattle.std.proofs.Common.{arith}
use Rattle.text_lines.proofs.TableSteps.{lengthened}
use Rattle.text_lines.proofs.sparse_words.make_tops.Goals as goal

pub returns-in_ok-resize-clause-same : goal.returns-in_ok-resize-clause-same
returns-in_ok-resize-clause-same c = lengthened c.args.tops.now.items c.resize.new.self.items 16384 _ (omega (arith, c.if-len-lt-TOPS.true, c.len.ensures)) c.in_ok-resize.ensures.items
