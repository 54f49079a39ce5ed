use Rattle.std.proofs.Common.{sym, ◌∙◌}
use Rattle.hub_engine.proofs.Opening.{no_start_mail, start_mail}
use Rattle.hub_engine.proofs.open.post_start_mail.Goals as goal

pub returns-then-has_values : goal.returns-then-has_values
returns-then-has_values c =
    start_mail c.args.mail.now c.args.buffer.now c.begin_batch.new.self c.post_values.new.buffer (sym c.has_values.ensures ∙ c.if-has_values.true) c.begin_batch.ensures c.post_values.ensures

pub returns-else-has_values : goal.returns-else-has_values
returns-else-has_values c = no_start_mail c.args.mail.now c.args.buffer.now (sym c.has_values.ensures ∙ c.if-has_values.false)
