use Rattle.std.proofs.Common.{sym, ◌∙◌}
use Rattle.hub_engine.proofs.Passes.{fresh_kind, mail_kind, calm_kind}
use Rattle.hub_engine.proofs.desk.Desk.first_kind.Goals as goal

pub returns-then-is_fresh : goal.returns-then-is_fresh
returns-then-is_fresh c =
    c.kind_of_fresh.ensures
    ∙ fresh_kind c.args.sight.now c.args.probe.now c.args.cut.now c.args.worker c.args.self.now
    (sym c.is_out.ensures ∙ c.if-is_out.false) (sym c.is_unmarked.ensures ∙ c.if-is_unmarked.false) (sym c.is_fresh.ensures ∙ c.if-is_fresh.true)

pub returns-then-has_mail : goal.returns-then-has_mail
returns-then-has_mail c =
    c.kind_with_mail.ensures
    ∙ mail_kind c.args.sight.now c.args.probe.now c.args.cut.now c.args.worker c.args.self.now
    (sym c.is_out.ensures ∙ c.if-is_out.false) (sym c.is_unmarked.ensures ∙ c.if-is_unmarked.false) (sym c.is_fresh.ensures ∙ c.if-is_fresh.false) (sym c.has_mail.ensures ∙ c.if-has_mail.true)

pub returns : goal.returns
returns c =
    c.kind_without_mail.ensures
    ∙ calm_kind c.args.sight.now c.args.probe.now c.args.cut.now c.args.worker c.args.self.now
    (sym c.is_out.ensures ∙ c.if-is_out.false) (sym c.is_unmarked.ensures ∙ c.if-is_unmarked.false) (sym c.is_fresh.ensures ∙ c.if-is_fresh.false) (sym c.has_mail.ensures ∙ c.if-has_mail.false)
