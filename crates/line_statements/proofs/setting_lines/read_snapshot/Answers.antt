use Rattle.std.proofs.Common.{sym, ◌∙◌, ap, Err}
use Rattle.std.proofs.lemmas.Result.{err_from_is_err_and}
use Rattle.line_statements.specs.declared.statement.Statement.TheVariants.{Snapshots}
use Rattle.line_statements.proofs.setting_lines.read_snapshot.Goals as goal

pub returns-in_err-period : goal.returns-in_err-period
returns-in_err-period c =
    let p = err_from_is_err_and c.from_residual.result c.from_residual.ensures.1
    in p.1 ∙ ap Err p.2 ∙ sym (c.in_err-period.ensures.err (λ n. Snapshots n))

pub returns : goal.returns
returns c = sym (c.in_ok-period.ensures.ok (λ n. Snapshots n))
