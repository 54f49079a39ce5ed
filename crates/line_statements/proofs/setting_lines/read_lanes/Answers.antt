use Rattle.std.proofs.Common.{sym, ◌∙◌, ap, Err}
use Rattle.std.proofs.lemmas.Result.{err_from_is_err_and}
use Rattle.line_statements.specs.declared.statement.Statement.TheVariants.{Lanes}
use Rattle.line_statements.proofs.setting_lines.read_lanes.Goals as goal

pub returns-in_err-count : goal.returns-in_err-count
returns-in_err-count c =
    let p = err_from_is_err_and c.from_residual.result c.from_residual.ensures.1
    in p.1 ∙ ap Err p.2 ∙ sym (c.in_err-count.ensures.err (λ n. Lanes n))

pub returns : goal.returns
returns c = sym (c.in_ok-count.ensures.ok (λ n. Lanes n))
