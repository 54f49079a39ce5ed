use Rattle.std.proofs.Common.{sym, ◌∙◌, ap, Err}
use Rattle.std.proofs.lemmas.Result.{err_from_is_err_and}
use Rattle.graph_core.specs.declared.settings.Policy.TheVariants.{Ssp}
use Rattle.line_statements.specs.declared.statement.Statement.TheVariants.{Follows}
use Rattle.line_statements.proofs.setting_lines.read_ssp.Goals as goal

pub returns-in_err-c : goal.returns-in_err-c
returns-in_err-c c =
    let p = err_from_is_err_and c.from_residual.result c.from_residual.ensures.1
    in p.1 ∙ ap Err p.2 ∙ sym (c.in_err-c.ensures.err (λ n. Follows (Ssp n)))

pub returns : goal.returns
returns c = sym (c.in_ok-c.ensures.ok (λ n. Follows (Ssp n)))
