use Rattle.std.proofs.Common.{sym, ◌∙◌, ap, Err}
use Rattle.std.proofs.lemmas.Result.{err_from_is_err_and}
use Rattle.line_statements.specs.declared.statement.Question.TheVariants.{Reaches}
use Rattle.line_statements.specs.declared.statement.Statement.TheVariants.{Asks}
use Rattle.line_statements.proofs.query_lines.read_reaches.Goals as goal

pub returns-in_err-source : goal.returns-in_err-source
returns-in_err-source c =
    let p = err_from_is_err_and c.from_residual.result c.from_residual.ensures.1
    in p.1 ∙ ap Err p.2 ∙ sym (c.in_err-source.ensures.err (λ n. Asks (Reaches n)))

pub returns : goal.returns
returns c = sym (c.in_ok-source.ensures.ok (λ n. Asks (Reaches n)))
