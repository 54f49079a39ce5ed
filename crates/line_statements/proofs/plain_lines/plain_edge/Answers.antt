use Rattle.line_statements.proofs.PlainLines.{edge_of_two, edge_of_three}
use Rattle.std.proofs.Common.{refl}
use Rattle.line_statements.proofs.plain_lines.plain_edge.Goals as goal

pub returns-in-Some-clause-says : goal.returns-in-Some-clause-says
returns-in-Some-clause-says c =
    (edge_of_two c.args.text.now c.in_ok-from.rest.now c.in_ok-behind.field-0.now c.in_ok-to.rest.now c.in-Some.others.now c.in_ok-from.from c.in_ok-to.to _
    c.in_ok-from.ensures c.in_ok-behind.ensures c.in_ok-to.ensures c.in-Some.ensures refl).1

pub returns-clause-says : goal.returns-clause-says
returns-clause-says c =
    (edge_of_three c.args.text.now c.in_ok-from.rest.now c.in_ok-behind.field-0.now c.in_ok-to.rest.now c.in_ok-behind-2.field-0.now c.in_ok-weight.rest.now c.in_ok-others.others.now c.in_ok-from.from c.in_ok-to.to c.in_ok-weight.weight _
    c.in_ok-from.ensures c.in_ok-behind.ensures c.in_ok-to.ensures c.in_ok-behind-2.ensures c.in_ok-weight.ensures c.in_ok-others.ensures refl).1
