use Rattle.std.proofs.Common.{◌≡◌, List, subst}
use Rattle.std.specs.Prelude.{IfOk}
use Rattle.graph_core.specs.declared.fragment.Reading.{Reading}
use Rattle.fragment_cut.proofs.RouteTables.{mirrors_short, mirrors_inside, routes_made}
use Rattle.fragment_cut.proofs.routing.routes_table.Goals as goal

pub turned_table-requires-clause-short : goal.turned_table-requires-clause-short
turned_table-requires-clause-short c = mirrors_short c.args.job.now c.in_ok-rows.rows c.count.result c.in_ok-rows.ensures c.count.ensures.count c.requires.job

pub turned_table-requires-clause-inside : goal.turned_table-requires-clause-inside
turned_table-requires-clause-inside c = mirrors_inside c.args.job.now c.in_ok-rows.rows c.count.result c.in_ok-rows.ensures c.count.ensures.count

pub returns : goal.returns
returns c =
    subst (λ (t : List (List Reading)). IfOk c.turned_table.result (λ made. made ≡ t))
    (routes_made c.args.job.now c.in_ok-rows.rows c.count.result c.in_ok-rows.ensures c.count.ensures.count) c.turned_table.ensures
