use Rattle.std.proofs.Common.{◌≤◌, ◌+◌, List, ◌++◌, length}
use Rattle.std.specs.Vec.{vec_capacity}
use Rattle.pie_core.specs.Locals.{LocalValues}
use Rattle.hub_engine.specs.Desks.{AreHereOr, HaveLocalsOr}
use Rattle.hub_engine.proofs.desk.into_locals.Given as goal

abbrev pub invariant-desks : goal.invariant-desks
invariant-desks l =
    AreHereOr l.desk-iterator.a.rest.items l.desk-iterator.b.rest.items
    × ((locals : List LocalValues) → HaveLocalsOr l.desk-iterator.a.rest.items l.desk-iterator.b.rest.items locals → HaveLocalsOr l.fn.desks.items l.fn.given_up.items (l.locals.items ++ locals))
    × (length l.locals.items + length l.desk-iterator.a.rest.items ≤ vec_capacity l.locals)
