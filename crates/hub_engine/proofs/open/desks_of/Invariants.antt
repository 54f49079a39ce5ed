-- The fragments and the parts that are left fit, and their desks make up the whole.
use Rattle.std.proofs.Common.{◌≡◌, ◌++◌}
use Rattle.std.specs.List.{AllZip}
use Rattle.hub_engine.specs.Openings.{new_desks, IsPartFor}
use Rattle.hub_engine.proofs.open.desks_of.Given as goal

abbrev pub invariant-parts : goal.invariant-parts
invariant-parts l =
    AllZip IsPartFor l.part-iterator.a.rest.now l.part-iterator.b.rest.now
    × (l.desks.items ++ new_desks l.order l.counters l.part-iterator.a.rest.now l.part-iterator.b.rest.now ≡ new_desks l.order l.counters l.fragments l.start.parts)
