-- The routes of the fragments so far.
use Rattle.std.proofs.Common.{◌≡◌, map, take}
use Rattle.hub_engine.proofs.open.routes_of.Given as goal

abbrev pub invariant-parts : goal.invariant-parts
invariant-parts l = l.routes.items ≡ map (λ part. part.routes) (take l.part-index l.fragments)
