use Rattle.std.proofs.Common.{◌≡◌, ◌≤◌, None, replicate}
use Rattle.std.specs.Vec.{vec_capacity}
use Rattle.grape_hub.proofs.hub.nothing_given.Given as goal

abbrev pub invariant-workers : goal.invariant-workers
invariant-workers l = (l.given.items ≡ replicate l.counter None) × (l.counter ≤ l.count) × (l.count ≤ vec_capacity l.given)
