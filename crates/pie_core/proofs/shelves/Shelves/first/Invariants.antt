use Rattle.std.proofs.Common.{◌≡◌}
use Rattle.pie_core.proofs.shelves.Shelves.first.Given as goal

abbrev pub invariant-shelves : goal.invariant-shelves
invariant-shelves l = l.self ≡ l.initial.self
