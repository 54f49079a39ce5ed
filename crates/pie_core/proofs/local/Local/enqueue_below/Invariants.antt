use Rattle.std.proofs.Common.{◌≡◌, ℕ, ◌<◌, true}
use Rattle.pie_core.specs.PlaceSets.{waits}
use Rattle.pie_core.proofs.local.Local.enqueue_below.Given as goal

-- the places so far wait
abbrev pub invariant-list : goal.invariant-list
invariant-list l = record {
  rest : l.self ≡ record l.initial.self { waiting = l.self.waiting };
  so_far : (p : ℕ) → p < l.place → waits l.self.waiting p ≡ true;
}
