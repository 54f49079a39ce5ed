use Rattle.std.proofs.Common.{ℕ, ◌<◌}
use Rattle.pie_lowering.specs.Lowering.{HasFallen, WaitsOrHolds}
use Rattle.pie_lowering.proofs.beginning.begin.Given as goal

-- the places so far wait or hold their readers
abbrev pub invariant-places : goal.invariant-places
invariant-places g l = record {
  fallen : HasFallen g.C.Cost.cost_of l.part l.initial.local l.local;
  begun : (q : ℕ) → q < l.place → WaitsOrHolds g.C.Cost.cost_of l.part l.local q;
}
