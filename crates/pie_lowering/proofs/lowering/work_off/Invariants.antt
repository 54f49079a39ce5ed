use Rattle.std.proofs.Common.{ℕ, ◌<◌}
use Rattle.graph_core.specs.Parts.{place_count}
use Rattle.pie_lowering.specs.Lowering.{HasFallen, WaitsOrHolds, work_left}
use Rattle.pie_lowering.proofs.lowering.work_off.Given as goal

-- what waited or held its readers does so still
abbrev pub invariant-work : goal.invariant-work
invariant-work g l = record {
  fallen : HasFallen g.C.Cost.cost_of l.part l.initial.local l.local;
  settled : (q : ℕ) → q < place_count l.part → WaitsOrHolds g.C.Cost.cost_of l.part l.initial.local q → WaitsOrHolds g.C.Cost.cost_of l.part l.local q;
}

abbrev pub decreases-work : goal.decreases-work
decreases-work g l = work_left l.local
