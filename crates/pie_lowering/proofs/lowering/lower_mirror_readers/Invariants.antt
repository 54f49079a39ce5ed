use Rattle.std.proofs.Common.{ℕ, ◌<◌, ◌≤◌, length}
use Rattle.pie_lowering.specs.Lowering.{HasFallen, WaitWhereFell, HoldsReaders}
use Rattle.pie_lowering.proofs.lowering.lower_mirror_readers.Given as goal

-- the mirrors so far hold their readers
abbrev pub invariant-mirrors : goal.invariant-mirrors
invariant-mirrors g l = record {
  fallen : HasFallen g.C.Cost.cost_of l.part l.initial.local l.local;
  waits : WaitWhereFell l.initial.local l.local;
  held : (q : ℕ) → length l.part.owned ≤ q → q < l.place → HoldsReaders g.C.Cost.cost_of l.part l.local.values q;
}
