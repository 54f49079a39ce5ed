use Rattle.std.proofs.Common.{◌≡◌, slice_index}
use Rattle.pie_lowering.specs.Lowering.{HasFallen, WaitWhereFell}
use Rattle.pie_lowering.proofs.Steps.{HoldBelow}
use Rattle.pie_lowering.proofs.lowering.lower_readers.Given as goal

-- the readers so far are held by the value, which stays
abbrev pub invariant-row : goal.invariant-row
invariant-row g l = record {
  fallen : HasFallen g.C.Cost.cost_of l.part l.initial.local l.local;
  waits : WaitWhereFell l.initial.local l.local;
  value : slice_index l.local.values l.fn.place ≡ l.value;
  held : HoldBelow g.C.Cost.cost_of l.reader-items l.local.values l.value l.reader-index;
}
