use Rattle.std.proofs.Common.{take}
use Rattle.pie_sim.specs.Counting.{ColumnFell}
use Rattle.pie_sim.proofs.counted.lower_column.Given as goal

-- the counters of the readers so far fell
abbrev pub invariant-row : goal.invariant-row
invariant-row l = ColumnFell (take l.reader-index l.reader-items) l.width l.column l.initial.local l.local
