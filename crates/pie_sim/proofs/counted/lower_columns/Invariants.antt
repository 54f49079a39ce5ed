use Rattle.std.proofs.Common.{slice_index_or, []}
use Rattle.pie_sim.specs.Counting.{ColumnsFell}
use Rattle.pie_sim.proofs.counted.lower_columns.Given as goal

-- the columns so far fell
abbrev pub invariant-nodes : goal.invariant-nodes
invariant-nodes l = ColumnsFell l.nodes (slice_index_or l.part.readers l.place []) l.fallen l.column l.initial.local l.local
