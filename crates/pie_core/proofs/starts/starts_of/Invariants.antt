-- The start values so far.
use Rattle.std.proofs.Common.{◌≡◌, take}
use Rattle.graph_core.specs.Queries.{equations_of}
use Rattle.pie_core.specs.Solutions.{starts_of}
use Rattle.pie_core.proofs.starts.starts_of.Given as goal

abbrev pub invariant-vertices : goal.invariant-vertices
invariant-vertices l = l.starts.items ≡ starts_of (equations_of l.job) (take l.vertex-index l.vertices)
