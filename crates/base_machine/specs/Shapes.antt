-- The shape of a system's snapshots: the order of its values, and the start values of all places.
use Rattle.std.specs.Prelude.{map}
use Rattle.graph_core.specs.Equations.{Equations}
use Rattle.graph_core.specs.Fragments.{Piece}
use Rattle.pie_core.specs.Solutions.{starts_of}
use Rattle.token_cut.specs.Shapes.{PartStarts, Starts}
use Rattle.base_machine.specs.Machine.{System}

-- the start values of a piece's places
abbrev pub piece_starts : Equations → Piece → PartStarts
piece_starts e piece = record { owned = starts_of e piece.owned; mirrors = starts_of e piece.mirrors }

abbrev pub system_shape : System → Starts
system_shape sys = record { order = sys.equations.order; parts = map (piece_starts sys.equations) sys.pieces }
