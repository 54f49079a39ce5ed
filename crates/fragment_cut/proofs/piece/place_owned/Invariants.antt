use Rattle.std.proofs.Common.{◌≡◌, ◌++◌, map, filter, take}
use Rattle.fragment_cut.specs.Filing.{placed_reading, is_owned_in}
use Rattle.fragment_cut.proofs.piece.place_owned.Given as goal

abbrev pub invariant-loop-reading : goal.invariant-loop-reading
invariant-loop-reading l = l.made.items ≡ l.initial.made.items ++ map (placed_reading l.places) (filter (is_owned_in l.places l.owned) (take l.reading-index l.row))
