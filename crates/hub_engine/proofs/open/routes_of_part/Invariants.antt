-- The rows so far.
use Rattle.std.proofs.Common.{◌≡◌, length, take}
use Rattle.hub_engine.proofs.open.routes_of_part.Given as goal

abbrev pub invariant-owned : goal.invariant-owned
invariant-owned l = record { so_far : l.rows ≡ take l.place l.part.routes; whole : length l.part.routes ≡ l.owned }
