use Rattle.pie_dist.proofs.Readings.{PassedSoFar}
use Rattle.pie_dist.proofs.plain.lower_by_readings.Given as goal

-- a value fell, or nothing changed and the places so far are held by their readings
abbrev pub invariant-places : goal.invariant-places
invariant-places l = PassedSoFar l.part l.initial.local l.local l.fell l.place
