use Rattle.pie_dist.proofs.Readings.{LeastSoFar}
use Rattle.pie_dist.proofs.plain.least_at.Given as goal

-- the least of the place's own value and the readings so far
abbrev pub invariant-row : goal.invariant-row
invariant-row l = LeastSoFar l.reading-items l.values l.place l.least l.reading-index
