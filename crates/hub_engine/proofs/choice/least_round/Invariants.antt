-- The least round so far.
use Rattle.hub_engine.proofs.Searching.{IsLeastBefore}
use Rattle.hub_engine.proofs.choice.least_round.Given as goal

abbrev pub invariant-desks : goal.invariant-desks
invariant-desks l = IsLeastBefore l.desks l.desk-index l.least
