use Rattle.std.proofs.Common.{refl}
use lib.Count.{ones, ones_in}
use Rattle.graph_core.specs.Queries.{mask_of}
use Rattle.pie_sim.proofs.worked.ring_values.Goals as goal

pub returns-clause-targets : goal.returns-clause-targets
unfolding mask_of
returns-clause-targets c = (refl, refl, refl)

pub returns-clause-starts : goal.returns-clause-starts
unfolding mask_of
returns-clause-starts c = refl

pub returns-clause-first : goal.returns-clause-first
unfolding mask_of ones ones_in
returns-clause-first c = refl

pub returns-clause-again : goal.returns-clause-again
unfolding mask_of ones ones_in
returns-clause-again c = refl
