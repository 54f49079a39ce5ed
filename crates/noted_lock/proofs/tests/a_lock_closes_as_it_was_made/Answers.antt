use Rattle.std.proofs.Common.{◌<◌, subst}
use Rattle.noted_lock.proofs.Whole.{all_there}
use Rattle.noted_lock.proofs.tests.a_lock_closes_as_it_was_made.Goals as goal

pub close-kept-requires-clause-all : goal.close-kept-requires-clause-all
close-kept-requires-clause-all g c k l = all_there _ _ _ _ c.in-Ok.ensures.seats k (subst (λ n. k < n) c.in-Ok.ensures.lock l)
