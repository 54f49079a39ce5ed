use Rattle.std.proofs.Common.{rules}
use Rattle.noted_lock.proofs.Whole.{two_back, two_there}
use Rattle.noted_lock.proofs.tests.a_seat_finds_its_note_as_it_was.Goals as goal

pub close-tally-requires-clause-all : goal.close-tally-requires-clause-all
close-tally-requires-clause-all g c =
    let there = two_back _ _ _ _ _ _ _ _ _ c.in-Ok.ensures.seats.0 c.in-Some.ensures.items c.in-Some-pop.ensures.items c.in_ok-push.ensures.items c.in_ok-push-2.ensures.items in
    two_there _ _ _ _ there c.in-Ok.ensures.lock (search rules) (search rules)
