use Rattle.std.proofs.Common.{◌≡◌}
use Rattle.grape_hub.specs.LanedHub.{answer_of}
use Rattle.grape_hub.specs.Notes.{ground_in, calls_in, answer_in, note_of, OthersStay}
use Rattle.lane_loop.specs.Turns.{HasCalled, IsOutWhereTook}
use Rattle.lane_loop.proofs.turns.next_events.Given as goal

-- so many calls were made at most, and the last answer is the record's
abbrev pub invariant-more : goal.invariant-more
invariant-more g l = record {
  ground : ground_in (note_of l.hub l.lane) ≡ ground_in (note_of l.fn.hub l.lane);
  calls : HasCalled l._done (calls_in (note_of l.fn.hub l.lane)) (calls_in (note_of l.hub l.lane));
  answer : answer_in (note_of l.hub l.lane) ≡ answer_of l.answer;
  out : IsOutWhereTook g.P.Pie.counters_for l.lane (note_of l.hub l.lane) l.answer;
  others : OthersStay l.fn.hub l.lane l.hub;
}
