use Rattle.grape_hub.specs.Notes.{calls_in}
use Rattle.noted_lock.specs.Sights.{seat_note}
use Rattle.lane_loop.proofs.Steps.{called_once}
use Rattle.lane_loop.proofs.turns.turn.Goals as goal

pub returns-clause-calls : goal.returns-clause-calls
returns-clause-calls g c = called_once (calls_in (seat_note c.args.seat)) (calls_in (seat_note c.visit.result.1)) c.visit.ensures.calls
