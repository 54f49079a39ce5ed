use Rattle.std.proofs.Common.{rules, ◌∙◌}
use Rattle.grape_hub.specs.Notes.{note_of, calls_in}
use Rattle.lane_loop.proofs.Steps.{calls_more, calls_within, has_lane}
use Rattle.lane_loop.proofs.turns.next_events.Goals as goal

pub next_or_stop-answer-requires-in-Did-clause-lane : goal.next_or_stop-answer-requires-in-Did-clause-lane
next_or_stop-answer-requires-in-Did-clause-lane g c =
    has_lane c.args.lane (note_of c.args.hub.now c.args.lane) (note_of c.more.hub c.args.lane) c.more.invariant.ground c.requires.lane

pub more-preserved : goal.more-preserved
more-preserved g c = let i = c.more.invariant in let n = c.next_or_stop-answer-in-Did.ensures in record {
  ground = n.ground ∙ i.ground;
  calls = calls_more c.more._done (calls_in (note_of c.args.hub.now c.args.lane)) (calls_in (note_of c.more.hub c.args.lane)) (calls_in (note_of c.next_or_stop-answer-in-Did.new.hub c.args.lane)) i.calls n.calls;
  answer = n.answer;
  out = n.out;
  others = λ k ne. n.others k ne ∙ i.others k ne;
}

pub returns-in_default : goal.returns-in_default
returns-in_default g c = let i = c.more.invariant in record {
  ground = i.ground;
  calls = calls_within c.more._done c.args.most (calls_in (note_of c.args.hub.now c.args.lane)) (calls_in (note_of c.more.hub c.args.lane)) (search rules) i.calls;
  answer = i.answer;
  out = i.out;
  others = i.others;
}

pub returns-clause-calls : goal.returns-clause-calls
returns-clause-calls g c =
    calls_within c.more._done c.args.most (calls_in (note_of c.args.hub.now c.args.lane)) (calls_in (note_of c.more.hub c.args.lane)) (search rules) c.more.invariant.calls
