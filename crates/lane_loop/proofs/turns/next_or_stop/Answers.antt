use Rattle.std.proofs.Common.{refl, sym, ◌∙◌}
use Rattle.grape_hub.specs.Notes.{note_of}
use Rattle.lane_loop.proofs.Steps.{lane_there, answered, answered_still, chose, stopped}
use Rattle.lane_loop.proofs.turns.next_or_stop.Goals as goal

pub next-answer-requires-clause-lane : goal.next-answer-requires-clause-lane
next-answer-requires-clause-lane g c = lane_there c.notes_tell.ensures.grounds c.notes_tell.ensures.begin c.args.hub.now c.args.lane c.requires.lane

pub next-answer-requires-clause-free : goal.next-answer-requires-clause-free
next-answer-requires-clause-free g c =
    (c.notes_tell.ensures.empty c.args.hub.now c.args.lane c.stands.ensures.hub (lane_there c.notes_tell.ensures.grounds c.notes_tell.ensures.begin c.args.hub.now c.args.lane c.requires.lane)).0 c.requires.empty

pub returns-then-lacks_memory : goal.returns-then-lacks_memory
returns-then-lacks_memory g c =
    let t = c.notes_tell.ensures in
    let old = c.args.hub.now in
    let new = c.next-answer.new.self in
    let lane = c.args.lane in
    let has = answered t.begin t.empty t.records old new g.P.Pie.counters_for lane c.next-answer.result c.stands.ensures.hub c.next-answer.ensures.hub (lane_there t.grounds t.begin old lane c.requires.lane) c.stands.ensures.counters
    c.next-answer.ensures.chosen c.next-answer.ensures.ready c.next-answer.ensures.record in
    let still = answered_still (note_of old lane) (note_of new lane) (note_of c.stop.new.self lane) g.P.Pie.counters_for lane c.next-answer.result (c.stop.ensures.memory refl lane) has in
    record { chosen = stopped old.hub new.hub c.stop.new.self.hub lane c.next-answer.result (sym c.lacks_memory.ensures ∙ c.if-lacks_memory.true) c.next-answer.ensures.chosen c.stop.ensures.stopped; ground = still.ground; calls = still.calls; answer = still.answer; out = still.out; others = λ k ne. c.stop.ensures.memory refl k ∙ c.next-answer.ensures.others k ne }

pub returns-else-lacks_memory : goal.returns-else-lacks_memory
returns-else-lacks_memory g c =
    let t = c.notes_tell.ensures in
    let old = c.args.hub.now in
    let new = c.next-answer.new.self in
    let lane = c.args.lane in
    let has = answered t.begin t.empty t.records old new g.P.Pie.counters_for lane c.next-answer.result c.stands.ensures.hub c.next-answer.ensures.hub (lane_there t.grounds t.begin old lane c.requires.lane) c.stands.ensures.counters
    c.next-answer.ensures.chosen c.next-answer.ensures.ready c.next-answer.ensures.record in
    record { chosen = chose old.hub new.hub lane c.next-answer.result (sym c.lacks_memory.ensures ∙ c.if-lacks_memory.false) c.next-answer.ensures.chosen; ground = has.ground; calls = has.calls; answer = has.answer; out = has.out; others = c.next-answer.ensures.others }
