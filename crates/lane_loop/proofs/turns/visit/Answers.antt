use Rattle.std.proofs.Common.{◌<◌, inl, inr, sym, ◌∙◌, ap, subst}
use Rattle.noted_lock.specs.Sights.{seat_number, seat_note, inside_number, inside_value}
use Rattle.hub_engine.specs.declared.work.Next.TheVariants.{Took, Did, Idle, Ended, NoMemory}
use Rattle.grape_hub.specs.LanedHub.{LanedHub}
use Rattle.grape_hub.specs.Notes.{ground_in, calls_in, note_of, HasNoWork}
use Rattle.lane_loop.specs.Turns.{HasCalled}
use Rattle.lane_loop.proofs.Steps.{told_of, seat_visited}
use Rattle.lane_loop.proofs.turns.visit.Goals as goal

pub next_events-answer-requires : goal.next_events-answer-requires
next_events-answer-requires g c =
    let found = told_of c.value.result.now (inside_value c.enter-inside.result) (seat_number c.args.seat) c.args.lane (seat_note c.args.seat) c.value.ensures.value c.requires.seat.1 c.enter-inside.ensures.note in
    let (job, start, ground, fragments, is_for, l) = c.requires.job in
    record { some = c.requires.some; lane = (job, start, ap ground_in found ∙ ground, l); empty = subst HasNoWork (sym found) c.requires.empty }

pub leave-seat-requires : goal.leave-seat-requires
leave-seat-requires g c = record {
  others = λ k l ne.
      let same = c.enter-inside.ensures.same in
      c.next_events-answer.ensures.others k (λ e. ne (e ∙ sym (same.1 ∙ c.requires.seat.1)))
      ∙ (ap (λ (h : LanedHub). note_of h k) c.value.ensures.value ∙ sym (c.enter-inside.ensures.entry k (subst (λ n. k < n) same.2 l)));
}

pub serve-seat-requires : goal.serve-seat-requires
serve-seat-requires g c =
    let same = c.enter-inside.ensures.same in
    let left = c.leave-seat.ensures.same in
    let n = c.next_events-answer.ensures in
    let is =
    seat_visited c.value.result.now (inside_value c.enter-inside.result) c.next_events-answer.new.hub g.P.Pie.counters_for c.args.most c.args.lane (seat_number c.args.seat) (inside_number c.enter-inside.result) (seat_note c.args.seat) (seat_note c.leave-seat.result)
    c.next_events-answer.result (Took c.in-Took.work) c.in-Took.is c.value.ensures.value c.requires.seat.1 c.enter-inside.ensures.note same.1 c.leave-seat.ensures.note (record { ground = n.ground; calls = n.calls; answer = n.answer; out = n.out }) in
    let (job, start, ground, fragments, is_for, l) = c.requires.job in
    record { seat = (left.0 ∙ (same.0 ∙ c.requires.seat.0), left.1 ∙ (same.1 ∙ c.requires.seat.1)); job = (job, start, is.ground ∙ ground, fragments, is_for, l); out = is.out }

pub returns-in-Took : goal.returns-in-Took
returns-in-Took g c =
    let same = c.enter-inside.ensures.same in
    let left = c.leave-seat.ensures.same in
    let n = c.next_events-answer.ensures in
    let is =
    seat_visited c.value.result.now (inside_value c.enter-inside.result) c.next_events-answer.new.hub g.P.Pie.counters_for c.args.most c.args.lane (seat_number c.args.seat) (inside_number c.enter-inside.result) (seat_note c.args.seat) (seat_note c.leave-seat.result)
    c.next_events-answer.result (Took c.in-Took.work) c.in-Took.is c.value.ensures.value c.requires.seat.1 c.enter-inside.ensures.note same.1 c.leave-seat.ensures.note (record { ground = n.ground; calls = n.calls; answer = n.answer; out = n.out }) in
    let s = c.serve-seat.ensures in
    record {
      seat = (s.seat.0 ∙ (left.0 ∙ same.0), s.seat.1, s.seat.2 ∙ (left.2 ∙ same.2));
      ground = s.ground ∙ is.ground;
      empty = s.empty;
      calls = subst (λ n. HasCalled c.args.most (calls_in (seat_note c.args.seat)) n) (sym s.calls) is.calls;
      answer = inl (s.answer ∙ is.answer);
    }

pub returns-in-Did : goal.returns-in-Did
returns-in-Did g c =
    let same = c.enter-inside.ensures.same in
    let left = c.leave-seat.ensures.same in
    let n = c.next_events-answer.ensures in
    let is =
    seat_visited c.value.result.now (inside_value c.enter-inside.result) c.next_events-answer.new.hub g.P.Pie.counters_for c.args.most c.args.lane (seat_number c.args.seat) (inside_number c.enter-inside.result) (seat_note c.args.seat) (seat_note c.leave-seat.result)
    c.next_events-answer.result (Did c.in-Did.field-0) c.in-Did.is c.value.ensures.value c.requires.seat.1 c.enter-inside.ensures.note same.1 c.leave-seat.ensures.note (record { ground = n.ground; calls = n.calls; answer = n.answer; out = n.out }) in
    record { seat = (left.0 ∙ same.0, left.1 ∙ (same.1 ∙ c.requires.seat.1), left.2 ∙ same.2); ground = is.ground; empty = is.out; calls = is.calls; answer = inr is.answer }

pub returns-in-Idle : goal.returns-in-Idle
returns-in-Idle g c =
    let same = c.enter-inside.ensures.same in
    let left = c.leave-seat.ensures.same in
    let n = c.next_events-answer.ensures in
    let is =
    seat_visited c.value.result.now (inside_value c.enter-inside.result) c.next_events-answer.new.hub g.P.Pie.counters_for c.args.most c.args.lane (seat_number c.args.seat) (inside_number c.enter-inside.result) (seat_note c.args.seat) (seat_note c.leave-seat.result)
    c.next_events-answer.result Idle c.in-Idle.is c.value.ensures.value c.requires.seat.1 c.enter-inside.ensures.note same.1 c.leave-seat.ensures.note (record { ground = n.ground; calls = n.calls; answer = n.answer; out = n.out }) in
    record { seat = (left.0 ∙ same.0, left.1 ∙ (same.1 ∙ c.requires.seat.1), left.2 ∙ same.2); ground = is.ground; empty = is.out; calls = is.calls; answer = is.answer }

pub returns-in-Ended : goal.returns-in-Ended
returns-in-Ended g c =
    let same = c.enter-inside.ensures.same in
    let left = c.leave-seat.ensures.same in
    let n = c.next_events-answer.ensures in
    let is =
    seat_visited c.value.result.now (inside_value c.enter-inside.result) c.next_events-answer.new.hub g.P.Pie.counters_for c.args.most c.args.lane (seat_number c.args.seat) (inside_number c.enter-inside.result) (seat_note c.args.seat) (seat_note c.leave-seat.result)
    c.next_events-answer.result Ended c.in-Ended.is c.value.ensures.value c.requires.seat.1 c.enter-inside.ensures.note same.1 c.leave-seat.ensures.note (record { ground = n.ground; calls = n.calls; answer = n.answer; out = n.out }) in
    record { seat = (left.0 ∙ same.0, left.1 ∙ (same.1 ∙ c.requires.seat.1), left.2 ∙ same.2); ground = is.ground; empty = is.out; calls = is.calls; answer = is.answer }

pub returns-in-NoMemory : goal.returns-in-NoMemory
returns-in-NoMemory g c =
    let same = c.enter-inside.ensures.same in
    let left = c.leave-seat.ensures.same in
    let n = c.next_events-answer.ensures in
    let is =
    seat_visited c.value.result.now (inside_value c.enter-inside.result) c.next_events-answer.new.hub g.P.Pie.counters_for c.args.most c.args.lane (seat_number c.args.seat) (inside_number c.enter-inside.result) (seat_note c.args.seat) (seat_note c.leave-seat.result)
    c.next_events-answer.result NoMemory c.in-NoMemory.is c.value.ensures.value c.requires.seat.1 c.enter-inside.ensures.note same.1 c.leave-seat.ensures.note (record { ground = n.ground; calls = n.calls; answer = n.answer; out = n.out }) in
    record { seat = (left.0 ∙ same.0, left.1 ∙ (same.1 ∙ c.requires.seat.1), left.2 ∙ same.2); ground = is.ground; empty = is.out; calls = is.calls; answer = is.answer }
