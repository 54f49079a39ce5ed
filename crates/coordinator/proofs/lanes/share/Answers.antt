use Rattle.std.proofs.Common.{ℕ, ◌+◌, ◌∙◌, sym, ap, arith}
use Rattle.graph_core.specs.declared.job.Job.{Job}
use Rattle.noted_lock.specs.Sights.{lock_id, seat_note}
use Rattle.coordinator.proofs.Seating.{made, seats_again, seats_of_lock, seats_have_all, one_longer, told, note_of_last}
use Rattle.coordinator.proofs.Leaves.{start_told, leaves_hub}
use Rattle.coordinator.proofs.lanes.share.Goals as goal

pub new-requires-clause-ground : goal.new-requires-clause-ground
new-requires-clause-ground g c k l = c.requires.notes k ∙ sym (c.requires.notes 0)

pub run_seats-leave-requires-clause-own : goal.run_seats-leave-requires-clause-own
run_seats-leave-requires-clause-own g c κs within =
    (made c.notes_tell.ensures.begin c.notes_tell.ensures.empty (lock_id c.in-Ok-new.lock) c.args.job.now c.args.hub c.in-Ok-new.seats.items c.pop.new.self.items c.in-Some.own c.requires.hub c.requires.same
    ((c.calm_is_empty.ensures c.args.hub c.requires.hub).0 c.requires.calm 0) c.requires.notes c.in-Ok-new.ensures.seats c.in-Some.ensures.items).last

pub run_seats-leave-requires-clause-begins : goal.run_seats-leave-requires-clause-begins
run_seats-leave-requires-clause-begins g c κs within =
    let is = made c.notes_tell.ensures.begin c.notes_tell.ensures.empty (lock_id c.in-Ok-new.lock) c.args.job.now c.args.hub c.in-Ok-new.seats.items c.pop.new.self.items c.in-Some.own c.requires.hub c.requires.same
    ((c.calm_is_empty.ensures c.args.hub c.requires.hub).0 c.requires.calm 0) c.requires.notes c.in-Ok-new.ensures.seats c.in-Some.ensures.items in
    (c.args.hub.hub.start, is.note, c.requires.keeper)

pub run_seats-leave-requires-clause-seats : goal.run_seats-leave-requires-clause-seats
run_seats-leave-requires-clause-seats g c κs within =
    (made c.notes_tell.ensures.begin c.notes_tell.ensures.empty (lock_id c.in-Ok-new.lock) c.args.job.now c.args.hub c.in-Ok-new.seats.items c.pop.new.self.items c.in-Some.own c.requires.hub c.requires.same
    ((c.calm_is_empty.ensures c.args.hub c.requires.hub).0 c.requires.calm 0) c.requires.notes c.in-Ok-new.ensures.seats c.in-Some.ensures.items).others

pub close-hub-requires-clause-lock : goal.close-hub-requires-clause-lock
close-hub-requires-clause-lock g c =
    let z = lock_id c.in-Ok-new.lock in
    let job = c.args.job.now in
    let seats = c.push_reserved.new.self.items in
    let back = c.run_seats-leave in
    let all = seats_again z job back.result.2.items seats back.result.1 c.push_reserved.ensures.items back.ensures.seats back.ensures.all.0 back.ensures.own in
    seats_of_lock z job seats all

pub close-hub-requires-clause-all : goal.close-hub-requires-clause-all
close-hub-requires-clause-all g c k l =
    let z = lock_id c.in-Ok-new.lock in
    let job = c.args.job.now in
    let seats = c.push_reserved.new.self.items in
    let back = c.run_seats-leave in
    let all = seats_again z job back.result.2.items seats back.result.1 c.push_reserved.ensures.items back.ensures.seats back.ensures.all.0 back.ensures.own in
    let whole = one_longer back.result.2.items seats back.result.1 c.push_reserved.ensures.items in
    let rest = back.ensures.all.0 in
    let count = c.in-Ok-new.ensures.lock in
    seats_have_all z job seats all k (omega (arith, l, whole, rest, count))

pub returns-clause-same : goal.returns-clause-same
returns-clause-same g c =
    let z = lock_id c.in-Ok-new.lock in
    let job = c.args.job.now in
    let seats = c.push_reserved.new.self.items in
    let back = c.run_seats-leave in
    let all = seats_again z job back.result.2.items seats back.result.1 c.push_reserved.ensures.items back.ensures.seats back.ensures.all.0 back.ensures.own in
    let whole = one_longer back.result.2.items seats back.result.1 c.push_reserved.ensures.items ∙ ap {B = ℕ} (λ n. n + 1) back.ensures.all.0 in
    let is = told z job c.close-hub.result seats all c.close-hub.ensures.notes c.notes_tell.ensures.grounds c.notes_tell.ensures.begin c.notes_tell.ensures.empty c.stands.ensures.hub whole in
    let note = note_of_last z job c.close-hub.result seats all c.close-hub.ensures.notes back.result.2.items back.result.1 c.push_reserved.ensures.items back.ensures.all.0 in
    let begun = made c.notes_tell.ensures.begin c.notes_tell.ensures.empty (lock_id c.in-Ok-new.lock) c.args.job.now c.args.hub c.in-Ok-new.seats.items c.pop.new.self.items c.in-Some.own c.requires.hub c.requires.same
    ((c.calm_is_empty.ensures c.args.hub c.requires.hub).0 c.requires.calm 0) c.requires.notes c.in-Ok-new.ensures.seats c.in-Some.ensures.items in
    let start = start_told c.notes_tell.ensures.grounds c.notes_tell.ensures.begin c.close-hub.result job (seat_note back.result.1) note c.args.hub.hub.start (back.ensures.ground ∙ begun.note.ground) in
    (is.job, start, c.stands.ensures.counters ∙ ap (λ (j : Job). g.P.Pie.counters_for j) is.job)

pub returns-clause-free : goal.returns-clause-free
returns-clause-free g c =
    let z = lock_id c.in-Ok-new.lock in
    let job = c.args.job.now in
    let seats = c.push_reserved.new.self.items in
    let back = c.run_seats-leave in
    let all = seats_again z job back.result.2.items seats back.result.1 c.push_reserved.ensures.items back.ensures.seats back.ensures.all.0 back.ensures.own in
    let whole = one_longer back.result.2.items seats back.result.1 c.push_reserved.ensures.items ∙ ap {B = ℕ} (λ n. n + 1) back.ensures.all.0 in
    let is = told z job c.close-hub.result seats all c.close-hub.ensures.notes c.notes_tell.ensures.grounds c.notes_tell.ensures.begin c.notes_tell.ensures.empty c.stands.ensures.hub whole in
    is.free

pub returns-clause-leaves : goal.returns-clause-leaves
returns-clause-leaves g c =
    let z = lock_id c.in-Ok-new.lock in
    let job = c.args.job.now in
    let seats = c.push_reserved.new.self.items in
    let back = c.run_seats-leave in
    let all = seats_again z job back.result.2.items seats back.result.1 c.push_reserved.ensures.items back.ensures.seats back.ensures.all.0 back.ensures.own in
    let note = note_of_last z job c.close-hub.result seats all c.close-hub.ensures.notes back.result.2.items back.result.1 c.push_reserved.ensures.items back.ensures.all.0 in
    let d = g.D.Disk in
    leaves_hub c.notes_tell.ensures.grounds c.notes_tell.ensures.begin c.close-hub.result job (seat_note back.result.1) note d.content d.images d.moment d.faults d.honest c.args.keeper.now c.args.disk.now c.notes_tell.ensures.cuts c.stands.ensures.hub
    back.new.keeper back.new.disk back.result.0 back.ensures.leaves
