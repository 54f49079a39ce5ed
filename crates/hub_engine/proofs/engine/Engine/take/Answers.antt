use Rattle.std.proofs.Common.{◌≡◌, ◌+◌, true, false, List, [], ◌∷◌, ◌++◌, length, length-append, length-set, slice_set, count_by, nat_lt, if◌then◌else◌, refl, sym, ◌∙◌, ap, subst, arith}
use Rattle.grape_event.specs.declared.event.Event.{Event}
use Rattle.grape_event.specs.declared.event.Event.TheVariants.{Take}
use Rattle.grape_event.specs.JournalList.{JournalList}
use Rattle.base_machine.specs.Machine.{worker_at, is_running}
use Rattle.legal_journal.specs.Legal.{is_admitted}
use Rattle.hub_engine.specs.declared.desk.Desk.{Desk}
use Rattle.hub_engine.specs.declared.work.Next.TheVariants.{Took}
use Rattle.hub_engine.specs.HubValues.{HubValues}
use Rattle.stop_probe.specs.ProbeValues.{ProbeValues}
use Rattle.stop_probe.specs.Journals.{after_event}
use Rattle.hub_engine.specs.States.{machine, state_of, events_owed, workers_of, IsHub}
use Rattle.hub_engine.specs.Desks.{Tables, TablesFit, is_busy_at, is_out}
use Rattle.hub_engine.specs.Calls.{Appended, TakesWorker}
use Rattle.hub_engine.proofs.Results.{at_ok, at_err}
use Rattle.hub_engine.proofs.Hubs.{few_workers}
use Rattle.hub_engine.proofs.Takings.{found_at, worker_in_range, clock_of}
use Rattle.hub_engine.proofs.Works.{hand_fits, taken_hub, taken_tables, taken_work, taken_seat, few_takes}
use Rattle.hub_engine.proofs.Taken.{taken_in}
use Rattle.hub_engine.proofs.Totals.{least_set, taker_is_busy, one_more}
use Rattle.hub_engine.proofs.engine.Engine.take.Goals as goal

-- src/hub.rt:125:13
pub invariant_of-self : goal.invariant_of-self
invariant_of-self g c =
    let e : c.reserve.new.self ≡ c.self.inside.journal = at_err c.reserve.result (sym c.is_err.ensures.value ∙ c.if-is_err.true) c.reserve.ensures.no_memory in
    let t : Tables = record { routes = c.self.inside.routes.items; desks = c.self.inside.desks.items; probe = c.self.inside.probe; cut = c.self.inside.cut; counts = c.self.inside.counts; turn = c.self.inside.turn } in
    let h : JournalList → HubValues = λ j. record { job = c.self.inside.job; counters = g.P.Pie.counters_for c.self.inside.job; start = c.self.inside.start; journal = j } in
    let k = c.self.invariant in (
      k.0,
      subst (λ (j : JournalList). IsHub (h j)) (sym e) k.1,
      subst (λ (j : JournalList). TablesFit (machine (h j)) (state_of (h j)) (g.P.Pie.counters_for c.self.inside.job) t) (sym e) k.2,
      k.3,
      k.4,
      k.5,
      k.6,
    )

-- src/hub.rt:128:36
pub index_mut-requires : goal.index_mut-requires
index_mut-requires g c =
    let old : HubValues = record { job = c.self.inside.job; counters = g.P.Pie.counters_for c.self.inside.job; start = c.self.inside.start; journal = c.self.inside.journal } in
    let a = subst (λ (h : HubValues). is_admitted (machine h) (state_of h) (Take c.args.worker c.args.lane) ≡ true) (sym c.self.view_is) c.requires.admitted in
    let l = worker_in_range (machine old) (state_of old) c.args.worker _ _ a in
    let n = c.self.invariant.2.count in
    omega (arith, l, n)

-- src/hub.rt:128:36
pub take-fresh-requires : goal.take-fresh-requires
take-fresh-requires g c =
    let old : HubValues = record { job = c.self.inside.job; counters = g.P.Pie.counters_for c.self.inside.job; start = c.self.inside.start; journal = c.self.inside.journal } in
    let a = subst (λ (h : HubValues). is_admitted (machine h) (state_of h) (Take c.args.worker c.args.lane) ≡ true) (sym c.self.view_is) c.requires.admitted in
    let idle = subst (λ (h : HubValues). is_running (worker_at (workers_of h) c.args.worker) ≡ false) (sym c.self.view_is) c.requires.idle in
    let l = worker_in_range (machine old) (state_of old) c.args.worker _ _ a in
    let n = c.self.invariant.2.count in
    let here = found_at c.self.inside.desks.items c.args.worker c.index_mut.result.now (omega (arith, l, n)) c.index_mut.ensures.value in
    hand_fits (machine old) (state_of old) old.counters c.args.worker c.index_mut.result.now idle (c.self.invariant.2.fit c.args.worker c.index_mut.result.now here)

pub hear-requires : goal.hear-requires
hear-requires g c =
    let old : HubValues = record { job = c.self.inside.job; counters = g.P.Pie.counters_for c.self.inside.job; start = c.self.inside.start; journal = c.self.inside.journal } in
    let a = subst (λ (h : HubValues). is_admitted (machine h) (state_of h) (Take c.args.worker c.args.lane) ≡ true) (sym c.self.view_is) c.requires.admitted in
    let l = worker_in_range (machine old) (state_of old) c.args.worker _ _ a in
    let n = ap (λ (p : ProbeValues). p.workers) c.self.invariant.2.is_probe in
    omega (arith, l, n)

-- src/hub.rt:130:21
pub following-self-inside-requires-clause-worker :
    goal.following-self-inside-requires-clause-worker
following-self-inside-requires-clause-worker g c =
    let old : HubValues = record { job = c.self.inside.job; counters = g.P.Pie.counters_for c.self.inside.job; start = c.self.inside.start; journal = c.self.inside.journal } in
    let a = subst (λ (h : HubValues). is_admitted (machine h) (state_of h) (Take c.args.worker c.args.lane) ≡ true) (sym c.self.view_is) c.requires.admitted in
    let l = worker_in_range (machine old) (state_of old) c.args.worker _ _ a in
    let n = c.self.invariant.2.count in
    let e = c.len-count.ensures in
    omega (arith, l, n, e)

-- src/hub.rt:130:21
pub following-self-inside-requires-clause-few : goal.following-self-inside-requires-clause-few
following-self-inside-requires-clause-few g c =
    let old : HubValues = record { job = c.self.inside.job; counters = g.P.Pie.counters_for c.self.inside.job; start = c.self.inside.start; journal = c.self.inside.journal } in
    let f = few_workers old c.self.invariant.1 in
    let n = c.self.invariant.2.count in
    let e = c.len-count.ensures in
    omega (arith, f, n, e)

-- src/hub.rt:116:5
pub invariant_of-self-2 : goal.invariant_of-self-2
invariant_of-self-2 g c =
    let old : HubValues = record { job = c.self.inside.job; counters = g.P.Pie.counters_for c.self.inside.job; start = c.self.inside.start; journal = c.self.inside.journal } in
    let new : HubValues = record { job = c.self.inside.job; counters = g.P.Pie.counters_for c.self.inside.job; start = c.self.inside.start; journal = c.push.new.self } in
    let t : Tables = record { routes = c.self.inside.routes.items; desks = c.self.inside.desks.items; probe = c.self.inside.probe; cut = c.self.inside.cut; counts = c.self.inside.counts; turn = c.self.inside.turn } in
    let a = subst (λ (h : HubValues). is_admitted (machine h) (state_of h) (Take c.args.worker c.args.lane) ≡ true) (sym c.self.view_is) c.requires.admitted in
    let idle = subst (λ (h : HubValues). is_running (worker_at (workers_of h) c.args.worker) ≡ false) (sym c.self.view_is) c.requires.idle in
    let l = worker_in_range (machine old) (state_of old) c.args.worker _ _ a in
    let n = c.self.invariant.2.count in
    let here = found_at c.self.inside.desks.items c.args.worker c.index_mut.result.now (omega (arith, l, n)) c.index_mut.ensures.value in
    let more : Appended old (Take c.args.worker c.args.lane) new = (refl, refl, c.push.ensures.events ∙ ap (λ (q : List Event). q ++ Take c.args.worker c.args.lane ∷ []) c.reserve.ensures.events, refl) in
    let room = at_ok c.reserve.result (sym c.is_err.ensures.value ∙ c.if-is_err.false) c.reserve.ensures.room in
    let spare = c.push.ensures.spare in
    let owed = c.room_owed-room.ensures.room ∙ ap (λ (h : HubValues). events_owed (state_of h) + 2) (sym c.self.view_is) in
    let e = c.len-count.ensures in
    let long : c.len-count.result ≡ length c.self.inside.desks.items = omega (arith, e) in
    let seats = taken_seat c.index_mut.result.now c.args.lane c.len-place.result (c.take-fresh.result.0, c.take-fresh.result.1, c.take-fresh.result.2) c.take-fresh.new.self c.take-fresh.ensures in
    let tables = taken_tables old new t c.args.worker c.args.lane c.index_mut.result.now c.self.invariant.1 c.self.invariant.2 here idle more c.len-place.result c.following-self-inside.result
    (c.len-place.ensures ∙ ap (λ (q : List Event). length q) c.reserve.ensures.events) (c.following-self-inside.ensures ∙ ap (λ m. if nat_lt (c.args.worker + 1) m then c.args.worker + 1 else 0) long) in (
      c.self.invariant.0,
      taken_hub old new t c.args.worker c.args.lane c.index_mut.result.now c.self.invariant.1 c.self.invariant.2 here idle more a (omega (arith, room, spare, owed)),
      subst (λ (p : ProbeValues). TablesFit (machine new) (state_of new) old.counters (record { routes = t.routes; desks = slice_set t.desks c.args.worker c.take-fresh.new.self; probe = p; cut = t.cut; counts = record { epoch = t.counts.epoch; takes = t.counts.takes + 1; sealed = t.counts.sealed }; turn = c.following-self-inside.result })) (sym c.hear.ensures)
          (subst (λ (x : Desk). TablesFit (machine new) (state_of new) old.counters (record { routes = t.routes; desks = slice_set t.desks c.args.worker x; probe = after_event (Take c.args.worker c.args.lane) t.probe; cut = t.cut; counts = record { epoch = t.counts.epoch; takes = t.counts.takes + 1; sealed = t.counts.sealed }; turn = c.following-self-inside.result })) (sym seats) tables),
      c.self.invariant.3,
      (let m = length-set c.self.inside.desks.items c.args.worker c.take-fresh.new.self in let q = c.self.invariant.4 in omega (arith, m, q)),
      least_set t.desks c.args.worker c.index_mut.result.now c.take-fresh.new.self c.self.inside.least here
          (ap is_busy_at seats ∙ sym (taker_is_busy old t c.args.worker c.args.lane c.index_mut.result.now c.self.invariant.1 c.self.invariant.2 here a)) (ap (λ (x : Desk). x.round) seats) c.self.invariant.5,
      ap (λ n. n + 1) c.self.invariant.6
          ∙ sym (ap (λ (x : Desk). count_by is_out (slice_set t.desks c.args.worker x)) seats
          ∙ one_more old new t (taken_in c.args.worker c.args.lane c.len-place.result c.index_mut.result.now c.following-self-inside.result t) c.args.worker c.args.lane c.index_mut.result.now c.self.invariant.1 c.self.invariant.2 here idle more tables),
    )

-- src/hub.rt:116:5
pub returns-clause-taken : goal.returns-clause-taken
returns-clause-taken g c =
    let old : HubValues = record { job = c.self.inside.job; counters = g.P.Pie.counters_for c.self.inside.job; start = c.self.inside.start; journal = c.self.inside.journal } in
    let new : HubValues = record { job = c.self.inside.job; counters = g.P.Pie.counters_for c.self.inside.job; start = c.self.inside.start; journal = c.push.new.self } in
    let t : Tables = record { routes = c.self.inside.routes.items; desks = c.self.inside.desks.items; probe = c.self.inside.probe; cut = c.self.inside.cut; counts = c.self.inside.counts; turn = c.self.inside.turn } in
    let a = subst (λ (h : HubValues). is_admitted (machine h) (state_of h) (Take c.args.worker c.args.lane) ≡ true) (sym c.self.view_is) c.requires.admitted in
    let idle = subst (λ (h : HubValues). is_running (worker_at (workers_of h) c.args.worker) ≡ false) (sym c.self.view_is) c.requires.idle in
    let l = worker_in_range (machine old) (state_of old) c.args.worker _ _ a in
    let n = c.self.invariant.2.count in
    let here = found_at c.self.inside.desks.items c.args.worker c.index_mut.result.now (omega (arith, l, n)) c.index_mut.ensures.value in
    let more : Appended old (Take c.args.worker c.args.lane) new = (refl, refl, c.push.ensures.events ∙ ap (λ (q : List Event). q ++ Take c.args.worker c.args.lane ∷ []) c.reserve.ensures.events, refl) in
    let work = taken_work old new t c.args.worker c.args.lane c.index_mut.result.now c.self.invariant.1 c.self.invariant.2 here idle more c.len-place.result
    (c.take-fresh.result.0, c.take-fresh.result.1, c.take-fresh.result.2) c.take-fresh.new.self (c.len-place.ensures ∙ ap (λ (q : List Event). length q) c.reserve.ensures.events) c.take-fresh.ensures in
    subst (λ (h : HubValues). TakesWorker h c.args.worker c.args.lane
    (Took (record { worker = c.args.worker; place = c.len-place.result; fresh = c.take-fresh.result.0; local = c.take-fresh.result.1; hand = c.take-fresh.result.2 })) new) c.self.view_is
    (refl, more, work)

-- src/hub.rt:116:5
pub returns-clause-hub : goal.returns-clause-hub
returns-clause-hub g c =
    let old : HubValues = record { job = c.self.inside.job; counters = g.P.Pie.counters_for c.self.inside.job; start = c.self.inside.start; journal = c.self.inside.journal } in
    let new : HubValues = record { job = c.self.inside.job; counters = g.P.Pie.counters_for c.self.inside.job; start = c.self.inside.start; journal = c.push.new.self } in
    let t : Tables = record { routes = c.self.inside.routes.items; desks = c.self.inside.desks.items; probe = c.self.inside.probe; cut = c.self.inside.cut; counts = c.self.inside.counts; turn = c.self.inside.turn } in
    let a = subst (λ (h : HubValues). is_admitted (machine h) (state_of h) (Take c.args.worker c.args.lane) ≡ true) (sym c.self.view_is) c.requires.admitted in
    let idle = subst (λ (h : HubValues). is_running (worker_at (workers_of h) c.args.worker) ≡ false) (sym c.self.view_is) c.requires.idle in
    let l = worker_in_range (machine old) (state_of old) c.args.worker _ _ a in
    let n = c.self.invariant.2.count in
    let here = found_at c.self.inside.desks.items c.args.worker c.index_mut.result.now (omega (arith, l, n)) c.index_mut.ensures.value in
    let more : Appended old (Take c.args.worker c.args.lane) new = (refl, refl, c.push.ensures.events ∙ ap (λ (q : List Event). q ++ Take c.args.worker c.args.lane ∷ []) c.reserve.ensures.events, refl) in
    let room = at_ok c.reserve.result (sym c.is_err.ensures.value ∙ c.if-is_err.false) c.reserve.ensures.room in
    let spare = c.push.ensures.spare in
    let owed = c.room_owed-room.ensures.room ∙ ap (λ (h : HubValues). events_owed (state_of h) + 2) (sym c.self.view_is) in
    taken_hub old new t c.args.worker c.args.lane c.index_mut.result.now c.self.invariant.1 c.self.invariant.2 here idle more a (omega (arith, room, spare, owed))

pub overflow_add-self : goal.overflow_add-self
overflow_add-self g c =
    let old : HubValues = record { job = c.self.inside.job; counters = g.P.Pie.counters_for c.self.inside.job; start = c.self.inside.start; journal = c.self.inside.journal } in
    let few = few_takes (state_of old).past in
    let takes = c.self.invariant.2.are_counts.takes in
    let clock = clock_of old in
    let pushed = ap (λ (q : List Event). length q) (c.push.ensures.events ∙ ap (λ (q : List Event). q ++ Take c.args.worker c.args.lane ∷ []) c.reserve.ensures.events) in
    let long = length-append old.journal.events (Take c.args.worker c.args.lane ∷ []) in
    let short = c.push.ensures.short in
    omega (arith, few, takes, clock, pushed, long, short)
