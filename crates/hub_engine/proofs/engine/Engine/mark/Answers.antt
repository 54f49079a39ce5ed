use Rattle.std.proofs.Common.{◌≡◌, ◌+◌, true, List, [], ◌∷◌, ◌++◌, refl, sym, ◌∙◌, ap, subst, arith}
use Rattle.grape_event.specs.declared.event.Event.{Event}
use Rattle.grape_event.specs.declared.event.Event.TheVariants.{Mark}
use Rattle.grape_event.specs.JournalList.{JournalList}
use Rattle.token_cut.specs.CutValues.{CutValues}
use Rattle.legal_journal.specs.Legal.{is_admitted}
use Rattle.hub_engine.specs.HubValues.{HubValues}
use Rattle.hub_engine.specs.States.{machine, state_of, events_owed, IsHub}
use Rattle.hub_engine.specs.Desks.{Tables, TablesFit}
use Rattle.hub_engine.specs.Calls.{Appended}
use Rattle.hub_engine.proofs.Results.{at_ok, at_err}
use Rattle.hub_engine.proofs.Marks.{may_record, recorded_is, marked_hub, marked_tables}
use Rattle.hub_engine.proofs.Takings.{found_at, worker_in_range}
use Rattle.hub_engine.proofs.engine.Engine.mark.Goals as goal

pub invariant_of-self : goal.invariant_of-self
invariant_of-self g c =
    let e : c.reserve.new.self ≡ c.self.inside.journal = at_err c.reserve.result (sym c.is_err.ensures.value ∙ c.if-is_err.true) c.reserve.ensures.no_memory in
    let t : Tables = record { routes = c.self.inside.routes.items; desks = c.self.inside.desks.items; probe = c.self.inside.probe; cut = c.self.inside.cut; counts = c.self.inside.counts; turn = c.self.inside.turn } in
    let h : JournalList → HubValues = λ j. record { job = c.self.inside.job; counters = g.P.Pie.counters_for c.self.inside.job; start = c.self.inside.start; journal = j } in
    let k = c.self.invariant in (
      k.0,
      subst (λ (j : JournalList). IsHub (h j)) (sym e) k.1,
      subst (λ (j : JournalList). TablesFit (machine (h j)) (state_of (h j)) (g.P.Pie.counters_for c.self.inside.job) t) (sym e) k.2,
      k.3,
      k.4,
      k.5,
      k.6,
    )

pub index-requires : goal.index-requires
index-requires g c =
    let old : HubValues = record { job = c.self.inside.job; counters = g.P.Pie.counters_for c.self.inside.job; start = c.self.inside.start; journal = c.self.inside.journal } in
    let a = subst (λ (h : HubValues). is_admitted (machine h) (state_of h) (Mark c.args.worker) ≡ true) (sym c.self.view_is) c.requires.admitted in
    let l = worker_in_range (machine old) (state_of old) c.args.worker _ _ a in
    let n = c.self.invariant.2.count in
    omega (arith, l, n)

pub record-requires : goal.record-requires
record-requires g c =
    let old : HubValues = record { job = c.self.inside.job; counters = g.P.Pie.counters_for c.self.inside.job; start = c.self.inside.start; journal = c.self.inside.journal } in
    let t : Tables = record { routes = c.self.inside.routes.items; desks = c.self.inside.desks.items; probe = c.self.inside.probe; cut = c.self.inside.cut; counts = c.self.inside.counts; turn = c.self.inside.turn } in
    let a = subst (λ (h : HubValues). is_admitted (machine h) (state_of h) (Mark c.args.worker) ≡ true) (sym c.self.view_is) c.requires.admitted in
    let l = worker_in_range (machine old) (state_of old) c.args.worker _ _ a in
    let n = c.self.invariant.2.count in
    let d = c.index.result.now in
    let here = found_at c.self.inside.desks.items c.args.worker d (omega (arith, l, n)) c.index.ensures in
    may_record old t c.args.worker d c.self.invariant.1 c.self.invariant.2 here a

pub invariant_of-self-2 : goal.invariant_of-self-2
invariant_of-self-2 g c =
    let old : HubValues = record { job = c.self.inside.job; counters = g.P.Pie.counters_for c.self.inside.job; start = c.self.inside.start; journal = c.self.inside.journal } in
    let new : HubValues = record { job = c.self.inside.job; counters = g.P.Pie.counters_for c.self.inside.job; start = c.self.inside.start; journal = c.push.new.self } in
    let t : Tables = record { routes = c.self.inside.routes.items; desks = c.self.inside.desks.items; probe = c.self.inside.probe; cut = c.self.inside.cut; counts = c.self.inside.counts; turn = c.self.inside.turn } in
    let a = subst (λ (h : HubValues). is_admitted (machine h) (state_of h) (Mark c.args.worker) ≡ true) (sym c.self.view_is) c.requires.admitted in
    let l = worker_in_range (machine old) (state_of old) c.args.worker _ _ a in
    let n = c.self.invariant.2.count in
    let d = c.index.result.now in
    let here = found_at c.self.inside.desks.items c.args.worker d (omega (arith, l, n)) c.index.ensures in
    let more : Appended old (Mark c.args.worker) new = (refl, refl, c.push.ensures.events ∙ ap (λ (q : List Event). q ++ Mark c.args.worker ∷ []) c.reserve.ensures.events, refl) in
    let owed = c.room_owed-room.ensures.room ∙ ap (λ (h : HubValues). events_owed (state_of h) + 1) (sym c.self.view_is) in
    let room = at_ok c.reserve.result (sym c.is_err.ensures.value ∙ c.if-is_err.false) c.reserve.ensures.room in
    let spare = c.push.ensures.spare in
    let cut = recorded_is old t c.args.worker d c.self.invariant.1 c.self.invariant.2 here a c.record.new.cut c.record.ensures in (
      c.self.invariant.0,
      marked_hub old t c.args.worker d c.self.invariant.1 c.self.invariant.2 here a new more (omega (arith, room, spare, owed)),
      subst (λ (q : CutValues). TablesFit (machine new) (state_of new) old.counters (record { routes = t.routes; desks = t.desks; probe = t.probe; cut = q; counts = t.counts; turn = t.turn })) (sym cut)
          (marked_tables old t c.args.worker d c.self.invariant.1 c.self.invariant.2 here a new more),
      c.self.invariant.3,
      c.self.invariant.4,
      c.self.invariant.5,
      c.self.invariant.6,
    )

pub returns-clause-hub : goal.returns-clause-hub
returns-clause-hub g c =
    let old : HubValues = record { job = c.self.inside.job; counters = g.P.Pie.counters_for c.self.inside.job; start = c.self.inside.start; journal = c.self.inside.journal } in
    let new : HubValues = record { job = c.self.inside.job; counters = g.P.Pie.counters_for c.self.inside.job; start = c.self.inside.start; journal = c.push.new.self } in
    let t : Tables = record { routes = c.self.inside.routes.items; desks = c.self.inside.desks.items; probe = c.self.inside.probe; cut = c.self.inside.cut; counts = c.self.inside.counts; turn = c.self.inside.turn } in
    let a = subst (λ (h : HubValues). is_admitted (machine h) (state_of h) (Mark c.args.worker) ≡ true) (sym c.self.view_is) c.requires.admitted in
    let l = worker_in_range (machine old) (state_of old) c.args.worker _ _ a in
    let n = c.self.invariant.2.count in
    let d = c.index.result.now in
    let here = found_at c.self.inside.desks.items c.args.worker d (omega (arith, l, n)) c.index.ensures in
    let more : Appended old (Mark c.args.worker) new = (refl, refl, c.push.ensures.events ∙ ap (λ (q : List Event). q ++ Mark c.args.worker ∷ []) c.reserve.ensures.events, refl) in
    let owed = c.room_owed-room.ensures.room ∙ ap (λ (h : HubValues). events_owed (state_of h) + 1) (sym c.self.view_is) in
    let room = at_ok c.reserve.result (sym c.is_err.ensures.value ∙ c.if-is_err.false) c.reserve.ensures.room in
    let spare = c.push.ensures.spare in
    marked_hub old t c.args.worker d c.self.invariant.1 c.self.invariant.2 here a new more (omega (arith, room, spare, owed))
