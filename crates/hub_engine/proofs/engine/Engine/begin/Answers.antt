use Rattle.std.proofs.Common.{◌≡◌, ◌+◌, true, List, [], ◌∷◌, ◌++◌, refl, sym, ◌∙◌, ap, subst, arith}
use Rattle.grape_event.specs.declared.event.Event.{Event}
use Rattle.grape_event.specs.declared.event.Event.TheVariants.{Begin}
use Rattle.grape_event.specs.JournalList.{JournalList}
use Rattle.token_cut.specs.CutValues.{CutValues}
use Rattle.legal_journal.specs.Legal.{is_admitted}
use Rattle.hub_engine.specs.HubValues.{HubValues}
use Rattle.hub_engine.specs.States.{machine, state_of, events_owed, IsHub}
use Rattle.hub_engine.specs.Desks.{Tables, TablesFit}
use Rattle.hub_engine.specs.Calls.{Appended}
use Rattle.hub_engine.proofs.Results.{at_ok, at_err}
use Rattle.hub_engine.proofs.Takings.{begin_closed, begun_hub, begun_tables}
use Rattle.hub_engine.proofs.engine.Engine.begin.Goals as goal

pub invariant_of-self : goal.invariant_of-self
invariant_of-self g c =
    let e : c.reserve.new.self ≡ c.self.inside.journal = at_err c.reserve.result (sym c.is_err.ensures.value ∙ c.if-is_err.true) c.reserve.ensures.no_memory in
    let t : Tables = record { routes = c.self.inside.routes.items; desks = c.self.inside.desks.items; probe = c.self.inside.probe; cut = c.self.inside.cut; counts = c.self.inside.counts; turn = c.self.inside.turn } in
    let h : JournalList → HubValues = λ j. record { job = c.self.inside.job; counters = g.P.Pie.counters_for c.self.inside.job; start = c.self.inside.start; journal = j } in
    let k = c.self.invariant in (
      k.0,
      subst (λ (j : JournalList). IsHub (h j)) (sym e) k.1,
      subst (λ (j : JournalList). TablesFit (machine (h j)) (state_of (h j)) (g.P.Pie.counters_for c.self.inside.job) t) (sym e) k.2,
      k.3,
      k.4,
      k.5,
      k.6,
    )

pub begin-requires : goal.begin-requires
begin-requires g c =
    let old : HubValues = record { job = c.self.inside.job; counters = g.P.Pie.counters_for c.self.inside.job; start = c.self.inside.start; journal = c.self.inside.journal } in
    let t : Tables = record { routes = c.self.inside.routes.items; desks = c.self.inside.desks.items; probe = c.self.inside.probe; cut = c.self.inside.cut; counts = c.self.inside.counts; turn = c.self.inside.turn } in
    let a = subst (λ (h : HubValues). is_admitted (machine h) (state_of h) (Begin c.args.epoch) ≡ true) (sym c.self.view_is) c.requires.admitted in
    c.self.invariant.2.is_cut.recording ∙ begin_closed old c.args.epoch c.self.invariant.1 a

pub invariant_of-self-2 : goal.invariant_of-self-2
invariant_of-self-2 g c =
    let old : HubValues = record { job = c.self.inside.job; counters = g.P.Pie.counters_for c.self.inside.job; start = c.self.inside.start; journal = c.self.inside.journal } in
    let new : HubValues = record { job = c.self.inside.job; counters = g.P.Pie.counters_for c.self.inside.job; start = c.self.inside.start; journal = c.push.new.self } in
    let t : Tables = record { routes = c.self.inside.routes.items; desks = c.self.inside.desks.items; probe = c.self.inside.probe; cut = c.self.inside.cut; counts = c.self.inside.counts; turn = c.self.inside.turn } in
    let a = subst (λ (h : HubValues). is_admitted (machine h) (state_of h) (Begin c.args.epoch) ≡ true) (sym c.self.view_is) c.requires.admitted in
    let more : Appended old (Begin c.args.epoch) new = (refl, refl, c.push.ensures.events ∙ ap (λ (q : List Event). q ++ Begin c.args.epoch ∷ []) c.reserve.ensures.events, refl) in
    let owed = c.room_owed-room.ensures.room ∙ ap (λ (h : HubValues). events_owed (state_of h) + 1) (sym c.self.view_is) in
    let room = at_ok c.reserve.result (sym c.is_err.ensures.value ∙ c.if-is_err.false) c.reserve.ensures.room in
    let spare = c.push.ensures.spare in (
      c.self.invariant.0,
      begun_hub old new t c.args.epoch c.self.invariant.1 c.self.invariant.2 a more (omega (arith, room, spare, owed)),
      subst (λ (cut : CutValues). TablesFit (machine new) (state_of new) old.counters (record { routes = t.routes; desks = t.desks; probe = t.probe; cut = cut; counts = record { epoch = c.args.epoch; takes = 0; sealed = t.counts.sealed }; turn = t.turn })) (sym c.begin.ensures)
          (begun_tables old new t c.args.epoch c.self.invariant.1 c.self.invariant.2 a more),
      c.self.invariant.3,
      c.self.invariant.4,
      c.self.invariant.5,
      c.self.invariant.6,
    )

pub returns-clause-hub : goal.returns-clause-hub
returns-clause-hub g c =
    let old : HubValues = record { job = c.self.inside.job; counters = g.P.Pie.counters_for c.self.inside.job; start = c.self.inside.start; journal = c.self.inside.journal } in
    let new : HubValues = record { job = c.self.inside.job; counters = g.P.Pie.counters_for c.self.inside.job; start = c.self.inside.start; journal = c.push.new.self } in
    let t : Tables = record { routes = c.self.inside.routes.items; desks = c.self.inside.desks.items; probe = c.self.inside.probe; cut = c.self.inside.cut; counts = c.self.inside.counts; turn = c.self.inside.turn } in
    let a = subst (λ (h : HubValues). is_admitted (machine h) (state_of h) (Begin c.args.epoch) ≡ true) (sym c.self.view_is) c.requires.admitted in
    let more : Appended old (Begin c.args.epoch) new = (refl, refl, c.push.ensures.events ∙ ap (λ (q : List Event). q ++ Begin c.args.epoch ∷ []) c.reserve.ensures.events, refl) in
    let owed = c.room_owed-room.ensures.room ∙ ap (λ (h : HubValues). events_owed (state_of h) + 1) (sym c.self.view_is) in
    let room = at_ok c.reserve.result (sym c.is_err.ensures.value ∙ c.if-is_err.false) c.reserve.ensures.room in
    let spare = c.push.ensures.spare in
    begun_hub old new t c.args.epoch c.self.invariant.1 c.self.invariant.2 a more (omega (arith, room, spare, owed))
