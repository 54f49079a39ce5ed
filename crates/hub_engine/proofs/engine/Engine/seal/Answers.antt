use Rattle.std.proofs.Common.{◌≡◌, ◌≤◌, ◌+◌, true, List, [], ◌∷◌, ◌++◌, length, map, count_by, Some, None, refl, sym, ◌∙◌, ap, subst, arith}
use Rattle.std.proofs.lemmas.List.{length-map}
use Rattle.std.specs.Vec.{vec_capacity}
use Rattle.grape_event.specs.declared.event.Event.{Event}
use Rattle.grape_event.specs.declared.event.Event.TheVariants.{Seal}
use Rattle.grape_event.specs.JournalList.{JournalList}
use Rattle.token_cut.specs.Parts.{SnapshotParts}
use Rattle.token_cut.specs.CutValues.{CutValues}
use Rattle.legal_journal.specs.Legal.{is_admitted}
use Rattle.hub_engine.specs.declared.desk.Desk.{Desk}
use Rattle.hub_engine.specs.HubValues.{HubValues}
use Rattle.hub_engine.specs.States.{machine, state_of, sealed_epoch, events_owed, IsHub}
use Rattle.hub_engine.specs.Desks.{Tables, TablesFit, folded_desk, is_out}
use Rattle.hub_engine.specs.Kinds.{IsLeastRound}
use Rattle.hub_engine.specs.Calls.{Appended, HasSizesOf}
use Rattle.hub_engine.proofs.Results.{at_ok, at_err}
use Rattle.hub_engine.proofs.Sealings.{seals_complete, seals_sizes, sealed_hub, sealed_tables, sealed_written, desks_folded}
use Rattle.hub_engine.proofs.Seals.{sealed_in}
use Rattle.hub_engine.proofs.Totals.{least_folded, as_many_out}
use Rattle.hub_engine.proofs.engine.Engine.seal.Goals as goal

pub invariant_of-self : goal.invariant_of-self
invariant_of-self g c =
    let e : c.reserve.new.self ≡ c.self.inside.journal = at_err c.reserve.result (sym c.is_err.ensures.value ∙ c.if-is_err.true) c.reserve.ensures.no_memory in
    let t : Tables = record { routes = c.self.inside.routes.items; desks = c.self.inside.desks.items; probe = c.self.inside.probe; cut = c.self.inside.cut; counts = c.self.inside.counts; turn = c.self.inside.turn } in
    let h : JournalList → HubValues = λ j. record { job = c.self.inside.job; counters = g.P.Pie.counters_for c.self.inside.job; start = c.self.inside.start; journal = j } in
    let k = c.self.invariant in (
      k.0,
      subst (λ (j : JournalList). IsHub (h j)) (sym e) k.1,
      subst (λ (j : JournalList). TablesFit (machine (h j)) (state_of (h j)) (g.P.Pie.counters_for c.self.inside.job) t) (sym e) k.2,
      k.3,
      k.4,
      k.5,
      k.6,
    )

pub seal-requires-clause-complete : goal.seal-requires-clause-complete
seal-requires-clause-complete g c =
    let old : HubValues = record { job = c.self.inside.job; counters = g.P.Pie.counters_for c.self.inside.job; start = c.self.inside.start; journal = c.self.inside.journal } in
    let t : Tables = record { routes = c.self.inside.routes.items; desks = c.self.inside.desks.items; probe = c.self.inside.probe; cut = c.self.inside.cut; counts = c.self.inside.counts; turn = c.self.inside.turn } in
    let a = subst (λ (h : HubValues). is_admitted (machine h) (state_of h) (Seal c.args.epoch) ≡ true) (sym c.self.view_is) c.requires.admitted in
    seals_complete old t c.args.epoch c.self.invariant.1 c.self.invariant.2 a

pub seal-requires-clause-shape : goal.seal-requires-clause-shape
seal-requires-clause-shape g c =
    let old : HubValues = record { job = c.self.inside.job; counters = g.P.Pie.counters_for c.self.inside.job; start = c.self.inside.start; journal = c.self.inside.journal } in
    let t : Tables = record { routes = c.self.inside.routes.items; desks = c.self.inside.desks.items; probe = c.self.inside.probe; cut = c.self.inside.cut; counts = c.self.inside.counts; turn = c.self.inside.turn } in
    let a = subst (λ (h : HubValues). is_admitted (machine h) (state_of h) (Seal c.args.epoch) ≡ true) (sym c.self.view_is) c.requires.admitted in
    let sizes = subst (λ (h : HubValues). HasSizesOf h c.args.into.now) (sym c.self.view_is) c.requires.sizes in
    seals_sizes old t c.args.epoch c.self.invariant.1 c.self.invariant.2 a c.args.into.now sizes

pub invariant_of-self-2 : goal.invariant_of-self-2
invariant_of-self-2 g c =
    let old : HubValues = record { job = c.self.inside.job; counters = g.P.Pie.counters_for c.self.inside.job; start = c.self.inside.start; journal = c.self.inside.journal } in
    let t : Tables = record { routes = c.self.inside.routes.items; desks = c.self.inside.desks.items; probe = c.self.inside.probe; cut = c.self.inside.cut; counts = c.self.inside.counts; turn = c.self.inside.turn } in
    let a = subst (λ (h : HubValues). is_admitted (machine h) (state_of h) (Seal c.args.epoch) ≡ true) (sym c.self.view_is) c.requires.admitted in
    let new : HubValues = record { job = c.self.inside.job; counters = g.P.Pie.counters_for c.self.inside.job; start = c.self.inside.start; journal = c.push.new.self } in
    let more : Appended old (Seal c.args.epoch) new = (refl, refl, c.push.ensures.events ∙ ap (λ (q : List Event). q ++ Seal c.args.epoch ∷ []) c.reserve.ensures.events, refl) in
    let none = subst (λ (h : HubValues). sealed_epoch (state_of h).past ≡ None) (sym c.self.view_is) c.requires.kept in
    let owed = c.room_owed-room.ensures.room ∙ ap (λ (h : HubValues). events_owed (state_of h) + 2) (sym c.self.view_is) in
    let room = at_ok c.reserve.result (sym c.is_err.ensures.value ∙ c.if-is_err.false) c.reserve.ensures.room in
    let spare = c.push.ensures.spare in
    let desks = desks_folded c.self.inside.desks.len c.self.inside.desks.items c.deref_mut.result.now c.fold_mail.new.desks c.deref_mut.ensures.value c.fold_mail.ensures c.self.inside.desks.ok.0 in
    let long = ap (λ (l : List Desk). length l) desks ∙ length-map c.self.inside.desks.items folded_desk in
    let capacity = c.self.invariant.4 in
    let tables = sealed_tables old t c.args.epoch c.self.invariant.1 c.self.invariant.2 a new more in (
      c.self.invariant.0,
      sealed_hub old t c.args.epoch c.self.invariant.1 c.self.invariant.2 a new more none (omega (arith, room, spare, owed)),
      subst (λ (ds : List Desk). TablesFit (machine new) (state_of new) old.counters (record { routes = t.routes; desks = ds; probe = t.probe; cut = c.seal.new.self; counts = record { epoch = t.counts.epoch; takes = t.counts.takes; sealed = Some c.args.epoch }; turn = t.turn })) (sym desks)
          (subst (λ (cut : CutValues). TablesFit (machine new) (state_of new) old.counters (record { routes = t.routes; desks = map folded_desk t.desks; probe = t.probe; cut = cut; counts = record { epoch = t.counts.epoch; takes = t.counts.takes; sealed = Some c.args.epoch }; turn = t.turn })) (sym c.seal.ensures.closed)
          tables),
      c.self.invariant.3,
      subst (λ n. n ≤ vec_capacity c.self.inside.locals) (sym long) capacity,
      subst (λ (ds : List Desk). IsLeastRound ds c.self.inside.least) (sym desks) (least_folded t.desks c.self.inside.least c.self.invariant.5),
      c.self.invariant.6 ∙ sym (ap (λ (ds : List Desk). count_by is_out ds) desks ∙ as_many_out old new (Seal c.args.epoch) t (sealed_in c.args.epoch t) c.self.invariant.2 more tables refl),
    )

pub returns-clause-written : goal.returns-clause-written
returns-clause-written g c =
    let old : HubValues = record { job = c.self.inside.job; counters = g.P.Pie.counters_for c.self.inside.job; start = c.self.inside.start; journal = c.self.inside.journal } in
    let t : Tables = record { routes = c.self.inside.routes.items; desks = c.self.inside.desks.items; probe = c.self.inside.probe; cut = c.self.inside.cut; counts = c.self.inside.counts; turn = c.self.inside.turn } in
    let a = subst (λ (h : HubValues). is_admitted (machine h) (state_of h) (Seal c.args.epoch) ≡ true) (sym c.self.view_is) c.requires.admitted in
    let new : HubValues = record { job = c.self.inside.job; counters = g.P.Pie.counters_for c.self.inside.job; start = c.self.inside.start; journal = c.push.new.self } in
    let more : Appended old (Seal c.args.epoch) new = (refl, refl, c.push.ensures.events ∙ ap (λ (q : List Event). q ++ Seal c.args.epoch ∷ []) c.reserve.ensures.events, refl) in
    sealed_written old t c.args.epoch c.self.invariant.1 c.self.invariant.2 a new more ∙ ap (λ (s : SnapshotParts). Some s) (sym c.seal.ensures.sealed)

pub returns-clause-hub : goal.returns-clause-hub
returns-clause-hub g c =
    let old : HubValues = record { job = c.self.inside.job; counters = g.P.Pie.counters_for c.self.inside.job; start = c.self.inside.start; journal = c.self.inside.journal } in
    let t : Tables = record { routes = c.self.inside.routes.items; desks = c.self.inside.desks.items; probe = c.self.inside.probe; cut = c.self.inside.cut; counts = c.self.inside.counts; turn = c.self.inside.turn } in
    let a = subst (λ (h : HubValues). is_admitted (machine h) (state_of h) (Seal c.args.epoch) ≡ true) (sym c.self.view_is) c.requires.admitted in
    let new : HubValues = record { job = c.self.inside.job; counters = g.P.Pie.counters_for c.self.inside.job; start = c.self.inside.start; journal = c.push.new.self } in
    let more : Appended old (Seal c.args.epoch) new = (refl, refl, c.push.ensures.events ∙ ap (λ (q : List Event). q ++ Seal c.args.epoch ∷ []) c.reserve.ensures.events, refl) in
    let none = subst (λ (h : HubValues). sealed_epoch (state_of h).past ≡ None) (sym c.self.view_is) c.requires.kept in
    let owed = c.room_owed-room.ensures.room ∙ ap (λ (h : HubValues). events_owed (state_of h) + 2) (sym c.self.view_is) in
    let room = at_ok c.reserve.result (sym c.is_err.ensures.value ∙ c.if-is_err.false) c.reserve.ensures.room in
    let spare = c.push.ensures.spare in
    sealed_hub old t c.args.epoch c.self.invariant.1 c.self.invariant.2 a new more none (omega (arith, room, spare, owed))
