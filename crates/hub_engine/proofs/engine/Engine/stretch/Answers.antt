use Rattle.std.proofs.Common.{◌≡◌, ◌+◌, List, [], ◌∷◌, ◌++◌, length, length-set, refl, sym, ◌∙◌, ap, subst, arith}
use Rattle.grape_event.specs.declared.event.Event.{Event}
use Rattle.grape_event.specs.declared.event.Event.TheVariants.{Stretch}
use Rattle.grape_event.specs.JournalList.{JournalList}
use Rattle.legal_journal.specs.Legal.{is_admitted}
use Rattle.hub_engine.specs.declared.work.Next.TheVariants.{Did}
use Rattle.hub_engine.specs.HubValues.{HubValues}
use Rattle.hub_engine.specs.States.{machine, state_of, events_owed, IsHub}
use Rattle.hub_engine.specs.Desks.{Tables, TablesFit}
use Rattle.hub_engine.specs.Calls.{Appended, MayStretch, StretchesWorker}
use Rattle.hub_engine.proofs.Results.{at_ok, at_err}
use Rattle.hub_engine.proofs.Steps.{stretched_desk, desk_set}
use Rattle.hub_engine.proofs.Takings.{found_at, worker_in_range, stretched_hub, stretched_tables, turns_are}
use Rattle.hub_engine.proofs.Totals.{least_set, as_many_out}
use Rattle.hub_engine.proofs.engine.Engine.stretch.Goals as goal

pub invariant_of-self : goal.invariant_of-self
invariant_of-self g c =
    let e : c.reserve.new.self ≡ c.self.inside.journal = at_err c.reserve.result (sym c.is_err.ensures.value ∙ c.if-is_err.true) c.reserve.ensures.no_memory in
    let t : Tables = record { routes = c.self.inside.routes.items; desks = c.self.inside.desks.items; probe = c.self.inside.probe; cut = c.self.inside.cut; counts = c.self.inside.counts; turn = c.self.inside.turn } in
    let h : JournalList → HubValues = λ j. record { job = c.self.inside.job; counters = g.P.Pie.counters_for c.self.inside.job; start = c.self.inside.start; journal = j } in
    let k = c.self.invariant in (
      k.0,
      subst (λ (j : JournalList). IsHub (h j)) (sym e) k.1,
      subst (λ (j : JournalList). TablesFit (machine (h j)) (state_of (h j)) (g.P.Pie.counters_for c.self.inside.job) t) (sym e) k.2,
      k.3,
      k.4,
      k.5,
      k.6,
    )

pub index-desk-requires : goal.index-desk-requires
index-desk-requires g c =
    let old : HubValues = record { job = c.self.inside.job; counters = g.P.Pie.counters_for c.self.inside.job; start = c.self.inside.start; journal = c.self.inside.journal } in
    let may : MayStretch old c.args.worker = subst (λ (h : HubValues). MayStretch h c.args.worker) (sym c.self.view_is) c.requires.admitted in
    let l = worker_in_range (machine old) (state_of old) c.args.worker _ _ (may 0 (omega arith)) in
    let n = c.self.invariant.2.count in
    omega (arith, l, n)

pub index_mut-requires : goal.index_mut-requires
index_mut-requires g c =
    let old : HubValues = record { job = c.self.inside.job; counters = g.P.Pie.counters_for c.self.inside.job; start = c.self.inside.start; journal = c.self.inside.journal } in
    let may : MayStretch old c.args.worker = subst (λ (h : HubValues). MayStretch h c.args.worker) (sym c.self.view_is) c.requires.admitted in
    let l = worker_in_range (machine old) (state_of old) c.args.worker _ _ (may 0 (omega arith)) in
    let n = c.self.invariant.2.count in
    omega (arith, l, n)

pub invariant_of-self-2 : goal.invariant_of-self-2
invariant_of-self-2 g c =
    let old : HubValues = record { job = c.self.inside.job; counters = g.P.Pie.counters_for c.self.inside.job; start = c.self.inside.start; journal = c.self.inside.journal } in
    let new : HubValues = record { job = c.self.inside.job; counters = g.P.Pie.counters_for c.self.inside.job; start = c.self.inside.start; journal = c.push.new.self } in
    let t : Tables = record { routes = c.self.inside.routes.items; desks = c.self.inside.desks.items; probe = c.self.inside.probe; cut = c.self.inside.cut; counts = c.self.inside.counts; turn = c.self.inside.turn } in
    let turns = c.least_turns-least.result + c.extra_of.result in
    let d = c.index_mut.result.now in
    let may : MayStretch old c.args.worker = subst (λ (h : HubValues). MayStretch h c.args.worker) (sym c.self.view_is) c.requires.admitted in
    let l = worker_in_range (machine old) (state_of old) c.args.worker _ _ (may 0 (omega arith)) in
    let n = c.self.invariant.2.count in
    let here = found_at c.self.inside.desks.items c.args.worker d (omega (arith, l, n)) c.index_mut.ensures.value in
    let looked = found_at c.self.inside.desks.items c.args.worker c.index-desk.result.now (omega (arith, l, n)) c.index-desk.ensures in
    let least = c.least_turns-least.ensures.turns ∙ turns_are old t c.args.worker c.index-desk.result.now c.self.invariant.1 c.self.invariant.2 looked l in
    let admitted = ap (λ k. is_admitted (machine old) (state_of old) (Stretch c.args.worker (k + c.extra_of.result))) least ∙ may c.extra_of.result c.extra_of.ensures in
    let more : Appended old (Stretch c.args.worker turns) new = (refl, refl, c.push.ensures.events ∙ ap (λ (q : List Event). q ++ Stretch c.args.worker turns ∷ []) c.reserve.ensures.events, refl) in
    let owed = c.room_owed-room.ensures.room ∙ ap (λ (h : HubValues). events_owed (state_of h) + 1) (sym c.self.view_is) in
    let room = at_ok c.reserve.result (sym c.is_err.ensures.value ∙ c.if-is_err.false) c.reserve.ensures.room in
    let spare = c.push.ensures.spare in
    let tables = stretched_tables old new t c.args.worker turns d c.self.invariant.1 c.self.invariant.2 here more c.len-place.result (c.len-place.ensures ∙ ap (λ (q : List Event). length q) c.reserve.ensures.events) in (
      c.self.invariant.0,
      stretched_hub old new t c.args.worker turns d c.self.invariant.1 c.self.invariant.2 here more admitted (omega (arith, room, spare, owed)),
      tables,
      c.self.invariant.3,
      (let m = length-set c.self.inside.desks.items c.args.worker (stretched_desk turns c.len-place.result d) in let q = c.self.invariant.4 in omega (arith, m, q)),
      least_set t.desks c.args.worker d (stretched_desk turns c.len-place.result d) c.self.inside.least here refl refl c.self.invariant.5,
      c.self.invariant.6 ∙ sym (as_many_out old new (Stretch c.args.worker turns) t (desk_set c.args.worker (stretched_desk turns c.len-place.result d) t) c.self.invariant.2 more tables refl),
    )

pub returns-clause-stretched : goal.returns-clause-stretched
returns-clause-stretched g c =
    let old : HubValues = record { job = c.self.inside.job; counters = g.P.Pie.counters_for c.self.inside.job; start = c.self.inside.start; journal = c.self.inside.journal } in
    let new : HubValues = record { job = c.self.inside.job; counters = g.P.Pie.counters_for c.self.inside.job; start = c.self.inside.start; journal = c.push.new.self } in
    let t : Tables = record { routes = c.self.inside.routes.items; desks = c.self.inside.desks.items; probe = c.self.inside.probe; cut = c.self.inside.cut; counts = c.self.inside.counts; turn = c.self.inside.turn } in
    let turns = c.least_turns-least.result + c.extra_of.result in
    let d = c.index_mut.result.now in
    let may : MayStretch old c.args.worker = subst (λ (h : HubValues). MayStretch h c.args.worker) (sym c.self.view_is) c.requires.admitted in
    let l = worker_in_range (machine old) (state_of old) c.args.worker _ _ (may 0 (omega arith)) in
    let n = c.self.invariant.2.count in
    let here = found_at c.self.inside.desks.items c.args.worker d (omega (arith, l, n)) c.index_mut.ensures.value in
    let looked = found_at c.self.inside.desks.items c.args.worker c.index-desk.result.now (omega (arith, l, n)) c.index-desk.ensures in
    let least = c.least_turns-least.ensures.turns ∙ turns_are old t c.args.worker c.index-desk.result.now c.self.invariant.1 c.self.invariant.2 looked l in
    let admitted = ap (λ k. is_admitted (machine old) (state_of old) (Stretch c.args.worker (k + c.extra_of.result))) least ∙ may c.extra_of.result c.extra_of.ensures in
    let more : Appended old (Stretch c.args.worker turns) new = (refl, refl, c.push.ensures.events ∙ ap (λ (q : List Event). q ++ Stretch c.args.worker turns ∷ []) c.reserve.ensures.events, refl) in
    subst (λ (h : HubValues). StretchesWorker h c.args.worker (Did (Stretch c.args.worker turns)) new) c.self.view_is
    (c.extra_of.result, c.extra_of.ensures, ap (λ k. Stretch c.args.worker (k + c.extra_of.result)) least, more)

pub returns-clause-hub : goal.returns-clause-hub
returns-clause-hub g c =
    let old : HubValues = record { job = c.self.inside.job; counters = g.P.Pie.counters_for c.self.inside.job; start = c.self.inside.start; journal = c.self.inside.journal } in
    let new : HubValues = record { job = c.self.inside.job; counters = g.P.Pie.counters_for c.self.inside.job; start = c.self.inside.start; journal = c.push.new.self } in
    let t : Tables = record { routes = c.self.inside.routes.items; desks = c.self.inside.desks.items; probe = c.self.inside.probe; cut = c.self.inside.cut; counts = c.self.inside.counts; turn = c.self.inside.turn } in
    let turns = c.least_turns-least.result + c.extra_of.result in
    let d = c.index_mut.result.now in
    let may : MayStretch old c.args.worker = subst (λ (h : HubValues). MayStretch h c.args.worker) (sym c.self.view_is) c.requires.admitted in
    let l = worker_in_range (machine old) (state_of old) c.args.worker _ _ (may 0 (omega arith)) in
    let n = c.self.invariant.2.count in
    let here = found_at c.self.inside.desks.items c.args.worker d (omega (arith, l, n)) c.index_mut.ensures.value in
    let looked = found_at c.self.inside.desks.items c.args.worker c.index-desk.result.now (omega (arith, l, n)) c.index-desk.ensures in
    let least = c.least_turns-least.ensures.turns ∙ turns_are old t c.args.worker c.index-desk.result.now c.self.invariant.1 c.self.invariant.2 looked l in
    let admitted = ap (λ k. is_admitted (machine old) (state_of old) (Stretch c.args.worker (k + c.extra_of.result))) least ∙ may c.extra_of.result c.extra_of.ensures in
    let more : Appended old (Stretch c.args.worker turns) new = (refl, refl, c.push.ensures.events ∙ ap (λ (q : List Event). q ++ Stretch c.args.worker turns ∷ []) c.reserve.ensures.events, refl) in
    let owed = c.room_owed-room.ensures.room ∙ ap (λ (h : HubValues). events_owed (state_of h) + 1) (sym c.self.view_is) in
    let room = at_ok c.reserve.result (sym c.is_err.ensures.value ∙ c.if-is_err.false) c.reserve.ensures.room in
    let spare = c.push.ensures.spare in
    stretched_hub old new t c.args.worker turns d c.self.invariant.1 c.self.invariant.2 here more admitted (omega (arith, room, spare, owed))
