use Rattle.std.proofs.Common.{◌≡◌, ◌<◌, ◌≤◌, false, IsTrue, List, length, reverse, refl, sym, subst}
use Rattle.legal_journal.specs.Past.{has_ended}
use Rattle.legal_journal.specs.Legal.{has_work_out}
use Rattle.hub_engine.specs.declared.desk.Desk.{Desk}
use Rattle.hub_engine.specs.declared.sight.Sight.{Sight}
use Rattle.hub_engine.specs.HubValues.{HubValues}
use Rattle.hub_engine.specs.States.{machine, state_of}
use Rattle.hub_engine.specs.Choices.{IsChoice}
use Rattle.hub_engine.specs.Desks.{Tables}
use Rattle.hub_engine.proofs.Choosing.{few_desks, turn_in, parts_are, choice_found}
use Rattle.hub_engine.proofs.engine.Engine.choice.Goals as goal

pub first_of_kinds-requires-clause-few : goal.first_of_kinds-requires-clause-few
first_of_kinds-requires-clause-few g c =
    let h : HubValues = record { job = c.self.inside.job; counters = g.P.Pie.counters_for c.self.inside.job; start = c.self.inside.start; journal = c.self.inside.journal } in
    let t : Tables = record { routes = c.self.inside.routes.items; desks = c.self.inside.desks.items; probe = c.self.inside.probe; cut = c.self.inside.cut; counts = c.self.inside.counts; turn = c.self.inside.turn } in
    subst (λ (ds : List Desk). length ds ≤ 64) (sym c.deref.ensures.value) (few_desks h t c.self.invariant.1 c.self.invariant.2)

pub first_of_kinds-requires-clause-parts : goal.first_of_kinds-requires-clause-parts
first_of_kinds-requires-clause-parts g c =
    let h : HubValues = record { job = c.self.inside.job; counters = g.P.Pie.counters_for c.self.inside.job; start = c.self.inside.start; journal = c.self.inside.journal } in
    let t : Tables = record { routes = c.self.inside.routes.items; desks = c.self.inside.desks.items; probe = c.self.inside.probe; cut = c.self.inside.cut; counts = c.self.inside.counts; turn = c.self.inside.turn } in
    subst (λ (ds : List Desk). IsTrue t.cut.recording → length t.cut.parts ≡ length ds) (sym c.deref.ensures.value) (parts_are h t c.self.invariant.1 c.self.invariant.2)

pub first_of_kinds-requires-clause-turn : goal.first_of_kinds-requires-clause-turn
first_of_kinds-requires-clause-turn g c =
    let h : HubValues = record { job = c.self.inside.job; counters = g.P.Pie.counters_for c.self.inside.job; start = c.self.inside.start; journal = c.self.inside.journal } in
    let t : Tables = record { routes = c.self.inside.routes.items; desks = c.self.inside.desks.items; probe = c.self.inside.probe; cut = c.self.inside.cut; counts = c.self.inside.counts; turn = c.self.inside.turn } in
    subst (λ (ds : List Desk). c.self.inside.turn ≤ length ds) (sym c.deref.ensures.value) (turn_in h t c.self.invariant.1 c.self.invariant.2)

pub returns-clause-choice : goal.returns-clause-choice
returns-clause-choice g c =
    let h : HubValues = record { job = c.self.inside.job; counters = g.P.Pie.counters_for c.self.inside.job; start = c.self.inside.start; journal = c.self.inside.journal } in
    let t : Tables = record { routes = c.self.inside.routes.items; desks = c.self.inside.desks.items; probe = c.self.inside.probe; cut = c.self.inside.cut; counts = c.self.inside.counts; turn = c.self.inside.turn } in
    let sight : Sight = record { policy = c.self.inside.job.settings.policy; clock = c.len.result; least = c.self.inside.least; due = c.is_due.result } in
    let below = subst (λ (x : HubValues). c.args.lane < x.job.settings.lanes) (sym c.self.view_is) c.requires.lane in
    let free = subst (λ (x : HubValues). has_work_out (state_of x) c.args.lane ≡ false) (sym c.self.view_is) c.requires.free in
    let going = subst (λ (x : HubValues). has_ended (reverse x.journal.events) ≡ false) (sym c.self.view_is) c.requires.going in
    let found =
    choice_found h t c.self.invariant.1 c.self.invariant.2 c.args.lane below free going sight refl c.len.ensures c.is_due.ensures c.deref.result.now
    c.deref.ensures.value c.self.invariant.5 c.first_of_kinds.result c.first_of_kinds.ensures in
    subst (λ (x : HubValues). IsChoice (machine x) (state_of x) c.args.lane c.first_of_kinds.result) c.self.view_is found
