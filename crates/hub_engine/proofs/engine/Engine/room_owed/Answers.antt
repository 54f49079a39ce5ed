use Rattle.std.proofs.Common.{◌≡◌, ◌+◌, ℕ, if◌then◌else◌, ◌∙◌, ap, subst, arith, Option}
use Rattle.std.specs.Option.{is_some}
use Rattle.hub_engine.specs.HubValues.{HubValues}
use Rattle.hub_engine.specs.States.{machine, state_of, sealed_epoch, events_owed}
use Rattle.hub_engine.specs.Desks.{Tables}
use Rattle.hub_engine.proofs.Hubs.{out_is}
use Rattle.hub_engine.proofs.engine.Engine.room_owed.Goals as goal

pub returns-clause-room : goal.returns-clause-room
returns-clause-room g c =
    let h : HubValues = record { job = c.self.inside.job; counters = g.P.Pie.counters_for c.self.inside.job; start = c.self.inside.start; journal = c.self.inside.journal } in
    let t : Tables = record { routes = c.self.inside.routes.items; desks = c.self.inside.desks.items; probe = c.self.inside.probe; cut = c.self.inside.cut; counts = c.self.inside.counts; turn = c.self.inside.turn } in
    let out = c.self.invariant.6 ∙ out_is (machine h) (state_of h) h.counters t c.self.invariant.2 in
    let kept : c.kepts_owed.result ≡ (if is_some (sealed_epoch (state_of h).past) then 1 else 0) = c.kepts_owed.ensures.owed ∙ ap {B = ℕ} (λ (o : Option ℕ). if is_some o then 1 else 0) c.self.invariant.2.are_counts.sealed in
    let here : c.self.inside.out + c.kepts_owed.result + 1 + c.args.events ≡ events_owed (state_of h) + c.args.events = omega (arith, out, kept) in
    subst (λ (x : HubValues). c.self.inside.out + c.kepts_owed.result + 1 + c.args.events ≡ events_owed (state_of x) + c.args.events) c.self.view_is here
