use Rattle.std.proofs.Common.{refl, sym, ◌∙◌}
use Rattle.hub_engine.specs.HubValues.{HubValues}
use Rattle.hub_engine.specs.Desks.{Tables}
use Rattle.hub_engine.proofs.Takings.{stopped_hub, stopped_tables}
use Rattle.hub_engine.proofs.engine.Engine.stop.Goals as goal

pub invariant_of-self : goal.invariant_of-self
invariant_of-self g c =
    let old : HubValues = record { job = c.self.inside.job; counters = g.P.Pie.counters_for c.self.inside.job; start = c.self.inside.start; journal = c.self.inside.journal } in
    let new : HubValues = record { job = c.self.inside.job; counters = g.P.Pie.counters_for c.self.inside.job; start = c.self.inside.start; journal = c.push.new.self } in
    let t : Tables = record { routes = c.self.inside.routes.items; desks = c.self.inside.desks.items; probe = c.self.inside.probe; cut = c.self.inside.cut; counts = c.self.inside.counts; turn = c.self.inside.turn } in
    let going = sym c.ended.ensures ∙ c.if-ended.false in (
      c.self.invariant.0,
      stopped_hub old new t c.args.cause c.self.invariant.1 c.self.invariant.2 going (refl, refl, c.push.ensures.events, refl),
      stopped_tables old new t c.args.cause c.self.invariant.1 c.self.invariant.2 going (refl, refl, c.push.ensures.events, refl),
      c.self.invariant.3,
      c.self.invariant.4,
      c.self.invariant.5,
      c.self.invariant.6,
    )

pub returns-clause-hub : goal.returns-clause-hub
returns-clause-hub g c =
    let old : HubValues = record { job = c.self.inside.job; counters = g.P.Pie.counters_for c.self.inside.job; start = c.self.inside.start; journal = c.self.inside.journal } in
    let new : HubValues = record { job = c.self.inside.job; counters = g.P.Pie.counters_for c.self.inside.job; start = c.self.inside.start; journal = c.push.new.self } in
    let t : Tables = record { routes = c.self.inside.routes.items; desks = c.self.inside.desks.items; probe = c.self.inside.probe; cut = c.self.inside.cut; counts = c.self.inside.counts; turn = c.self.inside.turn } in
    stopped_hub old new t c.args.cause c.self.invariant.1 c.self.invariant.2 (sym c.ended.ensures ∙ c.if-ended.false) (refl, refl, c.push.ensures.events, refl)
