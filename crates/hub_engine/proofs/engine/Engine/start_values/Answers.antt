use Rattle.std.proofs.Common.{◌<◌, sym, ◌∙◌, ap, subst, arith}
use Rattle.token_cut.specs.Parts.{part_at}
use Rattle.hub_engine.specs.HubValues.{HubValues}
use Rattle.hub_engine.proofs.Hubs.{part_count}
use Rattle.hub_engine.proofs.engine.Engine.start_values.Goals as goal

pub values_at-requires : goal.values_at-requires
values_at-requires g c =
    let h : HubValues = record { job = c.self.inside.job; counters = g.P.Pie.counters_for c.self.inside.job; start = c.self.inside.start; journal = c.self.inside.journal } in
    let parts = part_count h c.self.invariant.1 in
    let within = subst (λ (v : HubValues). c.args.worker < v.job.settings.fragments) (sym c.self.view_is) c.requires in
    omega (arith, parts, within)

pub returns : goal.returns
returns g c = c.values_at.ensures ∙ ap (λ (v : HubValues). (part_at c.args.worker v.start.parts).values) c.self.view_is
