use Rattle.std.proofs.Common.{sym, ◌∙◌, subst}
use Rattle.hub_engine.specs.HubValues.{HubValues}
use Rattle.hub_engine.specs.Desks.{Tables}
use Rattle.hub_engine.specs.Calls.{AreGivenUp, HaveValues, HaveStartValues, HaveSizes}
use Rattle.hub_engine.proofs.Finished.{all_here, have_values, have_start_values, have_sizes}
use Rattle.hub_engine.proofs.Hubs.{workers_are, piece_count}
use Rattle.hub_engine.proofs.engine.Engine.finish.Goals as goal

pub into_locals-requires-clause-here : goal.into_locals-requires-clause-here
into_locals-requires-clause-here g c =
    let k = c.self.inside in
    let h : HubValues = record { job = k.job; counters = g.P.Pie.counters_for k.job; start = k.start; journal = k.journal } in
    let t : Tables = record { routes = k.routes.items; desks = k.desks.items; probe = k.probe; cut = k.cut; counts = k.counts; turn = k.turn } in
    let are = subst (λ (x : HubValues). AreGivenUp x c.args.given_up.items) (sym c.self.view_is) c.requires.given in
    all_here h t c.self.invariant.2 c.args.given_up.items are

pub returns-clause-values : goal.returns-clause-values
returns-clause-values g c =
    let k = c.self.inside in
    let h : HubValues = record { job = k.job; counters = g.P.Pie.counters_for k.job; start = k.start; journal = k.journal } in
    let t : Tables = record { routes = k.routes.items; desks = k.desks.items; probe = k.probe; cut = k.cut; counts = k.counts; turn = k.turn } in
    let are = subst (λ (x : HubValues). AreGivenUp x c.args.given_up.items) (sym c.self.view_is) c.requires.given in
    subst (λ (x : HubValues). HaveValues x c.into_locals.result.items) c.self.view_is
    (have_values h t c.self.invariant.2 c.args.given_up.items are c.into_locals.result.items c.into_locals.ensures)

pub returns-clause-given_up : goal.returns-clause-given_up
returns-clause-given_up g c =
    let k = c.self.inside in
    let h : HubValues = record { job = k.job; counters = g.P.Pie.counters_for k.job; start = k.start; journal = k.journal } in
    let t : Tables = record { routes = k.routes.items; desks = k.desks.items; probe = k.probe; cut = k.cut; counts = k.counts; turn = k.turn } in
    let are = subst (λ (x : HubValues). AreGivenUp x c.args.given_up.items) (sym c.self.view_is) c.requires.given in
    subst (λ (x : HubValues). HaveStartValues x c.into_locals.result.items) c.self.view_is
    (have_start_values h t c.self.invariant.2 c.args.given_up.items are c.into_locals.result.items c.into_locals.ensures)

pub returns-clause-sizes : goal.returns-clause-sizes
returns-clause-sizes g c =
    let k = c.self.inside in
    let h : HubValues = record { job = k.job; counters = g.P.Pie.counters_for k.job; start = k.start; journal = k.journal } in
    let t : Tables = record { routes = k.routes.items; desks = k.desks.items; probe = k.probe; cut = k.cut; counts = k.counts; turn = k.turn } in
    let are = subst (λ (x : HubValues). AreGivenUp x c.args.given_up.items) (sym c.self.view_is) c.requires.given in
    subst (λ (x : HubValues). HaveSizes x c.into_locals.result.items) c.self.view_is
    (have_sizes h t c.self.invariant.2 c.args.given_up.items are (piece_count h ∙ sym (workers_are h c.self.invariant.1)) c.into_locals.result.items c.into_locals.ensures)
