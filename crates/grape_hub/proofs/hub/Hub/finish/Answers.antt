use Rattle.std.proofs.Common.{◌≡◌, ◌<◌, ℕ, false, sym, subst}
use Rattle.hub_engine.specs.HubValues.{HubValues}
use Rattle.hub_engine.specs.Calls.{AreGivenUp, HaveValues, HaveStartValues}
use Rattle.grape_hub.specs.LanedHub.{LanedHub, is_out_at}
use Rattle.grape_hub.proofs.LanesKept.{all_given_up}
use Rattle.grape_hub.proofs.hub.Hub.finish.Goals as goal

pub finish-requires-clause-given : goal.finish-requires-clause-given
finish-requires-clause-given g c =
    let x : LanedHub = record { hub = c.self.inside.engine.value; lanes = c.self.inside.lanes.items } in
    subst (λ (h : HubValues). AreGivenUp h c.self.inside.given_up.items) (sym c.into_inner.ensures) (all_given_up x c.self.inside.given_up.items c.self.invariant.0 (subst (λ (v : LanedHub). (k : ℕ) → k < v.hub.job.settings.lanes → is_out_at v k ≡ false) (sym c.self.view_is) c.requires.free) c.self.invariant.1)

pub returns-clause-values : goal.returns-clause-values
returns-clause-values g c = subst (λ (v : LanedHub). HaveValues v.hub c.finish.result.0.items) c.self.view_is (subst (λ (h : HubValues). HaveValues h c.finish.result.0.items) c.into_inner.ensures c.finish.ensures.values)

pub returns-clause-given_up : goal.returns-clause-given_up
returns-clause-given_up g c = subst (λ (v : LanedHub). HaveStartValues v.hub c.finish.result.0.items) c.self.view_is (subst (λ (h : HubValues). HaveStartValues h c.finish.result.0.items) c.into_inner.ensures c.finish.ensures.given_up)
