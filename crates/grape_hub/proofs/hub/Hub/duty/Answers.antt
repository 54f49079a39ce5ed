use Rattle.std.proofs.Common.{◌≡◌, refl, sym, subst, None}
use Rattle.hub_engine.specs.HubValues.{HubValues}
use Rattle.hub_engine.specs.Calls.{ChoosesDuty}
use Rattle.hub_engine.specs.States.{state_of, sealed_epoch}
use Rattle.grape_hub.specs.LanedHub.{LanedHub}
use Rattle.grape_hub.specs.Notes.{OthersStay}
use Rattle.grape_hub.proofs.LanesKept.{duty_call_keeps}
use Rattle.grape_hub.proofs.hub.Hub.duty.Goals as goal

pub duty-requires-clause-kept : goal.duty-requires-clause-kept
duty-requires-clause-kept g c = subst (λ (h : HubValues). sealed_epoch (state_of h).past ≡ None) (sym c.deref_mut.ensures.value) (subst (λ (v : LanedHub). sealed_epoch (state_of v.hub).past ≡ None) (sym c.self.view_is) c.requires.kept)

pub invariant_of-self : goal.invariant_of-self
invariant_of-self g c =
    let x : LanedHub = record { hub = c.self.inside.engine.value; lanes = c.self.inside.lanes.items } in
    let y : LanedHub = record { hub = c.duty.new.self; lanes = c.self.inside.lanes.items } in
    let keeps = duty_call_keeps x y c.duty.result c.self.invariant.0 c.duty.ensures.hub (subst (λ (h : HubValues). ChoosesDuty h c.duty.result c.duty.new.self) c.deref_mut.ensures.value c.duty.ensures.chosen) refl in
    (keeps.stands, keeps.given c.self.inside.given_up.items c.self.invariant.1)

pub returns-clause-others : goal.returns-clause-others
returns-clause-others g c =
    let x : LanedHub = record { hub = c.self.inside.engine.value; lanes = c.self.inside.lanes.items } in
    let y : LanedHub = record { hub = c.duty.new.self; lanes = c.self.inside.lanes.items } in
    let keeps = duty_call_keeps x y c.duty.result c.self.invariant.0 c.duty.ensures.hub (subst (λ (h : HubValues). ChoosesDuty h c.duty.result c.duty.new.self) c.deref_mut.ensures.value c.duty.ensures.chosen) refl in
    subst (λ (v : LanedHub). OthersStay v v.hub.job.settings.lanes y) c.self.view_is keeps.others

pub returns-clause-hub : goal.returns-clause-hub
returns-clause-hub g c =
    let x : LanedHub = record { hub = c.self.inside.engine.value; lanes = c.self.inside.lanes.items } in
    let y : LanedHub = record { hub = c.duty.new.self; lanes = c.self.inside.lanes.items } in
    let keeps = duty_call_keeps x y c.duty.result c.self.invariant.0 c.duty.ensures.hub (subst (λ (h : HubValues). ChoosesDuty h c.duty.result c.duty.new.self) c.deref_mut.ensures.value c.duty.ensures.chosen) refl in
    keeps.stands
