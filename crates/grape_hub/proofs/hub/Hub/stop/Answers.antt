use Rattle.std.proofs.Common.{◌≡◌, refl, subst}
use Rattle.grape_event.specs.declared.event.Event.TheVariants.{Stop}
use Rattle.hub_engine.specs.HubValues.{HubValues}
use Rattle.hub_engine.specs.Calls.{AppendedUnlessEnded}
use Rattle.grape_hub.specs.LanedHub.{LanedHub}
use Rattle.grape_hub.specs.Notes.{note_of, OthersStay}
use Rattle.grape_hub.proofs.LanesKept.{duty_unless_keeps, stop_is_told}
use Rattle.grape_hub.proofs.hub.Hub.stop.Goals as goal

pub returns-clause-memory : goal.returns-clause-memory
returns-clause-memory g c is k =
    let x : LanedHub = record { hub = c.self.inside.engine.value; lanes = c.self.inside.lanes.items } in
    let y : LanedHub = record { hub = c.stop.new.self; lanes = c.self.inside.lanes.items } in
    subst (λ (v : LanedHub). note_of y k ≡ note_of v k) c.self.view_is (stop_is_told x y c.args.cause c.self.invariant.0.0 (subst (λ (h : HubValues). AppendedUnlessEnded h (Stop c.args.cause) c.stop.new.self) c.deref_mut.ensures.value c.stop.ensures.stopped) refl is k)

pub invariant_of-self : goal.invariant_of-self
invariant_of-self g c =
    let x : LanedHub = record { hub = c.self.inside.engine.value; lanes = c.self.inside.lanes.items } in
    let y : LanedHub = record { hub = c.stop.new.self; lanes = c.self.inside.lanes.items } in
    let keeps = duty_unless_keeps x y (Stop c.args.cause) c.self.invariant.0 c.stop.ensures.hub (subst (λ (h : HubValues). AppendedUnlessEnded h (Stop c.args.cause) c.stop.new.self) c.deref_mut.ensures.value c.stop.ensures.stopped) tt refl in
    (keeps.stands, keeps.given c.self.inside.given_up.items c.self.invariant.1)

pub returns-clause-others : goal.returns-clause-others
returns-clause-others g c =
    let x : LanedHub = record { hub = c.self.inside.engine.value; lanes = c.self.inside.lanes.items } in
    let y : LanedHub = record { hub = c.stop.new.self; lanes = c.self.inside.lanes.items } in
    let keeps = duty_unless_keeps x y (Stop c.args.cause) c.self.invariant.0 c.stop.ensures.hub (subst (λ (h : HubValues). AppendedUnlessEnded h (Stop c.args.cause) c.stop.new.self) c.deref_mut.ensures.value c.stop.ensures.stopped) tt refl in
    subst (λ (v : LanedHub). OthersStay v v.hub.job.settings.lanes y) c.self.view_is keeps.others

pub returns-clause-hub : goal.returns-clause-hub
returns-clause-hub g c =
    let x : LanedHub = record { hub = c.self.inside.engine.value; lanes = c.self.inside.lanes.items } in
    let y : LanedHub = record { hub = c.stop.new.self; lanes = c.self.inside.lanes.items } in
    let keeps = duty_unless_keeps x y (Stop c.args.cause) c.self.invariant.0 c.stop.ensures.hub (subst (λ (h : HubValues). AppendedUnlessEnded h (Stop c.args.cause) c.stop.new.self) c.deref_mut.ensures.value c.stop.ensures.stopped) tt refl in
    keeps.stands
