use Rattle.std.proofs.Common.{refl, sym, subst}
use Rattle.grape_event.specs.declared.event.Event.TheVariants.{Kept}
use Rattle.hub_engine.specs.HubValues.{HubValues}
use Rattle.hub_engine.specs.Calls.{AppendedUnlessEnded, MayKeep}
use Rattle.grape_hub.specs.LanedHub.{LanedHub}
use Rattle.grape_hub.specs.Notes.{OthersStay}
use Rattle.grape_hub.proofs.LanesKept.{duty_unless_keeps}
use Rattle.grape_hub.proofs.hub.Hub.kept.Goals as goal

pub kept-requires : goal.kept-requires
kept-requires g c = subst (λ (h : HubValues). MayKeep h c.args.epoch) (sym c.deref_mut.ensures.value) (subst (λ (v : LanedHub). MayKeep v.hub c.args.epoch) (sym c.self.view_is) c.requires)

pub invariant_of-self : goal.invariant_of-self
invariant_of-self g c =
    let x : LanedHub = record { hub = c.self.inside.engine.value; lanes = c.self.inside.lanes.items } in
    let y : LanedHub = record { hub = c.kept.new.self; lanes = c.self.inside.lanes.items } in
    let keeps = duty_unless_keeps x y (Kept c.args.epoch) c.self.invariant.0 c.kept.ensures.hub (subst (λ (h : HubValues). AppendedUnlessEnded h (Kept c.args.epoch) c.kept.new.self) c.deref_mut.ensures.value c.kept.ensures.kept) tt refl in
    (keeps.stands, keeps.given c.self.inside.given_up.items c.self.invariant.1)

pub returns-clause-others : goal.returns-clause-others
returns-clause-others g c =
    let x : LanedHub = record { hub = c.self.inside.engine.value; lanes = c.self.inside.lanes.items } in
    let y : LanedHub = record { hub = c.kept.new.self; lanes = c.self.inside.lanes.items } in
    let keeps = duty_unless_keeps x y (Kept c.args.epoch) c.self.invariant.0 c.kept.ensures.hub (subst (λ (h : HubValues). AppendedUnlessEnded h (Kept c.args.epoch) c.kept.new.self) c.deref_mut.ensures.value c.kept.ensures.kept) tt refl in
    subst (λ (v : LanedHub). OthersStay v v.hub.job.settings.lanes y) c.self.view_is keeps.others

pub returns-clause-hub : goal.returns-clause-hub
returns-clause-hub g c =
    let x : LanedHub = record { hub = c.self.inside.engine.value; lanes = c.self.inside.lanes.items } in
    let y : LanedHub = record { hub = c.kept.new.self; lanes = c.self.inside.lanes.items } in
    let keeps = duty_unless_keeps x y (Kept c.args.epoch) c.self.invariant.0 c.kept.ensures.hub (subst (λ (h : HubValues). AppendedUnlessEnded h (Kept c.args.epoch) c.kept.new.self) c.deref_mut.ensures.value c.kept.ensures.kept) tt refl in
    keeps.stands
