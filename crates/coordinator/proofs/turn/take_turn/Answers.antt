use Rattle.std.proofs.Common.{ℕ, sym, ap, subst}
use Rattle.hub_engine.specs.HubValues.{HubValues}
use Rattle.coordinator.specs.Turns.{GoesOn}
use Rattle.coordinator.specs.Keeping.{IsGoing, TurnLeaves, TurnKeeps}
use Rattle.coordinator.specs.declared.keeper.Keeper.{Keeper}
use Rattle.coordinator.proofs.Turns.{goes_on_after, served_leaves, served_keeps}
use Rattle.coordinator.proofs.turn.take_turn.Goals as goal

pub returns-in-None-clause-goes_on : goal.returns-in-None-clause-goes_on
returns-in-None-clause-goes_on g c =
    let none = c.in-None.ensures.none in
    subst (λ (h : HubValues). GoesOn c.serve.result h c.serve.new.hub.hub) none.0 (goes_on_after c.serve.result c.do_duty.new.hub.hub c.serve.new.hub.hub none.3 c.serve.ensures.goes_on)

pub returns-in-None-clause-leaves : goal.returns-in-None-clause-leaves
returns-in-None-clause-leaves g c =
    let none = c.in-None.ensures.none in
    let D = g.D.Disk in
    let mid = c.do_duty.new.hub.hub in
    let keeper = c.do_duty.new.keeper in
    let faults = D.faults c.args.disk.now in
    let going = subst (λ (h : HubValues). IsGoing h keeper) (sym none.0) (subst (λ (k : Keeper). IsGoing c.args.hub.now.hub k) (sym none.1) c.requires.going) in
    subst (λ (n : ℕ). TurnLeaves c.serve.result c.serve.new.hub.hub keeper faults n) (ap (λ (d : g.row.D.Denot). D.faults d) (sym none.2))
    (served_leaves c.kepts_follow_seals.ensures.kept c.serve.result mid c.serve.new.hub.hub keeper faults c.serve.ensures.hub.0 going c.serve.ensures.goes_on)

pub returns-in-None-clause-crash : goal.returns-in-None-clause-crash
returns-in-None-clause-crash g c honest =
    let none = c.in-None.ensures.none in
    let D = g.D.Disk in
    let mid = c.do_duty.new.hub.hub in
    let new = c.serve.new.hub.hub in
    let b = c.serve.result in
    let keeper = c.args.keeper.now in
    let disk = c.args.disk.now in
    let old = c.args.hub.now.hub in
    let going = subst (λ (h : HubValues). IsGoing h keeper) (sym none.0) c.requires.going in
    subst (λ (k : Keeper). TurnKeeps D.content D.images D.moment b old keeper disk new k c.do_duty.new.disk) (sym none.1)
    (subst (λ (d : g.row.D.Denot). TurnKeeps D.content D.images D.moment b old keeper disk new keeper d) (sym none.2)
    (subst (λ (h : HubValues). TurnKeeps D.content D.images D.moment b h keeper disk new keeper disk) none.0 (served_keeps D.content D.images D.moment b mid new keeper disk going.disk c.serve.ensures.goes_on)))
