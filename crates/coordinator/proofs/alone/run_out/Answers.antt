use Rattle.std.proofs.Common.{◌≡◌, ◌+◌, ◌*◌, ℕ, Bool, IsTrue, sym, ◌∙◌, ap, subst, arith}
use Rattle.graph_core.specs.declared.job.Job.{Job}
use Rattle.base_machine.specs.Bounds.{bound_of}
use Rattle.base_machine.specs.Machine.{system_of}
use Rattle.grape_hub.specs.Theorems.{event_bound}
use Rattle.coordinator.specs.Turns.{GoesOn}
use Rattle.coordinator.specs.Keeping.{cuts_in, IsOver, FailsOnlySo, TurnLeaves, TurnKeeps}
use Rattle.coordinator.proofs.Turns.{longer_after, ended_after}
use Rattle.coordinator.proofs.Going.{used_on, keeps_on, comes_on}
use Rattle.coordinator.proofs.alone.run_out.Goals as goal

pub turns-smaller : goal.turns-smaller
turns-smaller g c =
    let went = longer_after c.turns.hub.hub c.take_turn.new.hub.hub (subst (λ (b : Bool). GoesOn b c.turns.hub.hub c.take_turn.new.hub.hub) c.turns-test.true c.take_turn.ensures.goes_on) in
    let same : event_bound c.take_turn.new.hub.hub ≡ event_bound c.turns.hub.hub = ap {B = ℕ} (λ (job : Job). (140 + 2 * job.settings.fragments) * (bound_of (system_of job) + job.settings.fragments)) c.take_turn.ensures.same.0 in
    let bound = c.hubs_are_bounded.ensures c.take_turn.new.hub.hub c.take_turn.ensures.hub.0 in
    omega (arith, went, same, bound)

pub turns-preserved : goal.turns-preserved
turns-preserved g c =
    let D = g.D.Disk in
    let t = c.take_turn.ensures in
    let inv = c.turns.invariant in
    let begun = c.args.hub.now.hub in
    let leaves = subst (λ (b : Bool). TurnLeaves b c.take_turn.new.hub.hub c.take_turn.new.keeper (D.faults c.turns.disk) (D.faults c.take_turn.new.disk)) c.turns-test.true t.leaves in
    record {
      job = t.same.0 ∙ inv.job;
      start = t.same.2 ∙ inv.start;
      counters = t.same.1 ∙ inv.counters;
      hub = t.hub;
      calm = t.calm;
      going = leaves.0;
      faults = leaves.1 ∙ inv.faults;
      digest = t.digest ∙ inv.digest;
      used = used_on D.moment D.honest begun.job c.turns.hub.hub.job c.args.disk.now c.turns.disk c.take_turn.new.disk inv.job inv.used t.used;
      unkept = λ n. t.unkept (ap (λ (j : Job). j.settings.snapshot) inv.job ∙ n) ∙ inv.unkept n;
      keeps = λ honest.
          keeps_on D.content D.images D.moment begun.job c.turns.hub.hub.job (cuts_in begun) (cuts_in c.turns.hub.hub) (cuts_in c.take_turn.new.hub.hub) c.args.keeper.now c.turns.keeper c.take_turn.new.keeper c.args.disk.now c.turns.disk c.take_turn.new.disk inv.job inv.digest (inv.keeps honest)
          (subst (λ (b : Bool). TurnKeeps D.content D.images D.moment b c.turns.hub.hub c.turns.keeper c.turns.disk c.take_turn.new.hub.hub c.take_turn.new.keeper c.take_turn.new.disk) c.turns-test.true
          (t.crash (subst (λ (b : Bool). IsTrue b) (sym inv.used.honest_stays) honest)));
    }

pub returns : goal.returns
returns g c =
    let D = g.D.Disk in
    let t = c.take_turn.ensures in
    let inv = c.turns.invariant in
    let begun = c.args.hub.now.hub in
    let new = c.take_turn.new.hub.hub in
    let leaves = subst (λ (b : Bool). TurnLeaves b new c.take_turn.new.keeper (D.faults c.turns.disk) (D.faults c.take_turn.new.disk)) c.turns-test.false t.leaves in
    record {
      same = (t.same.0 ∙ inv.job, t.same.2 ∙ inv.start);
      hub = t.hub;
      calm = t.calm;
      ended = ended_after c.turns.hub.hub new (subst (λ (b : Bool). GoesOn b c.turns.hub.hub new) c.turns-test.false t.goes_on);
      over = subst (λ (n : ℕ). IsOver new c.take_turn.new.keeper.kept.items n (D.faults c.take_turn.new.disk)) inv.faults leaves.0;
      no_fault = subst (λ (n : ℕ). FailsOnlySo new n (D.faults c.take_turn.new.disk)) inv.faults leaves.1;
      used = used_on D.moment D.honest begun.job c.turns.hub.hub.job c.args.disk.now c.turns.disk c.take_turn.new.disk inv.job inv.used t.used;
      unkept = λ n. t.unkept (ap (λ (j : Job). j.settings.snapshot) inv.job ∙ n) ∙ inv.unkept n;
      crash = λ honest.
          comes_on D.content D.images D.moment begun.job c.turns.hub.hub.job (cuts_in begun) (cuts_in c.turns.hub.hub) (cuts_in new) c.args.keeper.now c.turns.keeper c.take_turn.new.keeper.kept.items c.args.disk.now c.turns.disk c.take_turn.new.disk inv.job inv.digest (inv.keeps honest)
          (subst (λ (b : Bool). TurnKeeps D.content D.images D.moment b c.turns.hub.hub c.turns.keeper c.turns.disk new c.take_turn.new.keeper c.take_turn.new.disk) c.turns-test.false
          (t.crash (subst (λ (b : Bool). IsTrue b) (sym inv.used.honest_stays) honest)));
    }
