use Rattle.std.proofs.Common.{◌≡◌, List, [], refl, ◌∙◌, ap, subst}
use Rattle.graph_core.specs.declared.job.Job.{Job}
use Rattle.base_machine.specs.Machine.{system_of}
use Rattle.token_cut.specs.Parts.{SnapshotParts}
use Rattle.legal_journal.specs.Cuts.{sealed_snapshots}
use Rattle.coordinator.specs.Runs.{HasRun, HasUsed}
use Rattle.coordinator.specs.Keeping.{cuts_in, ComesTo}
use Rattle.coordinator.specs.declared.keeper.Keeper.{Keeper}
use Rattle.coordinator.proofs.Telling.{stopped_rose, failed_so, had_begun, kept_nothing, keeps_by}
use Rattle.coordinator.proofs.alone.run_on.Goals as goal

pub run_out-requires-clause-calm : goal.run_out-requires-clause-calm
run_out-requires-clause-calm g c = c.turns_are_calm.ensures.beginning c.in-Ok-open.hub.hub c.in-Ok-open.ensures.hub.0 c.in-Ok-open.ensures.beginning.0.2

pub ended-requires-clause-free : goal.ended-requires-clause-free
ended-requires-clause-free g c lane l = (c.calm_is_empty.ensures c.run_out.new.hub c.run_out.ensures.hub).0 c.run_out.ensures.calm lane

pub returns : goal.returns
returns g c =
    let D = g.D.Disk in
    let job = c.args.job.now in
    let begun = c.in-Ok-open.hub.hub in
    let h = c.run_out.new.hub.hub in
    let b = c.in-Ok-open.ensures.beginning.0 in
    let out = c.run_out.ensures in
    let told = c.ended.ensures in
    let kept = c.run_out.new.keeper.kept.items in
    let keeper : Keeper = record { store = c.args.entry.store; kept = c.new.result; into = c.in-Ok.into } in
    let none : cuts_in begun ≡ [] = λ t. sealed_snapshots (system_of (b.0 t)) (b.3 t) (b.2 t) in
    let before = D.faults c.args.disk.now in
    let after = D.faults c.run_out.new.disk in
    record {
      run = subst (λ (s : SnapshotParts). HasRun job c.args.fragments.now s c.ended.result) (out.same.1 ∙ b.3) told.run;
      used = subst (λ (j : Job). HasUsed D.moment D.honest j c.args.disk.now c.run_out.new.disk) b.0 out.used;
      not_begun = λ is. absurd (had_begun job h kept c.ended.result told.story is);
      unkept = λ n. kept_nothing job h kept c.ended.result told.story (out.unkept (ap (λ (j : Job). j.settings.snapshot) b.0 ∙ n) ∙ c.new.ensures.items);
      crash = λ honest.
          keeps_by D.content D.images D.moment c.claims_add_up.ensures.begins c.claims_add_up.ensures.opened job h keeper c.args.entry.store kept c.ended.result c.args.disk.now c.run_out.new.disk refl c.new.ensures.items
          (subst (λ (j : Job). ComesTo D.content D.images D.moment j [] keeper c.args.disk.now (cuts_in h) kept c.run_out.new.disk) b.0
          (subst (λ (cs : List SnapshotParts). ComesTo D.content D.images D.moment begun.job cs keeper c.args.disk.now (cuts_in h) kept c.run_out.new.disk) none (out.crash honest)))
          told.story;
      disk_fault = stopped_rose job h kept before after c.ended.result out.over told.story;
      no_fault = failed_so job h kept before after c.ended.result out.no_fault told.story;
    }
