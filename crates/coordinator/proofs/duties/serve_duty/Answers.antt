use Rattle.std.proofs.Common.{◌∙◌, refl, sym, ap, subst}
use Rattle.graph_core.specs.declared.job.Job.{Job}
use Rattle.hub_engine.specs.declared.work.Duty.{Duty}
use Rattle.hub_engine.specs.declared.work.Duty.TheVariants as duty
use Rattle.hub_engine.specs.Calls.{ChoosesDuty, WritesSealed}
use Rattle.lane_loop.proofs.Steps.{stops_after}
use Rattle.coordinator.specs.Keeping.{HasSizesFor}
use Rattle.coordinator.proofs.Visits.{told, or_stops, duty_leaves}
use Rattle.coordinator.proofs.duties.serve_duty.Goals as goal

pub duty-requires-clause-kept : goal.duty-requires-clause-kept
duty-requires-clause-kept g c =
    let note = c.requires.note in
    (told c.notes_tell.ensures.begin c.notes_tell.ensures.cuts c.args.hub.now c.stands.ensures.hub c.args.job.now note.0 _ _ _ c.notes_tell.ensures.grounds note.2).2.waits

pub duty-requires-clause-sizes : goal.duty-requires-clause-sizes
duty-requires-clause-sizes g c =
    let note = c.requires.note in
    let t = told c.notes_tell.ensures.begin c.notes_tell.ensures.cuts c.args.hub.now c.stands.ensures.hub c.args.job.now note.0 _ _ _ c.notes_tell.ensures.grounds note.2 in
    subst (λ (j : Job). HasSizesFor j c.args.into.now) (sym t.0) c.requires.sizes

pub returns-in-NoMemory-clause-others : goal.returns-in-NoMemory-clause-others
returns-in-NoMemory-clause-others g c k differ =
    let note = c.requires.note in
    let t = told c.notes_tell.ensures.begin c.notes_tell.ensures.cuts c.args.hub.now c.stands.ensures.hub c.args.job.now note.0 _ _ _ c.notes_tell.ensures.grounds note.2 in
    c.stop.ensures.memory refl k ∙ c.duty.ensures.others k (λ e. differ (e ∙ ap (λ (j : Job). j.settings.lanes) t.0))

pub returns-in-NoMemory-clause-duty : goal.returns-in-NoMemory-clause-duty
returns-in-NoMemory-clause-duty g c =
    let old = c.args.hub.now in
    let same = subst (λ (r : Duty). ChoosesDuty old.hub r c.duty.new.self.hub) c.in-NoMemory.is c.duty.ensures.chosen in
    let written = subst (λ (r : Duty). WritesSealed r c.duty.new.self.hub c.args.into.now c.duty.new.into) c.in-NoMemory.is c.duty.ensures.written in
    duty_leaves c.notes_tell.ensures.grounds c.notes_tell.ensures.begin c.notes_tell.ensures.cuts c.seals_may_be_kept.ensures c.nothing_is_sealed.ensures old c.stop.new.self c.stands.ensures.hub c.stop.ensures.hub c.args.job.now
    c.args.into.now c.duty.new.into duty.NoMemory (stops_after old.hub c.duty.new.self.hub c.stop.new.self.hub same c.stop.ensures.stopped) written

pub returns-in_default : goal.returns-in_default
returns-in_default g c =
    let note = c.requires.note in
    let old = c.args.hub.now in
    let t = told c.notes_tell.ensures.begin c.notes_tell.ensures.cuts old c.stands.ensures.hub c.args.job.now note.0 _ _ _ c.notes_tell.ensures.grounds note.2 in
    let served = or_stops old.hub c.duty.new.self.hub c.duty.result c.in_default.not-NoMemory c.duty.ensures.chosen in
    record {
      others = λ k differ. c.duty.ensures.others k (λ e. differ (e ∙ ap (λ (j : Job). j.settings.lanes) t.0));
      served = served;
      duty = duty_leaves c.notes_tell.ensures.grounds c.notes_tell.ensures.begin c.notes_tell.ensures.cuts c.seals_may_be_kept.ensures c.nothing_is_sealed.ensures old c.duty.new.self c.stands.ensures.hub c.duty.ensures.hub c.args.job.now
          c.args.into.now c.duty.new.into c.duty.result served c.duty.ensures.written;
    }
