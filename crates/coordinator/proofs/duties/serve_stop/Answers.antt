use Rattle.std.proofs.Common.{◌∙◌, ap, reverse}
use Rattle.graph_core.specs.declared.job.Job.{Job}
use Rattle.legal_journal.specs.Past.{has_ended}
use Rattle.coordinator.proofs.Visits.{told, stop_leaves}
use Rattle.coordinator.proofs.duties.serve_stop.Goals as goal

pub returns-clause-others : goal.returns-clause-others
returns-clause-others g c k differ =
    let note = c.requires.waits in
    let t = told c.notes_tell.ensures.begin c.notes_tell.ensures.cuts c.args.hub.now c.stands.ensures.hub c.args.job.now note.0 _ _ _ c.notes_tell.ensures.grounds note.2 in
    c.stop.ensures.others k (λ e. differ (e ∙ ap (λ (j : Job). j.settings.lanes) t.0))

pub returns-clause-stopped : goal.returns-clause-stopped
returns-clause-stopped g c =
    stop_leaves c.notes_tell.ensures.grounds c.notes_tell.ensures.begin c.notes_tell.ensures.cuts c.args.hub.now c.stop.new.self c.stands.ensures.hub c.stop.ensures.hub c.args.job.now c.args.epoch c.args.cause
    (has_ended (reverse c.args.hub.now.hub.journal.events)) c.stop.ensures.stopped
