use Rattle.std.proofs.Common.{◌≡◌, Bool, MatchBool, sym, ◌∙◌, ap, subst, reverse}
use Rattle.graph_core.specs.declared.job.Job.{Job}
use Rattle.grape_event.specs.declared.event.Event.TheVariants.{Kept}
use Rattle.grape_event.specs.JournalList.{JournalList}
use Rattle.legal_journal.specs.Past.{has_ended}
use Rattle.hub_engine.specs.Calls.{Appended}
use Rattle.coordinator.proofs.Visits.{told, kept_leaves}
use Rattle.coordinator.proofs.duties.serve_kept.Goals as goal

pub kept-requires : goal.kept-requires
kept-requires g c =
    let note = c.requires.waits in
    (told c.notes_tell.ensures.begin c.notes_tell.ensures.cuts c.args.hub.now c.stands.ensures.hub c.args.job.now note.0 _ _ _ c.notes_tell.ensures.grounds note.2).2.waits

pub returns-clause-others : goal.returns-clause-others
returns-clause-others g c k differ =
    let note = c.requires.waits in
    let t = told c.notes_tell.ensures.begin c.notes_tell.ensures.cuts c.args.hub.now c.stands.ensures.hub c.args.job.now note.0 _ _ _ c.notes_tell.ensures.grounds note.2 in
    c.kept.ensures.others k (λ e. differ (e ∙ ap (λ (j : Job). j.settings.lanes) t.0))

pub returns-clause-kept : goal.returns-clause-kept
returns-clause-kept g c =
    let old = c.args.hub.now in
    let new = c.kept.new.self in
    let had : has_ended (reverse old.hub.journal.events) ≡ c.ended-ended.result = ap (λ (j : JournalList). has_ended (reverse j.events)) (sym c.journal.ensures.journal) ∙ sym c.ended-ended.ensures in
    kept_leaves c.notes_tell.ensures.grounds c.notes_tell.ensures.begin c.notes_tell.ensures.cuts old new c.stands.ensures.hub c.kept.ensures.hub c.args.job.now c.args.epoch c.ended-ended.result
    (subst (λ (b : Bool). MatchBool b (new.hub ≡ old.hub) (Appended old.hub (Kept c.args.epoch) new.hub)) had c.kept.ensures.kept)
