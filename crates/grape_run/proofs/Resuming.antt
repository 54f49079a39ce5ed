-- A file that may be resumed stays one, and from it every run comes to the answer.
use Rattle.std.proofs.Common.{◌≡◌, inl, inr, ⊎_elim, refl, sym, ◌∙◌, ap, subst, List, ◌∷◌, [], reverse, true}
use Rattle.std.proofs.lemmas.List.{reverse-append}
use Rattle.std.proofs.lemmas.Bool.{false≢true}
use Rattle.std.specs.List.{Contains}
use Rattle.graph_core.specs.declared.job.Job.{Job}
use Rattle.graph_core.specs.Graphs.{IsJob}
use Rattle.grape_event.specs.declared.event.Event.{Event}
use Rattle.grape_event.specs.Events.{is_last}
use Rattle.token_cut.specs.Parts.{SnapshotParts}
use Rattle.base_machine.specs.Machine.{system_of, fresh_snapshot}
use Rattle.base_machine.specs.Fitness.{IsInForm}
use Rattle.legal_journal.specs.Past.{has_ended}
use Rattle.snapshot_store.specs.State.{FileState}
use Rattle.snapshot_store.specs.State.FileState.{nothing, last}
use Rattle.hub_engine.specs.HubValues.{HubValues}
use Rattle.grape_hub.specs.Theorems.{CutsMayBeResumed}
use Rattle.grape_hub.proofs.Answering.{fresh_is_a_start}
use Rattle.coordinator.specs.declared.story.Story.{Story}
use Rattle.coordinator.specs.Shapes.{shape_of}
use Rattle.coordinator.specs.Runs.{EndsBy, IsStoryOf, cuts_of}
use Rattle.coordinator.proofs.Beginnings.{begun_fresh}
use Rattle.grape_run.specs.Resuming.{IsFitStart, FilesStayResumable, ResumedStartsAreFit}

pub files_stay_resumable : FilesStayResumable
files_stay_resumable job digest file c cuts fit was is = ⊎_elim
    (λ same. ⊎_elim (λ nothing. inl (same ∙ nothing)) (λ start. inr (start.0, same ∙ start.1, start.2)) was)
    (λ o. inr (o.0, o.3, fit o.0 o.1))
    is.state

-- ---- the start

pub fresh_is_fit : (job : Job) (start : SnapshotParts) → IsJob job → start ≡ fresh_snapshot (system_of job) → IsFitStart job start
fresh_is_fit job start is_job fresh = subst (IsFitStart job) (sym fresh) (fresh_is_a_start job is_job).1

abbrev snapshot_in : FileState → SnapshotParts → SnapshotParts
snapshot_in (last s) d = s
snapshot_in _ d = d

last_is : (s t : SnapshotParts) → last s ≡ last t → s ≡ t
last_is s t h = ap (λ (f : FileState). snapshot_in f s) h

abbrev is_nothing : FileState → Type 0
is_nothing nothing = Unit {0}
is_nothing _ = ⊥

pub resumed_starts_are_fit : ResumedStartsAreFit
resumed_starts_are_fit job digest file start is_job was from = ⊎_elim
    (λ opens. ⊎_elim
    (λ none. absurd (subst is_nothing (sym none ∙ opens) tt))
    (λ s. subst (IsFitStart job) (last_is s.0 start (sym s.1 ∙ opens)) s.2)
    was)
    (λ fresh. fresh_is_fit job start is_job (begun_fresh job (shape_of job) start refl fresh.1))
    from

-- ---- the snapshots of a run

pub has_ended_by : (e : Event) (events : List Event) → is_last e ≡ true → EndsBy e events → has_ended (reverse events) ≡ true
has_ended_by e events final ends = ap (λ (es : List Event). has_ended (reverse es)) ends.1 ∙ (ap (λ (es : List Event). has_ended es) (reverse-append ends.0 (e ∷ [])) ∙ final)

-- from a fit start each snapshot of a run that has ended is a fit start
pub cuts_are_fit : CutsMayBeResumed → (job : Job) (story : Story) → IsJob job → IsInForm (system_of job) story.start → IsStoryOf job story.start story →
    has_ended (reverse story.journal.events) ≡ true → IsFitStart job story.start → (s : SnapshotParts) → Contains (cuts_of job story) s → IsFitStart job s
cuts_are_fit law job story is_job form is_story ended fit s among =
    let h : HubValues = record { job = job; counters = 0; start = story.start; journal = story.journal } in
    λ g greatest. (law h s (record { job = is_job; start = form; legal = is_story.legal; room = λ goes. absurd (false≢true (sym goes ∙ ended)) }) among).1 g greatest (fit g greatest)
