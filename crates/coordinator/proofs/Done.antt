-- The values of a run that is done are the greatest solution.
use Rattle.std.proofs.Common.{ℕ, ◌∙◌, ap, subst, List, length, slice_index}
use Rattle.graph_core.specs.declared.job.Job.{Job}
use Rattle.graph_core.specs.Graphs.{IsJob}
use Rattle.graph_core.proofs.Lawful.{lawful}
use Rattle.graph_core.proofs.Cutting.{fragments_cut}
use Rattle.grape_event.specs.declared.event.Event.{Event}
use Rattle.grape_event.specs.declared.event.Event.TheVariants.{End}
use Rattle.base_machine.specs.Machine.{system_of}
use Rattle.base_machine.specs.Fitness.{is_quiet}
use Rattle.base_machine.specs.Theorems.{IsSound}
use Rattle.base_machine.proofs.Kept.{fit_is_kept}
use Rattle.base_machine.proofs.Quiet.{confluence_from}
use Rattle.legal_journal.specs.BaseEvents.{base_of}
use Rattle.legal_journal.specs.Legal.{State, state_at_end, IsLegal}
use Rattle.legal_journal.specs.Theorems.{EndIsQuiet, JournalRuns, JournalsGrow}
use Rattle.coordinator.specs.Runs.{DoneIsTheAnswer, DoneIsQuiet}
use Rattle.coordinator.proofs.Settled.{same_values}

-- nobody runs and nothing waits at the end
pub done_is_quiet : EndIsQuiet → JournalsGrow → DoneIsQuiet
done_is_quiet end_is_quiet journals_grow job story is_story ends =
    let sys = system_of job in
    let before = end_is_quiet sys story.start ends.0 (subst (IsLegal sys story.start) ends.1 is_story.legal) in
    ap (λ (es : List Event). is_quiet (state_at_end sys story.start es).workers) ends.1 ∙ (ap (λ (s : State). is_quiet s.workers) (journals_grow sys story.start ends.0 End).1 ∙ before.0)

sound : (job : Job) → IsJob job → IsSound (system_of job)
sound job is_job = record { lawful = lawful job.graph job.query is_job.graph; cut = fragments_cut job is_job }

pub done_is_the_answer : EndIsQuiet → JournalsGrow → JournalRuns → DoneIsTheAnswer
done_is_the_answer end_is_quiet journals_grow journal_runs job fragments story locals g is_job is_story fit ends are greatest i p v owned =
    let sys = system_of job in
    let events = story.journal.events in
    let ws = (state_at_end sys story.start events).workers in
    let quiet = done_is_quiet end_is_quiet journals_grow job story is_story ends in
    let run = journal_runs sys story.start events is_story.legal in
    ap (λ (vs : List ℕ). slice_index vs p) (same_values ws locals are.values i)
    ∙ confluence_from fit_is_kept sys g (sound job is_job) greatest story.start (base_of (length story.start.parts) events) ws fit run quiet i p v owned
