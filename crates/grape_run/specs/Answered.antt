-- What a run that is done has found.
use Rattle.std.specs.Prelude.{◌≡◌, ℕ, List, Bool, Option, Some, None, slice_index}
use Rattle.graph_core.specs.declared.job.Job.{Job}
use Rattle.graph_core.specs.Equations.{Assignment, IsGreatest}
use Rattle.graph_core.specs.Queries.{equations_of}
use Rattle.graph_core.specs.Fragments.{IsOwnedAt, pieces_of}
use Rattle.pie_core.specs.Locals.{LocalValues}
use Rattle.grape_event.specs.declared.event.StopCause.TheVariants.{Disk, Memory}
use Rattle.graph_core.specs.Meaning.{AreValues}
use Rattle.answer_text.specs.AnswerTable.{AnswerTable}
use Rattle.answer_text.specs.AnswerText.{kind_of, rows_of}
use Rattle.answer_text.specs.Assembled.{values_at}
use Rattle.coordinator.specs.declared.ran.Ran.{Ran}
use Rattle.coordinator.specs.declared.ran.Ran.TheVariants as ran
use Rattle.coordinator.specs.declared.story.Story.{Story}
use Rattle.grape_run.specs.Resuming.{IsFitStart}
use Rattle.grape_run.specs.Commands.{RefusesFor, IsStoryFor, EndsByProbe, TellsStory, KeepsState}
use Rattle.grape_run.specs.Entering.{IsUnanswered}
use Rattle.grape_run.specs.declared.answers.Outcome.{Outcome}
use Rattle.grape_run.specs.declared.answers.Outcome.TheVariants.{Answered, Ended}
use Rattle.grape_run.specs.declared.finish.Finish.{Finish}
use Rattle.grape_run.specs.declared.status.Status.{Status}
use Rattle.grape_run.specs.declared.status.Status.TheVariants as status
use Rattle.grape_run.specs.declared.beginning.Beginning.{Beginning}
use Rattle.grape_run.specs.declared.beginning.Beginning.TheVariants.{Fresh, Resumed}

-- the values of the owners are the greatest solution of the job's equations
abbrev pub AreGreatest : Job → List LocalValues → Type 0
AreGreatest job locals =
    (g : Assignment) → IsGreatest (equations_of job) g → (i p v : ℕ) → IsOwnedAt (pieces_of job) i p v → slice_index (values_at locals i) p ≡ g v

-- a row for each vertex with its value
pub record IsRight (job : Job) (table : AnswerTable) : Type 0 where
  pub kind : table.kind ≡ kind_of job.query
  pub values : ℕ → ℕ
  pub right : AreValues job values
  pub rows : table.rows ≡ rows_of job.graph values

-- the answer of a run from the beginning is right; after a resumption it is where its start is fit
abbrev pub IsRightFrom : Beginning → Job → Story → AnswerTable → Type 0
IsRightFrom Fresh job story table = IsRight job table
IsRightFrom Resumed job story table = IsFitStart job story.start → IsRight job table

abbrev pub finished : Status → Option Story → Finish
finished s story = record { status = s; story = story }

-- What is made of a run that was done: its answer, where its start is fit, with its story, which ended by a probe; or memory ran out.
abbrev pub IsAnswered : Job → Story → Outcome → Type 0
IsAnswered job story (Answered answer told) = (told ≡ story) × EndsByProbe job story × (IsFitStart job story.start → IsRight job answer)
IsAnswered job story (Ended finish) = finish ≡ finished status.NoMemory (Some story)

-- what is made of a run
abbrev pub IsOutcomeOf : Job → Ran → Outcome → Type 0
IsOutcomeOf job (ran.Done locals story) outcome = IsAnswered job story outcome
IsOutcomeOf job (ran.Stopped Disk story) outcome = outcome ≡ Ended (finished status.DiskFault (Some story))
IsOutcomeOf job (ran.Stopped Memory story) outcome = outcome ≡ Ended (finished status.NoMemory (Some story))
IsOutcomeOf job ran.NoMemory outcome = outcome ≡ Ended (finished status.NoMemory None)

-- the status of an outcome, where its answer can be written
abbrev pub status_in : Outcome → Status
status_in (Answered answer story) = status.Done
status_in (Ended finish) = finish.status

module _ {D : Type 0} (content : D → Option (List ℕ)) (images : D → ℕ → List ℕ → Type 0) (moment : D → ℕ) (honest : D → Bool) where
  -- What a command made of its job before its answer is written: the answer, and the story of a run that ended by a probe; or the status with which it ended, and its story where there is one.
  abbrev pub HasMade : Beginning → Job → List ℕ → Outcome → D → D → Type 0
  HasMade b job digest (Answered answer story) old new =
      IsStoryFor b job digest (content old) story × EndsByProbe job story × IsRightFrom b job story answer
      × KeepsState content images moment honest b job digest (Some story) old new
  HasMade b job digest (Ended finish) old new =
      IsUnanswered finish.status × RefusesFor b job digest (content old) finish.status × TellsStory b job digest (content old) finish.status finish.story
      × KeepsState content images moment honest b job digest finish.story old new
