-- What a command made of its job.
use Rattle.std.proofs.Common.{◌≡◌, inl, inr, refl, sym, ap, ◌∙◌, subst, ℕ, List, Bool, Option, Some, None, Ok}
use Rattle.grape_port.specs.Ports.{Appends, AppendsFront}
use Rattle.graph_core.specs.declared.job.Job.{Job}
use Rattle.graph_core.specs.Graphs.{IsJob}
use Rattle.graph_core.specs.Parts.{FragmentLists}
use Rattle.grape_event.specs.declared.event.Event.TheVariants.{End}
use Rattle.grape_event.specs.declared.event.StopCause.TheVariants.{Disk, Memory}
use Rattle.answer_text.specs.AnswerTable.{AnswerTable}
use Rattle.answer_text.specs.AnswerText.{answer_text, kind_of, IsAnswerText}
use Rattle.coordinator.specs.Runs.{EndsBy}
use Rattle.coordinator.specs.declared.ran.Ran.{Ran}
use Rattle.coordinator.specs.declared.ran.Ran.TheVariants as ran
use Rattle.coordinator.specs.declared.story.Story.{Story}
use Rattle.grape_run.specs.Resuming.{IsFitStart}
use Rattle.grape_run.specs.Commands.{RefusesFor, IsStoryFor, TellsStory, IsTextFor, KeepsState, HasDone, mode_by, beginning_of}
use Rattle.grape_run.specs.Entering.{IsUnanswered, CountsFor, IsLegalRan, RanCounts, story_of, IsStoryIf, HasTried}
use Rattle.grape_run.specs.Answered.{finished, IsRight, IsRightFrom, IsAnswered, IsOutcomeOf, HasMade, status_in}
use Rattle.grape_run.specs.declared.answers.Outcome.{Outcome}
use Rattle.grape_run.specs.declared.answers.Outcome.TheVariants.{Answered, Ended}
use Rattle.grape_run.specs.declared.finish.Finish.{Finish}
use Rattle.grape_run.specs.declared.status.Status.{Status}
use Rattle.grape_run.specs.declared.status.Status.TheVariants as status
use Rattle.grape_run.specs.declared.beginning.Beginning.{Beginning}
use Rattle.grape_run.specs.declared.beginning.Beginning.TheVariants.{Fresh, Resumed}
use Rattle.grape_run.proofs.Resuming.{fresh_is_fit}

-- the run of the story is legal
pub legal_ran : (b : Beginning) (job : Job) (digest : List ℕ) (content : Option (List ℕ)) (r : Ran) → IsStoryIf b job digest content (story_of r) → IsLegalRan job r
legal_ran b job digest content (ran.Done locals story) is = is.is_story
legal_ran b job digest content (ran.Stopped cause story) is = is.is_story
legal_ran b job digest content ran.NoMemory is = tt

-- the rows from a fit start are those of a command
right_for : (b : Beginning) (job : Job) (digest : List ℕ) (content : Option (List ℕ)) (story : Story) (table : AnswerTable) → IsJob job → IsStoryFor b job digest content story → (IsFitStart job story.start → IsRight job table) → IsRightFrom b job story table
right_for Fresh job digest content story table is_job is answer = answer (fresh_is_fit job story.start is_job is.starts)
right_for Resumed job digest content story table is_job is answer = answer

-- right rows, written out
right_is_text : (job : Job) (table : AnswerTable) → IsRight job table → IsAnswerText job (answer_text table.kind table.rows)
right_is_text job table r =
    record {
      values = r.values;
      right = r.right;
      spelled = ap (λ k. answer_text k table.rows) r.kind ∙ ap (λ rows. answer_text (kind_of job.query) rows) r.rows;
    }

text_for : (b : Beginning) (job : Job) (story : Story) (table : AnswerTable) → IsRightFrom b job story table → IsTextFor (mode_by b) job (Some story) (answer_text table.kind table.rows)
text_for Fresh job story table r = right_is_text job table r
text_for Resumed job story table r = λ fit. right_is_text job table (r fit)

-- the statuses that refuse nothing
refuses_nothing : (b : Beginning) (job : Job) (digest : List ℕ) (content : Option (List ℕ)) → RefusesFor b job digest content status.NoMemory
refuses_nothing b job digest content = tt

-- where a state file is refused there is no story
tells_none : (b : Beginning) (job : Job) (digest : List ℕ) (content : Option (List ℕ)) (s : Status) → IsUnanswered s → TellsStory b job digest content s None
tells_none b job digest content status.Done h = absurd h
tells_none b job digest content status.BadWords h = absurd h
tells_none b job digest content (status.BadInput line why) h = absurd h
tells_none b job digest content status.ReadFault h = absurd h
tells_none b job digest content status.WriteFault h = absurd h
tells_none b job digest content status.DiskFault h = tt
tells_none b job digest content (status.StateThere size) h = refl
tells_none b job digest content (status.OtherJob kept here) h = refl
tells_none b job digest content (status.BadState place) h = refl
tells_none b job digest content status.NoMemory h = tt

module _ {D : Type 0} (content : D → Option (List ℕ)) (images : D → ℕ → List ℕ → Type 0) (moment : D → ℕ) (honest : D → Bool) where
  abbrev Made : Beginning → Job → List ℕ → D → D → Outcome → Type 0
  Made b job digest old new outcome = HasMade content images moment honest b job digest outcome old new

  -- a command that ended so, with or without a story
  pub made_none : (b : Beginning) (job : Job) (digest : List ℕ) (s : Status) (old new : D) → IsUnanswered s → RefusesFor b job digest (content old) s → KeepsState content images moment honest b job digest None old new →
      HasMade content images moment honest b job digest (Ended (finished s None)) old new
  made_none b job digest s old new unanswered refuses state = (unanswered, refuses, tells_none b job digest (content old) s unanswered, state)

  made_answer : (b : Beginning) (job : Job) (digest : List ℕ) (story : Story) (outcome : Outcome) (old new : D) → IsJob job → IsStoryFor b job digest (content old) story → EndsBy End story.journal.events →
      KeepsState content images moment honest b job digest (Some story) old new → IsAnswered job story outcome → Made b job digest old new outcome
  made_answer b job digest story (Answered answer told) old new is_job is ended state h =
      subst (λ (t : Story). Made b job digest old new (Answered answer t)) (sym h.0)
      (is, h.1, right_for b job digest (content old) story answer is_job is h.2, state)
  made_answer b job digest story (Ended finish) old new is_job is ended state h =
      subst (λ (f : Finish). Made b job digest old new (Ended f)) (sym h) (tt, tt, (is, inl ended), state)

  pub made_of : (b : Beginning) (job : Job) (digest : List ℕ) (fragments : List FragmentLists) (r : Ran) (outcome : Outcome) (old new : D) → IsJob job → HasTried content images moment honest b job digest fragments (Ok r) old new →
      IsOutcomeOf job r outcome → HasMade content images moment honest b job digest outcome old new
  made_of b job digest fragments (ran.Done locals story) outcome old new is_job tried h = made_answer b job digest story outcome old new is_job tried.0 tried.1.0 tried.2 h
  made_of b job digest fragments (ran.Stopped Disk story) outcome old new is_job tried h =
      subst (Made b job digest old new) (sym h) (tt, tt, (tried.0, tried.1), tried.2)
  made_of b job digest fragments (ran.Stopped Memory story) outcome old new is_job tried h =
      subst (Made b job digest old new) (sym h) (tt, tt, (tried.0, inr tried.1), tried.2)
  made_of b job digest fragments ran.NoMemory outcome old new is_job tried h =
      subst (Made b job digest old new) (sym h) (tt, tt, tt, tried.2)

  -- the answer was written, or a front of it
  pub done : (b : Beginning) (job : Job) (digest : List ℕ) (answer : AnswerTable) (story : Story) (before after : Option (List ℕ)) (old new : D) → HasMade content images moment honest b job digest (Answered answer story) old new →
      Appends before (answer_text answer.kind answer.rows) after → HasDone content images moment honest (mode_by b) b job digest status.Done (Some story) before after old new
  done b job digest answer story before after old new made written =
      record { refused = tt; tells = (made.0, made.1); written = (answer_text answer.kind answer.rows, text_for b job story answer made.2, written); state = made.3 }

  pub done_in_part : (b : Beginning) (job : Job) (digest : List ℕ) (answer : AnswerTable) (story : Story) (before after : Option (List ℕ)) (old new : D) → HasMade content images moment honest b job digest (Answered answer story) old new →
      AppendsFront before (answer_text answer.kind answer.rows) after → HasDone content images moment honest (mode_by b) b job digest status.WriteFault (Some story) before after old new
  done_in_part b job digest answer story before after old new made written =
      record { refused = tt; tells = (made.0, made.1); written = (answer_text answer.kind answer.rows, text_for b job story answer made.2, written); state = made.3 }

  -- what was done of a job that was read, by the words
  pub done_at : (b : Beginning) (job : Job) (digest : List ℕ) (s : Status) (story : Option Story) (before after : Option (List ℕ)) (old new : D) → HasDone content images moment honest (mode_by b) b job digest s story before after old new →
      HasDone content images moment honest (mode_by b) (beginning_of (mode_by b)) job digest s story before after old new
  done_at Fresh job digest s story before after old new h = h
  done_at Resumed job digest s story before after old new h = h

-- ---- the count of the disk's faults

counts_answered : (job : Job) (story : Story) (outcome : Outcome) (before after : ℕ) → IsAnswered job story outcome → after ≡ before → CountsFor (status_in outcome) before after
counts_answered job story (Answered answer told) before after h same = same
counts_answered job story (Ended finish) before after h same = subst (λ (f : Finish). CountsFor f.status before after) (sym h) tt

pub counts_of : (job : Job) (r : Ran) (outcome : Outcome) (before after : ℕ) → IsOutcomeOf job r outcome → RanCounts r before after → CountsFor (status_in outcome) before after
counts_of job (ran.Done locals story) outcome before after h counts = counts_answered job story outcome before after h counts
counts_of job (ran.Stopped Disk story) outcome before after h counts = subst (λ (o : Outcome). CountsFor (status_in o) before after) (sym h) counts
counts_of job (ran.Stopped Memory story) outcome before after h counts = subst (λ (o : Outcome). CountsFor (status_in o) before after) (sym h) tt
counts_of job ran.NoMemory outcome before after h counts = subst (λ (o : Outcome). CountsFor (status_in o) before after) (sym h) tt
