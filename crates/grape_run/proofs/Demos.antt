-- What a demo does.
use Rattle.std.proofs.Common.{◌≡◌, ◌≤◌, ℕ, List, Bool, Option, Some, length, ◌∙◌, ap, arith}
use Rattle.std.proofs.lemmas.List.FromFn.{length-map-range_with_len}
use Rattle.grape_port.specs.Ports.{Appends, AppendsFront}
use Rattle.graph_core.specs.declared.job.Job.{Job}
use Rattle.graph_core.specs.Graphs.{IsJob, count_of, number_at}
use Rattle.answer_text.specs.AnswerTable.{AnswerTable}
use Rattle.answer_text.specs.AnswerText.{answer_row, kind_of}
use Rattle.answer_text.specs.Summary.{totals_of, summary_text, IsSummaryText}
use Rattle.answer_text.specs.declared.totals.Totals.{Totals}
use Rattle.answer_text.specs.declared.answer.Kind.TheVariants.{Dist}
use Rattle.coordinator.specs.declared.story.Story.{Story}
use Rattle.command_words.specs.declared.words.Mode.TheVariants.{Demo}
use Rattle.grape_run.specs.declared.beginning.Beginning.TheVariants.{Fresh}
use Rattle.grape_run.specs.declared.answers.Outcome.TheVariants.{Answered}
use Rattle.grape_run.specs.declared.status.Status.{Status}
use Rattle.grape_run.specs.declared.status.Status.TheVariants as status
use Rattle.grape_run.specs.Runs.{EndsDemo}
use Rattle.grape_run.specs.Commands.{IsDemoJob, RefusesFor, HasRead, HasDone}
use Rattle.grape_run.specs.Answered.{IsRight, HasMade}

pub right_kind : (job : Job) (table : AnswerTable) → IsDemoJob job → IsRight job table → table.kind ≡ Dist
right_kind job table demo r = r.kind ∙ ap (λ (j : Job). kind_of j.query) demo.2

pub right_few : (job : Job) (table : AnswerTable) → IsJob job → IsRight job table → length table.rows ≤ 1000000
right_few job table is_job r =
    let e = ap (λ rows. length rows) r.rows ∙ length-map-range_with_len (λ v. answer_row (number_at job.graph v) (r.values v)) 0 (count_of job.graph) in
    let few = is_job.graph.few_vertices in omega (arith, e, few)

right_summary : (job : Job) (table : AnswerTable) (totals : Totals) → IsRight job table → totals ≡ totals_of table.rows → IsSummaryText job (summary_text totals)
right_summary job table totals r same =
    record { values = r.values; right = r.right; spelled = ap summary_text (same ∙ ap totals_of r.rows) }

no_snapshot : (job : Job) → IsDemoJob job → job.settings.snapshot ≡ 0
no_snapshot job demo = ap (λ (j : Job). j.settings.snapshot) demo.2

-- how a demo ends
pub demo_end : (job : Job) (digest : List ℕ) (content : Option (List ℕ)) (s : Status) → IsDemoJob job → HasRead s → RefusesFor Fresh job digest content s → EndsDemo s
demo_end job digest content status.Done demo read h = tt
demo_end job digest content status.BadWords demo read h = absurd read
demo_end job digest content (status.BadInput line why) demo read h = absurd read
demo_end job digest content status.ReadFault demo read h = absurd read
demo_end job digest content status.WriteFault demo read h = tt
demo_end job digest content status.DiskFault demo read h = tt
demo_end job digest content (status.StateThere size) demo read h = let z = no_snapshot job demo in let some = h.1 in absurd (omega (arith, z, some))
demo_end job digest content (status.OtherJob kept here) demo read h = absurd (cc h.0)
demo_end job digest content (status.BadState place) demo read h = absurd (cc h.0)
demo_end job digest content status.NoMemory demo read h = tt

module _ {D : Type 0} (content : D → Option (List ℕ)) (images : D → ℕ → List ℕ → Type 0) (moment : D → ℕ) (honest : D → Bool) where
  -- the totals were written, or a front of their line
  pub demo_done : (v n : ℕ) (job : Job) (digest : List ℕ) (answer : AnswerTable) (story : Story) (totals : Totals) (before after : Option (List ℕ)) (old new : D) → HasMade content images moment honest Fresh job digest (Answered answer story) old new →
      totals ≡ totals_of answer.rows → Appends before (summary_text totals) after → HasDone content images moment honest (Demo v n) Fresh job digest status.Done (Some story) before after old new
  demo_done v n job digest answer story totals before after old new made same written =
      record { refused = tt; tells = (made.0, made.1); written = (summary_text totals, right_summary job answer totals made.2 same, written); state = made.3 }

  pub demo_in_part : (v n : ℕ) (job : Job) (digest : List ℕ) (answer : AnswerTable) (story : Story) (totals : Totals) (before after : Option (List ℕ)) (old new : D) → HasMade content images moment honest Fresh job digest (Answered answer story) old new →
      totals ≡ totals_of answer.rows → AppendsFront before (summary_text totals) after → HasDone content images moment honest (Demo v n) Fresh job digest status.WriteFault (Some story) before after old new
  demo_in_part v n job digest answer story totals before after old new made same written =
      record { refused = tt; tells = (made.0, made.1); written = (summary_text totals, right_summary job answer totals made.2 same, written); state = made.3 }
