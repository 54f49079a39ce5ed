-- The values of a run that is done are the answer.
use Rattle.std.proofs.Common.{◌≡◌, ℕ, sym, ◌∙◌, ap, subst, List, [], ◌++◌, Option, Some, None, Ok}
use Rattle.std.proofs.lemmas.List.{append-nil}
use Rattle.graph_core.specs.declared.job.Job.{Job}
use Rattle.graph_core.specs.Graphs.{IsJob}
use Rattle.graph_core.specs.Meaning.{IsValue}
use Rattle.graph_core.specs.Queries.{equations_of}
use Rattle.graph_core.proofs.Cutting.{fragments_cut}
use Rattle.graph_core.proofs.Greatest.{greatest_is_there}
use Rattle.graph_core.proofs.Lawful.{lawful}
use Rattle.graph_core.proofs.Values.{job-meaning}
use Rattle.graph_text.specs.Input.{input_of}
use Rattle.pie_core.specs.Locals.{LocalValues}
use Rattle.answer_text.specs.AnswerTable.{AnswerTable}
use Rattle.answer_text.specs.Assembled.{IsAssembled}
use Rattle.grape_run.specs.Answered.{AreGreatest, IsRight}
use Rattle.grape_run.specs.Runs.{ReadsInput, IsInputOf, digest_of, IsDigestOf}
use Rattle.grape_run.specs.Commands.{IsAskedFor, mode_by}
use Rattle.grape_run.specs.declared.beginning.Beginning.{Beginning}
use Rattle.grape_run.specs.declared.beginning.Beginning.TheVariants.{Fresh, Resumed}
use Rattle.grape_run.specs.declared.input.JobText.{JobText}

pub assembled_is_right : (job : Job) (locals : List LocalValues) (table : AnswerTable) → IsJob job → AreGreatest job locals → IsAssembled job locals table → IsRight job table
assembled_is_right job locals table h greatest made =
    let there = greatest_is_there (equations_of job) (lawful job.graph job.query h.graph) in
    let means = (job-meaning job h there.0).0 there.1 in
    record {
      kind = made.kind;
      values = made.values;
      right = λ v below.
          let owned = (fragments_cut job h).owned v below in
          subst (λ x. IsValue job v x) (sym (made.owners owned.0 owned.1 v owned.2 ∙ greatest there.0 there.1 owned.0 owned.1 v owned.2)) (means v below);
      rows = made.rows;
    }

-- all of the text was read
whole : (text read rest : List ℕ) → text ≡ read ++ rest → rest ≡ [] → text ≡ read
whole text read rest same none = same ∙ ap (λ r. read ++ r) none ∙ append-nil read

is_input : (told after : Option (List ℕ)) (text : JobText) → ReadsInput told after (Ok text) → IsInputOf told text.job
is_input None after text h = tt
is_input (Some told) after text h = ap input_of (whole told h.0 h.1 h.2 h.4.0) ∙ h.4.1

is_digest : (told after : Option (List ℕ)) (text : JobText) → ReadsInput told after (Ok text) → IsDigestOf told text.digest
is_digest None after text h = tt
is_digest (Some told) after text h = h.4.2 ∙ ap digest_of (sym (whole told h.0 h.1 h.2 h.4.0))

-- the job that was read was asked for, and its digest
pub asked_for : (b : Beginning) (told after : Option (List ℕ)) (text : JobText) → ReadsInput told after (Ok text) → IsJob text.job → IsAskedFor (mode_by b) told text.job text.digest
asked_for Fresh told after text read within = record { within = within; is_job = is_input told after text read; is_digest = is_digest told after text read }
asked_for Resumed told after text read within = record { within = within; is_job = is_input told after text read; is_digest = is_digest told after text read }
