use Rattle.std.proofs.Common.{◌≡◌, sym, ◌∙◌, subst, List}
use Rattle.graph_core.specs.Parts.{FragmentLists}
use Rattle.coordinator.specs.Runs.{HasRun}
use Rattle.run_trials.proofs.answers.answer_of.Goals as goal

pub answer_in-requires-clause-ran : goal.answer_in-requires-clause-ran
answer_in-requires-clause-ran g c =
    let same : c.deref-2.result.now ≡ c.deref-3.result.now = c.deref-2.ensures.value ∙ sym c.deref-3.ensures.value in
    (c.in_ok-entry.entry.start, subst (λ (parts : List FragmentLists). HasRun c.args.job.now parts c.in_ok-entry.entry.start c.run_alone-ran.result) same c.run_alone-ran.ensures.run)
