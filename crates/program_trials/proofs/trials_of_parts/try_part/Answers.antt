use Rattle.std.proofs.Common.{◌≡◌, ◌++◌, ◌∷◌, [], List, ℕ, ap, sym, subst, ◌∙◌, arith, length}
use Rattle.pie_core.proofs.Starting.{few-places}
use Rattle.pie_core.specs.Solutions.{IsLocalSolution, IsReadyAgain, lowered}
use Rattle.program_trials.specs.Trials.{IsSolvedFromStarts, AreTrialsOf}
use Rattle.program_trials.specs.declared.trials_of_parts.Trial.{Trial}
use Rattle.program_trials.proofs.trials_of_parts.try_part.Goals as goal

pub evaluate-requires-clause-few : goal.evaluate-requires-clause-few
evaluate-requires-clause-few g c = few-places c.args.job.now c.requires.job c.args.part.now c.requires.part

pub overflow_cast-mirrors : goal.overflow_cast-mirrors
overflow_cast-mirrors g c = omega (arith, few-places c.args.job.now c.requires.job c.args.part.now c.requires.part, ap length c.mirrors.ensures.mirrors)

pub evaluate-requires-2-clause-few : goal.evaluate-requires-2-clause-few
evaluate-requires-2-clause-few g c = few-places c.args.job.now c.requires.job c.args.part.now c.requires.part

pub returns-clause-trials : goal.returns-clause-trials
returns-clause-trials g c =
    let job = c.args.job.now in
    let part = c.args.part.now in
    let e = g.P.Pie.equations c.args.program.now job in
    let first : Trial = c.in_ok-trial_of.field-0 in
    let second : Trial = c.in_ok-trial_of-2.field-0 in
    let made = c.in_ok-local.local in
    let hand : List ℕ = c.in_ok-hand.hand.values in
    let mirrors : length hand ≡ length part.mirrors = c.in_ok-hand.ensures.mirrors ∙ ap length c.mirrors.ensures.mirrors in
    let again : IsReadyAgain e job part made (g.P.Pie.counters_for job) c.in_ok-hand.hand = record { ready = c.in_ok-local.ensures.ready; solved = c.in_ok-local.ensures.solved; mirrors = mirrors } in
    let first_is : first.program.items ≡ made.values = c.in_ok-trial_of.ensures.program ∙ c.values.ensures.values in
    let second_is : second.program.items ≡ c.inceval.new.local.values = c.in_ok-trial_of-2.ensures.program ∙ c.values-2.ensures.values in
    let solved : IsLocalSolution e part.owned part.mirrors (lowered e part.owned made.values hand) c.inceval.new.local.values = c.inceval.ensures.solution job c.requires.is_for again in
    let trials : AreTrialsOf e part first second = record {
      from_starts = subst (λ xs. IsSolvedFromStarts e part xs) (sym first_is) c.in_ok-local.ensures.solution;
      again = (
        hand,
        mirrors,
        subst (λ xs. IsLocalSolution e part.owned part.mirrors (lowered e part.owned xs hand) second.program.items) (sym first_is)
            (subst (λ ys. IsLocalSolution e part.owned part.mirrors (lowered e part.owned made.values hand) ys) (sym second_is) solved),
      );
    } in
    (first, second, c.in_ok-push-2.ensures.items ∙ ap (λ xs. xs ++ second ∷ []) c.in_ok-push.ensures.items, trials)
