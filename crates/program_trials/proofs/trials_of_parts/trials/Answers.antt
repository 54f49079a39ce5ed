use Rattle.std.proofs.Common.{◌∙◌, subst, arith}
use Rattle.graph_core.specs.Parts.{FragmentLists}
use Rattle.graph_core.specs.Fragments.{fragment_of}
use Rattle.pie_core.proofs.Starting.{nth-part, part-count}
use Rattle.program_trials.specs.Trials.{AreTrialsOf}
use Rattle.program_trials.proofs.TwoEach.{trials-more, part-at}
use Rattle.program_trials.proofs.trials_of_parts.trials.Goals as goal

pub try_part-requires-clause-number : goal.try_part-requires-clause-number
try_part-requires-clause-number g c = (nth-part c.args.job.now c.deref-part-items.result.now c.parts.part-index c.part-item.result (c.deref-part-items.ensures.value ∙ c.in_ok-parts.ensures.made) c.parts-test.true c.part-item.is).0

pub try_part-requires-clause-part : goal.try_part-requires-clause-part
try_part-requires-clause-part g c = (nth-part c.args.job.now c.deref-part-items.result.now c.parts.part-index c.part-item.result (c.deref-part-items.ensures.value ∙ c.in_ok-parts.ensures.made) c.parts-test.true c.part-item.is).1

pub parts-preserved : goal.parts-preserved
parts-preserved g c =
    let job = c.args.job.now in
    let e = g.P.Pie.equations c.args.program.now job in
    let n = c.parts.part-index in
    let made = c.in_ok-try_part.ensures.trials in
    let is = part-at job c.deref-part-items.result.now n c.part-item.result (c.deref-part-items.ensures.value ∙ c.in_ok-parts.ensures.made) c.parts-test.true c.part-item.is in
    record {
      count = omega (arith, c.in_ok-try_part.ensures.count, c.parts.invariant.count);
      made = trials-more e (fragment_of job) n c.parts.trials.items c.try_part.new.trials.items made.0 made.1 c.parts.invariant.count c.parts.invariant.made made.2 (subst (λ (p : FragmentLists). AreTrialsOf e p made.0 made.1) is made.3);
    }

pub returns-clause-count : goal.returns-clause-count
returns-clause-count g c = omega (arith, part-count c.args.job.now c.deref-part-items.result.now (c.deref-part-items.ensures.value ∙ c.in_ok-parts.ensures.made), c.parts.invariant.count, c.parts-test.false, c.parts.auto.part-index-end)

pub returns-clause-trials : goal.returns-clause-trials
returns-clause-trials g c =
    λ k d l. c.parts.invariant.made k d (omega (arith, l, part-count c.args.job.now c.deref-part-items.result.now (c.deref-part-items.ensures.value ∙ c.in_ok-parts.ensures.made), c.parts-test.false))
