use Rattle.std.proofs.Common.{◌<◌, ◌^◌, slice_index, slice_set, replicate, ◌∙◌, ap, refl, arith}
use Rattle.std.proofs.lemmas.List.Elements.{All-set}
use Rattle.value_order.specs.declared.TheConstants.{NOTHING}
use Rattle.value_order.specs.Order.{meet_of}
use Rattle.message_buffer.proofs.Listing.{listed-others, inside-others, cleared-more, cleared-all, merged-more, merged-all}
use Rattle.message_buffer.proofs.Kept.{all-fit}
use Rattle.message_buffer.proofs.listed.merge_listed.Goals as goal

pub merge-init : goal.merge-init
merge-init c = record {
  ahead = listed-others c.args.order c.args.values.now c.args.others.now c.args.mirrors.now c.requires.same (all-fit c.args.others.now (λ i. let f = c.type_inv.others i in omega (arith, f))) c.requires.listed;
  fit = all-fit c.args.values.now (λ i. let f = c.type_inv.values i in omega (arith, f));
  met = λ q. refl;
}

pub bounds-values-place : goal.bounds-values-place
bounds-values-place c =
    inside-others c.args.order c.args.values.now c.args.others.now c.args.mirrors.now c.merge.values c.merge.mirror-index c.requires.same c.requires.listed c.merge-test.true c.merge.auto.values

pub bounds-others-place : goal.bounds-others-place
bounds-others-place c =
    inside-others c.args.order c.args.values.now c.args.others.now c.args.mirrors.now c.merge.others c.merge.mirror-index c.requires.same c.requires.listed c.merge-test.true (c.merge.auto.others ∙ c.requires.same)

pub bounds-values-place-in-merge : goal.bounds-values-place-in-merge
bounds-values-place-in-merge c =
    inside-others c.args.order c.args.values.now c.args.others.now c.args.mirrors.now c.merge.values c.merge.mirror-index c.requires.same c.requires.listed c.merge-test.true c.merge.auto.values

pub bounds-others-place-in-merge : goal.bounds-others-place-in-merge
bounds-others-place-in-merge c =
    inside-others c.args.order c.args.values.now c.args.others.now c.args.mirrors.now c.merge.others c.merge.mirror-index c.requires.same c.requires.listed c.merge-test.true (c.merge.auto.others ∙ c.requires.same)

pub merge-preserved : goal.merge-preserved
merge-preserved c =
    let m = slice_index c.args.mirrors.now c.merge.mirror-index in
    let values = inside-others c.args.order c.args.values.now c.args.others.now c.args.mirrors.now c.merge.values c.merge.mirror-index c.requires.same c.requires.listed c.merge-test.true c.merge.auto.values in
    let others = inside-others c.args.order c.args.values.now c.args.others.now c.args.mirrors.now c.merge.others c.merge.mirror-index c.requires.same c.requires.listed c.merge-test.true (c.merge.auto.others ∙ c.requires.same) in
    record {
      ahead = cleared-more c.merge.others c.args.mirrors.now c.merge.mirror-index m c.merge.invariant.ahead refl others;
      fit = All-set (λ v. v < 2 ^ 64) c.merge.values m c.meet.result c.meet.type_inv c.merge.invariant.fit;
      met = λ q.
          ap (λ w. meet_of c.args.order (slice_index (slice_set c.merge.values m w) q) (slice_index (slice_set c.merge.others m NOTHING) q)) c.meet.ensures
          ∙ merged-more c.args.order c.merge.values c.merge.others m values others (c.merge.invariant.fit m 0 values) q ∙ c.merge.invariant.met q;
    }

pub returns-clause-left : goal.returns-clause-left
returns-clause-left c =
    cleared-all c.merge.others c.args.mirrors.now c.merge.mirror-index c.merge.invariant.ahead c.merge-test.false ∙ ap (λ n. replicate n NOTHING) (c.merge.auto.others ∙ c.requires.same)

pub returns-clause-met : goal.returns-clause-met
returns-clause-met c =
    merged-all c.args.order c.merge.values c.merge.others c.args.values.now c.args.others.now c.merge.invariant.fit c.merge.auto.values c.requires.same (returns-clause-left c) c.merge.invariant.met
