use Rattle.std.proofs.Common.{◌∙◌}
use Rattle.pie_core.proofs.Starting.{nth-part}
use Rattle.pie_dist.proofs.compared.compare_all.Goals as goal

pub compare-requires-clause-number : goal.compare-requires-clause-number
compare-requires-clause-number g c = (nth-part c.args.job.now c.deref-part-items.result.now c.parts.part-index c.part-item.result (c.deref-part-items.ensures.value ∙ c.in_ok-parts.ensures.made) c.parts-test.true c.part-item.is).0

pub compare-requires-clause-part : goal.compare-requires-clause-part
compare-requires-clause-part g c = (nth-part c.args.job.now c.deref-part-items.result.now c.parts.part-index c.part-item.result (c.deref-part-items.ensures.value ∙ c.in_ok-parts.ensures.made) c.parts-test.true c.part-item.is).1
