use Rattle.coordinator.proofs.Places.{owned_inside, mirrors_inside, whole_in_limits}
use Rattle.coordinator.proofs.shape.shape_of.Goals as goal

pub starts_in-requires-clause-owned : goal.starts_in-requires-clause-owned
starts_in-requires-clause-owned c = owned_inside c.args.job.now c.args.fragments.now c.parts.part-index c.part-item.result c.requires.fragments c.parts-test.true c.part-item.is

pub starts_in-requires-clause-mirrors : goal.starts_in-requires-clause-mirrors
starts_in-requires-clause-mirrors c = mirrors_inside c.args.job.now c.args.fragments.now c.parts.part-index c.part-item.result c.requires.fragments c.parts-test.true c.part-item.is

pub returns-clause-limits : goal.returns-clause-limits
returns-clause-limits c = whole_in_limits c.args.job.now c.args.fragments.now c.order_of-order.result c.parts.parts.items c.parts.part-index c.requires.job c.requires.fragments c.parts-test.false c.parts.invariant
