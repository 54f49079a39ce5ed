use Rattle.value_order.proofs.Orders.{height-falls}
use Rattle.value_order.proofs.laws.falls_are_few.Goals as goal

pub returns : goal.returns
returns c = height-falls
