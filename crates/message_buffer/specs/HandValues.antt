-- A hand as contracts see it.
use Rattle.std.specs.Prelude.{ℕ, List}
use Rattle.value_order.specs.declared.order.Order.{Order}

-- the order by which values meet, and the value of each mirror, NOTHING where no message came
pub record HandValues : Type 0 where
  pub order : Order
  pub values : List ℕ
