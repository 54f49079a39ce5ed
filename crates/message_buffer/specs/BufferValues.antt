-- A buffer as contracts see it.
use Rattle.std.specs.Prelude.{ℕ, List}
use Rattle.value_order.specs.declared.order.Order.{Order}

-- the order by which values meet; for each class the meet of the values posted to each mirror, NOTHING where none was; and how many batches each class has
pub record BufferValues : Type 0 where
  pub order : Order
  pub plain : List ℕ
  pub tagged : List ℕ
  pub plain_batches : ℕ
  pub tagged_batches : ℕ
