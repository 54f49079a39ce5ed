-- A recording as contracts see it.
use Rattle.std.specs.Prelude.{ℕ, Bool, List}
use Rattle.value_order.specs.declared.order.Order.{Order}
use Rattle.token_cut.specs.Parts.{PartValues}

-- The order by which mail meets, the epoch of the last recording, whether it is open, and for each worker whether it is marked in it and what is recorded of it. Of a worker that isn't marked the part means nothing.
pub record CutValues : Type 0 where
  pub order : Order
  pub epoch : ℕ
  pub recording : Bool
  pub marked : List Bool
  pub parts : List PartValues
