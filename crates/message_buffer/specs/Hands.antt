-- What the calls on a hand leave.
use Rattle.std.specs.Prelude.{◌≢◌, ℕ, ◌<◌, List, All, Contains, nat_eq, length, replicate, slice_index, slice_set}
use Rattle.std.specs.List.{IsDistinct}
use Rattle.value_order.specs.declared.order.Order.{Order}
use Rattle.value_order.specs.declared.TheConstants.{NOTHING}
use Rattle.value_order.specs.Order.{meet_of}
use Rattle.message_buffer.specs.HandValues.{HandValues}

-- no message for any mirror
abbrev pub new_hand : Order → ℕ → HandValues
new_hand order mirrors = record { order = order; values = replicate mirrors NOTHING }

-- the value of one mirror is met with another value
abbrev pub lowered_hand : HandValues → ℕ → ℕ → HandValues
lowered_hand hand mirror value = record hand { values = slice_set hand.values mirror (meet_of hand.order (slice_index hand.values mirror) value) }

-- The mirrors that have a value, each once.
pub record AreMirrorsOf (values mirrors : List ℕ) : Type 0 where
  pub all : (m : ℕ) → m < length values → slice_index values m ≢ NOTHING → Contains mirrors m
  pub only : All (λ m. m < length values) mirrors
  pub valued : All (λ m. slice_index values m ≢ NOTHING) mirrors
  pub once : IsDistinct nat_eq mirrors
