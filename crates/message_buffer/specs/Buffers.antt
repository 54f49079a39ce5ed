-- What the calls on a buffer leave and answer.
use Rattle.std.specs.Prelude.{ℕ, ◌+◌, Bool, true, false, ◌==◌, ◌&&◌, if◌then◌else◌, List, [], ◌∷◌, length, replicate, slice_index, slice_set}
use Rattle.value_order.specs.declared.order.Order.{Order}
use Rattle.value_order.specs.declared.TheConstants.{NOTHING}
use Rattle.value_order.specs.Order.{meet_of}
use Rattle.message_buffer.specs.BufferValues.{BufferValues}

-- no mail for so many mirrors
abbrev pub new_buffer : Order → ℕ → BufferValues
new_buffer order mirrors =
    record { order = order; plain = replicate mirrors NOTHING; tagged = replicate mirrors NOTHING; plain_batches = 0; tagged_batches = 0 }

abbrev pub emptied : BufferValues → BufferValues
emptied b = new_buffer b.order (length b.plain)

-- one batch more of a class
abbrev pub with_batch : Bool → BufferValues → BufferValues
with_batch true b = record b { tagged_batches = b.tagged_batches + 1 }
with_batch false b = record b { plain_batches = b.plain_batches + 1 }

-- the mirror's value of a class is met with another value
abbrev pub with_post : Bool → ℕ → ℕ → BufferValues → BufferValues
with_post true mirror value b = record b { tagged = slice_set b.tagged mirror (meet_of b.order (slice_index b.tagged mirror) value) }
with_post false mirror value b = record b { plain = slice_set b.plain mirror (meet_of b.order (slice_index b.plain mirror) value) }

abbrev pub batches_in : BufferValues → ℕ
batches_in b = b.plain_batches + b.tagged_batches

-- place by place the meet of two lists
abbrev pub meets_of : Order → List ℕ → List ℕ → List ℕ
meets_of o [] ys = []
meets_of o (a ∷ xs) [] = []
meets_of o (a ∷ xs) (b ∷ ys) = meet_of o a b ∷ meets_of o xs ys

-- the meet of what waits for each mirror in either class
abbrev pub all_waiting : BufferValues → List ℕ
all_waiting b = meets_of b.order b.plain b.tagged

-- for how many places one of two lists has a value
abbrev pub count_values : List ℕ → List ℕ → ℕ
count_values [] ys = 0
count_values (a ∷ xs) [] = 0
count_values (a ∷ xs) (b ∷ ys) = (if (a == NOTHING) && (b == NOTHING) then 0 else 1) + count_values xs ys

abbrev pub waiting_in : BufferValues → ℕ
waiting_in b = count_values b.plain b.tagged

-- the tagged batches become untagged
abbrev pub folded : BufferValues → BufferValues
folded b =
    record { order = b.order; plain = all_waiting b; tagged = replicate (length b.plain) NOTHING; plain_batches = batches_in b; tagged_batches = 0 }
