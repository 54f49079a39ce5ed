-- What the calls on the values of a fragment leave.
use Rattle.std.specs.Prelude.{◌≡◌, ℕ, ◌+◌, ◌*◌, true, false, List, Option, Some, None, length, take, replicate, slice_set}
use Rattle.pie_core.specs.FallenPlaces.{fallen_since}
use Rattle.pie_core.specs.PlaceSets.{waits}
use Rattle.pie_core.specs.Locals.{LocalValues}

abbrev pub new_local : ℕ → ℕ → ℕ → LocalValues
new_local owned mirrors counters =
    record { values = replicate (owned + mirrors) 0; before = replicate owned 0; counters = replicate (owned * counters) 0; waiting = replicate owned false }

-- what stands there is what was before
abbrev pub settled : LocalValues → LocalValues
settled local = record local { before = take (length local.before) local.values }

abbrev pub loaded : LocalValues → List ℕ → LocalValues
loaded local values = settled (record local { values = values })

abbrev pub with_value : LocalValues → ℕ → ℕ → LocalValues
with_value local place value = record local { values = slice_set local.values place value }

-- a place waits too
abbrev pub with_waiting : LocalValues → ℕ → LocalValues
with_waiting local place = record local { waiting = slice_set local.waiting place true }

-- the place that was taken had waited, and nothing else changed
abbrev pub TakesOne : LocalValues → Option ℕ → LocalValues → Type 0
TakesOne local None after = after ≡ local
TakesOne local (Some place) after = (waits local.waiting place ≡ true) × (after ≡ record local { waiting = slice_set local.waiting place false })

-- the owned places whose values aren't those of before, in rising order
abbrev pub fallen_places : LocalValues → List ℕ
fallen_places local = fallen_since local.before local.values
