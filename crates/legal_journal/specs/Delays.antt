-- When a worker may take: rounds, staleness and the delay stretch.
use Rattle.std.specs.Prelude.{ℕ, ◌+◌, ◌-◌, ◌*◌, ◌/◌, min, Bool, true, false, not, ◌==◌, ◌||◌, if◌then◌else◌, nat_lt, nat_le, List, [], ◌∷◌, Option, Some, None, take, length, slice_index}
use Rattle.std.specs.List.{list_all}
use Rattle.graph_core.specs.declared.settings.Policy.{Policy}
use Rattle.graph_core.specs.declared.settings.Policy.TheVariants.{Bsp, Ap, Ssp, Aap}
use Rattle.graph_core.specs.Fragments.{numbers_below}
use Rattle.grape_event.specs.declared.event.Event.{Event}
use Rattle.base_machine.specs.Machine.{BaseState, Worker, worker_at, is_fresh, is_running, batch_waits, batches_waiting}
use Rattle.legal_journal.specs.Past.{stretch_of}

-- ---- the stretch

-- the last eight arrivals at a worker; arrivals are clocks, newest first
abbrev pub window : List ℕ → List ℕ
window arrivals = take 8 arrivals

-- the oldest of a and those before it, newest first
abbrev pub oldest_of : ℕ → List ℕ → ℕ
oldest_of a [] = a
oldest_of a (x ∷ xs) = oldest_of x xs

-- the mean gap between the arrivals of a window that has at least two, rounded down
abbrev pub mean_gap : List ℕ → ℕ
mean_gap [] = 0
mean_gap (a ∷ before) = (a - oldest_of a before) / length before

-- The turns that a worker stretches, with so many batches waiting: under aap the mean gap for each batch that it lacks, and at most 64.
abbrev pub stretch_turns : Policy → ℕ → List ℕ → ℕ
stretch_turns (Aap c l) batches arrivals =
    if nat_lt (length (window arrivals)) 2 || nat_le l batches then 0 else min 64 ((l - batches) * mean_gap (window arrivals))
stretch_turns _ batches arrivals = 0

-- under aap enough batches end every delay
abbrev pub has_enough : Policy → ℕ → Bool
has_enough (Aap c l) batches = nat_le l batches
has_enough _ batches = false

-- The turns of a Stretch are over, where the clock is the journal's length: every event is one tick.
abbrev pub stretch_is_over : Option (ℕ × ℕ) → ℕ → Bool
stretch_is_over None clock = false
stretch_is_over (Some s) clock = nat_le (s.1 + 1 + s.0) clock

-- The delay of i is over: its Stretch since its last Take has run out, or enough batches wait.
abbrev pub delay_is_over : Policy → BaseState → List Event → ℕ → Bool
delay_is_over policy ws past i = stretch_is_over (stretch_of i past) (length past) || has_enough policy (batches_waiting (worker_at ws i))

-- ---- staleness

-- a worker is busy where it is Fresh or Running or a batch waits for it
abbrev pub is_busy : Worker → Bool
is_busy w = is_fresh w || is_running w || batch_waits w

-- no other busy worker is more than c rounds behind i
abbrev pub is_within : ℕ → BaseState → List ℕ → ℕ → Bool
is_within c ws rounds i =
    list_all (λ j. j == i || not (is_busy (worker_at ws j)) || nat_le (slice_index rounds i) (slice_index rounds j + c)) (numbers_below (length ws))

abbrev pub is_fresh_enough : Policy → BaseState → List ℕ → ℕ → Bool
is_fresh_enough Bsp ws rounds i = is_within 0 ws rounds i
is_fresh_enough Ap ws rounds i = true
is_fresh_enough (Ssp c) ws rounds i = is_within c ws rounds i
is_fresh_enough (Aap c l) ws rounds i = is_within c ws rounds i
