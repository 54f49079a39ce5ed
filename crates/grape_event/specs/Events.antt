-- Tests of events.
use Rattle.std.specs.Prelude.{ℕ, Bool, true, false, ◌==◌}
use Rattle.grape_event.specs.declared.event.Event.{Event}
use Rattle.grape_event.specs.declared.event.Event.TheVariants.{Take, Give, End, Stop}

abbrev pub is_take : Event → Bool
is_take (Take i k) = true
is_take _ = false

abbrev pub is_take_of : ℕ → Event → Bool
is_take_of i (Take j k) = i == j
is_take_of i _ = false

abbrev pub is_give_of : ℕ → Event → Bool
is_give_of i (Give j) = i == j
is_give_of i _ = false

-- nothing follows an End or a Stop
abbrev pub is_last : Event → Bool
is_last End = true
is_last (Stop cause) = true
is_last _ = false

abbrev pub is_stop : Event → Bool
is_stop (Stop cause) = true
is_stop _ = false
