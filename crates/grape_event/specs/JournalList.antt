-- A journal as contracts see it.
use Rattle.std.specs.Prelude.{ℕ, List}
use Rattle.grape_event.specs.declared.event.Event.{Event}

-- the events, oldest first, and for how many more there is room
pub record JournalList : Type 0 where
  pub events : List Event
  pub spare : ℕ
