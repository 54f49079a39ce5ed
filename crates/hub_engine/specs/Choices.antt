-- Which event a hub appends: the order of choice, with what the pacers add.
use Rattle.std.specs.Prelude.{◌≡◌, ℕ, ◌+◌, ◌≤◌, Option, Some, None}
use Rattle.grape_event.specs.declared.event.Event.{Event}
use Rattle.grape_event.specs.declared.event.Event.TheVariants.{Take, Stretch, Hold, Flag, Ack, Nack, Mark}
use Rattle.base_machine.specs.Machine.{System}
use Rattle.legal_journal.specs.Legal.{State, stretch_from}
use Rattle.legal_journal.specs.Choices.{next_choice}
use Rattle.hub_engine.specs.declared.kind.Kind.{Kind}
use Rattle.hub_engine.specs.declared.kind.Kind.TheVariants as kind

-- The lane's choice may be this, where the pacers add up to 64 turns to the Stretches.
abbrev pub MayChoose : System → State → ℕ → Option Event → Type 0
MayChoose sys s lane choice = (extra : ℕ → ℕ) × ((i : ℕ) → extra i ≤ 64) × (next_choice sys s lane extra ≡ choice)

-- the event of a kind of a worker
abbrev pub event_of : System → State → ℕ → (ℕ → ℕ) → Kind → ℕ → Event
event_of sys s lane extra kind.Mark i = Mark i
event_of sys s lane extra kind.Take i = Take i lane
event_of sys s lane extra kind.Stretch i = Stretch i (stretch_from sys s i + extra i)
event_of sys s lane extra kind.Ack i = Ack i
event_of sys s lane extra kind.Nack i = Nack i
event_of sys s lane extra kind.Flag i = Flag i
event_of sys s lane extra kind.Hold i = Hold i

abbrev pub event_if : System → State → ℕ → (ℕ → ℕ) → Option (Kind × ℕ) → Option Event
event_if sys s lane extra None = None
event_if sys s lane extra (Some found) = Some (event_of sys s lane extra found.0 found.1)

-- Whatever the pacers add, the lane's choice is the event of this kind and worker, where one was found.
abbrev pub IsChoice : System → State → ℕ → Option (Kind × ℕ) → Type 0
IsChoice sys s lane found = (extra : ℕ → ℕ) → ((i : ℕ) → extra i ≤ 64) → next_choice sys s lane extra ≡ event_if sys s lane extra found
