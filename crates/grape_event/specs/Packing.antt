-- Events in 4 bytes, and what they stand for.
use Rattle.std.specs.Prelude.{◌≡◌, ℕ, ◌+◌, ◌-◌, ◌*◌, ◌^◌, ◌<◌, ◌≤◌, ◌==◌, List, [], ◌∷◌, ◌++◌, Option, Some, None, length, take, replicate, slice_get, slice_index, if◌then◌else◌}
use Rattle.grape_event.specs.declared.event.Event.{Event}
use Rattle.grape_event.specs.declared.event.Event.TheVariants as event
use Rattle.grape_event.specs.declared.event.StopCause.TheVariants.{Disk, Memory}
use Rattle.grape_event.specs.declared.packed.Packed.{Packed}
use Rattle.grape_event.specs.declared.packed.Packed.TheVariants.{Take, Give, Stretch, Hold, Flag, Ask, Ack, Nack, Begin, Mark, Seal, Kept, End, DiskStop, MemoryStop, Wide}
use Rattle.grape_event.specs.declared.repeat.Repeat.{Repeat}

-- the event that a packed one stands for, where the wide one at its place is known
abbrev pub unpacked : Event → Packed → Event
unpacked wide (Take worker lane) = event.Take worker lane
unpacked wide (Give worker) = event.Give worker
unpacked wide (Stretch worker turns) = event.Stretch worker turns
unpacked wide (Hold worker) = event.Hold worker
unpacked wide (Flag worker) = event.Flag worker
unpacked wide Ask = event.Ask
unpacked wide (Ack worker) = event.Ack worker
unpacked wide (Nack worker) = event.Nack worker
unpacked wide (Begin epoch) = event.Begin epoch
unpacked wide (Mark worker) = event.Mark worker
unpacked wide (Seal epoch) = event.Seal epoch
unpacked wide (Kept epoch) = event.Kept epoch
unpacked wide End = event.End
unpacked wide DiskStop = event.Stop Disk
unpacked wide MemoryStop = event.Stop Memory
unpacked wide Wide = wide

-- the wide event that is kept for a place
abbrev pub wide_at : List ℕ → List Event → ℕ → Event
wide_at [] wides place = event.End
wide_at (p ∷ places) [] place = event.End
wide_at (p ∷ places) (e ∷ wides) place = if p == place then e else wide_at places wides place

-- the event of a repeat that begins at a place
abbrev pub event_of : List ℕ → List Event → ℕ → Repeat → Event
event_of places wides place repeat = unpacked (wide_at places wides place) repeat.event

-- how often it comes
abbrev pub times : Repeat → ℕ
times repeat = repeat.more + 1

-- how many events there are in repeats
abbrev pub total : List Repeat → ℕ
total [] = 0
total (repeat ∷ repeats) = times repeat + total repeats

-- the events of repeats, of which the first begins at a place
abbrev pub expand : List ℕ → List Event → ℕ → List Repeat → List Event
expand places wides place [] = []
expand places wides place (repeat ∷ repeats) = replicate (times repeat) (event_of places wides place repeat) ++ expand places wides (place + times repeat) repeats

-- What is found at a number of events from the front of repeats: the repeat in which it stands, and how many of its events come before it; None where they are over.
abbrev pub IsFound : List Repeat → ℕ → Option (Repeat × ℕ) → Type 0
IsFound repeats left None = total repeats ≤ left
IsFound repeats left (Some (repeat, rest)) =
    (rest ≤ left)
    × ((places : List ℕ) (wides : List Event) (place : ℕ) → slice_get (expand places wides place repeats) left ≡ Some (event_of places wides (place + (left - rest)) repeat))

-- the last repeat counts one event more
pub record IsOneMore (old new : List Repeat) : Type 0 where
  pub front : List Repeat
  pub last : Repeat
  pub was : old ≡ front ++ last ∷ []
  pub is : new ≡ front ++ record { event = last.event; more = last.more + 1 } ∷ []

-- places rise
abbrev pub Rise : List ℕ → Type 0
Rise places = (i j : ℕ) → i < j → j < length places → slice_index places i < slice_index places j

-- The repeats with the place of the first event of each 64 of them, and the wide events with their places, which lie below the number of all events.
pub record AreRepeats (repeats : List Repeat) (starts places : List ℕ) (wides : List Event) (count : ℕ) : Type 0 where
  pub counted : count ≡ total repeats
  pub started : (b : ℕ) → b < length starts → slice_index starts b ≡ total (take (64 * b) repeats)
  pub covered : length repeats ≤ 64 * length starts
  pub needed : 64 * length starts < length repeats + 64
  pub paired : length places ≡ length wides
  pub rise : Rise places
  pub below : (i : ℕ) → i < length places → slice_index places i < count

-- the last event, where there is one
abbrev pub IsLast : Option Event → List Event → Type 0
IsLast last events = last ≡ slice_get events (length events - 1)

-- Room for so many events more, each of which may be a wide one of another repeat. Of each list its length and its capacity are given.
pub record HasRoom (spare count : ℕ) (of_repeats of_starts of_places of_wides : ℕ × ℕ) : Type 0 where
  pub counted : count + spare < 2 ^ 64
  pub repeats : of_repeats.0 + spare ≤ of_repeats.1
  pub starts : of_repeats.0 + spare ≤ 64 * of_starts.1
  pub places : of_places.0 + spare ≤ of_places.1
  pub wides : of_wides.0 + spare ≤ of_wides.1
