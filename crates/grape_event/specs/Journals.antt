-- Words on journals.
use Rattle.std.specs.Prelude.{Bool, false, List, [], ◌∷◌}
use Rattle.grape_event.specs.declared.event.Event.{Event}
use Rattle.grape_event.specs.Events.{is_last}
use Rattle.grape_event.specs.JournalList.{JournalList}

-- no events, and no room
abbrev pub new_journal : JournalList
new_journal = record { events = []; spare = 0 }

-- The last event is an End or a Stop. The events stand newest first here, so that what happened last stands in front.
abbrev pub has_ended : List Event → Bool
has_ended [] = false
has_ended (e ∷ past) = is_last e
