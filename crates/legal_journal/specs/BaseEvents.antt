-- The base events of a journal.
use Rattle.std.specs.Prelude.{ℕ, Bool, true, if◌then◌else◌, List, [], ◌∷◌, ◌++◌}
use Rattle.graph_core.specs.Fragments.{numbers_below}
use Rattle.grape_event.specs.declared.event.Event.{Event}
use Rattle.grape_event.specs.declared.event.Event.TheVariants.{Take, Give}
use Rattle.base_machine.specs.Machine.{BaseEvent, BaseTake, BaseGive}
use Rattle.legal_journal.specs.Past.{gives_of_each}

-- The base event of an event of n workers' journal, where it is one: a Take reaches all Gives so far.
abbrev pub base_event : ℕ → List Event → Event → List BaseEvent
base_event n past (Take i k) = BaseTake i (gives_of_each (numbers_below n) past) ∷ []
base_event n past (Give i) = BaseGive i ∷ []
base_event n past _ = []

-- The base events of those events of the journal that pass the test, in its order. The test sees an event and what stands before it.
abbrev pub base_events_where : (Event → List Event → Bool) → ℕ → List Event → List Event → List BaseEvent
base_events_where test n past [] = []
base_events_where test n past (e ∷ journal) =
    (if test e past then base_event n past e else []) ++ base_events_where test n (e ∷ past) journal

-- the Takes and Gives of a journal
abbrev pub base_of : ℕ → List Event → List BaseEvent
base_of n journal = base_events_where (λ e past. true) n [] journal
