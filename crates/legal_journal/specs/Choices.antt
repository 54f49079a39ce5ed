-- The order in which a lane and the coordinator look for an event that is admitted.
use Rattle.std.specs.Prelude.{ℕ, ◌+◌, ◌-◌, Bool, true, false, ◌==◌, if◌then◌else◌, nat_lt, List, [], ◌∷◌, ◌++◌, map, flat_map, Option, Some, None}
use Rattle.std.specs.List.{range_with_len}
use Rattle.graph_core.specs.Fragments.{numbers_below}
use Rattle.grape_event.specs.declared.event.Event.{Event}
use Rattle.grape_event.specs.declared.event.Event.TheVariants.{Take, Give, Stretch, Hold, Flag, Ask, Ack, Nack, Begin, Mark, Seal, Kept, End}
use Rattle.base_machine.specs.Machine.{System}
use Rattle.legal_journal.specs.Past.{last_epoch}
use Rattle.legal_journal.specs.Legal.{State, worker_count, stretch_from, is_admitted}

-- the first event of a list that is admitted
abbrev pub first_admitted : System → State → List Event → Option Event
first_admitted sys s [] = None
first_admitted sys s (e ∷ events) = if is_admitted sys s e then Some e else first_admitted sys s events

-- the worker after that of the last Take, of so many
abbrev pub first_in_turn : ℕ → List Event → ℕ
first_in_turn n [] = 0
first_in_turn n (Take i k ∷ past) = if nat_lt (i + 1) n then i + 1 else 0
first_in_turn n (_ ∷ past) = first_in_turn n past

-- that worker and those after it, and then those before it
abbrev pub in_turn : ℕ → List Event → List ℕ
in_turn n past = range_with_len (first_in_turn n past) (n - first_in_turn n past) ++ numbers_below (first_in_turn n past)

-- ---- a lane

-- an event of a worker, other than a Give, that concerns this lane
abbrev pub is_of_lane : ℕ → Event → Bool
is_of_lane lane (Take i k) = k == lane
is_of_lane lane (Stretch i turns) = true
is_of_lane lane (Hold i) = true
is_of_lane lane (Flag i) = true
is_of_lane lane (Ack i) = true
is_of_lane lane (Nack i) = true
is_of_lane lane (Mark i) = true
is_of_lane lane _ = false

-- the kinds in their order, where extra is what the pacer of each worker adds to a Stretch
abbrev pub lane_kinds : System → State → ℕ → (ℕ → ℕ) → List (ℕ → Event)
lane_kinds sys s lane extra =
    (λ i. Mark i) ∷ (λ i. Take i lane) ∷ (λ i. Stretch i (stretch_from sys s i + extra i)) ∷ (λ i. Ack i) ∷ (λ i. Nack i) ∷ (λ i. Flag i) ∷ (λ i. Hold i) ∷ []

abbrev pub lane_events : System → State → ℕ → (ℕ → ℕ) → List Event
lane_events sys s lane extra = flat_map (λ kind. map kind (in_turn (worker_count s) s.past)) (lane_kinds sys s lane extra)

abbrev pub next_choice : System → State → ℕ → (ℕ → ℕ) → Option Event
next_choice sys s lane extra = first_admitted sys s (lane_events sys s lane extra)

-- ---- the coordinator

abbrev pub is_duty : Event → Bool
is_duty Ask = true
is_duty (Begin e) = true
is_duty (Seal e) = true
is_duty End = true
is_duty _ = false

abbrev pub duties : State → List Event
duties s = Seal (last_epoch s.start.epoch s.past) ∷ End ∷ Begin (last_epoch s.start.epoch s.past + 1) ∷ Ask ∷ []

abbrev pub duty_choice : System → State → Option Event
duty_choice sys s = first_admitted sys s (duties s)

-- ---- a run

-- the epochs that were sealed, in the order of the list
abbrev pub sealed_epochs : List Event → List ℕ
sealed_epochs [] = []
sealed_epochs (Seal e ∷ past) = e ∷ sealed_epochs past
sealed_epochs (_ ∷ past) = sealed_epochs past

-- Gives and Kepts, then duties, and then what one lane would do
abbrev pub run_events : System → State → ℕ → (ℕ → ℕ) → List Event
run_events sys s lane extra =
    map (λ i. Give i) (numbers_below (worker_count s)) ++ (map (λ e. Kept e) (sealed_epochs s.past) ++ (duties s ++ lane_events sys s lane extra))

abbrev pub run_choice : System → State → ℕ → (ℕ → ℕ) → Option Event
run_choice sys s lane extra = first_admitted sys s (run_events sys s lane extra)
