-- What a turn of a run leaves at its hub.
use Rattle.std.specs.Prelude.{◌≡◌, ℕ, ◌⊎◌, ⊤, Bool, false, MatchBool, None, reverse}
use Rattle.grape_event.specs.declared.event.Event.{Event}
use Rattle.grape_event.specs.declared.event.Event.TheVariants.{Give, Kept, Stop}
use Rattle.grape_event.specs.declared.event.StopCause.{StopCause}
use Rattle.legal_journal.specs.Past.{has_ended}
use Rattle.legal_journal.specs.Choices.{duty_choice}
use Rattle.lane_loop.specs.declared.served.Served.{Served}
use Rattle.lane_loop.specs.declared.served.Served.TheVariants.{Did, Idle, Ended, NoMemory}
use Rattle.lane_loop.specs.Turns.{Answers, StopsForMemory}
use Rattle.hub_engine.specs.HubValues.{HubValues}
use Rattle.hub_engine.specs.States.{machine, state_of, sealed_epoch}
use Rattle.hub_engine.specs.Calls.{Appended, Chooses, ChoosesDuty}
use Rattle.hub_engine.specs.declared.work.Work.{Work}
use Rattle.hub_engine.specs.declared.work.Next.TheVariants as next
use Rattle.hub_engine.specs.declared.work.Duty.TheVariants as duty
use Rattle.grape_hub.specs.Notes.{is_stopped_by_disk}

-- The disk didn't stop the run.
abbrev pub HasNoDiskStop : HubValues → Type 0
HasNoDiskStop h = is_stopped_by_disk (reverse h.journal.events) ≡ false

-- The journal hasn't ended, what is sealed is kept, and the coordinator has nothing to do.
abbrev pub HasNoDuty : HubValues → Type 0
HasNoDuty h = (has_ended (reverse h.journal.events) ≡ false) × (sealed_epoch (state_of h).past ≡ None) × (duty_choice (machine h) (state_of h) ≡ None)

-- What a duty other than a Seal leaves: exactly the event that duty chose, and where there was no memory for it exactly a Stop.
abbrev pub ServesDuty : Served → HubValues → HubValues → Type 0
ServesDuty Did old new = (e : Event) × ChoosesDuty old (duty.Did e) new
ServesDuty Idle old new = ChoosesDuty old duty.Nothing new
ServesDuty Ended old new = ChoosesDuty old duty.Ended new
ServesDuty NoMemory old new = StopsForMemory old new

-- What lane 0 leaves where it goes on: exactly the event that next chose, and after a Take the Give of its Work.
abbrev pub ServesLane : HubValues → HubValues → Type 0
ServesLane old new =
    ((e : Event) × Chooses old 0 (next.Did e) new)
    ⊎ ((work : Work) × (taken : HubValues) × Chooses old 0 (next.Took work) taken × Appended taken (Give work.worker) new)

-- What lane 0's turn leaves, by whether the run goes on; where it doesn't, the journal had ended, or exactly a Stop for want of memory was appended.
abbrev pub ServesOrStops : Bool → HubValues → HubValues → Type 0
ServesOrStops goes_on old new = MatchBool goes_on (ServesLane old new) (StopsForMemory old new)

-- Exactly the Seal that duty chose and its Kept.
abbrev pub SealsAndKeeps : HubValues → HubValues → Type 0
SealsAndKeeps old new = (epoch : ℕ) × (sealed : HubValues) × ChoosesDuty old (duty.Sealed epoch) sealed × Appended sealed (Kept epoch) new

-- Exactly the Seal that duty chose and a Stop.
abbrev pub SealsAndStops : HubValues → HubValues → Type 0
SealsAndStops old new = (epoch : ℕ) × (cause : StopCause) × (sealed : HubValues) × ChoosesDuty old (duty.Sealed epoch) sealed × Appended sealed (Stop cause) new

-- Where the run goes on exactly a duty was served, a Seal with its Kept, or where there was none exactly lane 0; where it doesn't, the journal had ended, exactly a Stop for want of memory was appended, or exactly a Seal and a Stop.
abbrev pub GoesOn : Bool → HubValues → HubValues → Type 0
GoesOn goes_on old new =
    MatchBool goes_on (ServesDuty Did old new ⊎ (SealsAndKeeps old new ⊎ (HasNoDuty old × ServesLane old new))) (StopsForMemory old new ⊎ SealsAndStops old new)

-- ---- the coordinator's turn of lane 0

-- the answers of next with which a lane ends: 4 Ended, 5 NoMemory
abbrev pub EndsLane : ℕ → Type 0
EndsLane answer = (answer ≡ 4) ⊎ (answer ≡ 5)

-- Where a duty appended no event lane 0 had a turn, and did what its record says.
abbrev pub AnswersUnlessDid : Served → ℕ → Type 0
AnswersUnlessDid Did answer = ⊤
AnswersUnlessDid Idle answer = Answers Idle answer
AnswersUnlessDid Ended answer = Answers Ended answer
AnswersUnlessDid NoMemory answer = Answers NoMemory answer
