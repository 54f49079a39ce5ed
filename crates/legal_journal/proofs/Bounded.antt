-- The Takes of a legal journal are bounded.
use Rattle.std.proofs.Common.{◌≡◌, ℕ, ◌+◌, true, cond, refl, arith, List, [], ◌∷◌, ◌++◌, length, count_by}
use Rattle.std.proofs.lemmas.List.Sums.{sum_by-cons}
use Rattle.grape_event.specs.declared.event.Event.{Event}
use Rattle.grape_event.specs.declared.event.Event.TheVariants.{Take, Give, Stretch, Hold, Flag, Ask, Ack, Nack, Begin, Mark, Seal, Kept, End, Stop}
use Rattle.grape_event.specs.Events.{is_take}
use Rattle.base_machine.specs.Machine.{BaseEvent}
use Rattle.base_machine.specs.Runs.{takes_in}
use Rattle.base_machine.proofs.Bounded.{runs_are_bounded}
use Rattle.legal_journal.specs.BaseEvents.{base_of, base_event, base_events_where}
use Rattle.legal_journal.specs.Legal.{state_at_end}
use Rattle.legal_journal.specs.Theorems.{TakesAreBounded}
use Rattle.legal_journal.proofs.Journals.{journal_runs}

event_takes : (n : ℕ) (past : List Event) (e : Event) (rest : List BaseEvent) → takes_in (base_event n past e ++ rest) ≡ cond (is_take e) 1 0 + takes_in rest
event_takes n past (Take i k) rest = refl
event_takes n past (Give i) rest = omega arith
event_takes n past (Stretch i t) rest = omega arith
event_takes n past (Hold i) rest = omega arith
event_takes n past (Flag i) rest = omega arith
event_takes n past Ask rest = omega arith
event_takes n past (Ack i) rest = omega arith
event_takes n past (Nack i) rest = omega arith
event_takes n past (Begin e) rest = omega arith
event_takes n past (Mark i) rest = omega arith
event_takes n past (Seal e) rest = omega arith
event_takes n past (Kept e) rest = omega arith
event_takes n past End rest = omega arith
event_takes n past (Stop cause) rest = omega arith

journal_takes : (n : ℕ) (past journal : List Event) → takes_in (base_events_where (λ e past. true) n past journal) ≡ count_by is_take journal
journal_takes n past [] = refl
journal_takes n past (e ∷ journal) =
    let a = event_takes n past e (base_events_where (λ e past. true) n (e ∷ past) journal) in
    let b = journal_takes n (e ∷ past) journal in
    let c = sum_by-cons (λ x. cond (is_take x) 1 0) e journal in
    omega (arith, a, b, c)

pub takes_are_bounded : TakesAreBounded
takes_are_bounded sys start journal sound form legal =
    let n = length start.parts in
    let runs = journal_runs sys start journal legal in
    let a = runs_are_bounded sys start (base_of n journal) (state_at_end sys start journal).workers sound form runs in
    let b = journal_takes n [] journal in
    omega (arith, a, b)
