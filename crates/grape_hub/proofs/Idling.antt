-- Where nobody is out and a lane has nothing to do, every worker rests and no mail waits; and when somebody can go on.
use Rattle.std.proofs.Common.{◌≡◌, ℕ, ◌-◌, ◌^◌, true, false, not, ◌&&◌, nat_lt, nat_le, ◌∙◌, ap, subst, arith, List, [], ◌∷◌, ◌++◌, reverse, None}
use Rattle.std.proofs.lemmas.Bool.{and_from, not_from_false, false_from_ne_true}
use Rattle.grape_event.specs.declared.event.Event.{Event}
use Rattle.grape_event.specs.declared.event.Event.TheVariants.{End}
use Rattle.base_machine.specs.Fitness.{is_quiet}
use Rattle.legal_journal.specs.Past.{has_ended, recording_is_open, last_epoch, takes_since_begin}
use Rattle.legal_journal.specs.Legal.{State, snapshot_is_due, row_admits, state_at_end, IsLegal}
use Rattle.legal_journal.specs.Choices.{is_of_lane}
use Rattle.legal_journal.proofs.Walks.{journals_grow}
use Rattle.legal_journal.proofs.Probes.{both, count_after, quiet_from}
use Rattle.legal_journal.proofs.Probes as probes
use Rattle.legal_journal.proofs.Choosing.{some-none, all_rest, lane_choices_are_exact}
use Rattle.legal_journal.proofs.Choosing as choosing
use Rattle.hub_engine.specs.HubValues.{HubValues}
use Rattle.hub_engine.specs.States.{machine, state_of, workers_of, IsHub}
use Rattle.hub_engine.specs.Choices.{MayChoose}
use Rattle.hub_engine.proofs.Hubs.{ended_is}
use Rattle.hub_engine.proofs.Snapshots.{snapshots_of, all_sealed_are_kept}
use Rattle.grape_hub.specs.Theorems.{IdleIsQuiet, OneLaneGoesOn, EndIsQuiet}

-- ---- a lane without a choice

-- no event that concerns the lane is admitted by its row
refuses : (h : HubValues) (lane : ℕ) → has_ended (reverse h.journal.events) ≡ false → MayChoose (machine h) (state_of h) lane None →
    (e : Event) → is_of_lane lane e ≡ true → row_admits (machine h) (state_of h) e ≡ true → ⊥
refuses h lane going none e of_lane row =
    both (and_from (not (has_ended (state_of h).past)) (row_admits (machine h) (state_of h) e) (not_from_false _ (ended_is h ∙ going)) row)
    ((lane_choices_are_exact (machine h) (state_of h) lane none.0 none.1).1 none.2 e of_lane)

-- without snapshots no recording is open, and none is due
never_open : (h : HubValues) → IsHub h → h.job.settings.snapshot ≡ 0 → recording_is_open (state_of h).past ≡ false
never_open h hub none = false_from_ne_true (recording_is_open (state_of h).past) (λ o. let a = (snapshots_of h hub).asked o in absurd (omega (arith, a, none)))

never_due : (h : HubValues) → h.job.settings.snapshot ≡ 0 → snapshot_is_due (machine h) (state_of h) ≡ false
never_due h none =
    let s = state_of h in
    ap (λ every. nat_lt 0 every && nat_le every (takes_since_begin s.past) && nat_lt (last_epoch s.start.epoch s.past) (2 ^ 62 - 1)) none

pub idle_is_quiet : IdleIsQuiet
idle_is_quiet h lane hub without calm going lane_in none =
    quiet_from (workers_of h)
    (all_rest (machine h) (state_of h) lane
    (record {
      lane_in_range = lane_in;
      calm = calm;
      closed = never_open h hub without;
      not_due = never_due h without;
      refuses = refuses h lane going none;
    }))

-- ---- one lane alone

pub one_lane_goes_on : OneLaneGoesOn
one_lane_goes_on h lane hub calm all_kept going lane_in no_duty none =
    let count = count_after (machine h) h.start h.journal.events hub.legal in
    let choice =
    choosing.one_lane_goes_on (machine h) h.start h.journal.events lane none.0 lane_in none.1 hub.legal going (λ i l. calm i (omega (arith, l, count)))
    (all_sealed_are_kept h hub all_kept) no_duty in
    some-none _ choice.0 choice.1 none.2

-- ---- the end

pub end_is_quiet : EndIsQuiet
end_is_quiet h journal hub ends =
    let sys = machine h in
    let start = h.start in
    let before = probes.end_is_quiet sys start journal (subst (IsLegal sys start) ends hub.legal) in
    let same : state_of h ≡ state_at_end sys start (journal ++ End ∷ []) = ap (λ (es : List Event). state_at_end sys start es) ends in
    ap (λ (s : State). is_quiet s.workers) same ∙ (ap (λ (s : State). is_quiet s.workers) (journals_grow sys start journal End).1 ∙ before.0)
