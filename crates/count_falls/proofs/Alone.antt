-- A hub that one lane drives.
use Rattle.std.proofs.Common.{◌≡◌, ℕ, ◌<◌, ◌∙◌, ap, arith, List}
use Rattle.std.proofs.lemmas.List.{get_or-set_same}
use Rattle.std.specs.Prelude.{slice_index_or, slice_set}
use Rattle.hub_engine.specs.declared.work.Duty.{Duty}
use Rattle.hub_engine.specs.declared.work.Duty.TheVariants as duty
use Rattle.hub_engine.specs.declared.work.Next.{Next}
use Rattle.hub_engine.specs.declared.work.Next.TheVariants.{Took, Did, Idle, Ended, NoMemory}
use Rattle.hub_engine.specs.HubValues.{HubValues}
use Rattle.hub_engine.specs.Calls.{Chooses, ChoosesDuty}
use Rattle.grape_hub.specs.declared.lane_record.LaneRecord.{LaneRecord}
use Rattle.grape_hub.specs.LanedHub.{LanedHub, IsLanedHub, no_record, is_out_at}

-- the same job and counters
abbrev pub IsSameJob : HubValues → HubValues → Type 0
IsSameJob old new = (new.job ≡ old.job) × (new.counters ≡ old.counters)

same_hub : (old new : HubValues) → new ≡ old → IsSameJob old new
same_hub old new is = (ap (λ (h : HubValues). h.job) is, ap (λ (h : HubValues). h.counters) is)

pub duty_stays : (old new : HubValues) (r : Duty) → ChoosesDuty old r new → IsSameJob old new
duty_stays old new (duty.Did e) c = (c.2.0, c.2.1)
duty_stays old new (duty.Sealed epoch) c = (c.1.0, c.1.1)
duty_stays old new duty.Nothing c = same_hub old new c.1
duty_stays old new duty.Ended c = same_hub old new c.0
duty_stays old new duty.NoMemory c = (c.0, c.1)

pub next_stays : (old new : HubValues) (lane : ℕ) (r : Next) → Chooses old lane r new → IsSameJob old new
next_stays old new lane (Took work) c = (c.1.0, c.1.1)
next_stays old new lane (Did e) c = (c.2.0, c.2.1)
next_stays old new lane Idle c = same_hub old new c.1
next_stays old new lane Ended c = same_hub old new c.0
next_stays old new lane NoMemory c = (c.0, c.1)

-- a lane has a Work out by the record that was written for it last
pub out_by_record : (old new : LanedHub) (lane : ℕ) (r : LaneRecord) → IsLanedHub old → lane < old.hub.job.settings.lanes → new.lanes ≡ slice_set old.lanes lane r → is_out_at new lane ≡ r.out
out_by_record old new lane r stands inside same =
    let count = stands.1.count in
    ap (λ (rs : List LaneRecord). (slice_index_or rs lane no_record).out) same ∙ ap (λ (q : LaneRecord). q.out) (get_or-set_same old.lanes lane r no_record (omega (arith, inside, count)))
