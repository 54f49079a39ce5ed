-- What the lanes of a hub have out while it is driven.
use Rattle.std.specs.Prelude.{◌≡◌, ℕ, Bool, false, Option, Some, None}
use Rattle.token_cut.specs.Parts.{SnapshotParts}
use Rattle.base_machine.specs.Fitness.{IsInForm}
use Rattle.legal_journal.specs.Legal.{has_work_out}
use Rattle.hub_engine.specs.declared.work.Work.{Work}
use Rattle.hub_engine.specs.HubValues.{HubValues}
use Rattle.hub_engine.specs.States.{machine, state_of, sealed_epoch}
use Rattle.hub_engine.specs.Calls.{IsWork, IsReady}
use Rattle.grape_hub.specs.LanedHub.{LanedHub, IsLanedHub}

-- a Work that may be evaluated, or nothing
abbrev pub HasOut : HubValues → ℕ → Option Work → Type 0
HasOut h lane None = has_work_out (state_of h) lane ≡ false
HasOut h lane (Some work) = (fresh : Bool) × IsWork h lane fresh work × IsReady h work

-- the lane has out what it had
abbrev pub LaneKeeps : ℕ → HubValues → HubValues → Type 0
LaneKeeps lane old new = (out : Option Work) → HasOut old lane out → HasOut new lane out

-- the same job, counters and start, and nothing is sealed and not kept
pub record GoesAlong (old new : HubValues) : Type 0 where
  pub job : new.job ≡ old.job
  pub counters : new.counters ≡ old.counters
  pub start : new.start ≡ old.start
  pub sealed : sealed_epoch (state_of old).past ≡ None → sealed_epoch (state_of new).past ≡ None

-- A hub that two lanes drive: what they have out, nothing that is sealed and not kept, and a snapshot in the form.
pub record IsDriven (x : LanedHub) (one two : Option Work) (snapshot : SnapshotParts) : Type 0 where
  pub hub : IsLanedHub x
  pub first : HasOut x.hub 0 one
  pub second : HasOut x.hub 1 two
  pub sealed : sealed_epoch (state_of x.hub).past ≡ None
  pub into : IsInForm (machine x.hub) snapshot
