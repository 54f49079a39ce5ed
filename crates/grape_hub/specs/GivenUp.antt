-- What a hub keeps of the Works that were given after the end of its journal.
use Rattle.std.specs.Prelude.{◌≡◌, ℕ, ◌<◌, true, List, Option, Some, None, length, reverse, slice_index_or, ◌⊎◌}
use Rattle.pie_core.specs.Locals.{LocalValues}
use Rattle.legal_journal.specs.Past.{has_ended}
use Rattle.legal_journal.specs.Legal.{is_out_with}
use Rattle.hub_engine.specs.States.{state_of, workers_of}
use Rattle.hub_engine.specs.Calls.{IsGivenUp}
use Rattle.grape_hub.specs.LanedHub.{LanedHub, is_out_at}

-- A worker's Local was given up.
abbrev pub HasGivenUp : LanedHub → ℕ → List (Option LocalValues) → Type 0
HasGivenUp x i given = (has_ended (reverse x.hub.journal.events) ≡ true) × ((local : LocalValues) × (slice_index_or given i None ≡ Some local) × IsGivenUp x.hub i local)

-- A worker that a lane has out by the journal is out, or it was given up.
pub record HoldsGivenUp (x : LanedHub) (given : List (Option LocalValues)) : Type 0 where
  pub count : length given ≡ length (workers_of x.hub)
  pub each : (k i : ℕ) → i < length (workers_of x.hub) → is_out_with (state_of x.hub) k i ≡ true → (is_out_at x k ≡ true) ⊎ HasGivenUp x i given
