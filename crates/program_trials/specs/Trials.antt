-- What a program leaves of a fragment.
use Rattle.std.specs.Prelude.{◌≡◌, ℕ, ◌*◌, ◌+◌, ◌<◌, List, ◌++◌, length, slice_index_or}
use Rattle.graph_core.specs.Parts.{FragmentLists}
use Rattle.graph_core.specs.Equations.{Equations}
use Rattle.pie_core.specs.Solutions.{IsLocalSolution, lowered, starts_of}
use Rattle.program_trials.specs.declared.trials_of_parts.Trial.{Trial}

-- the local solution of the start values
abbrev pub IsSolvedFromStarts : Equations → FragmentLists → List ℕ → Type 0
IsSolvedFromStarts e part values = IsLocalSolution e part.owned part.mirrors (starts_of e (part.owned ++ part.mirrors)) values

-- The two trials of a fragment have what the program leaves of the start values, and of that once the mirrors were
-- lowered by a hand.
pub record AreTrialsOf (e : Equations) (part : FragmentLists) (first second : Trial) : Type 0 where
  pub from_starts : IsSolvedFromStarts e part first.program.items
  pub again : (hand : List ℕ) × (length hand ≡ length part.mirrors) × IsLocalSolution e part.owned part.mirrors (lowered e part.owned first.program.items hand) second.program.items

-- two trials of each of the first n fragments, one fragment behind the other
abbrev pub HasTrialsOf : Equations → (ℕ → FragmentLists) → ℕ → List Trial → Type 0
HasTrialsOf e part n trials =
    (k : ℕ) (d : Trial) → k < n → AreTrialsOf e (part k) (slice_index_or trials (2 * k) d) (slice_index_or trials (2 * k + 1) d)
