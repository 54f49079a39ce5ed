-- A recording from its begin to its seal, as a list of marks and late values.
use Rattle.std.specs.Prelude.{◌≡◌, ◌↔◌, ℕ, ◌+◌, ◌<◌, false, ◌==◌, if◌then◌else◌, IsTrue, List, [], ◌∷◌, map, length}
use Rattle.std.specs.List.{range_with_len}
use Rattle.value_order.specs.declared.order.Order.{Order}
use Rattle.token_cut.specs.Parts.{PartValues, SnapshotParts, no_part, part_at}
use Rattle.token_cut.specs.CutValues.{CutValues}
use Rattle.token_cut.specs.Recording.{is_marked, is_complete, after_begin, after_mark, after_late, sealed_of}
use Rattle.token_cut.specs.Late.{LateValue, late_values, part_lowered}

-- a worker is marked with its phase, its values and its untagged mail, or a late value comes
pub data Step : Type 0 where
  Marks : (worker : ℕ) (part : PartValues) → Step
  Comes : (late : LateValue) → Step

abbrev pub after_step : Step → CutValues → CutValues
after_step (Marks k part) c = after_mark k part c
after_step (Comes l) c = after_late l.worker l.mirror l.value c

-- after the steps in their order
abbrev pub after_steps : List Step → CutValues → CutValues
after_steps [] c = c
after_steps (step ∷ steps) c = after_steps steps (after_step step c)

-- the step meets the conditions of its call
abbrev pub IsAllowed : Step → CutValues → Type 0
IsAllowed (Marks k part) c =
    (k < length c.parts) × IsTrue c.recording × (is_marked k c ≡ false) × (length part.values ≡ length (part_at k c.parts).values)
    × (length part.mail ≡ length (part_at k c.parts).mail)
IsAllowed (Comes l) c =
    (l.worker < length c.parts) × IsTrue c.recording × IsTrue (is_marked l.worker c) × (l.mirror < length (part_at l.worker c.parts).mail)

abbrev pub AreAllowed : List Step → CutValues → Type 0
AreAllowed [] c = Unit {0}
AreAllowed (step ∷ steps) c = IsAllowed step c × AreAllowed steps (after_step step c)

-- how often worker k is marked
abbrev pub times_marked : ℕ → List Step → ℕ
times_marked k [] = 0
times_marked k (Marks j part ∷ steps) = (if j == k then 1 else 0) + times_marked k steps
times_marked k (Comes l ∷ steps) = times_marked k steps

-- what worker k is marked with
abbrev pub part_marked : ℕ → List Step → PartValues
part_marked k [] = no_part
part_marked k (Marks j part ∷ steps) = if j == k then part else part_marked k steps
part_marked k (Comes l ∷ steps) = part_marked k steps

-- the late values, in their order
abbrev pub late_in : List Step → List LateValue
late_in [] = []
late_in (Marks k part ∷ steps) = late_in steps
late_in (Comes l ∷ steps) = l ∷ late_in steps

-- What worker k was marked with, and its mail met with all late values for its mirrors.
abbrev pub part_recorded : Order → List Step → ℕ → PartValues
part_recorded o steps k = part_lowered o (λ m. late_values k m (late_in steps)) (part_marked k steps)

-- the same for each of so many workers
abbrev pub snapshot_recorded : Order → ℕ → ℕ → List Step → SnapshotParts
snapshot_recorded o epoch workers steps = record { epoch = epoch; parts = map (part_recorded o steps) (range_with_len 0 workers) }

-- A recording that was begun is complete once every worker was marked once, and what is sealed then is what was marked, with each mail value lowered by its late values, and nothing else.
pub record SealsWhatWasMarked (epoch : ℕ) (c : CutValues) (steps : List Step) : Type 0 where
  pub complete : IsTrue (is_complete (after_steps steps (after_begin epoch c))) ↔ ((k : ℕ) → k < length c.parts → times_marked k steps ≡ 1)
  pub sealed : IsTrue (is_complete (after_steps steps (after_begin epoch c))) →
      sealed_of (after_steps steps (after_begin epoch c)) ≡ snapshot_recorded c.order epoch (length c.parts) steps

abbrev pub SealsAreExact : Type 0
SealsAreExact = (epoch : ℕ) (c : CutValues) (steps : List Step) → AreAllowed steps (after_begin epoch c) → SealsWhatWasMarked epoch c steps
