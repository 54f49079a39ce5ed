-- Values that are lowered by what their places read.
use Rattle.std.specs.Prelude.{◌≡◌, ℕ, ◌+◌, ◌<◌, ◌≤◌, ◌⊎◌, Bool, true, false, List, [], length, slice_index, slice_index_or, Contains, sum}
use Rattle.graph_core.specs.declared.fragment.Reading.{Reading}
use Rattle.graph_core.specs.Parts.{FragmentLists, place_count}
use Rattle.pie_core.specs.Locals.{LocalValues}
use Rattle.pie_lowering.specs.LeastEquations.{whole_weight}
use Rattle.pie_lowering.specs.Lowering.{HasFallen, HoldsAllReaders}

-- The rows of readings and of readers say the same: a place stands among the readers of each place that it reads, and reads each place among whose readers it stands.
pub record RowsMatch (part : FragmentLists) : Type 0 where
  pub place : (p : ℕ) (r : Reading) → p < length part.owned → Contains (slice_index_or part.readings p []) r → r.place < place_count part
  pub reader : (p : ℕ) (r : Reading) → p < length part.owned → Contains (slice_index_or part.readings p []) r → Contains (slice_index_or part.readers r.place []) (record { place = p; weight = r.weight })
  pub owned : (q : ℕ) (r : Reading) → q < place_count part → Contains (slice_index_or part.readers q []) r → r.place < length part.owned
  pub reading : (q : ℕ) (r : Reading) → q < place_count part → Contains (slice_index_or part.readers q []) r → Contains (slice_index_or part.readings r.place []) (record { place = q; weight = r.weight })

-- the least of a place's own value and those that it reads, each with the weight between them
pub record IsLeastAt (part : FragmentLists) (xs : List ℕ) (p least : ℕ) : Type 0 where
  pub own : least ≤ slice_index xs p
  pub readings : (r : Reading) → Contains (slice_index_or part.readings p []) r → least ≤ slice_index xs r.place + r.weight
  pub attained : (least ≡ slice_index xs p) ⊎ ((r : Reading) × Contains (slice_index_or part.readings p []) r × (least ≡ slice_index xs r.place + r.weight))

-- the place's value is at most each that it reads, with the weight between them
abbrev pub HoldsReadings : FragmentLists → List ℕ → ℕ → Type 0
HoldsReadings part xs p = (r : Reading) → Contains (slice_index_or part.readings p []) r → slice_index xs p ≤ slice_index xs r.place + r.weight

-- One place was lowered as far as it had to: its value fell, or nothing changed and it is held by its readings.
pub record HasLoweredPlace (part : FragmentLists) (old new : LocalValues) (p : ℕ) (fell : Bool) : Type 0 where
  pub fallen : HasFallen whole_weight part old new
  pub less : fell ≡ true → sum new.values < sum old.values
  pub stays : fell ≡ false → new ≡ old
  pub held : fell ≡ false → HoldsReadings part new.values p

-- All owned places were: a value fell, or the values are relaxed.
pub record HasPassed (part : FragmentLists) (old new : LocalValues) (fell : Bool) : Type 0 where
  pub fallen : HasFallen whole_weight part old new
  pub less : fell ≡ true → sum new.values < sum old.values
  pub relaxed : fell ≡ false → HoldsAllReaders whole_weight part new.values
