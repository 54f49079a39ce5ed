-- What the counters of an evaluation mean, and how they fall.
use Rattle.std.specs.Prelude.{◌≡◌, ◌≢◌, ℕ, ◌+◌, ◌*◌, ◌<◌, ◌≤◌, ◌⊎◌, ◌==◌, true, false, List, [], length, slice_index, slice_index_or, Contains, count_by}
use Rattle.graph_core.specs.declared.fragment.Reading.{Reading}
use Rattle.graph_core.specs.Parts.{FragmentLists}
use Rattle.graph_core.specs.Queries.{has_bit}
use Rattle.pie_core.specs.PlaceSets.{waits}
use Rattle.pie_core.specs.Locals.{LocalValues}
use Rattle.pie_sim.specs.SimJobs.{HasBit}

-- how many readings of a row have bit m
abbrev pub times_read : List Reading → List ℕ → ℕ → ℕ
times_read row xs m = count_by (λ r. has_bit (slice_index xs r.place) m) row

-- how often a place stands in a row
abbrev pub times_placed : List Reading → ℕ → ℕ
times_placed row place = count_by (λ r. r.place == place) row

-- each owned place has a row of counters, one for each node: this one
abbrev pub counter_at : ℕ → List ℕ → ℕ → ℕ → ℕ
counter_at width counters p c = slice_index counters (p * width + c)

-- The counters of each owned place count for each node the readings that have the node's bit.
pub record AreCounts (nodes : List ℕ) (part : FragmentLists) (local : LocalValues) : Type 0 where
  pub room : length local.counters ≡ length part.owned * length nodes
  pub each : (p c : ℕ) → p < length part.owned → c < length nodes → counter_at (length nodes) local.counters p c ≡ times_read (slice_index_or part.readings p []) local.values (slice_index nodes c)

-- each bit of a value is that of a node
abbrev pub AreOfNodes : List ℕ → List ℕ → Type 0
AreOfNodes nodes xs = (q m : ℕ) → HasBit (slice_index xs q) m → Contains nodes m

-- Counters fell, and more places wait; nothing else changed.
pub record OnlyCountersFell (old new : LocalValues) : Type 0 where
  pub rest : new ≡ record old { counters = new.counters; waiting = new.waiting }
  pub room : length new.counters ≡ length old.counters
  pub known : length new.waiting ≡ length old.waiting
  pub on : (q : ℕ) → waits old.waiting q ≡ true → waits new.waiting q ≡ true

-- In one column the counter of each place fell as often as the place stands in a row. Who stands there and has 0 now waits.
pub record ColumnFell (row : List Reading) (width column : ℕ) (old new : LocalValues) : Type 0 where
  pub only : OnlyCountersFell old new
  pub fell : (p : ℕ) → counter_at width new.counters p column + times_placed row p ≡ counter_at width old.counters p column
  pub others : (p c : ℕ) → c < width → c ≢ column → counter_at width new.counters p c ≡ counter_at width old.counters p c
  pub zero : (r : Reading) → Contains row r → counter_at width new.counters r.place column ≡ 0 → waits new.waiting r.place ≡ true

-- The same in each column before one, where the node's bit is among those that fell.
pub record ColumnsFell (nodes : List ℕ) (row : List Reading) (fallen end : ℕ) (old new : LocalValues) : Type 0 where
  pub only : OnlyCountersFell old new
  pub fell : (p c : ℕ) → c < end → has_bit fallen (slice_index nodes c) ≡ true → counter_at (length nodes) new.counters p c + times_placed row p ≡ counter_at (length nodes) old.counters p c
  pub others : (p c : ℕ) → c < length nodes → (end ≤ c) ⊎ (has_bit fallen (slice_index nodes c) ≡ false) → counter_at (length nodes) new.counters p c ≡ counter_at (length nodes) old.counters p c
  pub zero : (r : Reading) (c : ℕ) → Contains row r → c < end → has_bit fallen (slice_index nodes c) ≡ true → counter_at (length nodes) new.counters r.place c ≡ 0 → waits new.waiting r.place ≡ true
