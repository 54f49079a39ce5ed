-- Values of a fragment on their way down to the local solution.
use Rattle.std.specs.Prelude.{◌≡◌, ℕ, ◌+◌, ◌*◌, ◌<◌, ◌≤◌, ◌⊎◌, true, if◌then◌else◌, nat_lt, List, [], length, slice_index, slice_index_or, Contains, sum}
use Rattle.value_order.specs.declared.order.Order.TheVariants.{Least}
use Rattle.graph_core.specs.declared.TheConstants.{FAR}
use Rattle.graph_core.specs.declared.fragment.Reading.{Reading}
use Rattle.graph_core.specs.Parts.{FragmentLists, place_count}
use Rattle.pie_core.specs.PlaceSets.{waits, how_many}
use Rattle.pie_core.specs.Locals.{LocalValues}
use Rattle.pie_core.specs.LocalCalls.{with_value, with_waiting}
use Rattle.pie_core.specs.Solutions.{mirrors_lowered}

abbrev pub LieBelow : List ℕ → List ℕ → Type 0
LieBelow ys xs = (q : ℕ) → slice_index ys q ≤ slice_index xs q

abbrev pub AreAtMostFar : List ℕ → Type 0
AreAtMostFar xs = (q : ℕ) → slice_index xs q ≤ FAR

-- no reader of place q has a larger value than that of q and the cost of the weight between them
abbrev pub HoldsReaders : (ℕ → ℕ) → FragmentLists → List ℕ → ℕ → Type 0
HoldsReaders cost part xs q = (r : Reading) → Contains (slice_index_or part.readers q []) r → slice_index xs r.place ≤ slice_index xs q + cost r.weight

abbrev pub HoldsAllReaders : (ℕ → ℕ) → FragmentLists → List ℕ → Type 0
HoldsAllReaders cost part xs = (q : ℕ) → q < place_count part → HoldsReaders cost part xs q

-- a place waits to be looked at, or holds its readers
abbrev pub WaitsOrHolds : (ℕ → ℕ) → FragmentLists → LocalValues → ℕ → Type 0
WaitsOrHolds cost part local q = (waits local.waiting q ≡ true) ⊎ HoldsReaders cost part local.values q

-- each place waits to be looked at, or holds its readers
abbrev pub IsSettled : (ℕ → ℕ) → FragmentLists → LocalValues → Type 0
IsSettled cost part local = (q : ℕ) → q < place_count part → (waits local.waiting q ≡ true) ⊎ HoldsReaders cost part local.values q

-- a place has this value and waits, where the value is less than its own
abbrev pub lowered_to : LocalValues → ℕ → ℕ → LocalValues
lowered_to local place value = if nat_lt value (slice_index local.values place) then with_waiting (with_value local place value) place else local

-- Values of owned places fell, and none below relaxed values that lay below all of them.
pub record HasFallen (cost : ℕ → ℕ) (part : FragmentLists) (old new : LocalValues) : Type 0 where
  pub places : length new.values ≡ length old.values
  pub before : new.before ≡ old.before
  pub counters : new.counters ≡ old.counters
  pub below : LieBelow new.values old.values
  pub mirrors : (q : ℕ) → length part.owned ≤ q → slice_index new.values q ≡ slice_index old.values q
  pub above : (ys : List ℕ) → HoldsAllReaders cost part ys → LieBelow ys old.values → LieBelow ys new.values

-- what is left to do at most: a value that falls makes one place wait
abbrev pub work_left : LocalValues → ℕ
work_left local = 2 * sum local.values + how_many local.waiting

-- Who waited waits on, each place whose value fell waits, and there is no more to do.
pub record WaitWhereFell (old new : LocalValues) : Type 0 where
  pub on : (q : ℕ) → waits old.waiting q ≡ true → waits new.waiting q ≡ true
  pub fell : (q : ℕ) → (slice_index new.values q ≡ slice_index old.values q) ⊎ (waits new.waiting q ≡ true)
  pub no_more : work_left new ≤ work_left old

-- each mirror is lowered by the hand
abbrev pub with_mirrors : FragmentLists → LocalValues → List ℕ → LocalValues
with_mirrors part local hand = record local { values = mirrors_lowered Least part.owned local.values hand }
