-- Values of a fragment on their way down to the local solution of a simulation.
use Rattle.std.specs.Prelude.{◌≡◌, ◌≢◌, ℕ, ◌+◌, ◌*◌, ◌<◌, ◌≤◌, ◌⊎◌, Bool, true, List, [], length, slice_index, slice_index_or, slice_set, Contains, IsTrue, sum_by, count_ones}
use Rattle.std.specs.List.{list_any}
use Rattle.value_order.specs.declared.order.Order.TheVariants.{Mask}
use Rattle.value_order.specs.Order.{Below}
use Rattle.graph_core.specs.declared.fragment.Reading.{Reading}
use Rattle.graph_core.specs.Parts.{FragmentLists}
use Rattle.graph_core.specs.Queries.{has_bit}
use Rattle.pie_core.specs.PlaceSets.{waits, how_many}
use Rattle.pie_core.specs.Locals.{LocalValues}
use Rattle.pie_sim.specs.SimJobs.{HasBit}

-- whether some value that is read in a row has bit m
abbrev pub is_read : List Reading → List ℕ → ℕ → Bool
is_read row xs m = list_any (λ r. has_bit (slice_index xs r.place) m) row

-- each bit of an owned place stays: all nodes to which its links lead are bits of what the place reads
abbrev pub IsSupported : List ℕ → FragmentLists → List ℕ → ℕ → Type 0
IsSupported targets part xs p = (k m : ℕ) → HasBit (slice_index xs p) k → HasBit (slice_index targets k) m → IsTrue (is_read (slice_index_or part.readings p []) xs m)

abbrev pub AreSupported : List ℕ → FragmentLists → List ℕ → Type 0
AreSupported targets part xs = (p : ℕ) → p < length part.owned → IsSupported targets part xs p

-- each owned place waits to be looked at, or its bits stay
abbrev pub IsSettled : List ℕ → FragmentLists → LocalValues → Type 0
IsSettled targets part local = (p : ℕ) → p < length part.owned → (waits local.waiting p ≡ true) ⊎ IsSupported targets part local.values p

-- the same but for one place
abbrev pub IsSettledBut : ℕ → List ℕ → FragmentLists → LocalValues → Type 0
IsSettledBut place targets part local = (p : ℕ) → p < length part.owned → p ≢ place → (waits local.waiting p ≡ true) ⊎ IsSupported targets part local.values p

-- a place stands among the readers of each place that it reads
abbrev pub ReadersAreListed : FragmentLists → Type 0
ReadersAreListed part =
    (p : ℕ) (r : Reading) → p < length part.owned → Contains (slice_index_or part.readings p []) r → Contains (slice_index_or part.readers r.place []) (record { place = p; weight = r.weight })

-- the readers of a place wait
abbrev pub ReadersWait : FragmentLists → LocalValues → ℕ → Type 0
ReadersWait part local place = (r : Reading) → Contains (slice_index_or part.readers place []) r → waits local.waiting r.place ≡ true

-- what is left to do at most: a value that loses a bit makes at most all owned places wait
abbrev pub work_left : LocalValues → ℕ
work_left local = sum_by count_ones local.values * (length local.before + 1) + how_many local.waiting

-- One place got this value. An owned place that read a bit before and reads it no more waits. Who waited waits on, and there is no more to do.
pub record HasLowered (part : FragmentLists) (old new : LocalValues) (place value : ℕ) : Type 0 where
  pub values : new.values ≡ slice_set old.values place value
  pub before : new.before ≡ old.before
  pub counters : length new.counters ≡ length old.counters
  pub on : (q : ℕ) → waits old.waiting q ≡ true → waits new.waiting q ≡ true
  pub readers : (q m : ℕ) → q < length part.owned → IsTrue (is_read (slice_index_or part.readings q []) old.values m) →
      (waits new.waiting q ≡ true) ⊎ IsTrue (is_read (slice_index_or part.readings q []) new.values m)
  pub no_more : work_left new ≤ work_left old

abbrev pub LieBelow : List ℕ → List ℕ → Type 0
LieBelow ys xs = (q : ℕ) → Below Mask (slice_index ys q) (slice_index xs q)

-- Values of owned places fell, and none below supported values that lay below all of them.
pub record HasFallen (targets : List ℕ) (part : FragmentLists) (old new : LocalValues) : Type 0 where
  pub places : length new.values ≡ length old.values
  pub before : new.before ≡ old.before
  pub counters : length new.counters ≡ length old.counters
  pub below : LieBelow new.values old.values
  pub mirrors : (q : ℕ) → length part.owned ≤ q → slice_index new.values q ≡ slice_index old.values q
  pub above : (ys : List ℕ) → AreSupported targets part ys → LieBelow ys old.values → LieBelow ys new.values
