-- The owned places whose values aren't those of before, and a list of them that is kept.
use Rattle.std.specs.Prelude.{◌≡◌, ℕ, ◌==◌, not, Bool, true, false, List, [], length, slice_index, IsPermutation}
use Rattle.std.specs.List.{filter, range_with_len}

-- whether the value of a place isn't that of before
abbrev pub has_fallen : List ℕ → List ℕ → ℕ → Bool
has_fallen before values place = not (slice_index before place == slice_index values place)

-- the owned places whose values aren't those of before, in rising order
abbrev pub fallen_since : List ℕ → List ℕ → List ℕ
fallen_since before values = filter (has_fallen before values) (range_with_len 0 (length before))

-- a list of places, whether it is kept, and whether it is in rising order too
pub record FallenList : Type 0 where
  pub places : List ℕ
  pub is_kept : Bool
  pub is_sorted : Bool

abbrev pub none_fallen : FallenList
none_fallen = record { places = []; is_kept = true; is_sorted = false }

-- Where the list is kept it has each place that fell, once.
pub record ListsFallen (before values : List ℕ) (list : FallenList) : Type 0 where
  pub kept : list.is_kept ≡ true → IsPermutation (fallen_since before values) list.places
  pub sorted : list.is_sorted ≡ true → list.places ≡ fallen_since before values
