-- A list of lists, kept as the list of all items and the offsets at which the rows begin and the last one ends.
use Rattle.std.specs.Prelude.{◌≡◌, ℕ, ◌+◌, ◌-◌, ◌<◌, List, map, length, slice_index, slice_range}
use Rattle.std.specs.List.{range_with_len}
use Rattle.std.specs.List.Sorted.{IsNonDecreasing}

-- The offsets of rows over this many items: they do not fall, the first is 0 and the last the count of the items.
pub record AreOffsets (offsets : List ℕ) (count : ℕ) : Type 0 where
  pub some : 0 < length offsets
  pub first : slice_index offsets 0 ≡ 0
  pub rising : IsNonDecreasing offsets
  pub last : slice_index offsets (length offsets - 1) ≡ count

-- row i: the items from offset i up to the next one
abbrev pub row_at : {T : Type 0} → List T → List ℕ → ℕ → List T
row_at items offsets i = slice_range items (slice_index offsets i) (slice_index offsets (i + 1))

-- the rows, one fewer than the offsets
abbrev pub rows_at : {T : Type 0} → List T → List ℕ → List (List T)
rows_at items offsets = map (row_at items offsets) (range_with_len 0 (length offsets - 1))
