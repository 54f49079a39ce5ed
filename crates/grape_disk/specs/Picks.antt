-- The image that is picked of all that a crash may leave.
use Rattle.std.specs.Prelude.{ℕ, ◌+◌, ◌%◌, ◌==◌, Bool, true, List, length, map, if◌then◌else◌, slice_index, slice_index_or}
use Rattle.std.specs.List.{range_with_len}
use Rattle.grape_disk.specs.Platters.{PlatterState}
use Rattle.grape_disk.specs.declared.pick.Pick.{Pick}
use Rattle.grape_disk.specs.declared.pick.Pick.TheVariants.{Synced, Read, Mixed}

-- at a pending place a byte by its number, elsewhere the stable one
abbrev pub mixed_byte : ℕ → List Bool → List ℕ → ℕ → ℕ
mixed_byte n pending stable place = if slice_index_or pending place true then (n + place) % 256 else slice_index stable place

-- the length of a read for an even number, the stable one for an odd one
abbrev pub mixed_length : ℕ → PlatterState → ℕ
mixed_length n p = if n % 2 == 0 then length p.read else length p.stable

abbrev pub picked : Pick → PlatterState → List ℕ
picked Synced p = p.stable
picked Read p = p.read
picked (Mixed n) p = map (mixed_byte n p.pending p.stable) (range_with_len 0 (mixed_length n p))
