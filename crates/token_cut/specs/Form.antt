-- Which snapshots a state file may hold in a slot.
use Rattle.std.specs.Prelude.{◌≡◌, ◌⊎◌, ℕ, ◌%◌, ◌^◌, ◌<◌, ◌≤◌, ◌++◌}
use Rattle.std.specs.List.{AllZip, AllByRecursion}
use Rattle.value_order.specs.Order.{Below}
use Rattle.value_order.specs.declared.TheConstants.{NOTHING}
use Rattle.value_order.specs.declared.order.Order.{Order}
use Rattle.token_cut.specs.declared.phase.Phase.TheVariants.{Fresh}
use Rattle.token_cut.specs.Parts.{PartValues, SnapshotParts}
use Rattle.token_cut.specs.Shapes.{PartStarts, Starts}

-- from 1 to 2 ^ 62 - 1, even in slot 0 and odd in slot 1
pub record IsEpoch (slot n : ℕ) : Type 0 where
  pub from : 1 ≤ n
  pub to : n < 2 ^ 62
  pub parity : n % 2 ≡ slot

-- The values of a worker's own vertices and of its mirrors lie below their start values, and are these in a part that has not begun.
-- The mail of a mirror is NOTHING or lies below its start value. Each number has 64 bits.
pub record IsPartInSlotForm (order : Order) (starts : PartStarts) (part : PartValues) : Type 0 where
  pub values : AllZip (Below order) part.values (starts.owned ++ starts.mirrors)
  pub fresh : part.phase ≡ Fresh → part.values ≡ starts.owned ++ starts.mirrors
  pub mail : AllZip (λ x top. (x ≡ NOTHING) ⊎ Below order x top) part.mail starts.mirrors
  pub numbers : AllByRecursion (λ x. x < 2 ^ 64) (part.values ++ part.mail)

-- an epoch of that slot, and a part in the form for each of the shape
pub record IsInSlotForm (shape : Starts) (slot : ℕ) (snapshot : SnapshotParts) : Type 0 where
  pub epoch : IsEpoch slot snapshot.epoch
  pub parts : AllZip (IsPartInSlotForm shape.order) shape.parts snapshot.parts
