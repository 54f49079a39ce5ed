-- The sizes of what is recorded.
use Rattle.std.specs.Prelude.{◌≡◌, ◌↔◌, ℕ, List}
use Rattle.token_cut.specs.Parts.{PartValues}
use Rattle.token_cut.specs.Shapes.{PartStarts, Starts, HaveShape, sizes_of, sizes_in}
use Rattle.token_cut.specs.CutValues.{CutValues}
use Rattle.token_cut.specs.Recording.{new_cut}
use Rattle.token_cut.specs.Late.{lowered_by}
use Rattle.token_cut.specs.Steps.{Step, after_step, IsAllowed}

pub record SizesStay : Type 0 where
  -- parts have a shape where they have its sizes
  pub shape : (starts : List PartStarts) (parts : List PartValues) → HaveShape starts parts ↔ (sizes_of parts ≡ sizes_in starts)
  -- what is recorded has the sizes of the shape from the first, and keeps them
  pub new : (shape : Starts) → sizes_of (new_cut shape).parts ≡ sizes_in shape.parts
  pub step : (step : Step) (c : CutValues) → IsAllowed step c → sizes_of (after_step step c).parts ≡ sizes_of c.parts
  pub lowered : (came : ℕ → ℕ → List ℕ) (c : CutValues) → sizes_of (lowered_by came c).parts ≡ sizes_of c.parts
