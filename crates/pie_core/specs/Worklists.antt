-- What is left of a set of places where one is taken.
use Rattle.std.specs.Prelude.{◌≡◌, ℕ, Bool, true, false, List, slice_set, Option, Some, None}
use Rattle.pie_core.specs.PlaceSets.{waits}

-- the place that was taken had waited, and the others wait on
abbrev pub LosesOne : List Bool → Option ℕ → List Bool → Type 0
LosesOne old None new = new ≡ old
LosesOne old (Some place) new = (waits old place ≡ true) × (new ≡ slice_set old place false)
