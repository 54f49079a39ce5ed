-- The newest and the oldest of some arrivals.
use Rattle.std.proofs.Common.{◌≡◌, ◌≤◌, ℕ, ◌-◌, List, [], ◌∷◌, length, ap, sym, ◌∙◌, refl, arith}
use Rattle.std.specs.Prelude.{Some, slice_get}
use Rattle.std.proofs.lemmas.Option.{same_Some, none-some}
use Rattle.legal_journal.specs.Delays.{oldest_of}
use Rattle.delay_stretch.specs.Arrivals.{AreNewestFirst}

oldest_of-le : (a : ℕ) (before : List ℕ) → AreNewestFirst (a ∷ before) → oldest_of a before ≤ a
oldest_of-le a [] h = omega arith
oldest_of-le a (x ∷ before) h = omega (arith, h.0, oldest_of-le x before h.1)

last-is-oldest : (a : ℕ) (before : List ℕ) → slice_get (a ∷ before) (length before) ≡ Some (oldest_of a before)
last-is-oldest a [] = refl
last-is-oldest a (x ∷ before) = last-is-oldest x before

pub last-le-first : (arrivals : List ℕ) (newest oldest : ℕ) → AreNewestFirst arrivals → Some newest ≡ slice_get arrivals 0 → Some oldest ≡ slice_get arrivals (length arrivals - 1) → oldest ≤ newest
last-le-first [] newest oldest h n o = absurd (none-some newest (sym n))
last-le-first (a ∷ before) newest oldest h n o =
    omega (arith, oldest_of-le a before h, same_Some newest a n, same_Some oldest (oldest_of a before) (o ∙ ap (slice_get (a ∷ before)) last ∙ last-is-oldest a before))
  where
    last : length (a ∷ before) - 1 ≡ length before
    last = omega arith
