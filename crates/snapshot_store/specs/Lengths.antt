-- How long the images of a call may get, whatever is pending.
use Rattle.std.specs.Prelude.{ℕ, ◌≤◌, List, length}
use Rattle.grape_disk.specs.Images.{Leaves}

-- where a crash before the call leaves no more than so many bytes, a crash at a moment of the call leaves no more either
abbrev pub StaysWithin : {D : Type 0} → (D → ℕ → List ℕ → Type 0) → (D → ℕ) → ℕ → D → D → Type 0
StaysWithin images moment most old new =
    ((c : List ℕ) → images old (moment old) c → length c ≤ most) → Leaves images moment old new (λ c. length c ≤ most)
