-- Arrivals at a worker, as clocks, newest first.
use Rattle.std.specs.Prelude.{ℕ, ◌≤◌, List, [], ◌∷◌, ⊤}

-- this clock isn't below that of the last arrival, where there is one
abbrev pub IsNotBelowLast : ℕ → List ℕ → Type 0
IsNotBelowLast clock [] = ⊤
IsNotBelowLast clock (last ∷ before) = last ≤ clock

-- each arrival isn't below the one before it
abbrev pub AreNewestFirst : List ℕ → Type 0
AreNewestFirst [] = ⊤
AreNewestFirst (a ∷ before) = IsNotBelowLast a before × AreNewestFirst before
