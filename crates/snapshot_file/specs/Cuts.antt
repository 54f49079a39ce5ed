-- The bytes of a list that lie in a piece.
use Rattle.std.specs.Prelude.{◌≡◌, ℕ, List, ◌++◌, take, drop, length}

-- A piece whose first place is that one of a list holds the list's bytes from there on, so many of them, and behind them what it held.
pub record Puts (bytes : List ℕ) (from : ℕ) (old new : List ℕ) (count : ℕ) : Type 0 where
  pub many : count ≡ length (take (length old) (drop from bytes))
  pub put : new ≡ take (length old) (drop from bytes) ++ drop count old
