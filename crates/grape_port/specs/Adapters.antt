-- What an adapter of std's readers and writers holds.
use Rattle.std.specs.Prelude.{ℕ}

-- the reader or writer, and how many of its calls have failed
pub record Adapter (Inner : Type 0) : Type 0 where
  pub inner : Inner
  pub faults : ℕ
