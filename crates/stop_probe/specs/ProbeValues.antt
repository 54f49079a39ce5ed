-- What contracts see of a probe.
use Rattle.std.specs.Prelude.{ℕ, Bool, List}

-- The number of workers, whose flags are up, whether there was an Ask and a Nack since the last one, and which workers have answered it with Ack and took since it. The lists have an entry a worker.
pub record ProbeValues : Type 0 where
  pub workers : ℕ
  pub flags : List Bool
  pub asked : Bool
  pub nacked : Bool
  pub answered : List Bool
  pub took : List Bool
