-- What evaluation after a Take is given.
use Rattle.std.specs.Prelude.{◌≡◌, ℕ, Bool, false, length}
use Rattle.graph_core.specs.declared.job.Job.{Job}
use Rattle.graph_core.specs.Graphs.{IsJob}
use Rattle.graph_core.specs.Parts.{FragmentLists}
use Rattle.graph_core.specs.Equations.{Equations}
use Rattle.message_buffer.specs.HandValues.{HandValues}
use Rattle.pie_core.specs.Locals.{LocalValues}
use Rattle.pie_core.specs.Solutions.{IsReadyFor, OwnEquationsHold}

-- The fragment of a job within its limits is ready to be evaluated, its owned values lie below their own equations where they aren't fresh, and the hand has a value for each mirror.
pub record MayEvaluate (e : Equations) (job : Job) (part : FragmentLists) (fresh : Bool) (local : LocalValues) (counters : ℕ) (hand : HandValues) : Type 0 where
  pub is_job : IsJob job
  pub ready : IsReadyFor e job part local counters
  pub solved : fresh ≡ false → OwnEquationsHold e part.owned part.mirrors local.values
  pub mirrors : length hand.values ≡ length part.mirrors
