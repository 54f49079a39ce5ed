-- The shape of a job is that of its system.
use Rattle.std.proofs.Common.{◌≡◌, ℕ, refl, ap, List, [], ◌∷◌, map}
use Rattle.graph_core.specs.declared.job.Job.{Job}
use Rattle.graph_core.specs.Queries.{equations_of}
use Rattle.graph_core.specs.Fragments.{numbers_below, piece_of, fragment_of}
use Rattle.token_cut.specs.Shapes.{PartStarts}
use Rattle.base_machine.specs.Machine.{system_of}
use Rattle.base_machine.specs.Shapes.{piece_starts, system_shape}
use Rattle.coordinator.specs.Shapes.{starts_in, shape_of}

starts_are : (job : Job) (is : List ℕ) → map (piece_starts (equations_of job)) (map (piece_of job) is) ≡ map (starts_in job) (map (fragment_of job) is)
starts_are job [] = refl
starts_are job (i ∷ is) = ap (λ (parts : List PartStarts). starts_in job (fragment_of job i) ∷ parts) (starts_are job is)

pub shape_is : (job : Job) → system_shape (system_of job) ≡ shape_of job
shape_is job = λ t. record { order = (equations_of job).order; parts = starts_are job (numbers_below job.settings.fragments) t }
