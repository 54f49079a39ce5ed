-- The fresh snapshot of a job's shape is the one with which a run begins.
use Rattle.std.proofs.Common.{◌≡◌, inl, inr, ℕ, ◌%◌, sym, refl, ◌∙◌, ap, subst, List, [], ◌∷◌, length, map}
use Rattle.std.proofs.lemmas.List.{map-append, length-map}
use Rattle.std.proofs.lemmas.Simd.{splat_is_map}
use Rattle.value_order.specs.declared.TheConstants.{NOTHING}
use Rattle.graph_core.specs.declared.job.Job.{Job}
use Rattle.graph_core.specs.Queries.{equations_of}
use Rattle.graph_core.specs.Fragments.{numbers_below, owned_of, mirrors_of, piece_of, fragment_of}
use Rattle.token_cut.specs.declared.phase.Phase.TheVariants.{Fresh}
use Rattle.token_cut.specs.Parts.{SnapshotParts}
use Rattle.token_cut.specs.Shapes.{Starts}
use Rattle.token_cut.specs.Shapes as shapes
use Rattle.base_machine.specs.Machine.{system_of, fresh_part, fresh_snapshot}
use Rattle.base_machine.specs.Fitness.{IsInForm}
use Rattle.grape_hub.specs.Theorems.{FreshIsAStart}
use Rattle.coordinator.specs.Shapes.{starts_in, shape_of, ShapesBeginRuns, FormsAgree, EntriesMayBegin}

part_begins : (job : Job) (i : ℕ) → shapes.fresh_part (starts_in job (fragment_of job i)) ≡ fresh_part (equations_of job) (piece_of job i)
part_begins job i =
    let start = (equations_of job).start in
    let values = sym (map-append start (owned_of job i) (mirrors_of job i)) in
    let mail = splat_is_map (mirrors_of job i) (length (map start (mirrors_of job i))) NOTHING (sym (length-map (mirrors_of job i) start)) in
    λ t. record { phase = Fresh; values = values t; mail = mail t }

parts_begin : (job : Job) (is : List ℕ) → map shapes.fresh_part (map (starts_in job) (map (fragment_of job) is)) ≡ map (fresh_part (equations_of job)) (map (piece_of job) is)
parts_begin job [] = refl
parts_begin job (i ∷ is) = λ t. part_begins job i t ∷ parts_begin job is t

pub shapes_begin_runs : ShapesBeginRuns
shapes_begin_runs job = λ t. record { epoch = 0; parts = parts_begin job (numbers_below job.settings.fragments) t }

-- what is made of the shape of a job begins its run
pub begun_fresh : (job : Job) (shape : Starts) (start : SnapshotParts) → shape ≡ shape_of job → start ≡ shapes.fresh_snapshot shape → start ≡ fresh_snapshot (system_of job)
begun_fresh job shape start same made = made ∙ (ap (λ (s : Starts). shapes.fresh_snapshot s) same ∙ shapes_begin_runs job)

pub entries_may_begin : FreshIsAStart → ShapesBeginRuns → FormsAgree → EntriesMayBegin
entries_may_begin fresh begins agree job is start (inl same) = subst (λ (s : SnapshotParts). IsInForm (system_of job) s) (sym (same ∙ begins job)) (fresh job is).0
entries_may_begin fresh begins agree job is start (inr form) = ((agree job is (start.epoch % 2) start).0 form).1
