-- The sizes of a job's snapshots are those of its fragments.
use Rattle.std.proofs.Common.{◌≡◌, ℕ, ◌+◌, refl, ◌∙◌, ap, arith, List, [], ◌∷◌, ◌++◌, length, map, Result, Ok, Err, IfOk}
use Rattle.std.specs.List.{AllZip}
use Rattle.std.proofs.lemmas.List.{length-append, length-map, length-replicate}
use Rattle.value_order.specs.declared.TheConstants.{NOTHING}
use Rattle.value_order.specs.declared.order.Order.{Order}
use Rattle.graph_core.specs.declared.job.Job.{Job}
use Rattle.graph_core.specs.Queries.{equations_of}
use Rattle.graph_core.specs.Fragments.{places, numbers_below, owned_of, mirrors_of, piece_of, fragment_of}
use Rattle.token_cut.specs.Parts.{PartValues, SnapshotParts}
use Rattle.token_cut.specs.Shapes.{PartStarts, Starts, sizes_of, sizes_in, fresh_part, fresh_snapshot}
use Rattle.token_cut.specs.Form.{IsPartInSlotForm, IsInSlotForm}
use Rattle.hub_engine.proofs.Hubs.{zipped_length}
use Rattle.coordinator.specs.Shapes.{starts_in, shape_of}
use Rattle.coordinator.specs.Keeping.{HasSizesFor}

shape_sizes : (job : Job) (is : List ℕ) → sizes_in (map (starts_in job) (map (fragment_of job) is)) ≡ map (λ piece. (length (places piece), length piece.mirrors)) (map (piece_of job) is)
shape_sizes job [] = refl
shape_sizes job (i ∷ is) =
    let start = (equations_of job).start in
    let mirrors = length-map (mirrors_of job i) start in
    let owned = length-map (owned_of job i) start in
    let all = length-append (owned_of job i) (mirrors_of job i) in
    let more = shape_sizes job is in
    let here : length (map start (owned_of job i)) + length (map start (mirrors_of job i)) ≡ length (owned_of job i ++ mirrors_of job i) = omega (arith, mirrors, owned, all) in
    λ t. (here t, mirrors t) ∷ more t

formed_sizes : (o : Order) (shape : List PartStarts) (parts : List PartValues) → AllZip (IsPartInSlotForm o) shape parts → sizes_of parts ≡ sizes_in shape
formed_sizes o [] [] h = refl
formed_sizes o [] (part ∷ parts) h = absurd h
formed_sizes o (starts ∷ shape) [] h = absurd h
formed_sizes o (starts ∷ shape) (part ∷ parts) h =
    let values = zipped_length _ part.values (starts.owned ++ starts.mirrors) h.0.values ∙ length-append starts.owned starts.mirrors in
    let mail = zipped_length _ part.mail starts.mirrors h.0.mail in
    let more = formed_sizes o shape parts h.1 in
    λ i. (values i, mail i) ∷ more i

-- a snapshot in the form of a slot has the sizes
pub slot_sizes : (job : Job) (slot : ℕ) (s : SnapshotParts) → IsInSlotForm (shape_of job) slot s → HasSizesFor job s
slot_sizes job slot s form asked = formed_sizes (equations_of job).order (shape_of job).parts s.parts form.parts ∙ shape_sizes job (numbers_below job.settings.fragments)

fresh_sizes : (shape : List PartStarts) → sizes_of (map fresh_part shape) ≡ sizes_in shape
fresh_sizes [] = refl
fresh_sizes (starts ∷ shape) =
    let values = length-append starts.owned starts.mirrors in
    let mail = length-replicate (length starts.mirrors) NOTHING in
    let more = fresh_sizes shape in
    λ i. (values i, mail i) ∷ more i

-- and so has the fresh one
pub room_is_made : {E : Type 0} (job : Job) (shape : Starts) (r : Result SnapshotParts E) → shape ≡ shape_of job → IfOk r (λ s. s ≡ fresh_snapshot shape) → IfOk r (HasSizesFor job)
room_is_made job shape (Ok s) same made =
    λ asked. ap (λ (x : SnapshotParts). sizes_of x.parts) made ∙ (fresh_sizes shape.parts ∙ (ap (λ (x : Starts). sizes_in x.parts) same ∙ shape_sizes job (numbers_below job.settings.fragments)))
room_is_made job shape (Err e) same made = tt
