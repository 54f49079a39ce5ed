-- What a run under the lock begins with.
use Rattle.std.proofs.Common.{◌≡◌, ℕ, ◌<◌, ◌≤◌, refl, sym, ◌∙◌, ap, subst, arith, false, List, [], ◌∷◌, ◌++◌, length, map, take, replicate, slice_index_or}
use Rattle.std.proofs.lemmas.Simd.{splat_is_map}
use Rattle.std.proofs.lemmas.List.{map-append, take_all, nil_from_length, get_or-replicate, length-append}
use Rattle.graph_core.specs.declared.job.Job.{Job}
use Rattle.graph_core.specs.Parts.{FragmentLists}
use Rattle.graph_core.specs.Queries.{equations_of}
use Rattle.graph_core.specs.Fragments.{numbers_below, piece_of, fragment_of, fragments_of}
use Rattle.pie_core.specs.Solutions.{starts_of}
use Rattle.value_order.specs.declared.TheConstants.{NOTHING}
use Rattle.token_cut.specs.declared.phase.Phase.TheVariants.{Fresh}
use Rattle.token_cut.specs.Parts.{PartValues, SnapshotParts}
use Rattle.base_machine.specs.Machine.{system_of, fresh_part, fresh_snapshot}
use Rattle.atomic_table.specs.Seated.{TableId}
use Rattle.noted_lock.specs.declared.seat.LockSeat.{LockSeat}
use Rattle.noted_lock.specs.Sights.{IsSeat, AreSeats}
use Rattle.hub_engine.specs.Calls.{Begins}
use Rattle.grape_hub.specs.declared.lane_record.LaneRecord.{LaneRecord}
use Rattle.grape_hub.specs.LanedHub.{LanedHub, is_out_at, no_record, new_lanes, IsLanedHub}
use Rattle.grape_hub.specs.Notes.{ground_of, ground_in, note_of, HasNoWork}
use Rattle.grape_hub.specs.Theorems.{NotesBegin, EmptyIsFree}
use Rattle.lane_loop.specs.Meetings.{part_of, MayTakeTurn}

-- ---- the fresh snapshot

pub part_made : (job : Job) (part : FragmentLists) (values mail owned mirrors : List ℕ) → owned ≡ starts_of (equations_of job) part.owned → mirrors ≡ starts_of (equations_of job) part.mirrors → values ≡ owned ++ mirrors →
    mail ≡ replicate (length part.mirrors) NOTHING → ◌≡◌ {A = PartValues} (record { phase = Fresh; values = values; mail = mail }) (part_of job part)
part_made job part values mail owned mirrors a b made none =
    let v : values ≡ starts_of (equations_of job) (part.owned ++ part.mirrors) =
    made ∙ ((λ t. a t ++ b t) ∙ sym (map-append (equations_of job).start part.owned part.mirrors)) in
    let m : mail ≡ map (λ u. NOTHING) part.mirrors = none ∙ splat_is_map part.mirrors (length part.mirrors) NOTHING refl in
    λ t. record { phase = Fresh; values = v t; mail = m t }

parts_begin : (job : Job) (is : List ℕ) → map (part_of job) (map (fragment_of job) is) ≡ map (fresh_part (equations_of job)) (map (piece_of job) is)
parts_begin job [] = refl
parts_begin job (i ∷ is) = ap (λ (ps : List PartValues). fresh_part (equations_of job) (piece_of job i) ∷ ps) (parts_begin job is)

pub begun_with : (job : Job) (fragments : List FragmentLists) (parts : List PartValues) (k : ℕ) → fragments ≡ fragments_of job → length fragments ≤ k → parts ≡ map (part_of job) (take k fragments) →
    parts ≡ (fresh_snapshot (system_of job)).parts
begun_with job fragments parts k all past made =
    made ∙ (ap (map (part_of job)) (take_all k fragments past) ∙ (ap (map (part_of job)) all ∙ parts_begin job (numbers_below job.settings.fragments)))

-- ---- the seats

-- three seats, taken from the end
pub three_are : (all two one none : List LockSeat) (a b c : LockSeat) → length all ≡ 3 → all ≡ two ++ c ∷ [] → two ≡ one ++ b ∷ [] → one ≡ none ++ a ∷ [] → all ≡ a ∷ b ∷ c ∷ []
three_are all two one none a b c three last middle first =
    let n = ap (λ (s : List LockSeat). length s) last ∙ length-append two (c ∷ []) in
    let m = ap (λ (s : List LockSeat). length s) middle ∙ length-append one (b ∷ []) in
    let l = ap (λ (s : List LockSeat). length s) first ∙ length-append none (a ∷ []) in
    let e = nil_from_length none (omega (arith, three, n, m, l)) in
    last ∙ ap (λ (s : List LockSeat). s ++ c ∷ []) (middle ∙ ap (λ (s : List LockSeat). s ++ b ∷ []) (first ∙ ap (λ (s : List LockSeat). s ++ a ∷ []) e))

-- ---- a lane of a hub that has done nothing yet

record IsNewNote (job : Job) (start : SnapshotParts) (note : List ℕ) : Type 0 where
  ground : ground_in note ≡ ground_of job start
  empty : HasNoWork note

new_note : NotesBegin → EmptyIsFree → (x : LanedHub) (job : Job) (counters : ℕ) (start : SnapshotParts) → IsLanedHub x → Begins job counters start x.hub → x.lanes ≡ new_lanes job.settings.lanes → 0 < job.settings.lanes → IsNewNote job start (note_of x 0)
new_note begin free x job counters start stands begins lanes some =
    let out : is_out_at x 0 ≡ false = ap (λ (ls : List LaneRecord). (slice_index_or ls 0 no_record).out) lanes ∙ ap (λ (r : LaneRecord). r.out) (get_or-replicate job.settings.lanes 0 no_record no_record some) in
    record {
      ground = begin x 0 ∙ (ap (λ (j : Job). ground_of j x.hub.start) begins.0 ∙ ap (λ (s : SnapshotParts). ground_of job s) begins.3);
      empty = (free x 0 stands (subst (λ (j : Job). 0 < j.settings.lanes) (sym begins.0) some)).1 out;
    }

-- a seat of the lock of such a hub
pub may_turn : NotesBegin → EmptyIsFree → (x : LanedHub) (job : Job) (counters : ℕ) (start : SnapshotParts) (lock : TableId) (IsFor : Job → Type 0) (fragments : List FragmentLists) (seats : List LockSeat) (lane : ℕ) (seat : LockSeat) →
    IsLanedHub x → Begins job counters start x.hub → x.lanes ≡ new_lanes job.settings.lanes → fragments ≡ fragments_of job → IsFor job → lane < job.settings.lanes → AreSeats lock 3 (note_of x 0) seats → lane < 3 → slice_index_or seats lane seat ≡ seat →
    MayTakeTurn lock IsFor fragments lane seat
may_turn begin free x job counters start lock IsFor fragments seats lane seat stands begins lanes parts is_for l are few at =
    let is : IsSeat lock 3 lane (note_of x 0) seat = subst (λ (s : LockSeat). IsSeat lock 3 lane (note_of x 0) s) at (are.1 lane seat few) in
    let new = new_note begin free x job counters start stands begins lanes (omega (arith, l)) in
    record {
      of_lock = is.0;
      numbered = is.2;
      of_job = (job, start, ap ground_in is.3 ∙ new.ground, parts, is_for, l);
      empty = subst HasNoWork (sym is.3) new.empty;
    }
