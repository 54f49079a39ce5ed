-- How a run ends that the lanes have left.
use Rattle.std.proofs.Common.{◌≡◌, ℕ, Bool, not, ◌&&◌, ◌==◌, arith, true, false, IsTrue, refl, sym, ◌∙◌, ap, subst, List, [], ◌∷◌, reverse, Option, Some, None}
use Rattle.std.proofs.lemmas.Bool.{and_parts, false≢true}
use Rattle.graph_core.specs.declared.job.Job.{Job}
use Rattle.grape_event.specs.declared.event.Event.{Event}
use Rattle.grape_event.specs.declared.event.Event.TheVariants.{Seal, End, Stop}
use Rattle.grape_event.specs.declared.event.StopCause.{StopCause}
use Rattle.token_cut.specs.Parts.{SnapshotParts}
use Rattle.base_machine.specs.Machine.{System}
use Rattle.legal_journal.specs.Past.{has_ended, last_epoch, recording_is_open, all_are_marked}
use Rattle.legal_journal.specs.Legal.{State, start_state, state_after, worker_count, row_admits, is_admitted, are_admitted}
use Rattle.legal_journal.specs.Cuts.{snapshots_from}
use Rattle.recovery.specs.Crashes.{kept_epochs, epochs_of, Survives, MayKeep}
use Rattle.recovery.specs.declared.kept_at.KeptAt.{KeptAt}
use Rattle.hub_engine.specs.HubValues.{HubValues}
use Rattle.hub_engine.specs.States.{machine, state_of, sealed_epoch, IsHub}
use Rattle.hub_engine.specs.Calls.{Appended}
use Rattle.hub_engine.proofs.Snapshots.{SnapshotsAreInTurn, turn_kept, begins_in_turn}
use Rattle.grape_hub.specs.Notes.{is_stopped_by_disk}
use Rattle.grape_hub.specs.Theorems.{KeptsFollowSeals, NothingIsSealed}
use Rattle.coordinator.specs.Shapes.{shape_of}
use Rattle.coordinator.specs.Runs.{EndsBy}
use Rattle.coordinator.specs.Keeping.{cuts_in, last_in, IsOver, ComesTo}
use Rattle.coordinator.specs.Leaving.{IsWaiting, LeavesHub}
use Rattle.coordinator.specs.Visits.{Finishes}
use Rattle.coordinator.specs.declared.keeper.Keeper.{Keeper}
use Rattle.coordinator.specs.declared.leave.Leave.{Leave}
use Rattle.coordinator.specs.declared.leave.Leave.TheVariants.{AllKept, Waits}
use Rattle.coordinator.proofs.Going.{stayed_same, stayed_after, noted_by, over_stays}
use Rattle.coordinator.proofs.Visits.{disk_is_cause}
use Rattle.coordinator.proofs.Ends.{nothing_waits_at_end}

none_or_one : (waiting : ℕ) → None ≡ Some waiting → ⊥
none_or_one waiting h = false≢true (ap {B = Bool} waits_in h)
  where
    waits_in : Option ℕ → Bool
    waits_in None = false
    waits_in (Some epoch) = true

-- where an epoch waits the run doesn't end by End
waits_no_end : (h : HubValues) (waiting : ℕ) → IsHub h → sealed_epoch (state_of h).past ≡ Some waiting → EndsBy End h.journal.events → ⊥
waits_no_end h waiting hub waits ends = none_or_one waiting (sym (nothing_waits_at_end h hub ends) ∙ waits)

row_of : (sys : System) (s : State) (e : Event) → IsTrue (is_admitted sys s e) → IsTrue (row_admits sys s e)
row_of sys s e h = (and_parts (not (has_ended s.past)) (row_admits sys s e) h).1

-- without snapshots nothing is sealed
seals_none : (sys : System) → sys.settings.snapshot ≡ 0 → (journal : List Event) (s : State) → IsTrue (are_admitted sys s journal) → SnapshotsAreInTurn sys s → snapshots_from sys s journal ≡ []
seals_none sys none [] s h p = refl
seals_none sys none (Seal d ∷ journal) s h p =
    let row = row_of sys s (Seal d) (and_parts (is_admitted sys s (Seal d)) _ h).0 in
    let open_now = (and_parts (recording_is_open s.past) (all_are_marked (worker_count s) s.past) (and_parts (recording_is_open s.past && all_are_marked (worker_count s) s.past) (d == last_epoch s.start.epoch s.past) row).0).0 in
    let asked = p.asked open_now in
    absurd (omega (arith, asked, none))
seals_none sys none (e ∷ journal) s h p =
    let two = and_parts (is_admitted sys s e) _ h in
    seals_none sys none journal (state_after sys s e) two.1 (turn_kept sys s e (row_of sys s e two.0) p)

cuts_none : (h : HubValues) → IsHub h → h.job.settings.snapshot ≡ 0 → cuts_in h ≡ []
cuts_none h hub none = seals_none (machine h) none h.journal.events (start_state h.start) hub.legal (begins_in_turn (machine h) h.start)

noted_none : (kept : List KeptAt) → kept_epochs kept ≡ [] → kept ≡ []
noted_none [] h = refl
noted_none (k ∷ kept) h = absurd (cc h)

module _ {D : Type 0} (content : D → Option (List ℕ)) (images : D → ℕ → List ℕ → Type 0) (moment faults : D → ℕ) (honest : D → Bool) (job : Job) where
  -- without snapshots the lanes kept none
  pub leaves_none : NothingIsSealed → (h : HubValues) (leave : Leave) (keeper_old keeper : Keeper) (old new : D) → IsHub h → h.job.settings.snapshot ≡ 0 → LeavesHub content images moment faults honest job keeper_old old leave h keeper new → keeper.kept.items ≡ []
  leaves_none nothing h AllKept keeper_old keeper old new hub none so = noted_none keeper.kept.items (so.0.kept.noted ∙ ap (λ (cs : List SnapshotParts). epochs_of cs) (cuts_none h hub none))
  leaves_none nothing h (Waits cause) keeper_old keeper old new hub none so = absurd (none_or_one so.0 (sym (nothing h hub none).0 ∙ so.1))

  -- the journal had ended
  pub finishes_ended : KeptsFollowSeals → (h : HubValues) (leave : Leave) (keeper : Keeper) (disk : D) → IsHub h → Finishes content images moment faults honest job leave h keeper disk h keeper.kept.items disk
  finishes_ended follow h AllKept keeper disk hub keeper_old old so used digest =
      let over = over_stays follow h h keeper (faults old) hub (stayed_same h h refl) so.0.disk so.0 in
      (subst (λ (n : ℕ). IsOver h keeper.kept.items (faults old) n) (sym so.1) over, λ here file began m. (so.2 here file began m).survives)
  finishes_ended follow h (Waits cause) keeper disk hub keeper_old old so used digest = (
    record {
      noted = noted_by follow h so.0 keeper.kept.items hub so.1 so.2.noted;
      disk = so.2.was_stopped;
      done = λ ends. absurd (waits_no_end h so.0 hub so.1 ends);
    },
    so.3,
  )

  -- the run went on alone
  pub finishes_alone : (h h_new : HubValues) (keeper : Keeper) (kept : List KeptAt) (mid new : D) → IsOver h_new kept (faults mid) (faults new) → (IsTrue (honest mid) → ComesTo content images moment job (cuts_in h) keeper mid (cuts_in h_new) kept new) →
      Finishes content images moment faults honest job AllKept h keeper mid h_new kept new
  finishes_alone h h_new keeper kept mid new over comes keeper_old old so used digest = (
    subst (λ (n : ℕ). IsOver h_new kept n (faults new)) so.1 over,
    λ here file began m.
        let went : ComesTo content images moment job (cuts_in h) keeper mid (cuts_in h_new) kept new = comes (used.honest_stays ∙ here) in
        subst (λ (ns : List ℕ). Survives images moment (shape_of job) ns (cuts_in h_new) kept file began new) digest
        (went file began (subst (λ (ns : List ℕ). MayKeep content images moment (shape_of job) ns (cuts_in h) keeper.kept.items file (last_in keeper.store) began mid) (sym digest) (so.2 here file began m))),
  )

  -- the run was stopped
  pub finishes_stopped : KeptsFollowSeals → (h h_new : HubValues) (cause : StopCause) (keeper : Keeper) (disk : D) → IsHub h_new → Appended h (Stop cause) h_new →
      Finishes content images moment faults honest job (Waits cause) h keeper disk h_new keeper.kept.items disk
  finishes_stopped follow h h_new cause keeper disk hub more keeper_old old so used digest =
      let stays = stayed_after h h_new (Stop cause) more refl in
      let waits = stays.waits ∙ so.1 in
      let is : IsWaiting cause so.0 (is_stopped_by_disk (reverse h.journal.events)) (cuts_in h_new) keeper.kept.items (faults old) (faults disk) =
      subst (λ (cs : List SnapshotParts). IsWaiting cause so.0 (is_stopped_by_disk (reverse h.journal.events)) cs keeper.kept.items (faults old) (faults disk)) (sym stays.cuts) so.2 in (
        record {
          noted = noted_by follow h_new so.0 keeper.kept.items hub waits is.noted;
          disk = λ stopped. is.by_disk (disk_is_cause h h_new cause more stopped);
          done = λ ends. absurd (waits_no_end h_new so.0 hub waits ends);
        },
        λ here. subst (λ (cs : List SnapshotParts). ComesTo content images moment job [] keeper_old old cs keeper.kept.items disk) (sym stays.cuts) (so.3 here),
      )
