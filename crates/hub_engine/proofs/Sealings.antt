-- What a hub's Seal leaves: a hub whose tables fit, and the sealed snapshot.
use Rattle.std.proofs.Common.{◌≡◌, ℕ, ◌+◌, ◌<◌, ◌≤◌, ◌==◌, true, false, not, ◌&&◌, if◌then◌else◌, IsTrue, refl, sym, ◌∙◌, ap, subst, arith, List, [], ◌∷◌, ◌++◌, length, reverse, map, ext_get_or, take, drop, append-nil, Option, Some, None}
use Rattle.std.specs.Option.{is_some}
use Rattle.std.proofs.lemmas.Bool.{and_parts, or_parts, eqb-true, eq-eqb, ne_eqb}
use Rattle.std.proofs.lemmas.List.{length-map, take_all, drop_all}
use Rattle.std.proofs.lemmas.List.Folds.{list_any-append}
use Rattle.graph_core.specs.Fragments.{Piece, places}
use Rattle.graph_core.specs.declared.job.Job.{Job}
use Rattle.grape_event.specs.declared.event.Event.{Event}
use Rattle.grape_event.specs.declared.event.Event.TheVariants.{Take, Give, Stretch, Hold, Flag, Ask, Ack, Nack, Begin, Mark, Seal, Kept, End, Stop}
use Rattle.token_cut.specs.Parts.{SnapshotParts, no_part}
use Rattle.token_cut.specs.Shapes.{size_of, sizes_of}
use Rattle.token_cut.specs.Recording.{is_complete, sealed_of}
use Rattle.base_machine.specs.Machine.{System, system_of}
use Rattle.legal_journal.specs.Past.{has_ended, last_epoch, recording_is_open, all_are_marked, was_sealed, is_seal_of}
use Rattle.legal_journal.specs.Past.{is_marked as was_marked}
use Rattle.legal_journal.specs.Legal.{State, start_state, state_after, state_after_all, worker_count, is_admitted, row_admits}
use Rattle.legal_journal.specs.Cuts.{sealed_from, sealed_snapshot}
use Rattle.legal_journal.proofs.Walks.{past_after, all_below}
use Rattle.legal_journal.proofs.Probes.{both}
use Rattle.hub_engine.specs.HubValues.{HubValues}
use Rattle.hub_engine.specs.States.{machine, state_of, sealed_epoch, works_out, events_owed, IsHub}
use Rattle.hub_engine.specs.declared.desk.Desk.{Desk}
use Rattle.hub_engine.specs.Desks.{Tables, TablesFit, folded_desk}
use Rattle.hub_engine.specs.Calls.{Appended, HasSizesOf}
use Rattle.hub_engine.proofs.Hubs.{piece_count, workers_are, hub_grown}
use Rattle.hub_engine.proofs.Snapshots.{snapshots_of}
use Rattle.hub_engine.proofs.Duties.{marked_is}
use Rattle.hub_engine.proofs.Marks.{recorded_count}
use Rattle.hub_engine.proofs.Takings.{moved}
use Rattle.hub_engine.proofs.Seals.{sealed_in, seal_fits}

-- ---- the first Seal of an epoch

-- what wasn't sealed after a journal wasn't sealed before it
unsealed_before : (sys : System) (epoch : ℕ) (journal : List Event) (s : State) → was_sealed epoch (state_after_all sys s journal).past ≡ false → was_sealed epoch s.past ≡ false
unsealed_before sys epoch journal s h =
    (or_parts (was_sealed epoch (reverse journal)) (was_sealed epoch s.past)
    (sym (list_any-append (is_seal_of epoch) (reverse journal) s.past) ∙ (ap (λ (past : List Event). was_sealed epoch past) (sym (past_after sys journal s)) ∙ h))).1

-- the snapshot of an epoch that a journal seals last, and not before, is what is recorded then
sealed_last : (sys : System) (epoch : ℕ) (journal : List Event) (s : State) → was_sealed epoch (state_after_all sys s journal).past ≡ false →
    sealed_from sys s epoch (journal ++ Seal epoch ∷ []) ≡ Some (record { epoch = epoch; parts = (state_after_all sys s journal).recorded })
sealed_last sys epoch [] s h = ap (λ b. if b then Some (record { epoch = epoch; parts = s.recorded }) else None) (eq-eqb epoch epoch refl)
sealed_last sys epoch (Seal d ∷ journal) s h =
    let t = state_after sys s (Seal d) in
    let other = (or_parts (epoch == d) (was_sealed epoch s.past) (unsealed_before sys epoch journal t h)).0 in
    let ne : (d == epoch) ≡ false = ne_eqb d epoch (λ e. both (eq-eqb epoch d (sym e)) other) in
    ap (λ b. if b then Some (record { epoch = epoch; parts = s.recorded }) else sealed_from sys t epoch (journal ++ Seal epoch ∷ [])) ne ∙ sealed_last sys epoch journal t h
sealed_last sys epoch (Take i k ∷ journal) s h = sealed_last sys epoch journal (state_after sys s (Take i k)) h
sealed_last sys epoch (Give i ∷ journal) s h = sealed_last sys epoch journal (state_after sys s (Give i)) h
sealed_last sys epoch (Stretch i n ∷ journal) s h = sealed_last sys epoch journal (state_after sys s (Stretch i n)) h
sealed_last sys epoch (Hold i ∷ journal) s h = sealed_last sys epoch journal (state_after sys s (Hold i)) h
sealed_last sys epoch (Flag i ∷ journal) s h = sealed_last sys epoch journal (state_after sys s (Flag i)) h
sealed_last sys epoch (Ask ∷ journal) s h = sealed_last sys epoch journal (state_after sys s Ask) h
sealed_last sys epoch (Ack i ∷ journal) s h = sealed_last sys epoch journal (state_after sys s (Ack i)) h
sealed_last sys epoch (Nack i ∷ journal) s h = sealed_last sys epoch journal (state_after sys s (Nack i)) h
sealed_last sys epoch (Begin d ∷ journal) s h = sealed_last sys epoch journal (state_after sys s (Begin d)) h
sealed_last sys epoch (Mark i ∷ journal) s h = sealed_last sys epoch journal (state_after sys s (Mark i)) h
sealed_last sys epoch (Kept d ∷ journal) s h = sealed_last sys epoch journal (state_after sys s (Kept d)) h
sealed_last sys epoch (End ∷ journal) s h = sealed_last sys epoch journal (state_after sys s End) h
sealed_last sys epoch (Stop c ∷ journal) s h = sealed_last sys epoch journal (state_after sys s (Stop c)) h

-- ---- a Seal that is admitted

-- a recording is open in which all are marked, and this is its epoch
pub seal_row : (h : HubValues) (epoch : ℕ) → is_admitted (machine h) (state_of h) (Seal epoch) ≡ true →
    (recording_is_open (state_of h).past ≡ true) × (all_are_marked (worker_count (state_of h)) (state_of h).past ≡ true) × (epoch ≡ last_epoch (state_of h).start.epoch (state_of h).past)
seal_row h epoch a =
    let s = state_of h in
    let last = last_epoch s.start.epoch s.past in
    let marked = all_are_marked (worker_count s) s.past in
    let row = (and_parts (not (has_ended s.past)) (row_admits (machine h) s (Seal epoch)) a).1 in
    let parts = and_parts (recording_is_open s.past && marked) (epoch == last) row in
    let two = and_parts (recording_is_open s.past) marked parts.0 in
    (two.0, two.1, eqb-true epoch last parts.1)

module _ (h : HubValues) (t : Tables) (epoch : ℕ) (hub : IsHub h) (fits : TablesFit (machine h) (state_of h) h.counters t) (a : is_admitted (machine h) (state_of h) (Seal epoch) ≡ true) where
  on : IsTrue t.cut.recording
  on = fits.is_cut.recording ∙ (seal_row h epoch a).0

  pub seals_complete : IsTrue (is_complete t.cut)
  seals_complete = marked_is (machine h) (state_of h) h.counters t fits true on ∙ (seal_row h epoch a).1

  pub seals_sizes : (into : SnapshotParts) → HasSizesOf h into → sizes_of into.parts ≡ sizes_of t.cut.parts
  seals_sizes into k = k (fits.is_cut.asked on) ∙ sym (fits.is_cut.sizes (fits.is_cut.asked on))

  parts_count : length t.cut.parts ≡ worker_count (state_of h)
  parts_count =
      let x = length-map t.cut.parts size_of in
      let y = length-map {B = ℕ × ℕ} (machine h).pieces (λ (piece : Piece). (length (places piece), length piece.mirrors)) in
      let z = ap (λ (l : List (ℕ × ℕ)). length l) (fits.is_cut.sizes (fits.is_cut.asked on)) in
      let p = piece_count h in
      let w = workers_are h hub in
      omega (arith, x, y, z, p, w)

  -- what the recording has is what the state has
  parts_are : t.cut.parts ≡ (state_of h).recorded
  parts_are =
      let s = state_of h in
      let n = parts_count in
      let all = (seal_row h epoch a).1 in
      ext_get_or no_part t.cut.parts s.recorded (n ∙ sym (recorded_count h hub))
      (λ i l. let inside : i < worker_count s = omega (arith, l, n) in fits.is_cut.parts on i inside (all_below (λ k. was_marked k s.past) (worker_count s) all i inside))

  sealed_is : sealed_of t.cut ≡ record { epoch = epoch; parts = (state_of h).recorded }
  sealed_is =
      let e = fits.is_cut.epoch on ∙ sym (seal_row h epoch a).2 in
      let p = parts_are in
      λ q. record { epoch = e q; parts = p q }

  unsealed : was_sealed epoch (state_of h).past ≡ false
  unsealed =
      let row = seal_row h epoch a in
      subst (λ e. was_sealed e (state_of h).past ≡ false) (sym row.2) ((snapshots_of h hub).unsealed row.0)

  module _ (new : HubValues) (more : Appended h (Seal epoch) new) where
    pub sealed_hub : sealed_epoch (state_of h).past ≡ None → events_owed (state_of h) + 1 ≤ new.journal.spare → IsHub new
    sealed_hub none room =
        let owed : events_owed (state_of h) ≡ works_out (state_of h).workers + 0 + 1 = ap {B = ℕ} (λ (o : Option ℕ). works_out (state_of h).workers + (if is_some o then 1 else 0) + 1) none in
        hub_grown h new (Seal epoch) more hub a (λ q. omega (arith, room, owed))

    pub sealed_tables : TablesFit (machine new) (state_of new) h.counters (sealed_in epoch t)
    sealed_tables = moved h new (Seal epoch) (sealed_in epoch t) more (seal_fits (machine h) (state_of h) h.counters t epoch fits)

    -- the snapshot of the new journal is what was recorded
    pub sealed_written : sealed_snapshot (machine new) new.start epoch new.journal.events ≡ Some (sealed_of t.cut)
    sealed_written =
        ap (λ (job : Job). sealed_snapshot (system_of job) new.start epoch new.journal.events) more.0
        ∙ (ap (λ (start : SnapshotParts). sealed_snapshot (machine h) start epoch new.journal.events) more.3
        ∙ (ap (λ (es : List Event). sealed_snapshot (machine h) h.start epoch es) more.2
        ∙ (sealed_last (machine h) epoch h.journal.events (start_state h.start) unsealed ∙ ap (λ (s : SnapshotParts). Some s) (sym sealed_is))))

-- ---- the desks as a slice that was written

-- a list of which each element was changed through a slice
pub desks_folded : (n : ℕ) (old now new : List Desk) → now ≡ old → new ≡ map folded_desk now → n ≡ length old → take n (new ++ drop (length new) old) ≡ map folded_desk old
desks_folded n old now new same is long =
    let all : new ≡ map folded_desk old = is ∙ ap (λ (l : List Desk). map folded_desk l) same in
    let count : length new ≡ length old = ap (λ (l : List Desk). length l) all ∙ length-map old folded_desk in
    ap (λ (l : List Desk). take n (new ++ l)) (drop_all (length new) old (omega (arith, count)))
    ∙ (ap (λ (l : List Desk). take n l) (append-nil new) ∙ (take_all n new (omega (arith, count, long)) ∙ all))
