-- The coordinator's note tells what was sealed.
use Rattle.std.proofs.Common.{◌≡◌, ℕ, ◌<◌, ◌≤◌, Bool, true, false, ◌==◌, nat_lt, if◌then◌else◌, refl, sym, ◌∙◌, ap, arith, List, [], ◌∷◌, ◌++◌, map, length, flat_map, Option, Some, None}
use Rattle.std.proofs.lemmas.Bool.{eq-eqb, ltb-true, false_from_ne_true, false≢true}
use Rattle.token_cut.specs.Parts.{SnapshotParts}
use Rattle.legal_journal.specs.Cuts.{sealed_snapshots, epochs_kept, FollowOn}
use Rattle.legal_journal.proofs.Listed.{epochs_follow}
use Rattle.hub_engine.specs.HubValues.{HubValues}
use Rattle.hub_engine.specs.States.{machine, state_of, sealed_epoch, IsHub}
use Rattle.grape_hub.specs.LanedHub.{LanedHub}
use Rattle.grape_hub.specs.Notes.{or_zero, zero_or_one, numbers_of_snapshot, numbers_of_cuts, is_stopped_by_disk, lane_part, coordinator_part, own_in, note_of}
use Rattle.grape_hub.specs.Theorems.{waiting_in, WaitsAmong, CutsTell}
use Rattle.grape_hub.proofs.Grounds.{head_same, tail_same, snapshot_told}
use Rattle.grape_hub.proofs.NoteLaws.{own_is}
use Rattle.grape_hub.proofs.Kepts.{kepts_follow_seals}

-- ---- what numbers tell

-- the snapshots up to the end of the note
cuts_told : (cuts others : List SnapshotParts) → flat_map numbers_of_snapshot cuts ≡ flat_map numbers_of_snapshot others → cuts ≡ others
cuts_told [] [] h = refl
cuts_told [] (s ∷ others) h = absurd (cc)
cuts_told (s ∷ cuts) [] h = absurd (cc)
cuts_told (s ∷ cuts) (z ∷ others) h =
    let first = snapshot_told.tell s z (flat_map numbers_of_snapshot cuts) (flat_map numbers_of_snapshot others) h in
    let rest = cuts_told cuts others first.1 in
    λ i. first.0 i ∷ rest i

-- an epoch that waits isn't 0
unkept_told : (unkept waits : Option ℕ) (cuts others : List SnapshotParts) → WaitsAmong unkept cuts → WaitsAmong waits others → or_zero unkept ≡ or_zero waits → unkept ≡ waits
unkept_told None None cuts others w v h = refl
unkept_told None (Some e) cuts others w v h = absurd (omega (arith, h, v.0))
unkept_told (Some e) None cuts others w v h = absurd (omega (arith, h, w.0))
unkept_told (Some e) (Some d) cuts others w v h = ap {B = Option ℕ} (λ x. Some x) h

stopped_told : (stopped stops : Bool) → zero_or_one stopped ≡ zero_or_one stops → stopped ≡ stops
stopped_told true true h = refl
stopped_told true false h = absurd (omega (arith, h))
stopped_told false true h = absurd (omega (arith, h))
stopped_told false false h = refl

-- nothing waits where nothing was sealed
none_waits : (unkept : Option ℕ) → WaitsAmong unkept [] → unkept ≡ None
none_waits None w = refl
none_waits (Some e) w = absurd (omega (arith, w.1))

numbers_tell : (unkept waits : Option ℕ) (stopped stops : Bool) (cuts others : List SnapshotParts) → WaitsAmong unkept cuts → WaitsAmong waits others →
    numbers_of_cuts unkept stopped cuts ≡ numbers_of_cuts waits stops others → (unkept ≡ waits) × (stopped ≡ stops) × (cuts ≡ others)
numbers_tell unkept waits stopped stops (s ∷ cuts) (z ∷ others) w v h =
    let rest = tail_same _ _ _ _ h in (
      unkept_told unkept waits (s ∷ cuts) (z ∷ others) w v (head_same _ _ _ _ h),
      stopped_told stopped stops (head_same _ _ _ _ rest),
      cuts_told (s ∷ cuts) (z ∷ others) (tail_same _ _ _ _ rest),
    )
numbers_tell unkept waits true true [] [] w v h = (none_waits unkept w ∙ sym (none_waits waits v), refl, refl)
numbers_tell unkept waits true false [] [] w v h = absurd (cc)
numbers_tell unkept waits false true [] [] w v h = absurd (cc)
numbers_tell unkept waits false false [] [] w v h = (none_waits unkept w ∙ sym (none_waits waits v), refl, refl)
numbers_tell unkept waits stopped true (s ∷ cuts) [] w v h = absurd (cc)
numbers_tell unkept waits stopped false (s ∷ cuts) [] w v h = absurd (cc)
numbers_tell unkept waits true stops [] (z ∷ others) w v h = absurd (cc)
numbers_tell unkept waits false stops [] (z ∷ others) w v h = absurd (cc)

-- ---- what waits in a hub

-- epochs that follow on from some number end by one that isn't 0
last_follows : (last epoch : ℕ) (before epochs : List ℕ) → FollowOn last epochs → epochs ≡ before ++ epoch ∷ [] → (1 ≤ epoch) × (1 ≤ length epochs)
last_follows last epoch before [] f h = absurd (none_last before h)
  where
    none_last : (before : List ℕ) → [] ≡ before ++ epoch ∷ [] → ⊥
    none_last [] h = cc
    none_last (b ∷ before) h = cc
last_follows last epoch [] (e ∷ epochs) f h = let is = head_same e epoch epochs [] h in let one = f.0 in (omega (arith, is, one), omega arith)
last_follows last epoch (b ∷ before) (e ∷ []) f h = absurd (two before (tail_same e b [] (before ++ epoch ∷ []) h))
  where
    two : (before : List ℕ) → [] ≡ before ++ epoch ∷ [] → ⊥
    two [] h = cc
    two (b ∷ before) h = cc
last_follows last epoch (b ∷ before) (e ∷ d ∷ epochs) f h =
    let rest = last_follows e epoch before (d ∷ epochs) f.1 (tail_same e b (d ∷ epochs) (before ++ epoch ∷ []) h) in
    (rest.0, omega arith)

waits_among : (unkept : Option ℕ) (cuts : List SnapshotParts) (last : ℕ) (kept : List ℕ) → FollowOn last (map (λ (s : SnapshotParts). s.epoch) cuts) → map (λ (s : SnapshotParts). s.epoch) cuts ≡ kept ++ waiting_in unkept → WaitsAmong unkept cuts
waits_among None cuts last kept f h = tt
waits_among (Some epoch) [] last kept f h = absurd (no_epoch kept h)
  where
    no_epoch : (kept : List ℕ) → [] ≡ kept ++ epoch ∷ [] → ⊥
    no_epoch [] h = cc
    no_epoch (k ∷ kept) h = cc
waits_among (Some epoch) (s ∷ cuts) last kept f h = ((last_follows last epoch kept (map (λ (s : SnapshotParts). s.epoch) (s ∷ cuts)) f h).0, omega arith)

hub_waits : (h : HubValues) → IsHub h → WaitsAmong (sealed_epoch (state_of h).past) (sealed_snapshots (machine h) h.start h.journal.events)
hub_waits h hub =
    waits_among (sealed_epoch (state_of h).past) (sealed_snapshots (machine h) h.start h.journal.events) h.start.epoch (epochs_kept h.journal.events)
    (epochs_follow (machine h) h.start h.journal.events hub.legal) (kepts_follow_seals h hub)

-- ---- the note

pub not_below : (k n : ℕ) → (k < n → ⊥) → nat_lt k n ≡ false
not_below k n other = false_from_ne_true (nat_lt k n) (λ t. other (ltb-true k n t))

pub coordinator_own : (x : LanedHub) → own_in (note_of x x.hub.job.settings.lanes) ≡ coordinator_part x.hub
coordinator_own x =
    let n = x.hub.job.settings.lanes in
    own_is x n ∙ second (nat_lt n n) (n == n) (lane_part x n) (coordinator_part x.hub) (not_below n n (λ l. omega (arith, l))) (eq-eqb n n refl)
  where
    second : (c d : Bool) (xs ys : List ℕ) → c ≡ false → d ≡ true → (if c then xs else if d then ys else []) ≡ ys
    second true d xs ys e f = absurd (false≢true (sym e))
    second false true xs ys e f = refl
    second false false xs ys e f = absurd (false≢true f)

pub cuts_tell : CutsTell
cuts_tell x laned =
    let h = x.hub in
    let unkept = sealed_epoch (state_of h).past in
    let stopped = is_stopped_by_disk (state_of h).past in
    let cuts = sealed_snapshots (machine h) h.start h.journal.events in
    let waits = hub_waits h laned.0 in
    let own = coordinator_own x in
    (waits, own, λ other stops others v is. numbers_tell unkept other stopped stops cuts others waits v (sym own ∙ is))
