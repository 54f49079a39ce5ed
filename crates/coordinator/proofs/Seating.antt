-- Lists whose members stand at the place of their number, and the seats of a run.
use Rattle.std.proofs.Common.{◌≡◌, ◌≢◌, ℕ, ◌+◌, ◌<◌, List, [], ◌∷◌, ◌++◌, length, get_or, refl, sym, ap, ◌∙◌, subst, arith, All, Contains, false, take, Option, Some, None}
use mathlib.Core.Logic.{dite}
use native.Mathlib.Decide.{ℕ_discrete}
use Rattle.std.proofs.Math.Seq.{take-append_seam}
use Rattle.std.proofs.lemmas.List.{length_push, get_or_push, get_or_append_left, get_or_default}
use Rattle.graph_core.specs.declared.job.Job.{Job}
use Rattle.atomic_table.specs.Seated.{TableId}
use Rattle.token_cut.specs.Parts.{SnapshotParts}
use Rattle.noted_lock.specs.declared.seat.LockSeat.{LockSeat}
use Rattle.noted_lock.specs.Sights.{seat_lock, seat_number, seat_note, AreSeats}
use Rattle.grape_hub.specs.LanedHub.{LanedHub, IsLanedHub, is_out_at}
use Rattle.grape_hub.specs.Notes.{ground_of, ground_in, own_in, note_of, HasNoWork}
use Rattle.grape_hub.specs.Theorems.{GroundsTell, NotesBegin, EmptyIsFree}
use Rattle.coordinator.specs.Leaving.{IsNoteOf}
use Rattle.coordinator.specs.Seats.{IsSeatOfRun, HoldsSeat, AreSeatsOfRun}
use Rattle.coordinator.proofs.Causes.{past_is_empty}

module _ {A : Type 0} (P : ℕ → A → Type 0) where
  abbrev pub EachAt : List A → Type 0
  EachAt xs = (k : ℕ) (d : A) → k < length xs → P k (get_or xs k d)

  pub each_pushed : (xs ys : List A) (x : A) → ys ≡ xs ++ x ∷ [] → EachAt xs → P (length xs) x → EachAt ys
  each_pushed xs ys x e all p k d l =
      let long : length ys ≡ length xs + 1 = ap (λ (zs : List A). length zs) e ∙ length_push xs x in
      subst (λ (zs : List A). P k (get_or zs k d)) (sym e) (dite (ℕ_discrete k (length xs))
      (λ (here : k ≡ length xs). subst (λ (n : ℕ). P n (get_or (xs ++ x ∷ []) n d)) (sym here) (subst (λ (y : A). P (length xs) y) (sym (get_or_push xs x d (length xs) refl)) p))
      (λ (other : k ≢ length xs). let l' : k < length xs = omega (arith, l, long, other) in subst (λ (y : A). P k y) (sym (get_or_append_left xs (x ∷ []) d k l')) (all k d l')))

  pub each_rest : (xs ys : List A) (x : A) → ys ≡ xs ++ x ∷ [] → EachAt ys → EachAt xs
  each_rest xs ys x e all k d l =
      let long : length ys ≡ length xs + 1 = ap (λ (zs : List A). length zs) e ∙ length_push xs x in
      subst (λ (y : A). P k y) (ap (λ (zs : List A). get_or zs k d) e ∙ get_or_append_left xs (x ∷ []) d k l) (all k d (omega (arith, l, long)))

  pub last_at : (xs ys : List A) (x : A) (n : ℕ) → ys ≡ xs ++ x ∷ [] → EachAt ys → length ys ≡ n + 1 → P n x
  last_at xs ys x n e all count =
      let long : length ys ≡ length xs + 1 = ap (λ (zs : List A). length zs) e ∙ length_push xs x in
      let here : length xs ≡ n = omega (arith, long, count) in
      subst (λ (m : ℕ). P m x) here (subst (λ (y : A). P (length xs) y) (ap (λ (zs : List A). get_or zs (length xs) x) e ∙ get_or_push xs x x (length xs) refl) (all (length xs) x (omega (arith, long))))

module _ {A : Type 0} where
  pub one_longer : (xs ys : List A) (x : A) → ys ≡ xs ++ x ∷ [] → length ys ≡ length xs + 1
  one_longer xs ys x e = ap (λ (zs : List A). length zs) e ∙ length_push xs x

  pub refilled : (n : ℕ) (xs zs : List A) → length xs ≡ n → take n (xs ++ zs) ≡ xs
  refilled n xs zs e = ap (λ (m : ℕ). take m (xs ++ zs)) (sym e) ∙ take-append_seam xs zs

-- a slot that holds a seat isn't empty
pub slot_is_full : (z : TableId) (job : Job) (k : ℕ) (slot : Option LockSeat) → HoldsSeat z job k slot → ((seat : LockSeat) → slot ≡ Some seat → ⊥) → ⊥
slot_is_full z job k None holds filled = holds
slot_is_full z job k (Some seat) holds filled = filled seat refl

-- ---- the seats of a run

-- the notes of a hub that has done nothing
begun : NotesBegin → (x : LanedHub) (job : Job) (start : SnapshotParts) (note : List ℕ) → note ≡ ground_of job start → x.hub.job ≡ job → x.hub.start ≡ start → ((k : ℕ) → note_of x k ≡ ground_of job start) → IsNoteOf job start None false [] note
begun begin x job start note is same from notes =
    let past = x.hub.job.settings.lanes + 1 in
    record {
      ground = ap (λ (ns : List ℕ). ground_in ns) (is ∙ sym (notes past)) ∙ (begin x past ∙ (λ t. ground_of (same t) (from t)));
      among = tt;
      own = ap (λ (ns : List ℕ). own_in ns) (is ∙ sym (notes past)) ∙ past_is_empty x past (omega arith);
    }

-- all seats of a lock about a hub that has done nothing
seats_begin : NotesBegin → EmptyIsFree → (z : TableId) (job : Job) (x : LanedHub) (count : ℕ) (seats : List LockSeat) → IsLanedHub x → x.hub.job ≡ job → 0 < x.hub.job.settings.lanes →
    is_out_at x 0 ≡ false → ((k : ℕ) → note_of x k ≡ ground_of job x.hub.start) → AreSeats z count (note_of x 0) seats → AreSeatsOfRun z job seats
seats_begin begin empty z job x count seats stands same some free notes are k d l =
    let s = are.1 k d (omega (arith, l, are.0)) in record {
      lock = s.0;
      number = s.2;
      ground = (x.hub.start, ap (λ (note : List ℕ). ground_in note) s.3 ∙ (begin x 0 ∙ ap (λ (j : Job). ground_of j x.hub.start) same));
      empty = λ _. subst (λ (note : List ℕ). HasNoWork note) (sym s.3) ((empty x 0 stands some).1 free);
    }

-- each has the note of the beginning
notes_begin : NotesBegin → (z : TableId) (job : Job) (x : LanedHub) (count : ℕ) (seats : List LockSeat) → x.hub.job ≡ job → ((k : ℕ) → note_of x k ≡ ground_of job x.hub.start) → AreSeats z count (note_of x 0) seats →
    (k : ℕ) (d : LockSeat) → k < length seats → IsNoteOf job x.hub.start None false [] (seat_note (get_or seats k d))
notes_begin begin z job x count seats same notes are k d l =
    let s = are.1 k d (omega (arith, l, are.0)) in
    begun begin x job x.hub.start (seat_note (get_or seats k d)) (s.3 ∙ notes 0) same refl notes

-- the coordinator's seat, which is the last, and those of the lanes, as they were made
pub record AreMade (z : TableId) (job : Job) (start : SnapshotParts) (rest : List LockSeat) (own : LockSeat) : Type 0 where
  pub last : IsSeatOfRun z job job.settings.lanes own
  pub note : IsNoteOf job start None false [] (seat_note own)
  pub others : AreSeatsOfRun z job rest

pub made : NotesBegin → EmptyIsFree → (z : TableId) (job : Job) (x : LanedHub) (seats rest : List LockSeat) (own : LockSeat) → IsLanedHub x → x.hub.job ≡ job → is_out_at x 0 ≡ false → ((k : ℕ) → note_of x k ≡ ground_of job x.hub.start) →
    AreSeats z (job.settings.lanes + 1) (note_of x 0) seats → seats ≡ rest ++ own ∷ [] → AreMade z job x.hub.start rest own
made begin empty z job x seats rest own stands same free notes are is =
    let n = job.settings.lanes in
    let all = seats_begin begin empty z job x (n + 1) seats stands same stands.0.job.settings.lanes.0 free notes are in
    record {
      last = last_at (IsSeatOfRun z job) rest seats own n is all are.0;
      note = last_at (λ k s. IsNoteOf job x.hub.start None false [] (seat_note s)) rest seats own n is (notes_begin begin z job x (n + 1) seats same notes are) are.0;
      others = each_rest (IsSeatOfRun z job) rest seats own is all;
    }

-- all seats once more
pub seats_again : (z : TableId) (job : Job) (rest seats : List LockSeat) (own : LockSeat) → seats ≡ rest ++ own ∷ [] → AreSeatsOfRun z job rest → length rest ≡ job.settings.lanes → IsSeatOfRun z job job.settings.lanes own → AreSeatsOfRun z job seats
seats_again z job rest seats own is all long seat = each_pushed (IsSeatOfRun z job) rest seats own is all (subst (λ (n : ℕ). IsSeatOfRun z job n own) (sym long) seat)

pub seats_of_lock : (z : TableId) (job : Job) (seats : List LockSeat) → AreSeatsOfRun z job seats → All (λ s. seat_lock s ≡ z) seats
seats_of_lock z job seats all k d l = (all k d l).lock

pub seats_have_all : (z : TableId) (job : Job) (seats : List LockSeat) → AreSeatsOfRun z job seats → (k : ℕ) → k < length seats → (s : LockSeat) × Contains seats s × (seat_number s ≡ k)
seats_have_all z job [] all k l = absurd (omega (arith, l))
seats_have_all z job (x ∷ xs) all k l = let s = get_or (x ∷ xs) k x in (s, (k, l, get_or_default (x ∷ xs) k s x l), (all k x l).number)

-- ---- a visit of the hub

-- the hub of the lock has the seat's note
pub note_here : (value held : LanedHub) (n number : ℕ) (note : List ℕ) → value ≡ held → number ≡ n → note_of held number ≡ note → note_of value n ≡ note
note_here value held n number note same is tells = ap (λ (x : LanedHub). note_of x n) same ∙ (ap (λ (m : ℕ). note_of held m) (sym is) ∙ tells)

-- the coordinator's seat
pub coordinator_seat : (z : TableId) (job : Job) (start : SnapshotParts) (seat : LockSeat) → seat_lock seat ≡ z → seat_number seat ≡ job.settings.lanes → ground_in (seat_note seat) ≡ ground_of job start → IsSeatOfRun z job job.settings.lanes seat
coordinator_seat z job start seat lock number ground = record { lock = lock; number = number; ground = (start, ground); empty = λ l. absurd (omega (arith, l)) }

-- ---- a lock that is closed

-- what the seats tell of its hub
pub record IsTold (j : Job) (x : LanedHub) : Type 0 where
  pub job : x.hub.job ≡ j
  pub free : (lane : ℕ) → lane < j.settings.lanes → is_out_at x lane ≡ false

module _ (z : TableId) (job : Job) (x : LanedHub) (seats : List LockSeat) (all : AreSeatsOfRun z job seats) (notes : All (λ s. note_of x (seat_number s) ≡ seat_note s) seats) where
  note_at : (k : ℕ) → k < length seats → (s : LockSeat) × IsSeatOfRun z job k s × (note_of x k ≡ seat_note s)
  note_at k l =
      let found = seats_have_all z job seats all k l in
      let s = get_or seats k found.0 in
      let is = all k found.0 l in (
        s,
        is,
        ap (λ (n : ℕ). note_of x n) (sym is.number) ∙ notes k found.0 l,
      )

  pub told : GroundsTell → NotesBegin → EmptyIsFree → IsLanedHub x → length seats ≡ job.settings.lanes + 1 → IsTold job x
  told grounds begin empty stands long =
      let first = note_at 0 (omega (arith, long)) in
      let same = grounds x.hub.job job x.hub.start first.1.ground.0 (sym (begin x 0) ∙ (ap (λ (ns : List ℕ). ground_in ns) first.2 ∙ first.1.ground.1)) in record {
        job = same.0;
        free = λ lane l.
            let at = note_at lane (omega (arith, long, l)) in
            (empty x lane stands (subst (λ (j : Job). lane < j.settings.lanes) (sym same.0) l)).0 (subst (λ (note : List ℕ). HasNoWork note) (sym at.2) (at.1.empty l));
      }

  -- the hub has the note of the last seat
  pub note_of_last : (rest : List LockSeat) (own : LockSeat) → seats ≡ rest ++ own ∷ [] → length rest ≡ job.settings.lanes → note_of x job.settings.lanes ≡ seat_note own
  note_of_last rest own is long =
      let n = job.settings.lanes in
      let place : length seats ≡ n + 1 = one_longer rest seats own is ∙ ap (λ (m : ℕ). m + 1) long in
      let seat = last_at (IsSeatOfRun z job) rest seats own n is all place in
      ap (λ (m : ℕ). note_of x m) (sym seat.number) ∙ last_at (λ k s. note_of x (seat_number s) ≡ seat_note s) rest seats own n is notes place
