-- What a file stands for while one slot is written and the other stays.
use Rattle.std.proofs.Common.{◌≡◌, ◌⊎◌, inl, inr, ⊎_elim, ℕ, zero, suc, ◌+◌, ◌-◌, ◌%◌, ◌<◌, ◌≤◌, Bool, true, false, not, ◌&&◌, ◌||◌, nat_le, nat_lt, IsTrue, if◌then◌else◌, List, ◌∷◌, take, length, Option, Some, None, Result, Ok, Err, refl, sym, ◌∙◌, ap, subst, arith}
use Rattle.std.proofs.lemmas.Bool.Decides.{nat_tests}
use Rattle.grape_disk.specs.Images.{Torn}
use Rattle.token_cut.specs.Parts.{PartValues, SnapshotParts}
use Rattle.token_cut.specs.Shapes.{Starts}
use Rattle.snapshot_file.specs.Tests.{is_epoch}
use Rattle.snapshot_file.specs.Lengths.{slot_length, file_length}
use Rattle.snapshot_file.specs.Reading.{read_as, decoded}
use Rattle.snapshot_store.specs.State.{FileState, OPEN, is_open, by_header, slot_place, slot, epoch_of, state_of, by_slot, by_slots, or_by_slots, file_state, HasEpoch, IsKept}
use Rattle.snapshot_store.specs.State.FileState.{nothing, last}
use Rattle.snapshot_store.proofs.Pieces.{torn_piece}

-- ---- the header

-- a longer file with the same header is whole too
longer : (m n size : ℕ) (shut wrong : Bool) (x y : FileState) (r : Option FileState) → m ≤ n
    → (if nat_lt m 64 || shut then Some x else if wrong then Some y else if nat_lt m size then Some x else r) ≡ None
    → (if nat_lt n 64 || shut then Some x else if wrong then Some y else if nat_lt n size then Some x else r) ≡ None
longer m n size shut wrong x y r le whole = grind (arith, nat_tests)

long_enough : (m size : ℕ) (shut wrong : Bool) (x y : FileState) (r : Option FileState)
    → (if nat_lt m 64 || shut then Some x else if wrong then Some y else if nat_lt m size then Some x else r) ≡ None → size ≤ m
long_enough m size shut wrong x y r whole = grind (arith, nat_tests)

pub header_longer : (shape : Starts) (digest front : List ℕ) (m n : ℕ) → m ≤ n → by_header shape digest m front ≡ None → by_header shape digest n front ≡ None
header_longer shape digest front m n le whole = longer m n (file_length shape) _ _ _ _ _ le whole

pub header_long : (shape : Starts) (digest front : List ℕ) (m : ℕ) → by_header shape digest m front ≡ None → file_length shape ≤ m
header_long shape digest front m whole = long_enough m (file_length shape) _ _ _ _ _ whole

-- ---- one slot

-- what the other slot alone stands for
abbrev pub alone : Starts → ℕ → List ℕ → FileState
alone shape j bytes = if is_open bytes then by_slot shape j bytes else nothing

epoch_in : (b : Bool) (m n place : ℕ) (parts : Result (List PartValues) ℕ) → HasEpoch n (state_of (if b then read_as (λ ps. record { epoch = m; parts = ps }) parts else Err place)) → (b ≡ true) × (n ≡ m)
epoch_in true m n place (Ok ps) has = (refl, has)
epoch_in true m n place (Err at) has = absurd has
epoch_in false m n place parts has = absurd has

-- a slot that reads as a snapshot has an epoch of its own parity
pub epoch_here : (shape : Starts) (k n : ℕ) (bytes : List ℕ) → HasEpoch n (by_slot shape k bytes) → IsTrue (is_epoch k n) × (n ≡ epoch_of bytes)
epoch_here shape k n bytes has =
    let both = epoch_in (is_epoch k (epoch_of bytes)) (epoch_of bytes) n _ _ has in
    (subst (λ m. IsTrue (is_epoch k m)) (sym both.1) both.0, both.1)

parity : (k n : ℕ) → IsTrue (is_epoch k n) → n % 2 ≡ k
parity k n is = grind (arith, nat_tests)

-- ---- two slots

zero_shut : (a b c : Bool) (x y z : FileState) → a ≡ false → (if a && (not b || c) then x else if b then y else z) ≡ (if b then y else z)
zero_shut a b c x y z shut = grind (arith, nat_tests)

one_shut : (a b c : Bool) (x y z : FileState) → b ≡ false → (if a && (not b || c) then x else if b then y else z) ≡ (if a then x else z)
one_shut a b c x y z shut = grind (arith, nat_tests)

zero_newer : (a b c : Bool) (x y z : FileState) → a ≡ true → (b ≡ true → c ≡ true) → (if a && (not b || c) then x else if b then y else z) ≡ x
zero_newer true false c x y z is newer = refl
zero_newer true true c x y z is newer = grind (arith, nat_tests)
zero_newer false b c x y z is newer = cc

one_newer : (a b c : Bool) (x y z : FileState) → b ≡ true → (a ≡ true → c ≡ false) → (if a && (not b || c) then x else if b then y else z) ≡ y
one_newer a false c x y z is newer = cc
one_newer false true c x y z is newer = refl
one_newer true true c x y z is newer = grind (arith, nat_tests)

not_le : (m n : ℕ) → m < n → nat_le n m ≡ false
not_le m n less = grind (arith, nat_tests)

is_le : (m n : ℕ) → m < n → nat_le m n ≡ true
is_le m n less = grind (arith, nat_tests)

-- ---- a file's slots

abbrev pub slots_state : Starts → List ℕ → FileState
slots_state shape file = by_slots shape (slot shape 0 file) (slot shape 1 file)

-- with a closed gate a file stands for the other slot, whatever the body behind that gate
pub shut : (shape : Starts) (k : ℕ) (c : List ℕ) → k < 2 → is_open (slot shape k c) ≡ false → slots_state shape c ≡ alone shape (1 - k) (slot shape (1 - k) c)
shut shape zero c low closed = zero_shut (is_open (slot shape 0 c)) (is_open (slot shape 1 c)) (nat_le (epoch_of (slot shape 1 c)) (epoch_of (slot shape 0 c))) (by_slot shape 0 (slot shape 0 c)) (by_slot shape 1 (slot shape 1 c)) nothing closed
shut shape (suc zero) c low closed = one_shut (is_open (slot shape 0 c)) (is_open (slot shape 1 c)) (nat_le (epoch_of (slot shape 1 c)) (epoch_of (slot shape 0 c))) (by_slot shape 0 (slot shape 0 c)) (by_slot shape 1 (slot shape 1 c)) nothing closed
shut shape (suc (suc k)) c low closed = absurd (omega arith)

-- an open slot with the larger epoch is what a file stands for
pub newer : (shape : Starts) (k : ℕ) (c : List ℕ) → k < 2 → is_open (slot shape k c) ≡ true
    → (is_open (slot shape (1 - k) c) ≡ true → epoch_of (slot shape (1 - k) c) < epoch_of (slot shape k c)) → slots_state shape c ≡ by_slot shape k (slot shape k c)
newer shape zero c low opened larger = zero_newer (is_open (slot shape 0 c)) (is_open (slot shape 1 c)) (nat_le (epoch_of (slot shape 1 c)) (epoch_of (slot shape 0 c))) (by_slot shape 0 (slot shape 0 c)) (by_slot shape 1 (slot shape 1 c)) nothing opened (λ also. is_le _ _ (larger also))
newer shape (suc zero) c low opened larger = one_newer (is_open (slot shape 0 c)) (is_open (slot shape 1 c)) (nat_le (epoch_of (slot shape 1 c)) (epoch_of (slot shape 0 c))) (by_slot shape 0 (slot shape 0 c)) (by_slot shape 1 (slot shape 1 c)) nothing opened (λ also. not_le _ _ (larger also))
newer shape (suc (suc k)) c low opened larger = absurd (omega arith)

pick_zero : (a b c : Bool) (x y z : FileState) → ((if a && (not b || c) then x else if b then y else z) ≡ x) ⊎ ((if a && (not b || c) then x else if b then y else z) ≡ (if b then y else z))
pick_zero true true true x y z = inl refl
pick_zero true true false x y z = inr refl
pick_zero true false c x y z = inl refl
pick_zero false b c x y z = inr refl

pick_one : (a b c : Bool) (x y z : FileState) → ((if a && (not b || c) then x else if b then y else z) ≡ y) ⊎ ((if a && (not b || c) then x else if b then y else z) ≡ (if a then x else z))
pick_one true true true x y z = inr refl
pick_one true true false x y z = inl refl
pick_one true false c x y z = inr refl
pick_one false true c x y z = inl refl
pick_one false false c x y z = inr refl

-- the last kept state stands in the slot that the next one doesn't go to
pub kept_alone : (shape : Starts) (k n : ℕ) (f : List ℕ) → k < 2 → (n + 1) % 2 ≡ k → HasEpoch n (slots_state shape f) → slots_state shape f ≡ alone shape (1 - k) (slot shape (1 - k) f)
kept_alone shape zero n f low next has =
    ⊎_elim (λ here. absurd (clash zero n next (subst (HasEpoch n) here has))) (λ there. there) (pick_zero (is_open (slot shape 0 f)) (is_open (slot shape 1 f)) (nat_le (epoch_of (slot shape 1 f)) (epoch_of (slot shape 0 f))) (by_slot shape 0 (slot shape 0 f)) (by_slot shape 1 (slot shape 1 f)) nothing)
  where
    clash : (k n : ℕ) → (n + 1) % 2 ≡ k → HasEpoch n (by_slot shape k (slot shape k f)) → ⊥
    clash k n next has = let same = parity k n (epoch_here shape k n (slot shape k f) has).0 in omega arith
kept_alone shape (suc zero) n f low next has =
    ⊎_elim (λ here. absurd (clash (suc zero) n next (subst (HasEpoch n) here has))) (λ there. there) (pick_one (is_open (slot shape 0 f)) (is_open (slot shape 1 f)) (nat_le (epoch_of (slot shape 1 f)) (epoch_of (slot shape 0 f))) (by_slot shape 0 (slot shape 0 f)) (by_slot shape 1 (slot shape 1 f)) nothing)
  where
    clash : (k n : ℕ) → (n + 1) % 2 ≡ k → HasEpoch n (by_slot shape k (slot shape k f)) → ⊥
    clash k n next has = let same = parity k n (epoch_here shape k n (slot shape k f) has).0 in omega arith
kept_alone shape (suc (suc k)) n f low next has = absurd (omega arith)

open_has : (n : ℕ) (b : Bool) (x : FileState) → b ≡ true → HasEpoch n (if b then x else nothing) → HasEpoch n x
open_has n true x is has = has
open_has n false x is has = cc

-- ---- files that differ only in one slot

pub record Beside (shape : Starts) (k : ℕ) (f c : List ℕ) : Type 0 where
  pub long : length f ≤ length c
  pub front : take 64 c ≡ take 64 f
  pub stays : slot shape (1 - k) c ≡ slot shape (1 - k) f

pub beside_self : (shape : Starts) (k : ℕ) (f : List ℕ) → Beside shape k f f
beside_self shape k f = record { long = omega arith; front = refl; stays = refl }

other_slot : (shape : Starts) (k at n : ℕ) (g c : List ℕ) → k < 2 → file_length shape ≤ length g → Torn at n g c → slot_place shape k ≤ at → at + n ≤ slot_place shape k + slot_length shape
    → slot shape (1 - k) c ≡ slot shape (1 - k) g
other_slot shape zero at n g c low long torn from to = torn_piece at n g c (slot_place shape 1) (slot_length shape) torn (omega arith) (inr (omega arith))
other_slot shape (suc zero) at n g c low long torn from to = torn_piece at n g c (slot_place shape 0) (slot_length shape) torn (omega arith) (inl (omega arith))
other_slot shape (suc (suc k)) at n g c low long torn from to = absurd (omega arith)

pub beside_torn : (shape : Starts) (k at n : ℕ) (f g c : List ℕ) → k < 2 → file_length shape ≤ length f → Beside shape k f g → Torn at n g c → slot_place shape k ≤ at → at + n ≤ slot_place shape k + slot_length shape
    → Beside shape k f c
beside_torn shape k at n f g c low long so_far torn from to = record {
  long = omega (arith, torn.no_shorter, so_far.long);
  front = torn_piece at n g c 0 64 torn (omega (arith, so_far.long)) (inl (omega arith)) ∙ so_far.front;
  stays = other_slot shape k at n g c low (omega (arith, so_far.long)) torn from to ∙ so_far.stays;
}

-- ---- what they stand for

pub state_whole : (shape : Starts) (digest f : List ℕ) → by_header shape digest (length f) (take 64 f) ≡ None → file_state shape digest f ≡ slots_state shape f
state_whole shape digest f whole = ap (λ (o : Option FileState). or_by_slots o (slots_state shape f)) whole

still_whole : (shape : Starts) (digest : List ℕ) (k : ℕ) (f c : List ℕ) → Beside shape k f c → by_header shape digest (length f) (take 64 f) ≡ None → by_header shape digest (length c) (take 64 c) ≡ None
still_whole shape digest k f c beside whole =
    ap (by_header shape digest (length c)) beside.front ∙ header_longer shape digest (take 64 f) (length f) (length c) beside.long whole

both_slots : (shape : Starts) (k : ℕ) (f c : List ℕ) → k < 2 → slot shape k c ≡ slot shape k f → slot shape (1 - k) c ≡ slot shape (1 - k) f → slots_state shape c ≡ slots_state shape f
both_slots shape zero f c low here there = ap (λ (s : List ℕ). by_slots shape s (slot shape 1 c)) here ∙ ap (by_slots shape (slot shape 0 f)) there
both_slots shape (suc zero) f c low here there = ap (λ (s : List ℕ). by_slots shape s (slot shape 1 c)) there ∙ ap (by_slots shape (slot shape 0 f)) here
both_slots shape (suc (suc k)) f c low here there = absurd (omega arith)

-- the slot of the next epoch is closed, or as it was: the file stands for what it stood for
pub same_state : (shape : Starts) (digest : List ℕ) (k n : ℕ) (f c : List ℕ) → k < 2 → (n + 1) % 2 ≡ k → IsKept shape digest n f → Beside shape k f c
    → (is_open (slot shape k c) ≡ false) ⊎ (slot shape k c ≡ slot shape k f) → (file_state shape digest c ≡ file_state shape digest f) × IsKept shape digest n c
same_state shape digest k n f c low next kept beside slot_is =
    let whole = still_whole shape digest k f c beside kept.whole in
    let same : slots_state shape c ≡ slots_state shape f =
    ⊎_elim (λ closed. shut shape k c low closed ∙ ap (alone shape (1 - k)) beside.stays ∙ sym (kept_alone shape k n f low next kept.kept)) (λ here. both_slots shape k f c low here beside.stays) slot_is in (
      state_whole shape digest c whole ∙ same ∙ sym (state_whole shape digest f kept.whole),
      record { whole = whole; kept = subst (HasEpoch n) (sym same) kept.kept },
    )

-- the slot of the next epoch is open with that snapshot: the file stands for it
pub new_state : (shape : Starts) (digest : List ℕ) (k n : ℕ) (f c body : List ℕ) (snapshot : SnapshotParts) → k < 2 → (n + 1) % 2 ≡ k → IsKept shape digest n f → Beside shape k f c
    → slot shape k c ≡ OPEN ∷ body → decoded shape k (slot_place shape k + 1) body ≡ Ok snapshot → snapshot.epoch ≡ n + 1
    → (file_state shape digest c ≡ last snapshot) × IsKept shape digest (n + 1) c
new_state shape digest k n f c body snapshot low next kept beside slot_is reads epoch =
    let whole = still_whole shape digest k f c beside kept.whole in
    let by_new : by_slot shape k (OPEN ∷ body) ≡ last snapshot = ap state_of reads in
    let own : snapshot.epoch ≡ epoch_of (slot shape k c) =
    (epoch_here shape k snapshot.epoch (OPEN ∷ body) (subst (HasEpoch snapshot.epoch) (sym by_new) refl)).1 ∙ ap epoch_of (sym slot_is) in
    let was : HasEpoch n (alone shape (1 - k) (slot shape (1 - k) c)) =
    subst (HasEpoch n) (kept_alone shape k n f low next kept.kept ∙ ap (alone shape (1 - k)) (sym beside.stays)) kept.kept in
    let old : is_open (slot shape (1 - k) c) ≡ true → n ≡ epoch_of (slot shape (1 - k) c) =
    λ opened. (epoch_here shape (1 - k) n (slot shape (1 - k) c) (open_has n _ _ opened was)).1 in
    let same : slots_state shape c ≡ last snapshot =
    newer shape k c low (ap is_open slot_is) (λ opened. below n _ _ snapshot.epoch (old opened) own epoch) ∙ ap (by_slot shape k) slot_is ∙ by_new in (
      state_whole shape digest c whole ∙ same,
      record { whole = whole; kept = subst (HasEpoch (n + 1)) (sym same) (sym epoch) },
    )
  where
    below : (n a b e : ℕ) → n ≡ a → e ≡ b → e ≡ n + 1 → a < b
    below n a b e p q r = omega arith
