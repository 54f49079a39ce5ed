-- What a creation leaves stands for nothing at each moment.
use Rattle.std.proofs.Common.{◌≡◌, ◌≢◌, ◌⊎◌, inl, inr, ⊎_elim, ℕ, zero, suc, ◌+◌, ◌*◌, ◌<◌, ◌≤◌, max, Bool, true, false, not, ◌||◌, ◌&&◌, nat_lt, ◌==◌, if◌then◌else◌, List, [], ◌∷◌, ◌++◌, take, drop, length, replicate, slice_index, Option, Some, None, is_some, refl, sym, ◌∙◌, ap, subst, arith, append_assoc, length-append}
use Rattle.std.proofs.lemmas.Bool.{cases_eq}
use Rattle.std.proofs.lemmas.Bool.Decides.{nat_tests}
use Rattle.std.proofs.lemmas.List.{ext_get_or, get_or-take, get_or_past, get_or_at, take_at, take-take}
use Rattle.byteorder.specs.Endian.{big_bytes}
use Rattle.byteorder.specs.Numbers.{length-bytes_high_first}
use Rattle.grape_disk.specs.Images.{piece, written, Torn}
use Rattle.token_cut.specs.Shapes.{Starts}
use Rattle.snapshot_file.specs.Lengths.{slot_length, file_length}
use Rattle.snapshot_store.specs.State.{FileState, OPEN, is_open, NAME, header, front_bytes, first_wrong, damaged_if, by_header, slot, slot_place, by_slot, or_by_slots, file_state, HasEpoch, IsKept, StaysNothing}
use Rattle.snapshot_store.specs.State.FileState.{nothing}
use Rattle.snapshot_store.specs.Steps.{HasShutGate, ClosesFile, KeepsGate, blank}
use Rattle.snapshot_store.proofs.Pieces.{torn_piece, piece_cons, piece_index, written_torn, written_piece, length_written}
use Rattle.snapshot_store.proofs.Put.{byte_written, not_open}
use Rattle.snapshot_store.proofs.TwoSlots.{slots_state, state_whole}

-- ---- a file with a closed gate, or too short for a header

no_gate : (n : ℕ) (shut : Bool) (x y : FileState) (r : Option FileState) → (n < 64) ⊎ (shut ≡ true) → or_by_slots (if nat_lt n 64 || shut then Some x else r) y ≡ x
no_gate n shut x y r (inl short) = ap (λ (b : Bool). or_by_slots (if b || shut then Some x else r) y) (is_short n short)
  where
    is_short : (n : ℕ) → n < 64 → nat_lt n 64 ≡ true
    is_short n short = grind (arith, nat_tests)
no_gate n shut x y r (inr is) = ap (λ (b : Bool). or_by_slots (if b then Some x else r) y) (or_true (nat_lt n 64) shut is)
  where
    or_true : (a b : Bool) → b ≡ true → (a || b) ≡ true
    or_true true b is = refl
    or_true false b is = is

pub short_nothing : (shape : Starts) (digest c : List ℕ) → length c < 64 → file_state shape digest c ≡ nothing
short_nothing shape digest c short = no_gate (length c) (not (is_open (take 64 c))) nothing _ _ (inl short)

pub shut_nothing : (shape : Starts) (digest c : List ℕ) → slice_index c 0 ≢ OPEN → file_state shape digest c ≡ nothing
shut_nothing shape digest c shut =
    no_gate (length c) (not (is_open (take 64 c))) nothing _ _ (inr (ap (λ (b : ℕ). not (b == OPEN)) (get_or-take 64 c 0 0 (omega arith)) ∙ ap not (not_open (slice_index c 0) shut)))

-- ---- the header

eq_self : (x : ℕ) → (x == x) ≡ true
eq_self x = grind (arith, nat_tests)

first_right : (xs rest : List ℕ) (at : ℕ) → first_wrong xs at (xs ++ rest) ≡ None
first_right [] rest at = refl
first_right (x ∷ xs) rest at = ap (λ (b : Bool). if b then first_wrong xs (at + 1) (xs ++ rest) else Some at) (eq_self x) ∙ first_right xs rest (at + 1)

whole_header : (size len : ℕ) (wrong : Bool) (x y : FileState) (r : Option FileState) → 64 ≤ size → len ≤ size → wrong ≡ false → r ≡ None
    → (if nat_lt size 64 || false then Some x else if wrong then Some y else if nat_lt size len then Some x else r) ≡ None
whole_header size len wrong x y r long enough right none = grind (arith, nat_tests)

pub header_whole : (shape : Starts) (digest : List ℕ) (size : ℕ) → file_length shape ≤ size → by_header shape digest size (OPEN ∷ header shape digest) ≡ None
header_whole shape digest size long =
    let rest = big_bytes 8 (slot_length shape) ++ replicate 16 0 in
    let same : digest ++ big_bytes 8 (slot_length shape) ++ replicate 16 0 ≡ digest ++ rest = append_assoc digest (big_bytes 8 (slot_length shape)) (replicate 16 0) in
    let own : first_wrong digest 8 (digest ++ big_bytes 8 (slot_length shape) ++ replicate 16 0) ≡ None = ap (first_wrong digest 8) same ∙ first_right digest rest 8 in
    let all : first_wrong (header shape digest) 1 (header shape digest) ≡ None = ap (first_wrong (header shape digest) 1) (sym (append_nil (header shape digest))) ∙ first_right (header shape digest) [] 1 in
    whole_header size (file_length shape) _ nothing _ _ (omega (arith, long)) long (ap is_some own) (ap damaged_if all)
  where
    append_nil : (l : List ℕ) → l ++ [] ≡ l
    append_nil [] = refl
    append_nil (x ∷ l) = ap (λ (m : List ℕ). x ∷ m) (append_nil l)

both_shut : (a b c : Bool) (x y z : FileState) → a ≡ false → b ≡ false → (if a && (not b || c) then x else if b then y else z) ≡ z
both_shut a b c x y z first second = grind (arith, nat_tests)

-- ---- while the file's gate is closed

gate_there : (f : List ℕ) → slice_index f 0 ≡ OPEN → 1 ≤ length f
gate_there f is = elim (cases_eq (length f) 0) [
  | inl none ↦ absurd (no_byte (get_or_past f 0 0 (omega (arith, none))))
  | inr some ↦ omega (arith, some)
]
  where
    no_byte : slice_index f 0 ≡ 0 → ⊥
    no_byte e = omega (arith, e, is)

gate_same : (f c : List ℕ) → slice_index f 0 ≡ OPEN → slice_index c 0 ≡ OPEN → Torn 0 1 f c → c ≡ f
gate_same f c was is torn =
    let some = gate_there f was in
    let size : length c ≡ length f = omega (arith, torn.no_shorter, torn.no_longer, some) in
    ext_get_or 0 c f size (λ i low. at i (omega (arith, size, low)))
  where
    at : (i : ℕ) → i < length f → slice_index c i ≡ slice_index f i
    at zero low = is ∙ sym was
    at (suc i) low = torn.behind (suc i) low (omega arith)

pub closing_nothing : (shape : Starts) (digest f c : List ℕ) → file_state shape digest f ≡ nothing → ClosesFile f c → StaysNothing shape digest f c
closing_nothing shape digest f c was (why, torn) = record {
  state = elim (cases_eq (slice_index c 0) OPEN) [
    | inl is ↦ ⊎_elim (λ none. short_nothing shape digest c (omega (arith, none, torn.no_longer))) (λ open_gate. ap (file_state shape digest) (gate_same f c open_gate is torn) ∙ was) why
    | inr shut ↦ shut_nothing shape digest c shut
  ];
  size = omega (arith, torn.no_longer);
}

pub keeping_nothing : (shape : Starts) (digest f f1 c : List ℕ) (top : ℕ) → top ≤ file_length shape → HasShutGate f f1 → KeepsGate f1 top c → StaysNothing shape digest f c
keeping_nothing shape digest f f1 c top low shut keeps = record {
  state = shut_nothing shape digest c (λ e. shut.shut (sym keeps.gate ∙ e));
  size = omega (arith, keeps.size, shut.size);
}

-- ---- while the file's gate is opened

pub length_header : (shape : Starts) (digest : List ℕ) → length digest ≡ 32 → length (header shape digest) ≡ 63
length_header shape digest long =
    omega (
      arith,
      length-append (NAME ++ digest ++ big_bytes 8 (slot_length shape)) (replicate 16 0),
      length-append (NAME ++ digest) (big_bytes 8 (slot_length shape)),
      length-append NAME digest,
      length-bytes_high_first 8 (slot_length shape),
      long,
    )

module _ (shape : Starts) (digest f f1 : List ℕ) (long : length digest ≡ 32) (was : HasShutGate f f1) where
  abbrev pub fresh : List ℕ
  fresh = blank (header shape digest ++ 0 ∷ []) (64 + slot_length shape) (63 + 2 * slot_length shape) f1

  front_long : length (header shape digest ++ 0 ∷ []) ≡ 64
  front_long = omega (arith, length-append (header shape digest) (0 ∷ []), length_header shape digest long)

  abbrev one : List ℕ
  one = written 1 (header shape digest ++ 0 ∷ []) f1

  abbrev two : List ℕ
  two = written (64 + slot_length shape) (0 ∷ []) one

  length_one : length one ≡ max (length f1) 65
  length_one = omega (arith, length_written 1 (header shape digest ++ 0 ∷ []) f1, front_long)

  length_two : length two ≡ max (length one) (65 + slot_length shape)
  length_two = omega (arith, length_written (64 + slot_length shape) (0 ∷ []) one)

  pub length_fresh : length fresh ≡ max (length f1) (file_length shape)
  length_fresh = omega (arith, length_written (63 + 2 * slot_length shape) (0 ∷ []) two, length_two, length_one)

  fresh_front : piece 1 64 fresh ≡ header shape digest ++ 0 ∷ []
  fresh_front =
      torn_piece (63 + 2 * slot_length shape) 1 two fresh 1 64 (written_torn (63 + 2 * slot_length shape) (0 ∷ []) two) (omega (arith, length_two, length_one)) (inl (omega arith))
      ∙ torn_piece (64 + slot_length shape) 1 one two 1 64 (written_torn (64 + slot_length shape) (0 ∷ []) one) (omega (arith, length_one)) (inl (omega arith))
      ∙ ap (λ (n : ℕ). piece 1 n one) (sym front_long)
      ∙ written_piece 1 (header shape digest ++ 0 ∷ []) f1

  fresh_gate : slice_index fresh (64 + slot_length shape) ≡ 0
  fresh_gate =
      (written_torn (63 + 2 * slot_length shape) (0 ∷ []) two).before (64 + slot_length shape) (omega (arith, length_two)) (omega arith)
      ∙ byte_written (64 + slot_length shape) 0 one

  module _ (c : List ℕ) (torn : Torn 0 1 fresh c) where
    long_c : file_length shape ≤ length c
    long_c = omega (arith, torn.no_shorter, length_fresh)

    front_c : piece 1 64 c ≡ header shape digest ++ 0 ∷ []
    front_c = torn_piece 0 1 fresh c 1 64 torn (omega (arith, length_fresh)) (inr (omega arith)) ∙ fresh_front

    header_c : slice_index c 0 ≡ OPEN → take 64 c ≡ OPEN ∷ header shape digest
    header_c is =
        piece_cons 0 63 c (omega (arith, long_c))
        ∙ ap (λ (b : ℕ). b ∷ piece 1 63 c) is
        ∙ ap (λ (l : List ℕ). OPEN ∷ l) (sym (take-take 63 64 (drop 1 c) (omega arith)) ∙ ap (λ (l : List ℕ). take 63 l) front_c ∙ take_at (header shape digest) (0 ∷ []) 63 (length_header shape digest long))

    first_gate : slice_index c 64 ≡ 0
    first_gate = sym (piece_index 1 64 c 63 (omega arith)) ∙ ap (λ (l : List ℕ). slice_index l 63) front_c ∙ get_or_at (header shape digest) 0 [] 0 63 (length_header shape digest long)

    second_gate : slice_index c (64 + slot_length shape) ≡ 0
    second_gate = torn.behind (64 + slot_length shape) (omega (arith, length_fresh)) (omega arith) ∙ fresh_gate

    slot_gate : (k place : ℕ) → slot_place shape k ≡ place → slice_index c place ≡ 0 → is_open (slot shape k c) ≡ false
    slot_gate k place is shut =
        ap (λ (b : ℕ). b == OPEN) (piece_index (slot_place shape k) (slot_length shape) c 0 (omega arith) ∙ ap (λ (i : ℕ). slice_index c i) (omega (arith, is)) ∙ shut)

    slots_shut : slots_state shape c ≡ nothing
    slots_shut = both_shut _ _ _ (by_slot shape 0 (slot shape 0 c)) (by_slot shape 1 (slot shape 1 c)) nothing (slot_gate 0 64 (omega arith) first_gate) (slot_gate 1 (64 + slot_length shape) (omega arith) second_gate)

    pub opened_kept : slice_index c 0 ≡ OPEN → (file_state shape digest c ≡ nothing) × IsKept shape digest 0 c
    opened_kept is =
        let whole : by_header shape digest (length c) (take 64 c) ≡ None = ap (by_header shape digest (length c)) (header_c is) ∙ header_whole shape digest (length c) long_c in (
          state_whole shape digest c whole ∙ slots_shut,
          record { whole = whole; kept = subst (λ s. HasEpoch 0 s) (sym slots_shut) refl },
        )

    pub opening_nothing : StaysNothing shape digest f c
    opening_nothing = record {
      state = ⊎_elim (λ is. (opened_kept is).0) (λ shut. shut_nothing shape digest c shut) (cases_eq (slice_index c 0) OPEN);
      size = omega (arith, torn.no_longer, length_fresh, was.size);
    }

  pub created : (file_state shape digest (written 0 (OPEN ∷ []) fresh) ≡ nothing) × IsKept shape digest 0 (written 0 (OPEN ∷ []) fresh)
  created = opened_kept (written 0 (OPEN ∷ []) fresh) (written_torn 0 (OPEN ∷ []) fresh) (byte_written 0 OPEN fresh)

-- what the steps of a creation leave, and what it ends with
pub record CreateSteps (shape : Starts) (digest f f1 front : List ℕ) (gate end : ℕ) : Type 0 where
  pub keeping : (c : List ℕ) → KeepsGate f1 (end + 1) c → StaysNothing shape digest f c
  pub opening : (c : List ℕ) → Torn 0 1 (blank front gate end f1) c → StaysNothing shape digest f c
  pub done : (file_state shape digest (written 0 (OPEN ∷ []) (blank front gate end f1)) ≡ nothing) × IsKept shape digest 0 (written 0 (OPEN ∷ []) (blank front gate end f1))

pub create_steps : (shape : Starts) (digest f f1 front : List ℕ) (size : ℕ) → length digest ≡ 32 → HasShutGate f f1 → size ≡ slot_length shape → front ≡ front_bytes size digest
    → CreateSteps shape digest f f1 front (64 + size) (63 + 2 * size)
create_steps shape digest f f1 front size long was size_is front_is =
    let here : CreateSteps shape digest f f1 (front_bytes (slot_length shape) digest) (64 + slot_length shape) (63 + 2 * slot_length shape) =
    record {
      keeping = λ c keeps. keeping_nothing shape digest f f1 c (63 + 2 * slot_length shape + 1) (omega arith) was keeps;
      opening = opening_nothing shape digest f f1 long was;
      done = created shape digest f f1 long was;
    } in
    let sized : CreateSteps shape digest f f1 (front_bytes size digest) (64 + size) (63 + 2 * size) =
    subst (λ (n : ℕ). CreateSteps shape digest f f1 (front_bytes n digest) (64 + n) (63 + 2 * n)) (sym size_is) here in
    subst (λ (l : List ℕ). CreateSteps shape digest f f1 l (64 + size) (63 + 2 * size)) (sym front_is) sized
