-- What the steps of an open tell of the whole file.
use Rattle.std.proofs.Common.{◌≡◌, ℕ, zero, suc, ◌+◌, ◌*◌, ◌^◌, ◌<◌, ◌≤◌, Bool, true, false, not, ◌&&◌, ◌||◌, nat_le, nat_lt, if◌then◌else◌, List, [], ◌∷◌, ◌++◌, map, replicate, slice_index, ◌==◌, take, drop, length, Option, Some, is_some, Result, Ok, Err, refl, sym, ap, ◌∙◌, subst, arith, length-append}
use Rattle.std.proofs.lemmas.Bool.Decides.{nat_tests}
use Rattle.std.proofs.lemmas.List.{length-replicate, get_or-take, get_or-drop, take_at, take-take}
use Rattle.byteorder.specs.Endian.{big_bytes, big_from}
use Rattle.byteorder.specs.Numbers.{length-bytes_high_first}
use Rattle.grape_disk.specs.Images.{piece}
use Rattle.token_cut.specs.Parts.{SnapshotParts}
use Rattle.token_cut.specs.Shapes.{PartStarts, Starts, HaveShape, fresh_part}
use Rattle.snapshot_file.specs.Lengths.{slot_length, file_length}
use Rattle.snapshot_store.specs.State.{FileState, OPEN, NAME, front_bytes, is_open, first_wrong, damaged_if, header, by_header, is_first_newest, by_slot, by_slots, slot, slot_place, epoch_of}
use Rattle.snapshot_store.specs.State.FileState.{nothing, other}
use Rattle.snapshot_store.specs.Opening.{SlotSays, SlotsSay}
use Rattle.snapshot_store.specs.Reads.{Tells}
use Rattle.snapshot_store.proofs.Assembled.{tells_within, tells_more, tells_behind, tells_one}
use Rattle.snapshot_store.proofs.SlotRead.{body_in}
use Rattle.snapshot_store.specs.declared.fault.StoreFault.{StoreFault}
use Rattle.snapshot_store.specs.declared.fault.StoreFault.TheVariants.{Disk, Other, Damaged, NoMemory}
use Rattle.std.specs.Result.{IsErrAnd}

pub fresh_has : (shape : List PartStarts) → HaveShape shape (map fresh_part shape)
fresh_has [] = tt
fresh_has (starts ∷ shape) = (length-append starts.owned starts.mirrors, length-replicate (length starts.mirrors) _, fresh_has shape)

-- ---- the header

module _ (shape : Starts) (digest : List ℕ) (size : ℕ) (front : List ℕ) where
  abbrev wrong : Option ℕ
  wrong = first_wrong digest 8 (drop 8 front)

  abbrev says : Bool → Bool → Bool → Option ℕ → Option FileState
  says closed differs short place = if closed then Some nothing else if differs then Some (other (piece 8 32 front)) else if short then Some nothing else damaged_if place

  open_says : (differs short : Bool) (place : Option ℕ) → 64 ≤ size → is_open front ≡ true → is_some wrong ≡ differs → nat_lt size (file_length shape) ≡ short → first_wrong (header shape digest) 1 (drop 1 front) ≡ place
      → by_header shape digest size front ≡ says false differs short place
  open_says differs short place long opened d s p =
      ap (λ (b : Bool). if b then Some nothing else if is_some wrong then Some (other (piece 8 32 front)) else if nat_lt size (file_length shape) then Some nothing else damaged_if (first_wrong (header shape digest) 1 (drop 1 front))) (not_closed size (is_open front) long opened)
      ∙ ap (λ (b : Bool). says false b (nat_lt size (file_length shape)) (first_wrong (header shape digest) 1 (drop 1 front))) d
      ∙ ap (λ (b : Bool). says false differs b (first_wrong (header shape digest) 1 (drop 1 front))) s
      ∙ ap (says false differs short) p
    where
      not_closed : (size : ℕ) (b : Bool) → 64 ≤ size → b ≡ true → (nat_lt size 64 || not b) ≡ false
      not_closed size b long is = ap (λ (c : Bool). nat_lt size 64 || not c) is ∙ low size long
        where
          low : (size : ℕ) → 64 ≤ size → (nat_lt size 64 || false) ≡ false
          low size long = grind (arith, nat_tests)

  pub other_says : 64 ≤ size → is_open front ≡ true → is_some wrong ≡ true → by_header shape digest size front ≡ Some (other (piece 8 32 front))
  other_says long opened differs = open_says true (nat_lt size (file_length shape)) (first_wrong (header shape digest) 1 (drop 1 front)) long opened differs refl refl

  pub named_says : (place : Option ℕ) → 64 ≤ size → is_open front ≡ true → is_some wrong ≡ false → file_length shape ≤ size → first_wrong (header shape digest) 1 (drop 1 front) ≡ place → by_header shape digest size front ≡ damaged_if place
  named_says place long opened differs whole is = open_says false false place long opened differs (not_less size (file_length shape) whole) is
    where
      not_less : (m n : ℕ) → n ≤ m → nat_lt m n ≡ false
      not_less m n high = grind (arith, nat_tests)

pub open_front : (head : List ℕ) → slice_index head 0 ≡ OPEN → is_open head ≡ true
open_front head is = tested (slice_index head 0) is
  where
    tested : (b : ℕ) → b ≡ OPEN → (b == OPEN) ≡ true
    tested b is = grind (arith, nat_tests)

pub header_front : (shape : Starts) (digest front : List ℕ) (size : ℕ) → length digest ≡ 32 → size ≡ slot_length shape → front ≡ front_bytes size digest → take 63 front ≡ header shape digest
header_front shape digest front size long size_is is =
    ap (take 63) (is ∙ ap (λ (n : ℕ). front_bytes n digest) size_is)
    ∙ take_at (header shape digest) (0 ∷ []) 63 (omega (arith, long, length-append (NAME ++ digest ++ big_bytes 8 (slot_length shape)) (replicate 16 0), length-append (NAME ++ digest) (big_bytes 8 (slot_length shape)), length-append NAME digest, length-bytes_high_first 8 (slot_length shape)))

-- ---- the slots

first_of : (c : Bool) (x y : FileState) → c ≡ true → (if c then x else y) ≡ x
first_of true x y is = refl
first_of false x y is = cc

second_of : (c : Bool) (x y : FileState) → c ≡ false → (if c then x else y) ≡ y
second_of true x y is = cc
second_of false x y is = refl

-- ---- what the steps hand on

pub slot_error : (state : FileState) (e : StoreFault) → SlotSays state (Err e) → SlotsSay state (Err e)
slot_error state Disk says = tt
slot_error state (Other kept here) says = absurd says
slot_error state (Damaged place) says = says
slot_error state NoMemory says = tt

pub slots_handed : (state : FileState) (r : Result (Option SnapshotParts) StoreFault) (e : StoreFault) → IsErrAnd r (λ x. x ≡ e) → SlotsSay state (Err e) → SlotsSay state r
slots_handed state (Ok x) e is says = absurd is
slots_handed state (Err x) e is says = subst (λ f. SlotsSay state (Err f)) (sym is) says

-- ---- the first nine bytes of a slot, its gate and its epoch, decide which one a file stands for

same_number : (i n : ℕ) (xs ys : List ℕ) → ((j : ℕ) → j < i + n → slice_index xs j ≡ slice_index ys j) → big_from i n xs ≡ big_from i n ys
same_number i zero xs ys same = refl
same_number i (suc n) xs ys same =
    ap (λ (b : ℕ). b * 256 ^ n + big_from (suc i) n xs) (same i (omega arith)) ∙ ap (λ (m : ℕ). slice_index ys i * 256 ^ n + m) (same_number (suc i) n xs ys (λ j low. same j (omega (arith, low))))

same_epoch : (bytes : List ℕ) → epoch_of (take 9 bytes) ≡ epoch_of bytes
same_epoch bytes = same_number 0 8 (drop 1 (take 9 bytes)) (drop 1 bytes) (λ j low. get_or-drop 1 (take 9 bytes) j 0 ∙ get_or-take 9 bytes (1 + j) 0 (omega (arith, low)) ∙ sym (get_or-drop 1 bytes j 0))

same_open : (bytes : List ℕ) → is_open (take 9 bytes) ≡ is_open bytes
same_open bytes = ap (λ (b : ℕ). b == OPEN) (get_or-take 9 bytes 0 0 (omega arith))

same_newest : (first second : List ℕ) → is_first_newest (take 9 first) (take 9 second) ≡ is_first_newest first second
same_newest first second =
    ap (λ (b : Bool). b && (not (is_open (take 9 second)) || nat_le (epoch_of (take 9 second)) (epoch_of (take 9 first)))) (same_open first)
    ∙ ap (λ (b : Bool). is_open first && (not b || nat_le (epoch_of (take 9 second)) (epoch_of (take 9 first)))) (same_open second)
    ∙ ap (λ (n : ℕ). is_open first && (not (is_open second) || nat_le n (epoch_of (take 9 first)))) (same_epoch second)
    ∙ ap (λ (n : ℕ). is_open first && (not (is_open second) || nat_le (epoch_of second) n)) (same_epoch first)

nine_of : (shape : Starts) (k : ℕ) (file bytes : List ℕ) → piece (slot_place shape k) 9 file ≡ bytes → take 9 (slot shape k file) ≡ bytes
nine_of shape k file bytes is = take-take 9 (slot_length shape) (drop (slot_place shape k) file) (omega arith) ∙ is

pub second_nine : (shape : Starts) (size : ℕ) (file one : List ℕ) → size ≡ slot_length shape → one ≡ piece (64 + size) 9 file → piece (slot_place shape 1) 9 file ≡ one
second_nine shape size file one size_is is =
    let place : slot_place shape 1 ≡ 64 + size = omega (arith, size_is) in
    ap (λ (a : ℕ). piece a 9 file) place ∙ sym is

-- ---- what both slots stand for

module _ (told : Option (List ℕ)) (shape : Starts) (zero one : List ℕ) (nine : length one ≡ 9) (read : (file : List ℕ) → told ≡ Some file → piece (slot_place shape 1) 9 file ≡ one) (result : Result (Option SnapshotParts) StoreFault) where
  abbrev Says : List ℕ → Type 0
  Says file = piece 64 9 file ≡ zero → SlotsSay (by_slots shape (slot shape 0 file) (slot shape 1 file)) result

  zero_is : (file : List ℕ) → piece 64 9 file ≡ zero → take 9 (slot shape 0 file) ≡ zero
  zero_is file is =
      let place : slot_place shape 0 ≡ 64 = omega arith in
      nine_of shape 0 file zero (ap (λ (a : ℕ). piece a 9 file) place ∙ is)

  one_is : (file : List ℕ) → piece (slot_place shape 1) (length one) file ≡ one → piece (slot_place shape 1) 9 file ≡ one
  one_is file is = ap (λ (n : ℕ). piece (slot_place shape 1) n file) (sym nine) ∙ is

  newest : (file : List ℕ) → piece 64 9 file ≡ zero → piece (slot_place shape 1) (length one) file ≡ one → is_first_newest (slot shape 0 file) (slot shape 1 file) ≡ is_first_newest zero one
  newest file first second =
      sym (same_newest (slot shape 0 file) (slot shape 1 file)) ∙ ap (λ (l : List ℕ). is_first_newest l (take 9 (slot shape 1 file))) (zero_is file first)
      ∙ ap (is_first_newest zero) (nine_of shape 1 file one (one_is file second))

  opened : (file : List ℕ) → piece (slot_place shape 1) (length one) file ≡ one → is_open (slot shape 1 file) ≡ is_open one
  opened file is = sym (same_open (slot shape 1 file)) ∙ ap is_open (nine_of shape 1 file one (one_is file is))

  given : (file : List ℕ) → told ≡ Some file → piece (slot_place shape 1) (length one) file ≡ one
  given file is = ap (λ (n : ℕ). piece (slot_place shape 1) n file) nine ∙ read file is

  -- where a slot is read that tells this
  abbrev SlotTells : Option (List ℕ) → ℕ → List ℕ → Result SnapshotParts StoreFault → Type 0
  SlotTells now k epoch r = Tells now (slot_place shape k + 9) (slot_place shape k + slot_length shape) (λ file. piece (slot_place shape k + 1) 8 file ≡ epoch → SlotSays (by_slot shape k (slot shape k file)) r)

  pub tells_first : (epoch : List ℕ) (r : Result SnapshotParts StoreFault) → epoch ≡ drop 1 zero → is_first_newest zero one ≡ true → ((state : FileState) → SlotSays state r → SlotsSay state result) → (now : Option (List ℕ)) → now ≡ told → SlotTells now 0 epoch r
      → Tells told 73 (file_length shape) Says
  tells_first epoch r epoch_is first hand now same tells =
      let from = slot_place shape 0 + 9 in
      let to = slot_place shape 0 + slot_length shape in
      let P = λ (file : List ℕ). piece (slot_place shape 0 + 1) 8 file ≡ epoch → SlotSays (by_slot shape 0 (slot shape 0 file)) r in
      tells_within told from (file_length shape) Says
      (tells_behind told from to P (subst (λ (t : Option (List ℕ)). SlotTells t 0 epoch r) same tells) (slot_place shape 1) (file_length shape) one Says (omega arith) (omega arith) (omega (arith, nine)) given (λ file long second p zero_is_here.
      let place : slot_place shape 0 ≡ 64 = omega arith in
      let first_bytes = ap (λ (a : ℕ). piece a 9 file) place ∙ zero_is_here in
      hand (by_slots shape (slot shape 0 file) (slot shape 1 file))
      (subst (λ (state : FileState). SlotSays state r) (sym (first_of _ _ _ (newest file zero_is_here second ∙ first)))
      (p (sym (body_in (slot_place shape 0) 8 file) ∙ ap (drop 1) first_bytes ∙ sym epoch_is)))))
      73 (file_length shape) Says (omega arith) (omega arith) (λ file long says. says)

  pub tells_second : (epoch : List ℕ) (r : Result SnapshotParts StoreFault) → epoch ≡ drop 1 one → is_first_newest zero one ≡ false → is_open one ≡ true → ((state : FileState) → SlotSays state r → SlotsSay state result) → (now : Option (List ℕ)) → now ≡ told → SlotTells now 1 epoch r
      → Tells told 73 (file_length shape) Says
  tells_second epoch r epoch_is later open_is hand now same tells =
      let from = slot_place shape 1 + 9 in
      let to = slot_place shape 1 + slot_length shape in
      let P = λ (file : List ℕ). piece (slot_place shape 1 + 1) 8 file ≡ epoch → SlotSays (by_slot shape 1 (slot shape 1 file)) r in
      tells_within told (slot_place shape 1) (file_length shape) Says
      (tells_more told from to P (subst (λ (t : Option (List ℕ)). SlotTells t 1 epoch r) same tells) (slot_place shape 1) (file_length shape) one Says (omega (arith, nine)) (omega (arith, nine)) (omega arith) given (λ file long second p zero_is_here.
      hand (by_slots shape (slot shape 0 file) (slot shape 1 file))
      (subst (λ (state : FileState). SlotSays state r) (sym (second_of _ _ _ (newest file zero_is_here second ∙ later) ∙ first_of _ _ _ (opened file second ∙ open_is)))
      (p (sym (body_in (slot_place shape 1) 8 file) ∙ ap (drop 1) (one_is file second) ∙ sym epoch_is)))))
      73 (file_length shape) Says (omega arith) (omega arith) (λ file long says. says)

  pub tells_neither : is_first_newest zero one ≡ false → is_open one ≡ false → ((state : FileState) → state ≡ nothing → SlotsSay state result) → Tells told 73 (file_length shape) Says
  tells_neither later shut hand =
      tells_within told (slot_place shape 1) (file_length shape) Says
      (tells_one told (slot_place shape 1) (file_length shape) one Says (omega (arith, nine)) given (λ file long second zero_is_here.
      hand (by_slots shape (slot shape 0 file) (slot shape 1 file)) (second_of _ _ _ (newest file zero_is_here second ∙ later) ∙ second_of _ _ _ (opened file second ∙ shut))))
      73 (file_length shape) Says (omega arith) (omega arith) (λ file long says. says)
