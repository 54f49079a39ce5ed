-- What a file opens as by its front and its slots.
use Rattle.std.proofs.Common.{◌≡◌, ℕ, ◌≤◌, min, Bool, true, false, List, ◌++◌, take, drop, length, Option, Some, None, Result, Ok, Err, refl, sym, ◌∙◌, ap, subst, arith, length-take, length-drop}
use Rattle.std.specs.Result.{IsErrAnd}
use Rattle.std.proofs.lemmas.List.{take_all, take_at, take_min, take-take, drop-take}
use Rattle.grape_disk.specs.Images.{piece}
use Rattle.token_cut.specs.Parts.{SnapshotParts}
use Rattle.token_cut.specs.Shapes.{Starts}
use Rattle.snapshot_file.specs.Lengths.{file_length}
use Rattle.snapshot_store.specs.State.{FileState, HasEpoch, IsKept, by_header, by_slots, or_by_slots, slot, file_state}
use Rattle.snapshot_store.specs.State.FileState.{nothing, last}
use Rattle.snapshot_store.specs.Opening.{OpensAs, NamesBoth, HeaderSays, SlotsSay}
use Rattle.snapshot_store.specs.Reads.{Tells}
use Rattle.snapshot_store.specs.declared.fault.StoreFault.{StoreFault}
use Rattle.snapshot_store.specs.declared.fault.StoreFault.TheVariants.{Disk, Other, Damaged, NoMemory}
use Rattle.snapshot_store.specs.declared.opened.Opened.{Opened}
use Rattle.snapshot_store.specs.declared.opened.Opened.TheVariants.{Nothing, Last}
use Rattle.snapshot_store.proofs.Assembled.{some_file, tells_within, tells_more, tells_anyway, untold}
use Rattle.snapshot_store.proofs.TwoSlots.{header_long}

-- ---- the front

pub front_read : (file to back : List ℕ) (n size : ℕ) → to ≡ piece 0 n file → n ≡ min size 73 → length to ≡ n → size ≡ length file → take 73 file ≡ take (min size 73) (to ++ back)
front_read file to back n size is n_is long size_is =
    let least : min 73 (length file) ≡ n = omega (arith, n_is, size_is) in
    sym (ap (λ (m : ℕ). take m (to ++ back)) (sym n_is) ∙ take_at to back n long ∙ is ∙ ap (λ (m : ℕ). take m file) (sym least) ∙ take_min 73 file)

module _ (file front : List ℕ) (size : ℕ) (read : take 73 file ≡ take (min size 73) front) where
  head_in : 64 ≤ size → take 64 file ≡ take 64 front
  head_in long = sym (take-take 64 73 file (omega arith)) ∙ ap (take 64) read ∙ take-take 64 (min size 73) front (omega (arith, long))

  pub zero_in : (zero : List ℕ) → 73 ≤ size → length front ≡ 73 → zero ≡ drop 64 front → piece 64 9 file ≡ zero
  zero_in zero long many is =
      let all : min size 73 ≡ 73 = omega (arith, long) in
      sym (drop-take 64 9 file) ∙ ap (drop 64) (read ∙ ap (λ (m : ℕ). take m front) all ∙ take_all 73 front (omega (arith, many))) ∙ sym is

  pub header_in : (shape : Starts) (digest head : List ℕ) → length file ≡ size → 64 ≤ size → head ≡ take 64 front → by_header shape digest (length file) (take 64 file) ≡ by_header shape digest size head
  header_in shape digest head size_is long is =
      ap (λ (n : ℕ). by_header shape digest n (take 64 file)) size_is ∙ ap (by_header shape digest size) (head_in long ∙ sym is)

-- ---- the answer

module _ (shape : Starts) (digest file : List ℕ) where
  abbrev header : Option FileState
  header = by_header shape digest (length file) (take 64 file)

  abbrev slots : FileState
  slots = by_slots shape (slot shape 0 file) (slot shape 1 file)

  by : (o : Option FileState) → header ≡ o → file_state shape digest file ≡ or_by_slots o slots
  by o is = ap (λ (p : Option FileState). or_by_slots p slots) is

  header_error : (e : StoreFault) → HeaderSays digest header (Err e) → OpensAs shape digest file (Err e)
  header_error Disk heard = absurd heard
  header_error (Other kept here) heard = (by _ heard.0, heard.1)
  header_error (Damaged place) heard = by _ heard
  header_error NoMemory heard = tt

  slots_error : (e : StoreFault) → header ≡ None → SlotsSay slots (Err e) → OpensAs shape digest file (Err e)
  slots_error Disk whole heard = tt
  slots_error (Other kept here) whole heard = absurd heard
  slots_error (Damaged place) whole heard = by None whole ∙ heard
  slots_error NoMemory whole heard = tt

  handed : (r : Result Opened StoreFault) (e : StoreFault) → IsErrAnd r (λ x. x ≡ e) → OpensAs shape digest file (Err e) → OpensAs shape digest file r
  handed (Ok x) e is heard = absurd is
  handed (Err x) e is heard = subst (λ f. OpensAs shape digest file (Err f)) (sym is) heard

  pub opens_header : (r : Result Opened StoreFault) (e : StoreFault) → IsErrAnd r (λ x. x ≡ e) → HeaderSays digest header (Err e) → OpensAs shape digest file r
  opens_header r e is heard = handed r e is (header_error e heard)

  pub opens_slots : (r : Result Opened StoreFault) (e : StoreFault) → IsErrAnd r (λ x. x ≡ e) → header ≡ None → SlotsSay slots (Err e) → OpensAs shape digest file r
  opens_slots r e is whole heard = handed r e is (slots_error e whole heard)

  pub opens_no_memory : (r : Result Opened StoreFault) → IsErrAnd r (λ x. x ≡ NoMemory) → OpensAs shape digest file r
  opens_no_memory r is = handed r NoMemory is tt

  pub opens_nothing : header ≡ Some nothing → file_state shape digest file ≡ nothing
  opens_nothing is = by _ is

  pub opens_none : (found : Option SnapshotParts) → found ≡ None → header ≡ None → SlotsSay slots (Ok found) → file_state shape digest file ≡ nothing
  opens_none None is whole heard = by None whole ∙ heard
  opens_none (Some snapshot) is whole heard = absurd (cc)

  opens_last : (found : Option SnapshotParts) (snapshot : SnapshotParts) → found ≡ Some snapshot → header ≡ None → SlotsSay slots (Ok found) → (file_state shape digest file ≡ last snapshot) × IsKept shape digest snapshot.epoch file
  opens_last None snapshot is whole heard = absurd (cc)
  opens_last (Some other) snapshot is whole heard =
      let same : other ≡ snapshot = cc in
      let last_is = heard ∙ ap last same in
      (by None whole ∙ last_is, record { whole = whole; kept = subst (λ s. HasEpoch snapshot.epoch s) (sym last_is) refl })

-- ---- what was read tells the answer

pub is_shut : (digest : List ℕ) (says : Option FileState) (whole : Bool) → whole ≡ false → HeaderSays digest says (Ok whole) → says ≡ Some nothing
is_shut digest says true is heard = absurd (cc)
is_shut digest says false is heard = heard

pub is_whole : (digest : List ℕ) (says : Option FileState) (whole : Bool) → whole ≡ true → HeaderSays digest says (Ok whole) → says ≡ None
is_whole digest says true is heard = heard
is_whole digest says false is heard = absurd (cc)

-- the slots are of no other input
named : (state : FileState) (digest : List ℕ) (r : Result Opened StoreFault) (e : StoreFault) → IsErrAnd r (λ x. x ≡ e) → SlotsSay state (Err e) → NamesBoth digest r
named state digest (Ok Nothing) e is heard = tt
named state digest (Ok (Last store snapshot)) e is heard = tt
named state digest (Err Disk) e is heard = tt
named state digest (Err NoMemory) e is heard = tt
named state digest (Err (Damaged place)) e is heard = tt
named state digest (Err (Other kept here)) e is heard = absurd (subst (λ f. SlotsSay state (Err f)) (sym is) heard)

module _ (told : Option (List ℕ)) (shape : Starts) (digest front head zero : List ℕ) (size : ℕ) (long : 64 ≤ size) (head_is : head ≡ take 64 front) where
  abbrev Answers : Result Opened StoreFault → List ℕ → Type 0
  Answers result file = length file ≡ size → take 73 file ≡ take (min size 73) front → OpensAs shape digest file result

  pub tells_header : (result : Result Opened StoreFault) → ((file : List ℕ) → by_header shape digest (length file) (take 64 file) ≡ by_header shape digest size head → OpensAs shape digest file result) → Tells told (min size 73) size (Answers result)
  tells_header result so = tells_anyway told (min size 73) size (Answers result) (λ file _ size_is read. so file (header_in file front size read shape digest head size_is long head_is))

  module _ (many : length front ≡ 73) (zero_is : zero ≡ drop 64 front) (whole : by_header shape digest size head ≡ None) (r : Result (Option SnapshotParts) StoreFault)
      (tells : Tells told 73 (file_length shape) (λ file. piece 64 9 file ≡ zero → SlotsSay (by_slots shape (slot shape 0 file) (slot shape 1 file)) r)) where
    enough : file_length shape ≤ size
    enough = header_long shape digest head size whole

    pub tells_slots : (result : Result Opened StoreFault) → ((file : List ℕ) → by_header shape digest (length file) (take 64 file) ≡ None → SlotsSay (by_slots shape (slot shape 0 file) (slot shape 1 file)) r → OpensAs shape digest file result)
        → Tells told (min size 73) size (Answers result)
    tells_slots result so =
        tells_within told 73 (file_length shape) _ tells (min size 73) size (Answers result) (omega arith) enough (λ file _ says size_is read.
        so file (header_in file front size read shape digest head size_is long head_is ∙ whole) (says (zero_in file front size read zero (omega (arith, enough)) many zero_is)))

    pub tells_last : (found : Option SnapshotParts) (snapshot : SnapshotParts) → r ≡ Ok found → found ≡ Some snapshot
        → Tells told (min size 73) size (λ file. length file ≡ size → take 73 file ≡ take (min size 73) front → (file_state shape digest file ≡ last snapshot) × IsKept shape digest snapshot.epoch file)
    tells_last found snapshot r_is is =
        tells_within told 73 (file_length shape) _ tells (min size 73) size _ (omega arith) enough (λ file _ says size_is read.
        opens_last shape digest file found snapshot is (header_in file front size read shape digest head size_is long head_is ∙ whole)
        (subst (SlotsSay (by_slots shape (slot shape 0 file) (slot shape 1 file))) r_is (says (zero_in file front size read zero (omega (arith, enough)) many zero_is))))

    pub tells_names : (result : Result Opened StoreFault) (e : StoreFault) → r ≡ Err e → IsErrAnd result (λ x. x ≡ e) → NamesBoth digest result
    tells_names result e is handed =
        let says = λ (file : List ℕ). SlotsSay (by_slots shape (slot shape 0 file) (slot shape 1 file)) r in
        let nine : length zero ≡ 9 = omega (arith, ap length zero_is, length-drop 64 front, many) in
        let before = untold told 73 (file_length shape) (λ (file : List ℕ). piece 64 9 file ≡ zero → says file) tells in
        let all = tells_more None 73 (file_length shape) (λ (file : List ℕ). piece 64 9 file ≡ zero → says file) before 64 (file_length shape) zero says (omega (arith, nine)) (omega (arith, nine)) (omega arith) (λ file none. absurd (cc))
        (λ file _ stands heard. heard (ap (λ (n : ℕ). piece 64 n file) (sym nine) ∙ stands)) in
        let found = some_file None 64 (file_length shape) says all in
        named (by_slots shape (slot shape 0 found.0) (slot shape 1 found.0)) digest result e handed (subst (SlotsSay (by_slots shape (slot shape 0 found.0) (slot shape 1 found.0))) is found.2)

-- some file opens so, whether the disk tells a content or not
pub opens_some : (told : Option (List ℕ)) (shape : Starts) (digest front : List ℕ) (size : ℕ) (r : Result Opened StoreFault) → length front ≡ 73
    → Tells told (min size 73) size (λ file. length file ≡ size → take 73 file ≡ take (min size 73) front → OpensAs shape digest file r) → (file : List ℕ) × OpensAs shape digest file r
opens_some told shape digest front size r many tells =
    let bytes = take (min size 73) front in
    let long : length (take (min size 73) front) ≡ min size 73 = omega (arith, length-take (min size 73) front, many) in
    let so = λ (file : List ℕ). length file ≡ size → OpensAs shape digest file r in
    let from = λ (file : List ℕ). length file ≡ size → take 73 file ≡ take (min size 73) front → OpensAs shape digest file r in
    let all = tells_more None (min size 73) size from (untold told (min size 73) size from tells) 0 size bytes so (omega (arith, long)) (omega (arith, long)) (omega arith) (λ file none. absurd (cc))
    (λ file _ stands opens size_is. opens size_is (front_stands file bytes size (size_is) long stands)) in
    let found = some_file None 0 size so all in
    (found.0, found.2 found.1)
  where
    front_stands : (file bytes : List ℕ) (size : ℕ) → length file ≡ size → length bytes ≡ min size 73 → piece 0 (length bytes) file ≡ bytes → take 73 file ≡ bytes
    front_stands file bytes size size_is long stands =
        let least : min 73 (length file) ≡ length bytes = omega (arith, size_is, long) in
        sym (take_min 73 file) ∙ ap (λ (m : ℕ). take m file) least ∙ stands
