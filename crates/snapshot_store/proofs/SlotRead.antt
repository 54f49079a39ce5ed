-- A slot whose body is read piece by piece.
use Rattle.std.proofs.Common.{◌≡◌, ℕ, ◌+◌, ◌-◌, ◌*◌, ◌≤◌, List, [], ◌++◌, length, take, drop, Option, Some, Result, Ok, Err, refl, sym, ◌∙◌, ap, subst, arith, append_assoc, length-append}
use Rattle.std.proofs.Math.Seq.{take-add}
use Rattle.std.specs.Result.{IsErrAnd}
use Rattle.std.proofs.lemmas.List.{append-nil, drop-drop, drop-take}
use Rattle.grape_disk.specs.Images.{piece}
use Rattle.token_cut.specs.Form.{IsInSlotForm}
use Rattle.token_cut.specs.Parts.{SnapshotParts}
use Rattle.token_cut.specs.Shapes.{Starts, HaveShape}
use Rattle.snapshot_file.specs.Bodies.{Form}
use Rattle.snapshot_file.specs.Feeding.{Shows, HasRead}
use Rattle.snapshot_file.specs.Lengths.{body_length, slot_length}
use Rattle.snapshot_file.specs.ReaderState.{ReaderState}
use Rattle.snapshot_file.specs.Reading.{decoded}
use Rattle.snapshot_store.specs.Opening.{SlotSays}
use Rattle.snapshot_store.specs.Reads.{Tells}
use Rattle.snapshot_store.specs.State.{FileState, state_of, by_slot, slot, slot_place}
use Rattle.snapshot_store.specs.declared.fault.StoreFault.{StoreFault}
use Rattle.snapshot_store.specs.declared.fault.StoreFault.TheVariants.{Damaged}
use Rattle.snapshot_store.proofs.Assembled.{tells_within, tells_anyway, tells_one}

-- ---- the bytes of a slot

pub piece_append : (at n m : ℕ) (file : List ℕ) → piece at (n + m) file ≡ piece at n file ++ piece (at + n) m file
piece_append at n m file = take-add n m (drop at file) ∙ ap (λ (l : List ℕ). piece at n file ++ take m l) (drop-drop n at file)

pub body_in : (at n : ℕ) (file : List ℕ) → drop 1 (piece at (n + 1) file) ≡ piece (at + 1) n file
body_in at n file = ap (λ (m : ℕ). drop 1 (piece at m file)) (omega arith) ∙ drop-take 1 n (drop at file) ∙ ap (take n) (drop-drop 1 at file)

pub place_at : (shape : Starts) (number size : ℕ) → size ≡ slot_length shape → 65 + number * size ≡ slot_place shape number + 1
place_at shape number size is = ap (λ (n : ℕ). 65 + number * n) is ∙ next (number * slot_length shape)
  where
    next : (n : ℕ) → 65 + n ≡ 64 + n + 1
    next n = omega arith

-- ---- what is fed to a reader so far: the epoch, and what stands behind it

module _ (told : Option (List ℕ)) (shape : Starts) (place number : ℕ) (epoch : List ℕ) where
  pub record Fed (done : ℕ) (reader : ReaderState) (into : SnapshotParts) : Type 0 where
    pub seen : List ℕ
    pub many : 8 + length seen ≡ done
    pub low : done ≤ body_length shape
    pub given : (file : List ℕ) → told ≡ Some file → piece (place + 8) (length seen) file ≡ seen
    pub has : HasRead shape reader (epoch ++ seen) into
    pub whole : length (epoch ++ seen) ≡ body_length shape → decoded shape number place (epoch ++ seen) ≡ Ok into
    pub form : length (epoch ++ seen) ≡ body_length shape → IsInSlotForm shape number into
    pub have : HaveShape shape.parts into.parts
    pub base : reader.base ≡ place
    pub slot : reader.slot ≡ number
    pub fed : reader.fed ≡ done

  -- what one more feed says of its bytes
  pub record Says (bytes : List ℕ) (reader : ReaderState) (into : SnapshotParts) : Type 0 where
    pub has : HasRead shape reader bytes into
    pub whole : length bytes ≡ body_length shape → decoded shape number place bytes ≡ Ok into
    pub form : length bytes ≡ body_length shape → Form shape number bytes into
    pub have : HaveShape shape.parts into.parts
    pub base : reader.base ≡ place
    pub slot : reader.slot ≡ number

  pub says_of : (bytes : List ℕ) (s b : ℕ) (reader : ReaderState) (into : SnapshotParts) → s ≡ number → b ≡ place → HasRead shape reader bytes into → (length bytes ≡ body_length shape → decoded shape s b bytes ≡ Ok into)
      → (length bytes ≡ body_length shape → Form shape s bytes into) → HaveShape shape.parts into.parts → reader.base ≡ b → reader.slot ≡ s → Says bytes reader into
  says_of bytes s b reader into s_is b_is has whole form have base slot = record {
    has = has;
    whole = λ all. subst (λ (n : ℕ). decoded shape n place bytes ≡ Ok into) s_is (subst (λ (a : ℕ). decoded shape s a bytes ≡ Ok into) b_is (whole all));
    form = λ all. subst (λ (n : ℕ). Form shape n bytes into) s_is (form all);
    have = have;
    base = base ∙ b_is;
    slot = slot ∙ s_is;
  }

  -- the places behind the epoch, with one more piece
  pub given_more : (done : ℕ) (old : ReaderState) (was : SnapshotParts) (next : List ℕ) (so_far : Fed done old was) → ((file : List ℕ) → told ≡ Some file → next ≡ piece (place + done) (length next) file)
      → (file : List ℕ) → told ≡ Some file → piece (place + 8) (length (so_far.seen ++ next)) file ≡ so_far.seen ++ next
  given_more done old was next so_far given file is =
      let start : place + 8 + length so_far.seen ≡ place + done = omega (arith, so_far.many) in
      ap (λ (n : ℕ). piece (place + 8) n file) (length-append so_far.seen next)
      ∙ piece_append (place + 8) (length so_far.seen) (length next) file
      ∙ ap (λ (l : List ℕ). l ++ piece (place + 8 + length so_far.seen) (length next) file) (so_far.given file is)
      ∙ ap (λ (a : ℕ). so_far.seen ++ piece a (length next) file) start
      ∙ ap (λ (l : List ℕ). so_far.seen ++ l) (sym (given file is))

  fed_by : (seen : List ℕ) (done : ℕ) (reader : ReaderState) (into : SnapshotParts) → 8 + length seen ≡ done → done ≤ body_length shape → reader.fed ≡ done
      → ((file : List ℕ) → told ≡ Some file → piece (place + 8) (length seen) file ≡ seen) → Says (epoch ++ seen) reader into → Fed done reader into
  fed_by seen done reader into many low fed given says = record {
    seen = seen;
    many = many;
    low = low;
    given = given;
    has = says.has;
    whole = says.whole;
    form = λ all. (says.form all).in_form;
    have = says.have;
    base = says.base;
    slot = says.slot;
    fed = fed;
  }

  pub fed_first : (reader : ReaderState) (into : SnapshotParts) → 8 ≤ body_length shape → reader.fed ≡ 8 → Says epoch reader into → Fed 8 reader into
  fed_first reader into low fed says =
      fed_by [] 8 reader into refl low fed (λ file is. refl) (subst (λ (l : List ℕ). Says l reader into) (sym (append-nil epoch)) says)

  pub fed_more : (done count : ℕ) (old new : ReaderState) (was into : SnapshotParts) (next : List ℕ) (so_far : Fed done old was) → length next ≡ count → done + count ≤ body_length shape → new.fed ≡ done + count
      → ((file : List ℕ) → told ≡ Some file → next ≡ piece (place + done) (length next) file)
      → Says ((epoch ++ so_far.seen) ++ next) new into → Fed (done + count) new into
  fed_more done count old new was into next so_far many low fed given says =
      fed_by (so_far.seen ++ next) (done + count) new into (omega (arith, length-append so_far.seen next, so_far.many, many)) low fed
      (given_more done old was next so_far given)
      (subst (λ (l : List ℕ). Says l new into) (append_assoc epoch so_far.seen next) says)

-- ---- what a file stands for by what was read

pub shows_at : (shape : Starts) (s b number place : ℕ) (bytes : List ℕ) (wrong : ℕ) → s ≡ number → b ≡ place → Shows shape s b bytes wrong → Shows shape number place bytes wrong
shows_at shape s b number place bytes wrong s_is b_is shows =
    subst (λ (n : ℕ). Shows shape n place bytes wrong) s_is (subst (λ (a : ℕ). Shows shape s a bytes wrong) b_is shows)

-- an error is handed on
pub slot_handed : (state : FileState) (r : Result SnapshotParts StoreFault) (e : StoreFault) → IsErrAnd r (λ x. x ≡ e) → SlotSays state (Err e) → SlotSays state r
slot_handed state (Ok x) e is says = absurd is
slot_handed state (Err x) e is says = subst (λ f. SlotSays state (Err f)) (sym is) says

module _ (told : Option (List ℕ)) (shape : Starts) (place number : ℕ) (epoch : List ℕ) (place_is : place ≡ slot_place shape number + 1) where
  -- the slot says that of a file that has the epoch
  abbrev pub SlotTells : Result SnapshotParts StoreFault → Type 0
  SlotTells result = Tells told (slot_place shape number + 9) (slot_place shape number + slot_length shape)
      (λ file. piece (slot_place shape number + 1) 8 file ≡ epoch → SlotSays (by_slot shape number (slot shape number file)) result)

  body_is : (file seen : List ℕ) (rest : ℕ) → 8 + length seen + rest ≡ body_length shape → piece (slot_place shape number + 1) 8 file ≡ epoch
      → piece (place + 8) (length seen) file ≡ seen → drop 1 (slot shape number file) ≡ (epoch ++ seen) ++ piece (place + 8 + length seen) rest file
  body_is file seen rest all epoch_is seen_is =
      let at = slot_place shape number + 1 in
      let next : slot_place shape number + 1 + 8 ≡ place + 8 = omega (arith, place_is) in
      let both : slot_place shape number + 1 + (8 + length seen) ≡ place + 8 + length seen = omega (arith, place_is) in
      body_in (slot_place shape number) (body_length shape) file
      ∙ ap (λ (n : ℕ). piece (slot_place shape number + 1) n file) (sym all)
      ∙ piece_append at (8 + length seen) rest file
      ∙ ap (λ (l : List ℕ). l ++ piece (at + (8 + length seen)) rest file) (piece_append at 8 (length seen) file
      ∙ ap (λ (l : List ℕ). l ++ piece (at + 8) (length seen) file) epoch_is ∙ ap (λ (a : ℕ). epoch ++ piece a (length seen) file) next ∙ ap (λ (l : List ℕ). epoch ++ l) seen_is)
      ∙ ap (λ (a : ℕ). (epoch ++ seen) ++ piece a rest file) both

  pub tells_fault : (result : Result SnapshotParts StoreFault) → ((state : FileState) → SlotSays state result) → SlotTells result
  tells_fault result says = tells_anyway told _ _ _ (λ file long is. says (by_slot shape number (slot shape number file)))

  -- what stands behind the epoch tells it
  tells_seen : (seen : List ℕ) (result : Result SnapshotParts StoreFault) → 8 + length seen ≤ body_length shape → ((file : List ℕ) → told ≡ Some file → piece (place + 8) (length seen) file ≡ seen)
      → ((file : List ℕ) → SlotSays (state_of (decoded shape number place ((epoch ++ seen) ++ piece (place + 8 + length seen) (body_length shape - (8 + length seen)) file))) result) → SlotTells result
  tells_seen seen result low given says =
      let from = slot_place shape number + 9 in
      let to = slot_place shape number + slot_length shape in
      let P = λ (file : List ℕ). piece (slot_place shape number + 1) 8 file ≡ epoch → SlotSays (by_slot shape number (slot shape number file)) result in
      let rest = body_length shape - (8 + length seen) in
      tells_within told (place + 8) to P
      (tells_one told (place + 8) to seen P (omega (arith, place_is, low)) given (λ file long seen_is epoch_is.
      subst (λ (state : FileState). SlotSays state result)
      (sym (ap (λ (a : ℕ). state_of (decoded shape number a (drop 1 (slot shape number file)))) (sym place_is)
      ∙ ap (λ (l : List ℕ). state_of (decoded shape number place l)) (body_is file seen rest (omega (arith, low)) epoch_is seen_is)))
      (says file)))
      from to P (omega (arith, place_is)) (omega arith) (λ file long p. p)

  -- the first wrong field is shown
  pub tells_damaged : (seen : List ℕ) (result : Result SnapshotParts StoreFault) (wrong : ℕ) → 8 + length seen ≤ body_length shape → ((file : List ℕ) → told ≡ Some file → piece (place + 8) (length seen) file ≡ seen)
      → Shows shape number place (epoch ++ seen) wrong → IsErrAnd result (λ x. x ≡ Damaged wrong) → SlotTells result
  tells_damaged seen result wrong low given shown is =
      tells_seen seen result low given (λ file. slot_handed _ result (Damaged wrong) is (ap state_of (shown.wrong _)))

  -- all was read
  pub tells_all : (done : ℕ) (reader : ReaderState) (into : SnapshotParts) → body_length shape ≤ done → length epoch ≡ 8 → Fed told shape place number epoch done reader into → SlotTells (Ok into)
  tells_all done reader into all eight so_far =
      let seen = so_far.seen in
      let none : body_length shape - (8 + length so_far.seen) ≡ 0 = omega (arith, so_far.many, all) in
      tells_seen seen (Ok into) (omega (arith, so_far.many, so_far.low)) so_far.given (λ file.
      ap (λ (n : ℕ). state_of (decoded shape number place ((epoch ++ seen) ++ piece (place + 8 + length seen) n file))) none
      ∙ ap (λ (l : List ℕ). state_of (decoded shape number place l)) (append-nil (epoch ++ seen))
      ∙ ap state_of (so_far.whole (omega (arith, length-append epoch seen, eight, so_far.many, so_far.low, all))))
