-- What a reader of a body knows once a byte more is fed.
use Rattle.std.proofs.Common.{◌≡◌, ◌⊎◌, inl, inr, ℕ, zero, suc, ◌+◌, ◌-◌, ◌≤◌, ◌<◌, nat_lt, Bool, true, false, if◌then◌else◌, List, [], ◌∷◌, ◌++◌, take, drop, length, get_or, replicate, sum, Option, Result, Ok, Err, None, refl, sym, ap, ◌∙◌, subst, arith, append_assoc, length-append}
use Rattle.std.specs.List.{flat_map}
use Rattle.std.proofs.lemmas.Bool.Decides.{leb_tells}
use Rattle.std.proofs.lemmas.List.{drop_more, drop_all, take_all, append-nil, take-append-drop}
use Rattle.std.proofs.lemmas.List.Sums.{sum_by-append, sum_by-take-le}
use Rattle.token_cut.specs.Parts.{PartValues, SnapshotParts}
use Rattle.token_cut.specs.Shapes.{PartStarts, Starts, HaveShape}
use Rattle.snapshot_file.specs.Bodies.{Form}
use Rattle.snapshot_file.specs.Tests.{is_epoch}
use Rattle.snapshot_file.specs.Feeding.{Shows, HasRead}
use Rattle.snapshot_file.specs.Fields.{part_numbers, part_widths, field_widths}
use Rattle.snapshot_file.specs.Lengths.{parts_length, body_length}
use Rattle.snapshot_file.specs.Reading.{number, parts_decoded, decoded, read_as}
use Rattle.snapshot_file.specs.Pieces.{starts_at, no_starts, left_decoded, width_of, widths_from, IsField, MayCome, field_behind, next_field, is_right, put_field}
use Rattle.snapshot_file.specs.ReaderState.{ReaderState}
use Rattle.snapshot_file.specs.declared.field.Field.{Field}
use Rattle.snapshot_file.specs.declared.field.Field.TheVariants.{Epoch, PhaseOf, NumberOf}
use Rattle.snapshot_file.proofs.ByField.{field_right, field_wrong}
use Rattle.snapshot_file.proofs.FormOf.{body_form}
use Rattle.snapshot_file.proofs.Run.{sum_widths, have_length}

-- ---- widths

widths_behind : (shape : Starts) (k n : ℕ) → widths_from shape (NumberOf k n) ≡ widths_from shape (field_behind k n (starts_at k shape.parts))
widths_behind shape k n = cases (nat_lt n (part_numbers (starts_at k shape.parts))) (leb_tells (suc n) (part_numbers (starts_at k shape.parts)))
  where
    cases : (b : Bool) → ((b ≡ true) × (suc n ≤ part_numbers (starts_at k shape.parts))) ⊎ ((b ≡ false) × (part_numbers (starts_at k shape.parts) < suc n))
        → widths_from shape (NumberOf k n) ≡ widths_from shape (if b then NumberOf k n else PhaseOf (k + 1))
    cases true t = refl
    cases false (inl l) = absurd (let e : false ≡ true = l.0 in cc)
    cases false (inr r) =
        let none : part_numbers (starts_at k shape.parts) - n ≡ 0 = omega (arith, r.1) in
        ap (λ (m : ℕ). replicate m 8 ++ flat_map part_widths (drop (k + 1) shape.parts)) none

pub widths_next : (shape : Starts) (field : Field) → IsField shape.parts field → widths_from shape field ≡ width_of field ∷ widths_from shape (next_field shape.parts field)
widths_next shape Epoch is = refl
widths_next shape (PhaseOf k) is =
    let all : part_numbers (starts_at k shape.parts) ≡ part_numbers (starts_at k shape.parts) - 0 = omega arith in
    ap (flat_map part_widths) (drop_more shape.parts k no_starts is)
    ∙ ap (λ (m : ℕ). 1 ∷ replicate m 8 ++ flat_map part_widths (drop (k + 1) shape.parts)) all
    ∙ ap (λ (l : List ℕ). 1 ∷ l) (widths_behind shape k 0)
widths_next shape (NumberOf k n) is =
    let one : part_numbers (starts_at k shape.parts) - n ≡ suc (part_numbers (starts_at k shape.parts) - (n + 1)) = omega (arith, is.1) in
    ap (λ (m : ℕ). replicate m 8 ++ flat_map part_widths (drop (k + 1) shape.parts)) one
    ∙ ap (λ (l : List ℕ). 8 ∷ l) (widths_behind shape k (n + 1))

may_come_next : (shape : List PartStarts) (field : Field) → IsField shape field → MayCome shape (next_field shape field)
may_come_next shape Epoch is = tt
may_come_next shape (PhaseOf k) is = cases (nat_lt 0 (part_numbers (starts_at k shape))) (leb_tells 1 (part_numbers (starts_at k shape)))
  where
    cases : (b : Bool) → ((b ≡ true) × (1 ≤ part_numbers (starts_at k shape))) ⊎ ((b ≡ false) × (part_numbers (starts_at k shape) < 1)) → MayCome shape (if b then NumberOf k 0 else PhaseOf (k + 1))
    cases true (inl l) = (is, (let e : 0 < part_numbers (starts_at k shape) = omega (arith, l.1) in e))
    cases true (inr r) = absurd (let e : true ≡ false = r.0 in cc)
    cases false t = tt
may_come_next shape (NumberOf k n) is = cases (nat_lt (n + 1) (part_numbers (starts_at k shape))) (leb_tells (suc (n + 1)) (part_numbers (starts_at k shape)))
  where
    cases : (b : Bool) → ((b ≡ true) × (suc (n + 1) ≤ part_numbers (starts_at k shape))) ⊎ ((b ≡ false) × (part_numbers (starts_at k shape) < suc (n + 1))) → MayCome shape (if b then NumberOf k (n + 1) else PhaseOf (k + 1))
    cases true (inl l) = (is.0, (let e : n + 1 < part_numbers (starts_at k shape) = omega (arith, l.1) in e))
    cases true (inr r) = absurd (let e : true ≡ false = r.0 in cc)
    cases false t = tt

some_width : (field : Field) → 0 < width_of field
some_width Epoch = omega arith
some_width (PhaseOf k) = omega arith
some_width (NumberOf k n) = omega arith

sum_parts : (parts : List PartStarts) → sum (flat_map part_widths parts) ≡ parts_length parts
sum_parts [] = refl
sum_parts (starts ∷ parts) = omega (arith, sum_by-append (λ (n : ℕ). n) (part_widths starts) (flat_map part_widths parts), sum_widths starts, sum_parts parts)

sum_fields : (shape : Starts) → sum (field_widths shape) ≡ body_length shape
sum_fields shape = omega (arith, sum_by-append (λ (n : ℕ). n) (8 ∷ []) (flat_map part_widths shape.parts), sum_parts shape.parts)

pub record Split (ws : List ℕ) (c w : ℕ) (more : List ℕ) : Type 0 where
  pub low : c < length ws
  pub sums : sum (take (c + 1) ws) ≡ sum (take c ws) + w
  pub rest : drop (c + 1) ws ≡ more

pub split_of : (ws : List ℕ) (c w : ℕ) (more : List ℕ) → drop c ws ≡ w ∷ more → Split ws c w more
split_of [] zero w more e = absurd (cc)
split_of [] (suc c) w more e = absurd (cc)
split_of (v ∷ ws) zero w more e =
    let v_is : v ≡ w = cc in
    let ws_is : ws ≡ more = cc in
    record { low = omega arith; sums = omega (arith, v_is); rest = ws_is }
split_of (v ∷ ws) (suc c) w more e =
    let s = split_of ws c w more e in
    let one : suc c + 1 ≡ suc (c + 1) = omega arith in
    let total : sum (take (suc (c + 1)) (v ∷ ws)) ≡ sum (take (suc c) (v ∷ ws)) + w = omega (arith, s.sums, sum_by-append (λ (n : ℕ). n) (v ∷ []) (take (c + 1) ws), sum_by-append (λ (n : ℕ). n) (v ∷ []) (take c ws)) in
    record {
      low = omega (arith, s.low);
      sums = ap (λ (k : ℕ). sum (take k (v ∷ ws))) one ∙ total;
      rest = ap (λ (k : ℕ). drop k (v ∷ ws)) one ∙ s.rest;
    }

pub none_behind : (ws : List ℕ) (c : ℕ) → drop c ws ≡ [] → sum (take c ws) ≡ sum ws
none_behind [] zero e = refl
none_behind [] (suc c) e = refl
none_behind (v ∷ ws) zero e = absurd (cc)
none_behind (v ∷ ws) (suc c) e = omega (arith, none_behind ws c e, sum_by-append (λ (n : ℕ). n) (v ∷ []) (take c ws), sum_by-append (λ (n : ℕ). n) (v ∷ []) ws)

-- ---- nothing is fed

pub none_fed : (shape : Starts) (base slot : ℕ) (into : SnapshotParts) → HasRead shape (record { base = base; slot = slot; fed = 0; field = Epoch; held = []; wrong = None }) [] into
none_fed shape base slot into = record {
  sound = refl;
  fed = refl;
  are_bytes = λ i. omega arith;
  front = [];
  is = refl;
  begun = omega arith;
  may_come = tt;
  count = 0;
  reach = refl;
  from_here = refl;
  reads = λ rest. ap (λ (a : ℕ). decoded shape slot a rest) (let e : base ≡ base + 0 = omega arith in e);
}

-- ---- one byte

bytes_more : (bytes : List ℕ) (b : ℕ) → ((i : ℕ) → get_or bytes i 0 < 256) → b < 256 → (i : ℕ) → get_or (bytes ++ b ∷ []) i 0 < 256
bytes_more [] b are small zero = small
bytes_more [] b are small (suc i) = omega arith
bytes_more (a ∷ bytes) b are small zero = are 0
bytes_more (a ∷ bytes) b are small (suc i) = bytes_more bytes b (λ j. are (suc j)) small i

module _ (shape : Starts) (base slot fed : ℕ) (field : Field) (held : List ℕ) (flaw : Option ℕ) (bytes : List ℕ) (into : SnapshotParts) (b : ℕ) (small : b < 256)
    (read : HasRead shape (record { base = base; slot = slot; fed = fed; field = field; held = held; wrong = flaw }) bytes into) where
  fed_more : fed + 1 ≡ length (bytes ++ b ∷ [])
  fed_more = omega (arith, read.fed, length-append bytes (b ∷ []))

  is_more : bytes ++ b ∷ [] ≡ read.front ++ (held ++ b ∷ [])
  is_more = ap (λ (l : List ℕ). l ++ b ∷ []) read.is ∙ append_assoc read.front held (b ∷ [])

  pub held_more : length held + 1 < width_of field → HasRead shape (record { base = base; slot = slot; fed = fed + 1; field = field; held = held ++ b ∷ []; wrong = flaw }) (bytes ++ b ∷ []) into
  held_more short = record {
    sound = read.sound;
    fed = fed_more;
    are_bytes = bytes_more bytes b read.are_bytes small;
    front = read.front;
    is = is_more;
    begun = omega (arith, short, length-append held (b ∷ []));
    may_come = read.may_come;
    count = read.count;
    reach = read.reach;
    from_here = read.from_here;
    reads = read.reads;
  }

  -- the byte is the last of a field, whose bytes stand first in a list of eight
  module _ (whole : List ℕ) (long : length whole ≡ 8) (stands : take (width_of field) whole ≡ held ++ b ∷ []) (wide : length held + 1 ≡ width_of field) (is_field : IsField shape.parts field) where
    split : Split (field_widths shape) read.count (width_of field) (widths_from shape (next_field shape.parts field))
    split = split_of (field_widths shape) read.count (width_of field) (widths_from shape (next_field shape.parts field)) (read.from_here ∙ widths_next shape field is_field)

    front_long : length (read.front ++ (held ++ b ∷ [])) ≡ length read.front + width_of field
    front_long = omega (arith, length-append read.front (held ++ b ∷ []), length-append held (b ∷ []), wide)

    pub field_read : HaveShape shape.parts into.parts → is_right shape slot into field whole ≡ true
        → HasRead shape (record { base = base; slot = slot; fed = fed + 1; field = next_field shape.parts field; held = []; wrong = flaw }) (bytes ++ b ∷ []) (put_field field whole into)
    field_read have right = record {
      sound = read.sound;
      fed = fed_more;
      are_bytes = bytes_more bytes b read.are_bytes small;
      front = read.front ++ (held ++ b ∷ []);
      is = is_more ∙ sym (append-nil (read.front ++ (held ++ b ∷ [])));
      begun = some_width (next_field shape.parts field);
      may_come = may_come_next shape.parts field is_field;
      count = read.count + 1;
      reach = omega (arith, split.sums, read.reach, front_long);
      from_here = split.rest;
      reads = λ rest.
          ap (decoded shape slot base) (append_assoc read.front (held ++ b ∷ []) rest)
          ∙ read.reads ((held ++ b ∷ []) ++ rest)
          ∙ ap (λ (l : List ℕ). left_decoded shape slot field into (base + length read.front) (l ++ rest)) (sym stands)
          ∙ field_right shape slot into field (base + length read.front) whole rest long have is_field right
          ∙ ap (λ (a : ℕ). left_decoded shape slot (next_field shape.parts field) (put_field field whole into) a rest) (let e : base + length read.front + width_of field ≡ base + length (read.front ++ (held ++ b ∷ [])) = omega (arith, front_long) in e);
    }

    pub field_shown : (place : ℕ) → place ≡ base + (fed + 1 - width_of field) → is_right shape slot into field whole ≡ false → Shows shape slot base (bytes ++ b ∷ []) place
    field_shown place place_is wrong =
        let here : base + length read.front ≡ place = omega (arith, place_is, read.fed, ap length read.is, length-append read.front held, wide) in
        record {
          count = read.count;
          within = split.low;
          reach = omega (arith, read.reach, here);
          whole = omega (arith, split.sums, read.reach, ap length is_more, front_long);
          wrong = λ rest.
              ap (λ (l : List ℕ). decoded shape slot base (l ++ rest)) is_more
              ∙ ap (decoded shape slot base) (append_assoc read.front (held ++ b ∷ []) rest)
              ∙ read.reads ((held ++ b ∷ []) ++ rest)
              ∙ ap (λ (l : List ℕ). left_decoded shape slot field into (base + length read.front) (l ++ rest)) (sym stands)
              ∙ field_wrong shape slot into field (base + length read.front) whole rest long is_field wrong
              ∙ ap (λ (a : ℕ). (let r : Result SnapshotParts ℕ = Err a in r)) here;
        }

pub shows_more : (shape : Starts) (slot base : ℕ) (front behind bytes : List ℕ) (place : ℕ) → front ++ behind ≡ bytes → Shows shape slot base front place → Shows shape slot base bytes place
shows_more shape slot base front behind bytes place is shows = record {
  count = shows.count;
  within = shows.within;
  reach = shows.reach;
  whole = omega (arith, shows.whole, ap length is, length-append front behind);
  wrong = λ rest. ap (λ (l : List ℕ). decoded shape slot base (l ++ rest)) (sym is) ∙ ap (decoded shape slot base) (append_assoc front behind rest) ∙ shows.wrong (behind ++ rest);
}

pub piece_joined : (bytes piece : List ℕ) (i : ℕ) → i < length piece → ((bytes ++ take i piece) ++ get_or piece i 0 ∷ []) ++ drop (i + 1) piece ≡ bytes ++ piece
piece_joined bytes piece i low =
    append_assoc (bytes ++ take i piece) (get_or piece i 0 ∷ []) (drop (i + 1) piece)
    ∙ append_assoc bytes (take i piece) (get_or piece i 0 ∷ drop (i + 1) piece)
    ∙ ap (λ (l : List ℕ). bytes ++ (take i piece ++ l)) (sym (drop_more piece i 0 low))
    ∙ ap (λ (l : List ℕ). bytes ++ l) (take-append-drop i piece)

-- ---- the end of the body

pub ends_or_is : (shape : Starts) (field : Field) → MayCome shape.parts field → IsField shape.parts field ⊎ ((widths_from shape field ≡ []) × (width_of field ≡ 1))
ends_or_is shape Epoch may = inl tt
ends_or_is shape (PhaseOf k) may = cases (leb_tells (suc k) (length shape.parts))
  where
    cases : ((nat_lt k (length shape.parts) ≡ true) × (suc k ≤ length shape.parts)) ⊎ ((nat_lt k (length shape.parts) ≡ false) × (length shape.parts < suc k)) → (k < length shape.parts) ⊎ ((flat_map part_widths (drop k shape.parts) ≡ []) × (width_of (PhaseOf k) ≡ 1))
    cases (inl l) = inl (let e : k < length shape.parts = omega (arith, l.1) in e)
    cases (inr r) = inr (ap (flat_map part_widths) (drop_all k shape.parts (let e : length shape.parts ≤ k = omega (arith, r.1) in e)), refl)
ends_or_is shape (NumberOf k n) may = inl may

-- a body that isn't whole has a next field
pub field_comes : (shape : Starts) (reader : ReaderState) (bytes : List ℕ) (into : SnapshotParts) → HasRead shape reader bytes into → reader.fed < body_length shape → IsField shape.parts reader.field
field_comes shape reader bytes into read low = cases (ends_or_is shape reader.field read.may_come)
  where
    cases : IsField shape.parts reader.field ⊎ ((widths_from shape reader.field ≡ []) × (width_of reader.field ≡ 1)) → IsField shape.parts reader.field
    cases (inl is) = is
    cases (inr none) =
        absurd (omega (arith, low, read.fed, ap length read.is, length-append read.front reader.held, read.reach, none_behind (field_widths shape) read.count (read.from_here ∙ none.0), sum_fields shape))

at_end : (shape : Starts) (slot at : ℕ) (field : Field) (into : SnapshotParts) → HaveShape shape.parts into.parts → MayCome shape.parts field → (IsField shape.parts field → ⊥) → left_decoded shape slot field into at [] ≡ Ok into
at_end shape slot at Epoch into have may past = absurd (past tt)
at_end shape slot at (PhaseOf k) into have may past = cases (leb_tells (suc k) (length shape.parts))
  where
    cases : ((nat_lt k (length shape.parts) ≡ true) × (suc k ≤ length shape.parts)) ⊎ ((nat_lt k (length shape.parts) ≡ false) × (length shape.parts < suc k)) → left_decoded shape slot (PhaseOf k) into at [] ≡ Ok into
    cases (inl l) = absurd (past (let e : k < length shape.parts = omega (arith, l.1) in e))
    cases (inr r) =
        let high : length shape.parts ≤ k = omega (arith, r.1) in
        ap (λ (l : List PartStarts). read_as (λ (ps : List PartValues). (let s : SnapshotParts = record { epoch = into.epoch; parts = ps } in s)) (read_as (λ (qs : List PartValues). take k into.parts ++ qs) (parts_decoded shape.order l at []))) (drop_all k shape.parts high)
        ∙ ap (λ (l : List PartValues). (let r : Result SnapshotParts ℕ = Ok (record { epoch = into.epoch; parts = l }) in r)) (append-nil (take k into.parts) ∙ take_all k into.parts (omega (arith, have_length shape.parts into.parts have, high)))
at_end shape slot at (NumberOf k n) into have may past = absurd (past may)

pub body_read : (shape : Starts) (reader : ReaderState) (bytes : List ℕ) (into : SnapshotParts) → HaveShape shape.parts into.parts → HasRead shape reader bytes into → length bytes ≡ body_length shape → decoded shape reader.slot reader.base bytes ≡ Ok into
body_read shape reader bytes into have read all =
    let past : IsField shape.parts reader.field → ⊥ = λ is.
    let split = split_of (field_widths shape) read.count (width_of reader.field) (widths_from shape (next_field shape.parts reader.field)) (read.from_here ∙ widths_next shape reader.field is) in
    omega (arith, split.sums, read.reach, read.begun, all, ap length read.is, length-append read.front reader.held, sum_fields shape, sum_by-take-le (λ (n : ℕ). n) (field_widths shape) (read.count + 1)) in
    finish (ends_or_is shape reader.field read.may_come) past
  where
    empty : (l : List ℕ) → length l < 1 → l ≡ []
    empty [] low = refl
    empty (x ∷ l) low = absurd (omega arith)

    finish : IsField shape.parts reader.field ⊎ ((widths_from shape reader.field ≡ []) × (width_of reader.field ≡ 1)) → (IsField shape.parts reader.field → ⊥) → decoded shape reader.slot reader.base bytes ≡ Ok into
    finish (inl is) past = absurd (past is)
    finish (inr none) past =
        let held : reader.held ≡ [] = empty reader.held (omega (arith, read.begun, none.1)) in
        ap (decoded shape reader.slot reader.base) (read.is ∙ ap (λ (l : List ℕ). read.front ++ l) held)
        ∙ read.reads []
        ∙ at_end shape reader.slot (reader.base + length read.front) reader.field into have read.may_come past

pub body_formed : (shape : Starts) (slot base : ℕ) (bytes : List ℕ) (into : SnapshotParts) → length bytes ≡ body_length shape → ((i : ℕ) → get_or bytes i 0 < 256) → decoded shape slot base bytes ≡ Ok into → Form shape slot bytes into
body_formed shape slot base bytes into long are e = cases (is_epoch slot (number bytes)) (parts_decoded shape.order shape.parts (base + 8) (drop 8 bytes)) refl refl e
  where
    cases : (t : Bool) (r : Result (List PartValues) ℕ) → is_epoch slot (number bytes) ≡ t → parts_decoded shape.order shape.parts (base + 8) (drop 8 bytes) ≡ r
        → (if t then read_as (λ (ps : List PartValues). (let s : SnapshotParts = record { epoch = number bytes; parts = ps } in s)) r else Err base) ≡ Ok into → Form shape slot bytes into
    cases false r t_is r_is e = absurd (cc)
    cases true (Err place) t_is r_is e = absurd (cc)
    cases true (Ok parts) t_is r_is e =
        let is : (let s : SnapshotParts = record { epoch = number bytes; parts = parts } in s) ≡ into = cc in
        subst (Form shape slot bytes) is (body_form shape slot (base + 8) bytes parts long are t_is r_is)
