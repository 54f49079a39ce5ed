-- Where no field that was read is wrong, the bytes so far show no wrong field.
use Rattle.std.proofs.Common.{◌≡◌, ◌⊎◌, inl, inr, ℕ, zero, suc, ◌+◌, ◌-◌, ◌*◌, ◌≤◌, ◌<◌, nat_le, Bool, true, false, if◌then◌else◌, List, [], ◌∷◌, ◌++◌, take, drop, length, slice_index, replicate, sum, Result, Ok, Err, IfErr, sym, ap, ◌∙◌, arith, append_assoc, length-append}
use Rattle.std.specs.List.{flat_map}
use Rattle.std.proofs.lemmas.Bool.Decides.{leb_tells}
use Rattle.std.proofs.lemmas.List.Sums.{sum_by-append, sum_by-take-le}
use Rattle.value_order.specs.declared.order.Order.{Order}
use Rattle.token_cut.specs.declared.phase.Phase.{Phase}
use Rattle.token_cut.specs.Parts.{PartValues, SnapshotParts}
use Rattle.token_cut.specs.Shapes.{PartStarts, Starts}
use Rattle.snapshot_file.specs.Tests.{is_epoch, value_tests, mail_tests}
use Rattle.snapshot_file.specs.Feeding.{Shows, HasRead}
use Rattle.snapshot_file.specs.Fields.{part_numbers, part_widths, field_widths}
use Rattle.snapshot_file.specs.Lengths.{part_length}
use Rattle.snapshot_file.specs.Reading.{number, numbers, phase_of, part_of, part_decoded, parts_decoded, decoded, read_as, read_then}
use Rattle.snapshot_file.specs.Pieces.{starts_at, part_in, tests_of, left_decoded, width_of, widths_from, IsField, next_field}
use Rattle.snapshot_file.specs.ReaderState.{ReaderState}
use Rattle.snapshot_file.specs.declared.field.Field.{Field}
use Rattle.snapshot_file.specs.declared.field.Field.TheVariants.{Epoch, PhaseOf, NumberOf}
use Rattle.snapshot_file.proofs.Fed.{widths_next, split_of, none_behind, ends_or_is}

-- ---- a field that is wrong lies at or behind the place where reading begins

abbrev From : {X : Type 0} → ℕ → Result X ℕ → Type 0
From at r = IfErr r (λ place. at ≤ place)

before : {X : Type 0} (at next : ℕ) (r : Result X ℕ) → at ≤ next → From next r → From at r
before at next (Ok x) low from = tt
before at next (Err place) low from = omega (arith, low, from)

as_from : {X Y : Type 0} (f : X → Y) (at : ℕ) (r : Result X ℕ) → From at r → From at (read_as f r)
as_from f at (Ok x) from = tt
as_from f at (Err place) from = from

then_from : {X Y : Type 0} (f : X → Result Y ℕ) (at : ℕ) (r : Result X ℕ) → From at r → ((x : X) → From at (f x)) → From at (read_then f r)
then_from f at (Ok x) from more = more x
then_from f at (Err place) from more = from

if_from : {X : Type 0} (b : Bool) (at : ℕ) (r : Result X ℕ) → From at r → From at (if b then r else Err at)
if_from true at r from = from
if_from false at r from = omega arith

numbers_from : (tests : List (ℕ → Bool)) (at : ℕ) (bytes : List ℕ) → From at (numbers tests at bytes)
numbers_from [] at bytes = tt
numbers_from (test ∷ tests) at bytes =
    if_from (test (number bytes)) at (read_as (λ (ns : List ℕ). number bytes ∷ ns) (numbers tests (at + 8) (drop 8 bytes)))
    (as_from (λ (ns : List ℕ). number bytes ∷ ns) at (numbers tests (at + 8) (drop 8 bytes))
    (before at (at + 8) (numbers tests (at + 8) (drop 8 bytes)) (omega arith) (numbers_from tests (at + 8) (drop 8 bytes))))

part_from : (order : Order) (starts : PartStarts) (at : ℕ) (bytes : List ℕ) → From at (part_decoded order starts at bytes)
part_from order starts at bytes = phased (phase_of (slice_index bytes 0))
  where
    phased : (phase : Phase) → From at (if nat_le (slice_index bytes 0) 1 then read_as (part_of starts phase) (numbers (value_tests order phase starts ++ mail_tests order starts) (at + 1) (drop 1 bytes)) else Err at)
    phased phase =
        if_from (nat_le (slice_index bytes 0) 1) at (read_as (part_of starts phase) (numbers (value_tests order phase starts ++ mail_tests order starts) (at + 1) (drop 1 bytes)))
        (as_from (part_of starts phase) at (numbers (value_tests order phase starts ++ mail_tests order starts) (at + 1) (drop 1 bytes))
        (before at (at + 1) (numbers (value_tests order phase starts ++ mail_tests order starts) (at + 1) (drop 1 bytes)) (omega arith) (numbers_from (value_tests order phase starts ++ mail_tests order starts) (at + 1) (drop 1 bytes))))

parts_from : (order : Order) (shape : List PartStarts) (at : ℕ) (bytes : List ℕ) → From at (parts_decoded order shape at bytes)
parts_from order [] at bytes = tt
parts_from order (starts ∷ shape) at bytes =
    then_from (λ (part : PartValues). read_as (λ (qs : List PartValues). part ∷ qs) (parts_decoded order shape (at + part_length starts) (drop (part_length starts) bytes))) at (part_decoded order starts at bytes) (part_from order starts at bytes)
    (λ part. as_from (λ (qs : List PartValues). part ∷ qs) at (parts_decoded order shape (at + part_length starts) (drop (part_length starts) bytes))
    (before at (at + part_length starts) (parts_decoded order shape (at + part_length starts) (drop (part_length starts) bytes)) (omega arith) (parts_from order shape (at + part_length starts) (drop (part_length starts) bytes))))

left_from : (shape : Starts) (slot : ℕ) (field : Field) (into : SnapshotParts) (at : ℕ) (bytes : List ℕ) → From at (left_decoded shape slot field into at bytes)
left_from shape slot Epoch into at bytes =
    if_from (is_epoch slot (number bytes)) at (read_as (λ (ps : List PartValues). (let s : SnapshotParts = record { epoch = number bytes; parts = ps } in s)) (parts_decoded shape.order shape.parts (at + 8) (drop 8 bytes)))
    (as_from (λ (ps : List PartValues). (let s : SnapshotParts = record { epoch = number bytes; parts = ps } in s)) at (parts_decoded shape.order shape.parts (at + 8) (drop 8 bytes))
    (before at (at + 8) (parts_decoded shape.order shape.parts (at + 8) (drop 8 bytes)) (omega arith) (parts_from shape.order shape.parts (at + 8) (drop 8 bytes))))
left_from shape slot (PhaseOf k) into at bytes =
    as_from (λ (ps : List PartValues). (let s : SnapshotParts = record { epoch = into.epoch; parts = ps } in s)) at (read_as (λ (qs : List PartValues). take k into.parts ++ qs) (parts_decoded shape.order (drop k shape.parts) at bytes))
    (as_from (λ (qs : List PartValues). take k into.parts ++ qs) at (parts_decoded shape.order (drop k shape.parts) at bytes) (parts_from shape.order (drop k shape.parts) at bytes))
left_from shape slot (NumberOf k n) into at bytes = measured (8 * (part_numbers (starts_at k shape.parts) - n))
  where
    more : ℕ → PartValues → Result (List PartValues) ℕ
    more len part = read_as (λ (qs : List PartValues). take k into.parts ++ part ∷ qs) (parts_decoded shape.order (drop (k + 1) shape.parts) (at + len) (drop len bytes))

    more_from : (len : ℕ) (part : PartValues) → From at (read_as (λ (qs : List PartValues). take k into.parts ++ part ∷ qs) (parts_decoded shape.order (drop (k + 1) shape.parts) (at + len) (drop len bytes)))
    more_from len part =
        as_from (λ (qs : List PartValues). take k into.parts ++ part ∷ qs) at (parts_decoded shape.order (drop (k + 1) shape.parts) (at + len) (drop len bytes))
        (before at (at + len) (parts_decoded shape.order (drop (k + 1) shape.parts) (at + len) (drop len bytes)) (omega arith) (parts_from shape.order (drop (k + 1) shape.parts) (at + len) (drop len bytes)))

    here : PartValues → Result PartValues ℕ
    here part = read_as (λ (ns : List ℕ). part_of (starts_at k shape.parts) part.phase (take n (part.values ++ part.mail) ++ ns)) (numbers (drop n (tests_of shape.order (starts_at k shape.parts) part.phase)) at bytes)

    here_from : (part : PartValues) → From at (read_as (λ (ns : List ℕ). part_of (starts_at k shape.parts) part.phase (take n (part.values ++ part.mail) ++ ns)) (numbers (drop n (tests_of shape.order (starts_at k shape.parts) part.phase)) at bytes))
    here_from part =
        as_from (λ (ns : List ℕ). part_of (starts_at k shape.parts) part.phase (take n (part.values ++ part.mail) ++ ns)) at (numbers (drop n (tests_of shape.order (starts_at k shape.parts) part.phase)) at bytes)
        (numbers_from (drop n (tests_of shape.order (starts_at k shape.parts) part.phase)) at bytes)

    measured : (len : ℕ) → From at (read_as (λ (ps : List PartValues). (let s : SnapshotParts = record { epoch = into.epoch; parts = ps } in s)) (read_then (λ (part : PartValues). read_as (λ (qs : List PartValues). take k into.parts ++ part ∷ qs) (parts_decoded shape.order (drop (k + 1) shape.parts) (at + len) (drop len bytes)))
        (read_as (λ (ns : List ℕ). part_of (starts_at k shape.parts) (part_in k into.parts).phase (take n ((part_in k into.parts).values ++ (part_in k into.parts).mail) ++ ns)) (numbers (drop n (tests_of shape.order (starts_at k shape.parts) (part_in k into.parts).phase)) at bytes))))
    measured len =
        as_from (λ (ps : List PartValues). (let s : SnapshotParts = record { epoch = into.epoch; parts = ps } in s)) at (read_then (more len) (here (part_in k into.parts)))
        (then_from (more len) at (here (part_in k into.parts)) (here_from (part_in k into.parts)) (more_from len))

place_from : {X : Type 0} (at place : ℕ) (r : Result X ℕ) → From at r → r ≡ Err place → at ≤ place
place_from at place (Ok x) from e = absurd (cc)
place_from at place (Err wrong) from e =
    let is : wrong ≡ place = cc in
    omega (arith, from, is)

-- ---- each field has a byte

abbrev Wide : List ℕ → Type 0
Wide [] = Unit {0}
Wide (w ∷ ws) = (0 < w) × Wide ws

wide_both : (ws more : List ℕ) → Wide ws → Wide more → Wide (ws ++ more)
wide_both [] more wide behind = behind
wide_both (w ∷ ws) more wide behind = (wide.0, wide_both ws more wide.1 behind)

wide_eights : (n : ℕ) → Wide (replicate n 8)
wide_eights zero = tt
wide_eights (suc n) = ((omega arith), wide_eights n)

wide_parts : (parts : List PartStarts) → Wide (flat_map part_widths parts)
wide_parts [] = tt
wide_parts (starts ∷ parts) = wide_both (part_widths starts) (flat_map part_widths parts) ((omega arith), wide_eights (part_numbers starts)) (wide_parts parts)

wide_fields : (shape : Starts) → Wide (field_widths shape)
wide_fields shape = ((omega arith), wide_parts shape.parts)

sum_wide : (ws : List ℕ) (c : ℕ) → Wide ws → c < length ws → sum (take c ws) < sum (take (c + 1) ws)
sum_wide [] c wide low = absurd (omega arith)
sum_wide (w ∷ ws) zero wide low = omega (arith, wide.0)
sum_wide (w ∷ ws) (suc c) wide low =
    let one : suc c + 1 ≡ suc (c + 1) = omega arith in
    omega (arith, ap (λ (k : ℕ). sum (take k (w ∷ ws))) one, sum_wide ws c wide.1 (omega (arith, low)), sum_by-append (λ (n : ℕ). n) (w ∷ []) (take (c + 1) ws), sum_by-append (λ (n : ℕ). n) (w ∷ []) (take c ws))

sum_before : (ws : List ℕ) (a b : ℕ) → a ≤ b → sum (take a ws) ≤ sum (take b ws)
sum_before [] zero zero low = omega arith
sum_before [] zero (suc b) low = omega arith
sum_before [] (suc a) zero low = absurd (omega (arith, low))
sum_before [] (suc a) (suc b) low = omega arith
sum_before (w ∷ ws) zero b low = omega arith
sum_before (w ∷ ws) (suc a) zero low = absurd (omega (arith, low))
sum_before (w ∷ ws) (suc a) (suc b) low =
    omega (arith, sum_before ws a b (omega (arith, low)), sum_by-append (λ (n : ℕ). n) (w ∷ []) (take a ws), sum_by-append (λ (n : ℕ). n) (w ∷ []) (take b ws))

-- ---- the bytes that were read

pub none_shown : (shape : Starts) (reader : ReaderState) (bytes : List ℕ) (into : SnapshotParts) → HasRead shape reader bytes into → (place : ℕ) → Shows shape reader.slot reader.base bytes place → ⊥
none_shown shape reader bytes into read place shows = cases (ends_or_is shape reader.field read.may_come) (leb_tells read.count shows.count)
  where
    long : length bytes ≡ length read.front + length reader.held
    long = ap length read.is ∙ length-append read.front reader.held

    behind : reader.base + length read.front ≤ place
    behind =
        place_from (reader.base + length read.front) place (left_decoded shape reader.slot reader.field into (reader.base + length read.front) (reader.held ++ []))
        (left_from shape reader.slot reader.field into (reader.base + length read.front) (reader.held ++ []))
        (sym (read.reads (reader.held ++ []))
        ∙ ap (decoded shape reader.slot reader.base) (sym (append_assoc read.front reader.held []))
        ∙ ap (λ (l : List ℕ). decoded shape reader.slot reader.base (l ++ [])) (sym read.is)
        ∙ shows.wrong [])

    wider : sum (take shows.count (field_widths shape)) < sum (take (shows.count + 1) (field_widths shape))
    wider = sum_wide (field_widths shape) shows.count (wide_fields shape) shows.within

    cases : IsField shape.parts reader.field ⊎ ((widths_from shape reader.field ≡ []) × (width_of reader.field ≡ 1))
        → ((nat_le read.count shows.count ≡ true) × (read.count ≤ shows.count)) ⊎ ((nat_le read.count shows.count ≡ false) × (shows.count < read.count)) → ⊥
    cases (inl is) (inl later) =
        let split = split_of (field_widths shape) read.count (width_of reader.field) (widths_from shape (next_field shape.parts reader.field)) (read.from_here ∙ widths_next shape reader.field is) in
        absurd (omega (arith, long, read.begun, read.reach, split.sums, shows.whole, sum_before (field_widths shape) (read.count + 1) (shows.count + 1) (omega (arith, later.1))))
    cases (inl is) (inr sooner) = absurd (omega (arith, behind, wider, shows.reach, read.reach, sum_before (field_widths shape) (shows.count + 1) read.count (omega (arith, sooner.1))))
    cases (inr none) t =
        absurd (omega (arith, behind, wider, shows.reach, read.reach, none_behind (field_widths shape) read.count (read.from_here ∙ none.0), sum_by-take-le (λ (n : ℕ). n) (field_widths shape) (shows.count + 1)))
