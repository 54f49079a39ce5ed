-- A body that is read field by field: what one field more does to what is left to read.
use Rattle.std.proofs.Common.{◌≡◌, ◌⊎◌, inl, inr, ℕ, zero, suc, ◌+◌, ◌-◌, ◌*◌, ◌≤◌, ◌<◌, nat_le, nat_lt, Bool, true, false, if◌then◌else◌, List, [], ◌∷◌, ◌++◌, set, take, drop, length, get_or, Result, Ok, Err, refl, sym, ap, ◌∙◌, subst, arith, append_assoc, length-append, length-take}
use Rattle.std.proofs.lemmas.Bool.Decides.{leb_tells}
use Rattle.std.proofs.lemmas.List.{length-set, drop_at, drop_more, drop_all, drop-drop, take_more, take_all, take_at, take-set-le, take_more_set, get_or-set_same, set-append_left, set-append_right, length-map, append-nil}
use Rattle.byteorder.specs.Numbers.{big_from-append, big_from-take}
use Rattle.value_order.specs.declared.order.Order.{Order}
use Rattle.token_cut.specs.declared.phase.Phase.{Phase}
use Rattle.token_cut.specs.Parts.{PartValues, SnapshotParts, no_part}
use Rattle.token_cut.specs.Shapes.{PartStarts, Starts, HaveShape}
use Rattle.snapshot_file.specs.Tests.{is_epoch, is_value, is_mail, value_tests, mail_tests}
use Rattle.snapshot_file.specs.Fields.{part_numbers}
use Rattle.snapshot_file.specs.Lengths.{part_length}
use Rattle.snapshot_file.specs.Reading.{number, numbers, phase_of, part_of, part_decoded, parts_decoded, decoded, read_as, read_then}
use Rattle.snapshot_file.specs.Pieces.{starts_at, part_in, no_starts, tests_of, with_phase, with_number, part_left, parts_left, left_decoded, width_of, IsField, field_behind, next_field, is_right, put_field}
use Rattle.snapshot_file.specs.declared.field.Field.{Field}
use Rattle.snapshot_file.specs.declared.field.Field.TheVariants.{Epoch, PhaseOf, NumberOf}
use Rattle.snapshot_file.proofs.Run.{HasPart, have_length}

-- ---- what follows what was read

as_as : {X Y Z : Type 0} (f : Y → Z) (g : X → Y) (r : Result X ℕ) → read_as f (read_as g r) ≡ read_as (λ (x : X). f (g x)) r
as_as f g (Ok x) = refl
as_as f g (Err place) = refl

as_itself : {X : Type 0} (r : Result X ℕ) → r ≡ read_as (λ (x : X). x) r
as_itself (Ok x) = refl
as_itself (Err place) = refl

opened : (front : List PartValues) (more : Result (List PartValues) ℕ) (r : Result PartValues ℕ)
    → read_as (λ (qs : List PartValues). front ++ qs) (read_then (λ (part : PartValues). read_as (λ (qs : List PartValues). part ∷ qs) more) r) ≡ read_then (λ (part : PartValues). read_as (λ (qs : List PartValues). front ++ part ∷ qs) more) r
opened front more (Err place) = refl
opened front (Ok qs) (Ok part) = refl
opened front (Err place) (Ok part) = refl

-- ---- the bytes of a field

pub front_number : (held rest : List ℕ) → length held ≡ 8 → number (take 8 held ++ rest) ≡ number held
front_number held rest long =
    let eight : 8 ≤ length (take 8 held) = omega (arith, length-take 8 held, long) in
    big_from-append 8 (take 8 held) rest eight ∙ big_from-take 0 8 8 held (omega arith)

pub front_drop : (held rest : List ℕ) → length held ≡ 8 → drop 8 (take 8 held ++ rest) ≡ rest
front_drop held rest long = drop_at (take 8 held) rest 8 (omega (arith, length-take 8 held, long))

-- ---- the epoch

module _ (shape : Starts) (slot at : ℕ) (held rest : List ℕ) (long : length held ≡ 8) where
  made : ℕ → List PartValues → SnapshotParts
  made n parts = record { epoch = n; parts = parts }

  tested : (b : Bool) → is_epoch slot (number held) ≡ b
      → decoded shape slot at (take 8 held ++ rest) ≡ (if b then read_as (λ (ps : List PartValues). (let s : SnapshotParts = record { epoch = number held; parts = ps } in s)) (parts_decoded shape.order shape.parts (at + 8) rest) else Err at)
  tested b is =
      ap (λ (n : ℕ). if is_epoch slot n then read_as (λ (ps : List PartValues). (let s : SnapshotParts = record { epoch = n; parts = ps } in s)) (parts_decoded shape.order shape.parts (at + 8) (drop 8 (take 8 held ++ rest))) else Err at) (front_number held rest long)
      ∙ ap (λ (t : Bool). if t then read_as (λ (ps : List PartValues). (let s : SnapshotParts = record { epoch = number held; parts = ps } in s)) (parts_decoded shape.order shape.parts (at + 8) (drop 8 (take 8 held ++ rest))) else Err at) is
      ∙ ap (λ (l : List ℕ). if b then read_as (λ (ps : List PartValues). (let s : SnapshotParts = record { epoch = number held; parts = ps } in s)) (parts_decoded shape.order shape.parts (at + 8) l) else Err at) (front_drop held rest long)

  pub epoch_right : is_epoch slot (number held) ≡ true
      → decoded shape slot at (take 8 held ++ rest) ≡ read_as (λ (ps : List PartValues). (let s : SnapshotParts = record { epoch = number held; parts = ps } in s)) (read_as (λ (qs : List PartValues). qs) (parts_decoded shape.order shape.parts (at + 8) rest))
  epoch_right is = tested true is ∙ ap (read_as (λ (ps : List PartValues). (let s : SnapshotParts = record { epoch = number held; parts = ps } in s))) (as_itself (parts_decoded shape.order shape.parts (at + 8) rest))

  pub epoch_wrong : is_epoch slot (number held) ≡ false → decoded shape slot at (take 8 held ++ rest) ≡ Err at
  epoch_wrong is = tested false is

-- ---- a phase

module _ (order : Order) (shape : List PartStarts) (parts : List PartValues) (k at b : ℕ) (rest : List ℕ) (low : k < length shape) where
  here : PartStarts
  here = starts_at k shape

  phase_tested : (t : Bool) → nat_le b 1 ≡ t → parts_left order shape (PhaseOf k) parts at (b ∷ rest)
      ≡ read_then (λ (part : PartValues). read_as (λ (qs : List PartValues). take k parts ++ part ∷ qs) (parts_decoded order (drop (k + 1) shape) (at + part_length (starts_at k shape)) (drop (part_length (starts_at k shape)) (b ∷ rest))))
      (if t then read_as (part_of (starts_at k shape) (phase_of b)) (numbers (tests_of order (starts_at k shape) (phase_of b)) (at + 1) rest) else Err at)
  phase_tested t is =
      ap (λ (l : List PartStarts). read_as (λ (qs : List PartValues). take k parts ++ qs) (parts_decoded order l at (b ∷ rest))) (drop_more shape k no_starts low)
      ∙ opened (take k parts) (parts_decoded order (drop (k + 1) shape) (at + part_length (starts_at k shape)) (drop (part_length (starts_at k shape)) (b ∷ rest))) (part_decoded order (starts_at k shape) at (b ∷ rest))
      ∙ ap (λ (u : Bool). read_then (λ (part : PartValues). read_as (λ (qs : List PartValues). take k parts ++ part ∷ qs) (parts_decoded order (drop (k + 1) shape) (at + part_length (starts_at k shape)) (drop (part_length (starts_at k shape)) (b ∷ rest))))
      (if u then read_as (part_of (starts_at k shape) (phase_of b)) (numbers (tests_of order (starts_at k shape) (phase_of b)) (at + 1) rest) else Err at)) is

  pub phase_wrong : nat_le b 1 ≡ false → parts_left order shape (PhaseOf k) parts at (b ∷ rest) ≡ Err at
  phase_wrong is = phase_tested false is

  pub phase_right : k < length parts → nat_le b 1 ≡ true → parts_left order shape (PhaseOf k) parts at (b ∷ rest) ≡ parts_left order shape (NumberOf k 0) (set parts k (with_phase b (part_in k parts))) (at + 1) rest
  phase_right there is =
      let len = 8 * (part_numbers (starts_at k shape) - 0) in
      let place : at + part_length (starts_at k shape) ≡ at + 1 + 8 * (part_numbers (starts_at k shape) - 0) = omega arith in
      let one : part_length (starts_at k shape) ≡ suc (8 * (part_numbers (starts_at k shape) - 0)) = omega arith in
      let behind : drop (part_length (starts_at k shape)) (b ∷ rest) ≡ drop (8 * (part_numbers (starts_at k shape) - 0)) rest = ap (λ (m : ℕ). drop m (b ∷ rest)) one in
      let put : part_in k (set parts k (with_phase b (part_in k parts))) ≡ with_phase b (part_in k parts) = get_or-set_same parts k (with_phase b (part_in k parts)) no_part there in
      let kept : take k (set parts k (with_phase b (part_in k parts))) ≡ take k parts = take-set-le k parts k (with_phase b (part_in k parts)) (omega arith) in
      phase_tested true is
      ∙ ap (λ (a : ℕ). read_then (λ (part : PartValues). read_as (λ (qs : List PartValues). take k parts ++ part ∷ qs) (parts_decoded order (drop (k + 1) shape) a (drop (part_length (starts_at k shape)) (b ∷ rest))))
      (read_as (part_of (starts_at k shape) (phase_of b)) (numbers (tests_of order (starts_at k shape) (phase_of b)) (at + 1) rest))) place
      ∙ ap (λ (l : List ℕ). read_then (λ (part : PartValues). read_as (λ (qs : List PartValues). take k parts ++ part ∷ qs) (parts_decoded order (drop (k + 1) shape) (at + 1 + 8 * (part_numbers (starts_at k shape) - 0)) l))
      (read_as (part_of (starts_at k shape) (phase_of b)) (numbers (tests_of order (starts_at k shape) (phase_of b)) (at + 1) rest))) behind
      ∙ ap (λ (f : List PartValues). read_then (λ (part : PartValues). read_as (λ (qs : List PartValues). f ++ part ∷ qs) (parts_decoded order (drop (k + 1) shape) (at + 1 + 8 * (part_numbers (starts_at k shape) - 0)) (drop (8 * (part_numbers (starts_at k shape) - 0)) rest)))
      (read_as (part_of (starts_at k shape) (phase_of b)) (numbers (tests_of order (starts_at k shape) (phase_of b)) (at + 1) rest))) (sym kept)
      ∙ ap (λ (p : PartValues). read_then (λ (part : PartValues). read_as (λ (qs : List PartValues). take k (set parts k (with_phase b (part_in k parts))) ++ part ∷ qs) (parts_decoded order (drop (k + 1) shape) (at + 1 + 8 * (part_numbers (starts_at k shape) - 0)) (drop (8 * (part_numbers (starts_at k shape) - 0)) rest)))
      (part_left order (starts_at k shape) p 0 (at + 1) rest)) (sym put)

-- ---- a number

pub with_number_phase : (n x : ℕ) (part : PartValues) → (with_number n x part).phase ≡ part.phase
with_number_phase n x part = cases (nat_lt n (length part.values))
  where
    cases : (b : Bool) → (if b then (let p : PartValues = record { phase = part.phase; values = set part.values n x; mail = part.mail } in p) else record { phase = part.phase; values = part.values; mail = set part.mail (n - length part.values) x }).phase ≡ part.phase
    cases true = refl
    cases false = refl

pub with_number_all : (n x : ℕ) (part : PartValues) → (with_number n x part).values ++ (with_number n x part).mail ≡ set (part.values ++ part.mail) n x
with_number_all n x part = cases (nat_lt n (length part.values)) (leb_tells (suc n) (length part.values))
  where
    put : Bool → PartValues
    put b = if b then record { phase = part.phase; values = set part.values n x; mail = part.mail } else record { phase = part.phase; values = part.values; mail = set part.mail (n - length part.values) x }

    cases : (b : Bool) → ((b ≡ true) × (suc n ≤ length part.values)) ⊎ ((b ≡ false) × (length part.values < suc n)) → (if b then (let p : PartValues = record { phase = part.phase; values = set part.values n x; mail = part.mail } in p) else record { phase = part.phase; values = part.values; mail = set part.mail (n - length part.values) x }).values
        ++ (if b then (let p : PartValues = record { phase = part.phase; values = set part.values n x; mail = part.mail } in p) else record { phase = part.phase; values = part.values; mail = set part.mail (n - length part.values) x }).mail ≡ set (part.values ++ part.mail) n x
    cases true (inl l) = sym (set-append_left part.values part.mail n x (let e : n < length part.values = omega (arith, l.1) in e))
    cases true (inr r) = absurd (let e : true ≡ false = r.0 in cc)
    cases false (inl l) = absurd (let e : false ≡ true = l.0 in cc)
    cases false (inr r) = sym (set-append_right part.values part.mail (length part.values) n x refl (let e : length part.values ≤ n = omega (arith, r.1) in e))

tests_long : (order : Order) (starts : PartStarts) (phase : Phase) → length (tests_of order starts phase) ≡ part_numbers starts
tests_long order starts phase =
    omega (arith, length-append (value_tests order phase starts) (mail_tests order starts), length-map (starts.owned ++ starts.mirrors) (is_value order phase), length-map starts.mirrors (is_mail order), length-append starts.owned starts.mirrors)

no_test : ℕ → Bool
no_test n = false

module _ (order : Order) (starts : PartStarts) (part : PartValues) (n at : ℕ) (held rest : List ℕ) (long : length held ≡ 8) (low : n < part_numbers starts) where
  read_on : List ℕ → List ℕ → PartValues
  read_on l ns = part_of starts part.phase (take n l ++ ns)

  pub left_tested : (t : Bool) → get_or (tests_of order starts part.phase) n (λ _. false) (number held) ≡ t → part_left order starts part n at (take 8 held ++ rest)
      ≡ read_as (λ (ns : List ℕ). part_of starts part.phase (take n (part.values ++ part.mail) ++ ns)) (if t then read_as (λ (ns : List ℕ). number held ∷ ns) (numbers (drop (n + 1) (tests_of order starts part.phase)) (at + 8) rest) else Err at)
  left_tested t is =
      let tests = tests_of order starts part.phase in
      let more = drop_more (tests_of order starts part.phase) n (λ _. false) (omega (arith, tests_long order starts part.phase, low)) in
      ap (λ (ts : List (ℕ → Bool)). read_as (λ (ns : List ℕ). part_of starts part.phase (take n (part.values ++ part.mail) ++ ns)) (numbers ts at (take 8 held ++ rest))) more
      ∙ ap (λ (m : ℕ). read_as (λ (ns : List ℕ). part_of starts part.phase (take n (part.values ++ part.mail) ++ ns))
      (if get_or (tests_of order starts part.phase) n (λ _. false) m then read_as (λ (ns : List ℕ). m ∷ ns) (numbers (drop (n + 1) (tests_of order starts part.phase)) (at + 8) (drop 8 (take 8 held ++ rest))) else Err at)) (front_number held rest long)
      ∙ ap (λ (l : List ℕ). read_as (λ (ns : List ℕ). part_of starts part.phase (take n (part.values ++ part.mail) ++ ns))
      (if get_or (tests_of order starts part.phase) n (λ _. false) (number held) then read_as (λ (ns : List ℕ). number held ∷ ns) (numbers (drop (n + 1) (tests_of order starts part.phase)) (at + 8) l) else Err at)) (front_drop held rest long)
      ∙ ap (λ (b : Bool). read_as (λ (ns : List ℕ). part_of starts part.phase (take n (part.values ++ part.mail) ++ ns))
      (if b then read_as (λ (ns : List ℕ). number held ∷ ns) (numbers (drop (n + 1) (tests_of order starts part.phase)) (at + 8) rest) else Err at)) is

  pub left_right : HasPart starts part → get_or (tests_of order starts part.phase) n (λ _. false) (number held) ≡ true → part_left order starts part n at (take 8 held ++ rest) ≡ part_left order starts (with_number n (number held) part) (n + 1) (at + 8) rest
  left_right has is =
      let all = part.values ++ part.mail in
      let within : n < length (part.values ++ part.mail) = omega (arith, length-append part.values part.mail, has.values, has.mail, low) in
      let taken : take (n + 1) ((with_number n (number held) part).values ++ (with_number n (number held) part).mail) ≡ take n (part.values ++ part.mail) ++ number held ∷ [] =
      ap (take (n + 1)) (with_number_all n (number held) part) ∙ take_more_set (part.values ++ part.mail) n (number held) within in
      left_tested true is
      ∙ as_as (λ (ns : List ℕ). part_of starts part.phase (take n (part.values ++ part.mail) ++ ns)) (λ (ns : List ℕ). number held ∷ ns) (numbers (drop (n + 1) (tests_of order starts part.phase)) (at + 8) rest)
      ∙ same_as (λ (ns : List ℕ). part_of starts part.phase (take n (part.values ++ part.mail) ++ number held ∷ ns)) (λ (ns : List ℕ). part_of starts part.phase (take (n + 1) ((with_number n (number held) part).values ++ (with_number n (number held) part).mail) ++ ns))
      (λ ns. ap (part_of starts part.phase) (sym (ap (λ (l : List ℕ). l ++ ns) taken ∙ append_assoc (take n (part.values ++ part.mail)) (number held ∷ []) ns))) (numbers (drop (n + 1) (tests_of order starts part.phase)) (at + 8) rest)
      ∙ ap (λ (p : Phase). read_as (λ (ns : List ℕ). part_of starts p (take (n + 1) ((with_number n (number held) part).values ++ (with_number n (number held) part).mail) ++ ns)) (numbers (drop (n + 1) (tests_of order starts p)) (at + 8) rest)) (sym (with_number_phase n (number held) part))
    where
      same_as : (f g : List ℕ → PartValues) → ((ns : List ℕ) → f ns ≡ g ns) → (r : Result (List ℕ) ℕ) → read_as f r ≡ read_as g r
      same_as f g same (Ok ns) = ap (λ (p : PartValues). (let r : Result PartValues ℕ = Ok p in r)) (same ns)
      same_as f g same (Err place) = refl

module _ (order : Order) (shape : List PartStarts) (parts : List PartValues) (k n at : ℕ) (held rest : List ℕ) (long : length held ≡ 8) (low : n < part_numbers (starts_at k shape)) where
  pub number_wrong : get_or (tests_of order (starts_at k shape) (part_in k parts).phase) n (λ _. false) (number held) ≡ false → parts_left order shape (NumberOf k n) parts at (take 8 held ++ rest) ≡ Err at
  number_wrong is =
      let len = 8 * (part_numbers (starts_at k shape) - n) in
      ap (read_then (λ (part : PartValues). read_as (λ (qs : List PartValues). take k parts ++ part ∷ qs) (parts_decoded order (drop (k + 1) shape) (at + 8 * (part_numbers (starts_at k shape) - n)) (drop (8 * (part_numbers (starts_at k shape) - n)) (take 8 held ++ rest)))))
      (left_tested order (starts_at k shape) (part_in k parts) n at held rest long low false is)

  pub number_right : k < length parts → HasPart (starts_at k shape) (part_in k parts) → get_or (tests_of order (starts_at k shape) (part_in k parts).phase) n (λ _. false) (number held) ≡ true
      → parts_left order shape (NumberOf k n) parts at (take 8 held ++ rest) ≡ parts_left order shape (NumberOf k (n + 1)) (set parts k (with_number n (number held) (part_in k parts))) (at + 8) rest
  number_right there has is =
      let total = part_numbers (starts_at k shape) in
      let after = 8 * (part_numbers (starts_at k shape) - (n + 1)) in
      let place : at + 8 * (part_numbers (starts_at k shape) - n) ≡ at + 8 + 8 * (part_numbers (starts_at k shape) - (n + 1)) = omega (arith, low) in
      let len : 8 * (part_numbers (starts_at k shape) - n) ≡ 8 + 8 * (part_numbers (starts_at k shape) - (n + 1)) = omega (arith, low) in
      let behind : drop (8 * (part_numbers (starts_at k shape) - n)) (take 8 held ++ rest) ≡ drop (8 * (part_numbers (starts_at k shape) - (n + 1))) rest =
      ap (λ (m : ℕ). drop m (take 8 held ++ rest)) len ∙ sym (drop-drop (8 * (part_numbers (starts_at k shape) - (n + 1))) 8 (take 8 held ++ rest)) ∙ ap (drop (8 * (part_numbers (starts_at k shape) - (n + 1)))) (front_drop held rest long) in
      let new = with_number n (number held) (part_in k parts) in
      let put : part_in k (set parts k (with_number n (number held) (part_in k parts))) ≡ with_number n (number held) (part_in k parts) = get_or-set_same parts k (with_number n (number held) (part_in k parts)) no_part there in
      let kept : take k (set parts k (with_number n (number held) (part_in k parts))) ≡ take k parts = take-set-le k parts k (with_number n (number held) (part_in k parts)) (omega arith) in
      moved (take k parts) (take k (set parts k (with_number n (number held) (part_in k parts)))) (at + 8 * (part_numbers (starts_at k shape) - n)) (at + 8 + 8 * (part_numbers (starts_at k shape) - (n + 1)))
      (drop (8 * (part_numbers (starts_at k shape) - n)) (take 8 held ++ rest)) (drop (8 * (part_numbers (starts_at k shape) - (n + 1))) rest)
      (part_left order (starts_at k shape) (part_in k parts) n at (take 8 held ++ rest)) (part_left order (starts_at k shape) (part_in k (set parts k (with_number n (number held) (part_in k parts)))) (n + 1) (at + 8) rest)
      (sym kept) place behind
      (left_right order (starts_at k shape) (part_in k parts) n at held rest long low has is ∙ ap (λ (p : PartValues). part_left order (starts_at k shape) p (n + 1) (at + 8) rest) (sym put))
    where
      moved : (f g : List PartValues) (a b : ℕ) (xs ys : List ℕ) (r s : Result PartValues ℕ) → f ≡ g → a ≡ b → xs ≡ ys → r ≡ s
          → read_then (λ (part : PartValues). read_as (λ (qs : List PartValues). f ++ part ∷ qs) (parts_decoded order (drop (k + 1) shape) a xs)) r ≡ read_then (λ (part : PartValues). read_as (λ (qs : List PartValues). g ++ part ∷ qs) (parts_decoded order (drop (k + 1) shape) b ys)) s
      moved f g a b xs ys r s f_is a_is xs_is r_is =
          ap (λ (l : List PartValues). read_then (λ (part : PartValues). read_as (λ (qs : List PartValues). l ++ part ∷ qs) (parts_decoded order (drop (k + 1) shape) a xs)) r) f_is
          ∙ ap (λ (m : ℕ). read_then (λ (part : PartValues). read_as (λ (qs : List PartValues). g ++ part ∷ qs) (parts_decoded order (drop (k + 1) shape) m xs)) r) a_is
          ∙ ap (λ (l : List ℕ). read_then (λ (part : PartValues). read_as (λ (qs : List PartValues). g ++ part ∷ qs) (parts_decoded order (drop (k + 1) shape) b l)) r) xs_is
          ∙ ap (read_then (λ (part : PartValues). read_as (λ (qs : List PartValues). g ++ part ∷ qs) (parts_decoded order (drop (k + 1) shape) b ys))) r_is

-- ---- the end of a part

pub part_ends : (order : Order) (shape : List PartStarts) (parts : List PartValues) (k n at : ℕ) (rest : List ℕ) → k < length parts → HasPart (starts_at k shape) (part_in k parts) → part_numbers (starts_at k shape) ≤ n
    → parts_left order shape (NumberOf k n) parts at rest ≡ parts_left order shape (PhaseOf (k + 1)) parts at rest
part_ends order shape parts k n at rest there has high =
    let starts = starts_at k shape in
    let part = part_in k parts in
    let none : drop n (tests_of order (starts_at k shape) (part_in k parts).phase) ≡ [] = drop_all n (tests_of order (starts_at k shape) (part_in k parts).phase) (omega (arith, tests_long order (starts_at k shape) (part_in k parts).phase, high)) in
    let whole : take n ((part_in k parts).values ++ (part_in k parts).mail) ++ [] ≡ (part_in k parts).values ++ (part_in k parts).mail =
    append-nil (take n ((part_in k parts).values ++ (part_in k parts).mail)) ∙ take_all n ((part_in k parts).values ++ (part_in k parts).mail) (omega (arith, length-append (part_in k parts).values (part_in k parts).mail, has.values, has.mail, high)) in
    let zero_left : 8 * (part_numbers (starts_at k shape) - n) ≡ 0 = omega (arith, high) in
    let read : part_left order (starts_at k shape) (part_in k parts) n at rest ≡ Ok (part_in k parts) =
    ap (λ (ts : List (ℕ → Bool)). read_as (λ (ns : List ℕ). part_of (starts_at k shape) (part_in k parts).phase (take n ((part_in k parts).values ++ (part_in k parts).mail) ++ ns)) (numbers ts at rest)) none
    ∙ ap (λ (l : List ℕ). (let r : Result PartValues ℕ = Ok (part_of (starts_at k shape) (part_in k parts).phase l) in r)) whole
    ∙ ap (λ (p : PartValues). (let r : Result PartValues ℕ = Ok p in r)) (joined (starts_at k shape) (part_in k parts) has) in
    let taken : take (k + 1) parts ≡ take k parts ++ part_in k parts ∷ [] = take_more parts k no_part there in
    ap (read_then (λ (q : PartValues). read_as (λ (qs : List PartValues). take k parts ++ q ∷ qs) (parts_decoded order (drop (k + 1) shape) (at + 8 * (part_numbers (starts_at k shape) - n)) (drop (8 * (part_numbers (starts_at k shape) - n)) rest)))) read
    ∙ ap (λ (m : ℕ). read_as (λ (qs : List PartValues). take k parts ++ part_in k parts ∷ qs) (parts_decoded order (drop (k + 1) shape) (at + m) (drop m rest))) zero_left
    ∙ ap (λ (a : ℕ). read_as (λ (qs : List PartValues). take k parts ++ part_in k parts ∷ qs) (parts_decoded order (drop (k + 1) shape) a rest)) (plus_none at)
    ∙ longer (take k parts) (take (k + 1) parts) (part_in k parts) taken (parts_decoded order (drop (k + 1) shape) at rest)
  where
    plus_none : (n : ℕ) → n + 0 ≡ n
    plus_none n = omega arith

    longer : (front more : List PartValues) (p : PartValues) → more ≡ front ++ p ∷ [] → (r : Result (List PartValues) ℕ) → read_as (λ (qs : List PartValues). front ++ p ∷ qs) r ≡ read_as (λ (qs : List PartValues). more ++ qs) r
    longer front more p is (Ok qs) = ap (λ (l : List PartValues). (let r : Result (List PartValues) ℕ = Ok l in r)) (sym (ap (λ (l : List PartValues). l ++ qs) is ∙ append_assoc front (p ∷ []) qs))
    longer front more p is (Err place) = refl

    joined : (starts : PartStarts) (p : PartValues) → HasPart starts p → part_of starts p.phase (p.values ++ p.mail) ≡ p
    joined starts p has =
        ap (λ (vs : List ℕ). (let q : PartValues = record { phase = p.phase; values = vs; mail = drop (length starts.owned + length starts.mirrors) (p.values ++ p.mail) } in q)) (take_at p.values p.mail (length starts.owned + length starts.mirrors) has.values)
        ∙ ap (λ (ms : List ℕ). (let q : PartValues = record { phase = p.phase; values = p.values; mail = ms } in q)) (drop_at p.values p.mail (length starts.owned + length starts.mirrors) has.values)

-- ---- parts of the shape

pub has_in : (shape : List PartStarts) (parts : List PartValues) (k : ℕ) → k < length shape → HaveShape shape parts → HasPart (starts_at k shape) (part_in k parts)
has_in [] parts k low have = absurd (omega arith)
has_in (starts ∷ shape) [] k low have = absurd have
has_in (starts ∷ shape) (part ∷ parts) zero low have = record { values = have.0; mail = have.1 }
has_in (starts ∷ shape) (part ∷ parts) (suc k) low have = has_in shape parts k (omega arith) have.2

pub any_default : {X : Type 0} (xs : List X) (k : ℕ) (d e : X) → k < length xs → get_or xs k d ≡ get_or xs k e
any_default [] k d e low = absurd (omega arith)
any_default (x ∷ xs) zero d e low = refl
any_default (x ∷ xs) (suc k) d e low = any_default xs k d e (omega arith)

pub has_item : (shape : List PartStarts) (parts : List PartValues) (k : ℕ) (part : PartValues) → k < length shape → HaveShape shape parts → part ≡ get_or parts k part → HasPart (starts_at k shape) part
has_item shape parts k part low have is =
    subst (HasPart (starts_at k shape)) (any_default parts k no_part part (omega (arith, low, have_length shape parts have)) ∙ sym is) (has_in shape parts k low have)

pub have_put : (shape : List PartStarts) (parts : List PartValues) (k : ℕ) (part : PartValues) → HaveShape shape parts → k < length shape → HasPart (starts_at k shape) part → HaveShape shape (set parts k part)
have_put [] parts k part have low has = absurd (omega arith)
have_put (starts ∷ shape) [] k part have low has = absurd have
have_put (starts ∷ shape) (p ∷ parts) zero part have low has = (has.values, has.mail, have.2)
have_put (starts ∷ shape) (p ∷ parts) (suc k) part have low has = (have.0, have.1, have_put shape parts k part have.2 (omega arith) has)

pub has_put : (parts : List PartValues) (k : ℕ) (part : PartValues) (starts : PartStarts) → k < length parts → HasPart starts part → HasPart starts (part_in k (set parts k part))
has_put parts k part starts low has = subst (HasPart starts) (sym (get_or-set_same parts k part no_part low)) has

pub has_number : (n x : ℕ) (part : PartValues) (starts : PartStarts) → HasPart starts part → HasPart starts (with_number n x part)
has_number n x part starts has = cases (nat_lt n (length part.values))
  where
    cases : (b : Bool) → HasPart starts (if b then (let p : PartValues = record { phase = part.phase; values = set part.values n x; mail = part.mail } in p) else record { phase = part.phase; values = part.values; mail = set part.mail (n - length part.values) x })
    cases true = record { values = length-set part.values n x ∙ has.values; mail = has.mail }
    cases false = record { values = has.values; mail = length-set part.mail (n - length part.values) x ∙ has.mail }

-- the field behind a number of a part that was read so far
pub behind_is : (order : Order) (shape : List PartStarts) (parts : List PartValues) (k n at : ℕ) (rest : List ℕ) → k < length parts → HasPart (starts_at k shape) (part_in k parts)
    → parts_left order shape (NumberOf k n) parts at rest ≡ parts_left order shape (field_behind k n (starts_at k shape)) parts at rest
behind_is order shape parts k n at rest there has = cases (nat_lt n (part_numbers (starts_at k shape))) (leb_tells (suc n) (part_numbers (starts_at k shape)))
  where
    cases : (b : Bool) → ((b ≡ true) × (suc n ≤ part_numbers (starts_at k shape))) ⊎ ((b ≡ false) × (part_numbers (starts_at k shape) < suc n))
        → parts_left order shape (NumberOf k n) parts at rest ≡ parts_left order shape (if b then NumberOf k n else PhaseOf (k + 1)) parts at rest
    cases true t = refl
    cases false (inl l) = absurd (let e : false ≡ true = l.0 in cc)
    cases false (inr r) = part_ends order shape parts k n at rest there has (let e : part_numbers (starts_at k shape) ≤ n = omega (arith, r.1) in e)

left_is : (shape : Starts) (slot : ℕ) (into : SnapshotParts) (k n at : ℕ) (rest : List ℕ)
    → read_as (λ (ps : List PartValues). (let s : SnapshotParts = record { epoch = into.epoch; parts = ps } in s)) (parts_left shape.order shape.parts (field_behind k n (starts_at k shape.parts)) into.parts at rest) ≡ left_decoded shape slot (field_behind k n (starts_at k shape.parts)) into at rest
left_is shape slot into k n at rest = cases (nat_lt n (part_numbers (starts_at k shape.parts)))
  where
    cases : (b : Bool) → read_as (λ (ps : List PartValues). (let s : SnapshotParts = record { epoch = into.epoch; parts = ps } in s)) (parts_left shape.order shape.parts (if b then NumberOf k n else PhaseOf (k + 1)) into.parts at rest) ≡ left_decoded shape slot (if b then NumberOf k n else PhaseOf (k + 1)) into at rest
    cases true = refl
    cases false = refl

-- ---- a field of any kind

-- the bytes are right at the field, and stand in the snapshot
pub field_right : (shape : Starts) (slot : ℕ) (into : SnapshotParts) (field : Field) (at : ℕ) (held rest : List ℕ) → length held ≡ 8 → HaveShape shape.parts into.parts → IsField shape.parts field → is_right shape slot into field held ≡ true
    → left_decoded shape slot field into at (take (width_of field) held ++ rest) ≡ left_decoded shape slot (next_field shape.parts field) (put_field field held into) (at + width_of field) rest
field_right shape slot into Epoch at held rest long have is_field is = epoch_right shape slot at held rest long is
field_right shape slot into (PhaseOf k) at [] rest long have is_field is = absurd (omega arith)
field_right shape slot into (PhaseOf k) at (b ∷ held) rest long have is_field is =
    let there : k < length into.parts = omega (arith, have_length shape.parts into.parts have, is_field) in
    let put = set into.parts k (with_phase b (part_in k into.parts)) in
    ap (read_as (λ (ps : List PartValues). (let s : SnapshotParts = record { epoch = into.epoch; parts = ps } in s)))
    (phase_right shape.order shape.parts into.parts k at b rest is_field there is
    ∙ behind_is shape.order shape.parts (set into.parts k (with_phase b (part_in k into.parts))) k 0 (at + 1) rest (omega (arith, length-set into.parts k (with_phase b (part_in k into.parts)), there))
    (has_put into.parts k (with_phase b (part_in k into.parts)) (starts_at k shape.parts) there (record { values = (has_in shape.parts into.parts k is_field have).values; mail = (has_in shape.parts into.parts k is_field have).mail })))
    ∙ left_is shape slot (record { epoch = into.epoch; parts = set into.parts k (with_phase b (part_in k into.parts)) }) k 0 (at + 1) rest
field_right shape slot into (NumberOf k n) at held rest long have is_field is =
    let there : k < length into.parts = omega (arith, have_length shape.parts into.parts have, is_field.0) in
    let has = has_in shape.parts into.parts k is_field.0 have in
    ap (read_as (λ (ps : List PartValues). (let s : SnapshotParts = record { epoch = into.epoch; parts = ps } in s)))
    (number_right shape.order shape.parts into.parts k n at held rest long is_field.1 there has is
    ∙ behind_is shape.order shape.parts (set into.parts k (with_number n (number held) (part_in k into.parts))) k (n + 1) (at + 8) rest (omega (arith, length-set into.parts k (with_number n (number held) (part_in k into.parts)), there))
    (has_put into.parts k (with_number n (number held) (part_in k into.parts)) (starts_at k shape.parts) there (has_number n (number held) (part_in k into.parts) (starts_at k shape.parts) has)))
    ∙ left_is shape slot (record { epoch = into.epoch; parts = set into.parts k (with_number n (number held) (part_in k into.parts)) }) k (n + 1) (at + 8) rest

pub field_wrong : (shape : Starts) (slot : ℕ) (into : SnapshotParts) (field : Field) (at : ℕ) (held rest : List ℕ) → length held ≡ 8 → IsField shape.parts field → is_right shape slot into field held ≡ false
    → left_decoded shape slot field into at (take (width_of field) held ++ rest) ≡ Err at
field_wrong shape slot into Epoch at held rest long is_field is = epoch_wrong shape slot at held rest long is
field_wrong shape slot into (PhaseOf k) at [] rest long is_field is = absurd (omega arith)
field_wrong shape slot into (PhaseOf k) at (b ∷ held) rest long is_field is = ap (read_as (λ (ps : List PartValues). (let s : SnapshotParts = record { epoch = into.epoch; parts = ps } in s))) (phase_wrong shape.order shape.parts into.parts k at b rest is_field is)
field_wrong shape slot into (NumberOf k n) at held rest long is_field is = ap (read_as (λ (ps : List PartValues). (let s : SnapshotParts = record { epoch = into.epoch; parts = ps } in s))) (number_wrong shape.order shape.parts into.parts k n at held rest long is_field.1 is)
