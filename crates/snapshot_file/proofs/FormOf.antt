-- Bytes that read as a snapshot are its bytes, and the snapshot is in the form.
use Rattle.std.proofs.Common.{◌≡◌, ⊎_elim, ℕ, zero, suc, ◌+◌, ◌*◌, ◌^◌, ◌<◌, ◌≤◌, nat_le, Bool, true, false, IsTrue, if◌then◌else◌, List, [], ◌∷◌, ◌++◌, get_or, take, drop, length, slice_index, Result, Ok, Err, refl, sym, ap, ◌∙◌, subst, arith, length-append, length-take, length-drop}
use Rattle.std.specs.List.{flat_map}
use Rattle.std.specs.Int.{w64, from_be_bytes}
use Rattle.std.proofs.lemmas.Bool.Decides.{leb_tells}
use Rattle.std.proofs.lemmas.List.{get_or-take, get_or-drop, get_or_past, take-append-drop, take_all, length-map}
use Rattle.std.proofs.lemmas.List.Concat.{flat_map-append}
use Rattle.std.proofs.lemmas.Nat.{be_bytes_8}
use Rattle.byteorder.specs.Endian.{big_bytes}
use Rattle.value_order.specs.declared.order.Order.{Order}
use Rattle.snapshot_file.specs.Tests.{is_epoch, is_value, is_mail, value_tests, mail_tests}
use Rattle.snapshot_file.proofs.Passing.{Pass, PartPasses, PartsPass, form_from}
use Rattle.token_cut.specs.Parts.{PartValues}
use Rattle.token_cut.specs.Shapes.{PartStarts, Starts}
use Rattle.snapshot_file.specs.Bodies.{phase_byte, number_bytes, part_bytes, Form}
use Rattle.snapshot_file.specs.Lengths.{part_length, parts_length, body_length}
use Rattle.snapshot_file.specs.Reading.{read_as, read_then, number, numbers, phase_of, part_of, part_decoded, parts_decoded}
use Rattle.snapshot_file.proofs.Filling.{take_behind}

abbrev pub AreBytes : List ℕ → Type 0
AreBytes bytes = (i : ℕ) → get_or bytes i 0 < 256

bytes_behind : (n : ℕ) (bytes : List ℕ) → AreBytes bytes → AreBytes (drop n bytes)
bytes_behind n bytes are = λ i. subst (λ (b : ℕ). b < 256) (sym (get_or-drop n bytes i 0)) (are (n + i))

take_more_of : (n m : ℕ) (bytes : List ℕ) → n ≤ length bytes → take (n + m) bytes ≡ take n bytes ++ take m (drop n bytes)
take_more_of n m bytes long =
    let front : n + m ≡ length (take n bytes) + m = omega (arith, length-take n bytes) in
    ap (λ (k : ℕ). take k bytes) front
    ∙ ap (take (length (take n bytes) + m)) (sym (take-append-drop n bytes))
    ∙ take_behind (take n bytes) (drop n bytes) m

-- ---- one number

front_is : (bytes : List ℕ) (i : ℕ) → i < 8 → slice_index (take 8 bytes) i ≡ slice_index bytes i
front_is bytes i low = get_or-take 8 bytes i 0 low

are_front : (bytes : List ℕ) → AreBytes bytes → AreBytes (take 8 bytes)
are_front bytes are i =
    ⊎_elim
    (λ low. subst (λ (b : ℕ). b < 256) (sym (get_or-take 8 bytes i 0 (omega (arith, low.1)))) (are i))
    (λ high. subst (λ (b : ℕ). b < 256) (sym (get_or_past (take 8 bytes) i 0 (omega (arith, length-take 8 bytes, high.1)))) (omega arith))
    (leb_tells (suc i) 8)

number_is : (bytes : List ℕ) → number bytes ≡ from_be_bytes w64 (take 8 bytes)
number_is bytes =
    omega (
      arith,
      front_is bytes 0 (omega arith),
      front_is bytes 1 (omega arith),
      front_is bytes 2 (omega arith),
      front_is bytes 3 (omega arith),
      front_is bytes 4 (omega arith),
      front_is bytes 5 (omega arith),
      front_is bytes 6 (omega arith),
      front_is bytes 7 (omega arith),
    )

pub number_back : (bytes : List ℕ) → 8 ≤ length bytes → AreBytes bytes → big_bytes 8 (number bytes) ≡ take 8 bytes
number_back bytes long are = be_bytes_8 (take 8 bytes) (number bytes) (omega (arith, length-take 8 bytes)) (are_front bytes are) (number_is bytes)

number_fits : (bytes : List ℕ) → AreBytes bytes → number bytes < 2 ^ 64
number_fits bytes are = omega (arith, are 0, are 1, are 2, are 3, are 4, are 5, are 6, are 7)

-- ---- a list of numbers

record Stands (tests : List (ℕ → Bool)) (bytes ns : List ℕ) : Type 0 where
  pass : Pass tests ns
  are : number_bytes ns ≡ take (8 * length tests) bytes

record Passed (b : Bool) (n : ℕ) (r : Result (List ℕ) ℕ) (ns : List ℕ) : Type 0 where
  holds : b ≡ true
  rest : List ℕ
  read : r ≡ Ok rest
  is : n ∷ rest ≡ ns

passed : (b : Bool) (n at : ℕ) (r : Result (List ℕ) ℕ) (ns : List ℕ) → (if b then read_as (λ (ms : List ℕ). n ∷ ms) r else Err at) ≡ Ok ns → Passed b n r ns
passed false n at r ns e = absurd (cc)
passed true n at (Err place) ns e = absurd (cc)
passed true n at (Ok ms) ns e = record { holds = refl; rest = ms; read = refl; is = cc }

numbers_stand : (tests : List (ℕ → Bool)) (at : ℕ) (bytes ns : List ℕ) → 8 * length tests ≤ length bytes → AreBytes bytes → numbers tests at bytes ≡ Ok ns → Stands tests bytes ns
numbers_stand [] at bytes [] long are e = record { pass = tt; are = refl }
numbers_stand [] at bytes (n ∷ ns) long are e = absurd (cc)
numbers_stand (test ∷ tests) at bytes ns long are e =
    let p = passed (test (number bytes)) (number bytes) at (numbers tests (at + 8) (drop 8 bytes)) ns e in
    let more = numbers_stand tests (at + 8) (drop 8 bytes) p.rest (omega (arith, long, length-drop 8 bytes)) (bytes_behind 8 bytes are) p.read in
    let fits = number_fits bytes are in
    let back = number_back bytes (omega (arith, long)) are in
    let here : Stands (test ∷ tests) bytes (number bytes ∷ p.rest) = record { pass = (p.holds, fits, more.pass); are = joined (big_bytes 8 (number bytes)) (number_bytes p.rest) (8 * length tests) bytes (omega (arith, long)) back more.are ∙ ap (λ (k : ℕ). take k bytes) (omega arith) } in
    subst (Stands (test ∷ tests) bytes) p.is here
  where
    joined : (xs ys : List ℕ) (k : ℕ) (bytes : List ℕ) → 8 ≤ length bytes → xs ≡ take 8 bytes → ys ≡ take k (drop 8 bytes) → xs ++ ys ≡ take (8 + k) bytes
    joined xs ys k bytes long a b = ap (λ (l : List ℕ). l ++ ys) a ∙ ap (λ (l : List ℕ). take 8 bytes ++ l) b ∙ sym (take_more_of 8 k bytes long)

pass_front : (tests more : List (ℕ → Bool)) (ns : List ℕ) → Pass (tests ++ more) ns → Pass tests (take (length tests) ns)
pass_front [] more ns p = tt
pass_front (test ∷ tests) more [] p = absurd p
pass_front (test ∷ tests) more (n ∷ ns) p = (p.0, p.1, pass_front tests more ns p.2)

pass_behind : (tests more : List (ℕ → Bool)) (ns : List ℕ) → Pass (tests ++ more) ns → Pass more (drop (length tests) ns)
pass_behind [] more ns p = p
pass_behind (test ∷ tests) more [] p = absurd p
pass_behind (test ∷ tests) more (n ∷ ns) p = pass_behind tests more ns p.2

-- ---- a part

phase_back : (b : ℕ) → nat_le b 1 ≡ true → phase_byte (phase_of b) ≡ b
phase_back zero low = refl
phase_back (suc zero) low = refl
phase_back (suc (suc n)) low = absurd (⊎_elim (λ (l : (nat_le (suc (suc n)) 1 ≡ true) × (suc (suc n) ≤ 1)). omega (arith, l.1)) (λ (h : (nat_le (suc (suc n)) 1 ≡ false) × (1 < suc (suc n))). differ (sym low ∙ h.0)) (leb_tells (suc (suc n)) 1))
  where
    differ : true ≡ false → ⊥
    differ e = cc

record PartStands (order : Order) (starts : PartStarts) (bytes : List ℕ) (part : PartValues) : Type 0 where
  in_form : PartPasses order starts part
  are : part_bytes part ≡ take (part_length starts) bytes

record Made (b : Bool) (f : List ℕ → PartValues) (r : Result (List ℕ) ℕ) (part : PartValues) : Type 0 where
  holds : b ≡ true
  ns : List ℕ
  read : r ≡ Ok ns
  is : f ns ≡ part

made_of : (b : Bool) (f : List ℕ → PartValues) (at : ℕ) (r : Result (List ℕ) ℕ) (part : PartValues) → (if b then read_as f r else Err at) ≡ Ok part → Made b f r part
made_of false f at r part e = absurd (cc)
made_of true f at (Err place) part e = absurd (cc)
made_of true f at (Ok ns) part e = record { holds = refl; ns = ns; read = refl; is = cc }

head_of : (bytes : List ℕ) → 1 ≤ length bytes → take 1 bytes ≡ slice_index bytes 0 ∷ []
head_of [] long = absurd (omega arith)
head_of (b ∷ bytes) long = refl

part_stands : (order : Order) (starts : PartStarts) (at : ℕ) (bytes : List ℕ) (part : PartValues) → part_length starts ≤ length bytes → AreBytes bytes → part_decoded order starts at bytes ≡ Ok part → PartStands order starts bytes part
part_stands order starts at bytes part long are e =
    let b = slice_index bytes 0 in
    let phase = phase_of (slice_index bytes 0) in
    let values = value_tests order phase starts in
    let mail = mail_tests order starts in
    let m = made_of (nat_le b 1) (part_of starts phase) at (numbers (values ++ mail) (at + 1) (drop 1 bytes)) part e in
    let places = length starts.owned + length starts.mirrors in
    let values_long : length values ≡ places = length-map (starts.owned ++ starts.mirrors) (is_value order phase) ∙ length-append starts.owned starts.mirrors in
    let mail_long : length mail ≡ length starts.mirrors = length-map starts.mirrors (is_mail order) in
    let all_long : length (values ++ mail) ≡ places + length starts.mirrors = omega (arith, length-append values mail, values_long, mail_long) in
    let stands = numbers_stand (values ++ mail) (at + 1) (drop 1 bytes) m.ns (omega (arith, long, all_long, length-drop 1 bytes)) (bytes_behind 1 bytes are) m.read in
    let split : number_bytes (take places m.ns) ++ number_bytes (drop places m.ns) ≡ take (8 * length (values ++ mail)) (drop 1 bytes) =
    sym (flat_map-append (big_bytes 8) (take places m.ns) (drop places m.ns)) ∙ ap number_bytes (take-append-drop places m.ns) ∙ stands.are in
    let front : Pass values (take places m.ns) = subst (λ (n : ℕ). Pass values (take n m.ns)) values_long (pass_front values mail m.ns stands.pass) in
    let behind : Pass mail (drop places m.ns) = subst (λ (n : ℕ). Pass mail (drop n m.ns)) values_long (pass_behind values mail m.ns stands.pass) in
    let whole : phase_byte phase ∷ number_bytes (take places m.ns) ++ number_bytes (drop places m.ns) ≡ take (part_length starts) bytes =
    whole_of (phase_byte phase) b (number_bytes (take places m.ns) ++ number_bytes (drop places m.ns)) (8 * length (values ++ mail)) (part_length starts) bytes
    (phase_back b m.holds) (omega (arith, long)) split (omega (arith, all_long)) in
    let here : PartStands order starts bytes (part_of starts phase m.ns) = record { in_form = record { values = front; mail = behind }; are = whole } in
    subst (PartStands order starts bytes) m.is here
  where
    whole_of : (p b : ℕ) (ys : List ℕ) (k total : ℕ) (bytes : List ℕ) → p ≡ slice_index bytes 0 → 1 ≤ length bytes → ys ≡ take k (drop 1 bytes) → 1 + k ≡ total → p ∷ ys ≡ take total bytes
    whole_of p b ys k total bytes is long ys_is sum_is =
        ap (λ (x : ℕ). x ∷ ys) is ∙ ap (λ (l : List ℕ). slice_index bytes 0 ∷ l) ys_is
        ∙ ap (λ (l : List ℕ). l ++ take k (drop 1 bytes)) (sym (head_of bytes long))
        ∙ sym (take_more_of 1 k bytes long) ∙ ap (λ (n : ℕ). take n bytes) sum_is

-- ---- the parts

record PartsStand (order : Order) (shape : List PartStarts) (bytes : List ℕ) (parts : List PartValues) : Type 0 where
  in_form : PartsPass order shape parts
  are : flat_map part_bytes parts ≡ take (parts_length shape) bytes

record FirstRead (first : Result PartValues ℕ) (F : PartValues → Result (List PartValues) ℕ) (parts : List PartValues) : Type 0 where
  part : PartValues
  read : first ≡ Ok part
  rest : F part ≡ Ok parts

first_read : (first : Result PartValues ℕ) (F : PartValues → Result (List PartValues) ℕ) (parts : List PartValues) → read_then F first ≡ Ok parts → FirstRead first F parts
first_read (Ok part) F parts e = record { part = part; read = refl; rest = e }
first_read (Err place) F parts e = absurd (cc)

record Joined (part : PartValues) (r : Result (List PartValues) ℕ) (parts : List PartValues) : Type 0 where
  rest : List PartValues
  read : r ≡ Ok rest
  is : part ∷ rest ≡ parts

joined_of : (part : PartValues) (r : Result (List PartValues) ℕ) (parts : List PartValues) → read_as (λ (qs : List PartValues). part ∷ qs) r ≡ Ok parts → Joined part r parts
joined_of part (Ok qs) parts e = record { rest = qs; read = refl; is = cc }
joined_of part (Err place) parts e = absurd (cc)

parts_stand : (order : Order) (shape : List PartStarts) (at : ℕ) (bytes : List ℕ) (parts : List PartValues) → parts_length shape ≤ length bytes → AreBytes bytes → parts_decoded order shape at bytes ≡ Ok parts → PartsStand order shape bytes parts
parts_stand order [] at bytes [] long are e = record { in_form = tt; are = refl }
parts_stand order [] at bytes (part ∷ parts) long are e = absurd (cc)
parts_stand order (starts ∷ shape) at bytes parts long are e =
    let n = part_length starts in
    let f = first_read (part_decoded order starts at bytes) (λ part. read_as (λ (qs : List PartValues). part ∷ qs) (parts_decoded order shape (at + part_length starts) (drop (part_length starts) bytes))) parts e in
    let j = joined_of f.part (parts_decoded order shape (at + part_length starts) (drop (part_length starts) bytes)) parts f.rest in
    let one = part_stands order starts at bytes f.part (omega (arith, long)) are f.read in
    let more = parts_stand order shape (at + part_length starts) (drop (part_length starts) bytes) j.rest (omega (arith, long, length-drop (part_length starts) bytes)) (bytes_behind (part_length starts) bytes are) j.read in
    let here : PartsStand order (starts ∷ shape) bytes (f.part ∷ j.rest) = record {
      in_form = (one.in_form, more.in_form);
      are = ap (λ (l : List ℕ). l ++ flat_map part_bytes j.rest) one.are ∙ ap (λ (l : List ℕ). take (part_length starts) bytes ++ l) more.are ∙ sym (take_more_of (part_length starts) (parts_length shape) bytes (omega (arith, long)));
    } in
    subst (PartsStand order (starts ∷ shape) bytes) j.is here

-- ---- the body

pub body_form : (shape : Starts) (slot at : ℕ) (bytes : List ℕ) (parts : List PartValues) → length bytes ≡ body_length shape → AreBytes bytes → IsTrue (is_epoch slot (number bytes)) → parts_decoded shape.order shape.parts at (drop 8 bytes) ≡ Ok parts
    → Form shape slot bytes (record { epoch = number bytes; parts = parts })
body_form shape slot at bytes parts long are is e =
    let stands = parts_stand shape.order shape.parts at (drop 8 bytes) parts (omega (arith, long, length-drop 8 bytes)) (bytes_behind 8 bytes are) e in
    record {
      bytes =
          sym (take_all (8 + parts_length shape.parts) bytes (omega (arith, long))) ∙ take_more_of 8 (parts_length shape.parts) bytes (omega (arith, long))
          ∙ ap (λ (l : List ℕ). l ++ take (parts_length shape.parts) (drop 8 bytes)) (sym (number_back bytes (omega (arith, long)) are))
          ∙ ap (λ (l : List ℕ). big_bytes 8 (number bytes) ++ l) (sym stands.are);
      in_form = form_from shape slot (record { epoch = number bytes; parts = parts }) (record { epoch = is; parts = stands.in_form });
    }
