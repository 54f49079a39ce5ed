-- The bytes of a snapshot in the form read as that snapshot.
use Rattle.std.proofs.Common.{◌≡◌, ℕ, ◌+◌, ◌*◌, ◌^◌, ◌<◌, ◌≤◌, Bool, IsTrue, nat_le, if◌then◌else◌, List, [], ◌∷◌, ◌++◌, drop, length, get_or, Result, Ok, Err, refl, sym, ◌∙◌, ap, arith, append_assoc, length-append}
use Rattle.std.specs.List.{flat_map, AllByRecursion}
use Rattle.std.proofs.lemmas.List.{take_at, drop_at, append-nil, length-map, drop_more}
use Rattle.std.proofs.lemmas.List.Concat.{flat_map-append}
use Rattle.std.proofs.lemmas.Bool.Decides.{nat_tests}
use Rattle.byteorder.specs.Endian.{big_bytes}
use Rattle.byteorder.specs.Numbers.{big_number-reads_back, length-bytes_high_first}
use Rattle.value_order.specs.declared.order.Order.{Order}
use Rattle.token_cut.specs.declared.phase.Phase.{Phase}
use Rattle.token_cut.specs.declared.phase.Phase.TheVariants.{Fresh, Rest}
use Rattle.token_cut.specs.Form.{IsInSlotForm}
use Rattle.snapshot_file.specs.Tests.{is_epoch, is_value, is_mail, value_tests, mail_tests}
use Rattle.snapshot_file.proofs.Passing.{Pass, PartPasses, PartsPass, Passes, form_to}
use Rattle.token_cut.specs.Parts.{PartValues, SnapshotParts}
use Rattle.token_cut.specs.Shapes.{PartStarts, Starts, IsPartShape}
use Rattle.snapshot_file.specs.Bodies.{phase_byte, number_bytes, part_bytes, body_bytes, Form}
use Rattle.snapshot_file.specs.Lengths.{part_length, parts_length, body_length}
use Rattle.snapshot_file.specs.Reading.{read_as, read_then, number, numbers, phase_of, part_of, part_decoded, parts_decoded, decoded}

-- ---- one number

pub number_front : (n : ℕ) (rest : List ℕ) → n < 2 ^ 64 → number (big_bytes 8 n ++ rest) ≡ n
number_front n rest fits = big_number-reads_back 8 n rest fits

-- ---- a list of numbers

pub pass_length : (tests : List (ℕ → Bool)) (ns : List ℕ) → Pass tests ns → length ns ≡ length tests
pass_length [] [] p = refl
pass_length [] (n ∷ ns) p = absurd p
pass_length (test ∷ tests) [] p = absurd p
pass_length (test ∷ tests) (n ∷ ns) p = let e = pass_length tests ns p.2 in omega (arith, e)

pub pass_append : (tests more : List (ℕ → Bool)) (ns ms : List ℕ) → Pass tests ns → Pass more ms → Pass (tests ++ more) (ns ++ ms)
pass_append [] more [] ms p q = q
pass_append [] more (n ∷ ns) ms p q = absurd p
pass_append (test ∷ tests) more [] ms p q = absurd p
pass_append (test ∷ tests) more (n ∷ ns) ms p q = (p.0, p.1, pass_append tests more ns ms p.2 q)

pub length_number_bytes : (ns : List ℕ) → length (number_bytes ns) ≡ 8 * length ns
length_number_bytes [] = refl
length_number_bytes (n ∷ ns) =
    let e = length_number_bytes ns in
    omega (arith, length-append (big_bytes 8 n) (number_bytes ns), length-bytes_high_first 8 n, e)

pub test_passes : {X : Type 0} (test : ℕ → Bool) (n m : ℕ) (F : ℕ → X) (e : X) → m ≡ n → IsTrue (test n) → (if test m then F m else e) ≡ F n
test_passes test n m F e is pass = ap (λ (k : ℕ). if test k then F k else e) is ∙ ap (λ (b : Bool). if b then F n else e) pass

numbers_step : (test : ℕ → Bool) (tests : List (ℕ → Bool)) (at n : ℕ) (ns bytes rest : List ℕ) → number bytes ≡ n → drop 8 bytes ≡ rest → IsTrue (test n) → numbers tests (at + 8) rest ≡ Ok ns
    → numbers (test ∷ tests) at bytes ≡ Ok (n ∷ ns)
numbers_step test tests at n ns bytes rest is behind pass again =
    test_passes test n (number bytes) (λ (m : ℕ). read_as (λ (ms : List ℕ). m ∷ ms) (numbers tests (at + 8) (drop 8 bytes))) (Err at) is pass
    ∙ ap (λ (r : List ℕ). read_as (λ (ms : List ℕ). n ∷ ms) (numbers tests (at + 8) r)) behind
    ∙ ap (read_as (λ (ms : List ℕ). n ∷ ms)) again

pub numbers_read : (tests : List (ℕ → Bool)) (ns : List ℕ) (at : ℕ) (rest : List ℕ) → Pass tests ns → numbers tests at (number_bytes ns ++ rest) ≡ Ok ns
numbers_read [] [] at rest p = refl
numbers_read [] (n ∷ ns) at rest p = absurd p
numbers_read (test ∷ tests) [] at rest p = absurd p
numbers_read (test ∷ tests) (n ∷ ns) at rest p =
    numbers_step test tests at n ns (number_bytes (n ∷ ns) ++ rest) (number_bytes ns ++ rest)
    (number_front n (number_bytes ns ++ rest) p.1) refl p.0 (numbers_read tests ns (at + 8) rest p.2)

-- ---- a part

phase_read : (phase : Phase) → phase_of (phase_byte phase) ≡ phase
phase_read Fresh = refl
phase_read Rest = refl

phase_low : (phase : Phase) → IsTrue (nat_le (phase_byte phase) 1)
phase_low Fresh = refl
phase_low Rest = refl

pub part_front : (p : PartValues) → length (part_bytes p) ≡ 1 + 8 * length p.values + 8 * length p.mail
part_front p = omega (arith, length-append (number_bytes p.values) (number_bytes p.mail), length_number_bytes p.values, length_number_bytes p.mail)

places_of : (order : Order) (starts : PartStarts) (p : PartValues) → PartPasses order starts p → length p.values ≡ length starts.owned + length starts.mirrors
places_of order starts p in_form =
    pass_length _ _ in_form.values ∙ length-map (starts.owned ++ starts.mirrors) (is_value order p.phase) ∙ length-append starts.owned starts.mirrors

mail_of : (order : Order) (starts : PartStarts) (p : PartValues) → PartPasses order starts p → length p.mail ≡ length starts.mirrors
mail_of order starts p in_form = pass_length _ _ in_form.mail ∙ length-map starts.mirrors (is_mail order)

pub length_part : (order : Order) (starts : PartStarts) (p : PartValues) → PartPasses order starts p → length (part_bytes p) ≡ part_length starts
length_part order starts p in_form = omega (arith, part_front p, places_of order starts p in_form, mail_of order starts p in_form)

part_joined : (order : Order) (starts : PartStarts) (p : PartValues) → PartPasses order starts p → part_of starts p.phase (p.values ++ p.mail) ≡ p
part_joined order starts p in_form =
    let places = places_of order starts p in_form in
    ap (λ (vs : List ℕ). part_with vs (drop (length starts.owned + length starts.mirrors) (p.values ++ p.mail))) (take_at p.values p.mail _ places)
    ∙ ap (λ (ms : List ℕ). part_with p.values ms) (drop_at p.values p.mail _ places)
  where
    part_with : List ℕ → List ℕ → PartValues
    part_with vs ms = record { phase = p.phase; values = vs; mail = ms }

pub part_read : (order : Order) (starts : PartStarts) (p : PartValues) (at : ℕ) (rest : List ℕ) → PartPasses order starts p → part_decoded order starts at (part_bytes p ++ rest) ≡ Ok p
part_read order starts p at rest in_form =
    let tests : Phase → List (ℕ → Bool) = λ phase. value_tests order phase starts ++ mail_tests order starts in
    let bytes = number_bytes p.values ++ number_bytes p.mail ++ rest in
    let joined = flat_map-append (big_bytes 8) p.values p.mail in
    let both = pass_append _ _ _ _ in_form.values in_form.mail in
    let again = numbers_read (tests p.phase) (p.values ++ p.mail) (at + 1) rest both in
    test_passes (λ b. nat_le b 1) (phase_byte p.phase) (phase_byte p.phase) (λ b. read_as (part_of starts (phase_of b)) (numbers (tests (phase_of b)) (at + 1) bytes)) (Err at) refl (phase_low p.phase)
    ∙ ap (λ (phase : Phase). read_as (part_of starts phase) (numbers (tests phase) (at + 1) bytes)) (phase_read p.phase)
    ∙ ap (λ (l : List ℕ). read_as (part_of starts p.phase) (numbers (tests p.phase) (at + 1) (l ++ rest))) (sym joined)
    ∙ ap (read_as (part_of starts p.phase)) again
    ∙ ok_is (part_joined order starts p in_form)
  where
    ok_is : {q : PartValues} → q ≡ p → (let r : Result PartValues ℕ = Ok q in r) ≡ Ok p
    ok_is e = ap Ok e

-- ---- the body

pub parts_read : (order : Order) (shape : List PartStarts) (parts : List PartValues) (at : ℕ) (rest : List ℕ) → PartsPass order shape parts
    → parts_decoded order shape at (flat_map part_bytes parts ++ rest) ≡ Ok parts
parts_read order [] [] at rest p = refl
parts_read order [] (part ∷ parts) at rest p = absurd p
parts_read order (starts ∷ shape) [] at rest p = absurd p
parts_read order (starts ∷ shape) (part ∷ parts) at rest p =
    let split = append_assoc (part_bytes part) (flat_map part_bytes parts) rest in
    let bytes = part_bytes part ++ (flat_map part_bytes parts ++ rest) in
    let F : List ℕ → PartValues → Result (List PartValues) ℕ = λ bs q. read_as (λ qs. q ∷ qs) (parts_decoded order shape (at + part_length starts) (drop (part_length starts) bs)) in
    let first = part_read order starts part at (flat_map part_bytes parts ++ rest) p.0 in
    let behind = drop_at (part_bytes part) (flat_map part_bytes parts ++ rest) (part_length starts) (length_part order starts part p.0) in
    ap (λ (bs : List ℕ). read_then (F bs) (part_decoded order starts at bs)) split
    ∙ ap (read_then (F bytes)) first
    ∙ ap (λ (bs : List ℕ). read_as (λ (qs : List PartValues). part ∷ qs) (parts_decoded order shape (at + part_length starts) bs)) behind
    ∙ ap (read_as (λ (qs : List PartValues). part ∷ qs)) (parts_read order shape parts (at + part_length starts) rest p.1)

epoch_fits : (slot n : ℕ) → IsTrue (is_epoch slot n) → n < 2 ^ 64
epoch_fits slot n is = grind (arith, nat_tests)

-- the bytes of a snapshot in the form, whatever stands behind them
pub body_read : (shape : Starts) (slot at : ℕ) (snapshot : SnapshotParts) (rest : List ℕ) → Passes shape slot snapshot → decoded shape slot at (body_bytes snapshot ++ rest) ≡ Ok snapshot
body_read shape slot at snapshot rest in_form =
    let split = append_assoc (big_bytes 8 snapshot.epoch) (flat_map part_bytes snapshot.parts) rest in
    let tail = flat_map part_bytes snapshot.parts ++ rest in
    let made : ℕ → List PartValues → SnapshotParts = λ n parts. record { epoch = n; parts = parts } in
    test_passes (is_epoch slot) snapshot.epoch (number (body_bytes snapshot ++ rest)) (λ n. read_as (made n) (parts_decoded shape.order shape.parts (at + 8) tail)) (Err at)
    (number_front snapshot.epoch tail (epoch_fits slot snapshot.epoch in_form.epoch)) in_form.epoch
    ∙ ap (read_as (made snapshot.epoch)) (parts_read shape.order shape.parts snapshot.parts (at + 8) rest in_form.parts)

pub reads_back : (shape : Starts) (slot at : ℕ) (body : List ℕ) (snapshot : SnapshotParts) → Form shape slot body snapshot → decoded shape slot at body ≡ Ok snapshot
reads_back shape slot at body snapshot form =
    ap (decoded shape slot at) (form.bytes ∙ sym (append-nil (body_bytes snapshot))) ∙ body_read shape slot at snapshot [] (form_to shape slot snapshot form.in_form)

pub length_parts : (order : Order) (shape : List PartStarts) (parts : List PartValues) → PartsPass order shape parts → length (flat_map part_bytes parts) ≡ parts_length shape
length_parts order [] [] p = refl
length_parts order [] (part ∷ parts) p = absurd p
length_parts order (starts ∷ shape) [] p = absurd p
length_parts order (starts ∷ shape) (part ∷ parts) p =
    omega (arith, length-append (part_bytes part) (flat_map part_bytes parts), length_part order starts part p.0, length_parts order shape parts p.1)

pub length_body : (shape : Starts) (slot : ℕ) (snapshot : SnapshotParts) → IsInSlotForm shape slot snapshot → length (body_bytes snapshot) ≡ body_length shape
length_body shape slot snapshot form =
    let in_form = form_to shape slot snapshot form in
    omega (arith, length-append (big_bytes 8 snapshot.epoch) (flat_map part_bytes snapshot.parts), length_parts shape.order shape.parts snapshot.parts in_form.parts)

-- ---- the loops that write

pub lengths_more : (ps : List PartStarts) (i : ℕ) (p : PartStarts) → i < length ps → p ≡ get_or ps i p → parts_length (drop i ps) ≡ part_length p + parts_length (drop (i + 1) ps)
lengths_more ps i p low is = ap parts_length (drop_more ps i p low) ∙ ap (λ q. part_length q + parts_length (drop (i + 1) ps)) (sym is)

pub parts_small : (ps : List PartStarts) → AllByRecursion IsPartShape ps → parts_length ps ≤ length ps * 24000001
parts_small [] small = omega arith
parts_small (p ∷ ps) small = omega (arith, small.0.few_owned, small.0.few_mirrors, parts_small ps small.1)
