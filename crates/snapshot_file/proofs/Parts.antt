-- A part that is read from its phase on, then its values, then its mail.
use Rattle.std.proofs.Common.{◌≡◌, ℕ, ◌+◌, ◌*◌, nat_le, Bool, true, if◌then◌else◌, List, [], ◌∷◌, ◌++◌, map, drop, length, replicate, slice_index, Result, Ok, Err, refl, sym, ap, ◌∙◌, subst, arith, length-append}
use Rattle.std.proofs.lemmas.List.{length-map, take_at, drop_at}
use Rattle.value_order.specs.declared.order.Order.{Order}
use Rattle.token_cut.specs.declared.phase.Phase.{Phase}
use Rattle.token_cut.specs.declared.phase.Phase.TheVariants.{Fresh, Rest}
use Rattle.snapshot_file.specs.Tests.{is_value, value_tests, mail_tests}
use Rattle.token_cut.specs.Parts.{PartValues}
use Rattle.token_cut.specs.Shapes.{PartStarts}
use Rattle.snapshot_file.specs.declared.rule.Rule.{Rule}
use Rattle.snapshot_file.specs.declared.rule.Rule.TheVariants.{Mail}
use Rattle.snapshot_file.specs.Bodies.{phase_byte}
use Rattle.snapshot_file.specs.Fields.{FillsUpTo, numbers_in, part_numbers, part_fields, part_fields_in, part_widths}
use Rattle.snapshot_file.specs.Reading.{numbers, phase_of, part_of, part_decoded, read_as}
use Rattle.snapshot_file.specs.Rules.{allows_of, rule_of}
use Rattle.snapshot_file.proofs.Filling.{fills_behind}
use Rattle.snapshot_file.proofs.Steps.{Ends, both_read, first_wrong, second_wrong, fills_first, fills_second, both_in}

abbrev pub made : Phase → List ℕ → List ℕ → PartValues
made phase values mail = record { phase = phase; values = values; mail = mail }

abbrev read_of : PartValues → Result PartValues ℕ
read_of part = Ok part

rule_is : (phase : Phase) (order : Order) → allows_of (rule_of phase) order ≡ is_value order phase
rule_is Fresh order = refl
rule_is Rest order = refl

phase_is : (phase : Phase) (byte : ℕ) → phase_byte phase ≡ byte → phase_of byte ≡ phase
phase_is Fresh byte is = ap phase_of (sym is)
phase_is Rest byte is = ap phase_of (sym is)

low : (phase : Phase) (byte : ℕ) → phase_byte phase ≡ byte → nat_le byte 1 ≡ true
low Fresh byte is = ap (λ (b : ℕ). nat_le b 1) (sym is)
low Rest byte is = ap (λ (b : ℕ). nat_le b 1) (sym is)

module _ (order : Order) (starts : PartStarts) (at : ℕ) (bytes : List ℕ) (phase : Phase) (phase_at : phase_byte phase ≡ slice_index bytes 0) where
  decoded_is : part_decoded order starts at bytes ≡ read_as (part_of starts phase) (numbers (value_tests order phase starts ++ mail_tests order starts) (at + 1) (drop 1 bytes))
  decoded_is =
      let b = slice_index bytes 0 in
      ap (λ (t : Bool). if t then read_as (part_of starts (phase_of b)) (numbers (value_tests order (phase_of b) starts ++ mail_tests order starts) (at + 1) (drop 1 bytes)) else Err at) (low phase b phase_at)
      ∙ ap (λ (p : Phase). read_as (part_of starts p) (numbers (value_tests order p starts ++ mail_tests order starts) (at + 1) (drop 1 bytes))) (phase_is phase b phase_at)

  module _ (places next : ℕ) (mail_bytes : List ℕ) (places_is : places ≡ length starts.owned + length starts.mirrors) (next_is : next ≡ at + 1 + 8 * places) (mail_is : mail_bytes ≡ drop (8 * places) (drop 1 bytes)) where
    tests_long : length (value_tests order phase starts) ≡ places
    tests_long = length-map (starts.owned ++ starts.mirrors) (is_value order phase) ∙ length-append starts.owned starts.mirrors ∙ sym places_is

    ends : Ends (value_tests order phase starts) (at + 1) next (drop 1 bytes) mail_bytes
    ends = record {
      place_is = next_is ∙ ap (λ (n : ℕ). at + 1 + 8 * n) (sym tests_long);
      behind_is = mail_is ∙ ap (λ (n : ℕ). drop (8 * n) (drop 1 bytes)) (sym tests_long);
    }

    values_tested : (right : Result (List ℕ) ℕ) → numbers (map (allows_of (rule_of phase) order) (starts.owned ++ starts.mirrors)) (at + 1) (drop 1 bytes) ≡ right
        → numbers (value_tests order phase starts) (at + 1) (drop 1 bytes) ≡ right
    values_tested right is = ap (λ (f : ℕ → ℕ → Bool). numbers (map f (starts.owned ++ starts.mirrors)) (at + 1) (drop 1 bytes)) (sym (rule_is phase order)) ∙ is

    pub part_read : (values mail : List ℕ) → length values ≡ places
        → numbers (map (allows_of (rule_of phase) order) (starts.owned ++ starts.mirrors)) (at + 1) (drop 1 bytes) ≡ Ok values
        → numbers (map (allows_of Mail order) starts.mirrors) next mail_bytes ≡ Ok mail
        → part_decoded order starts at bytes ≡ Ok (made phase values mail)
    part_read values mail long first second =
        let total : length values ≡ length starts.owned + length starts.mirrors = long ∙ places_is in
        decoded_is
        ∙ ap (read_as (part_of starts phase)) (both_read (value_tests order phase starts) (mail_tests order starts) (at + 1) next (drop 1 bytes) mail_bytes ends values mail (values_tested (Ok values) first) second)
        ∙ ap (λ (vs : List ℕ). read_of (made phase vs (drop (length starts.owned + length starts.mirrors) (values ++ mail)))) (take_at values mail _ total)
        ∙ ap (λ (ms : List ℕ). read_of (made phase values ms)) (drop_at values mail _ total)

    pub values_wrong : (wrong : ℕ) → numbers (map (allows_of (rule_of phase) order) (starts.owned ++ starts.mirrors)) (at + 1) (drop 1 bytes) ≡ Err wrong → part_decoded order starts at bytes ≡ Err wrong
    values_wrong wrong first =
        decoded_is ∙ ap (read_as (part_of starts phase)) (first_wrong (value_tests order phase starts) (mail_tests order starts) (at + 1) next (drop 1 bytes) mail_bytes ends wrong (values_tested (Err wrong) first))

    pub mail_wrong : (values : List ℕ) (wrong : ℕ) → numbers (map (allows_of (rule_of phase) order) (starts.owned ++ starts.mirrors)) (at + 1) (drop 1 bytes) ≡ Ok values
        → numbers (map (allows_of Mail order) starts.mirrors) next mail_bytes ≡ Err wrong → part_decoded order starts at bytes ≡ Err wrong
    mail_wrong values wrong first second =
        decoded_is
        ∙ ap (read_as (part_of starts phase)) (second_wrong (value_tests order phase starts) (mail_tests order starts) (at + 1) next (drop 1 bytes) mail_bytes ends values wrong (values_tested (Ok values) first) second)

    -- ---- what is left of the part that was there

    pub fills_values : (old : PartValues) (values kept : List ℕ) (wrong : ℕ) → length old.values ≡ places → length old.mail ≡ length starts.mirrors → kept ≡ old.mail
        → FillsUpTo (replicate (length old.values) 8) (numbers_in (length old.values) (drop 1 bytes)) old.values values (at + 1) wrong
        → FillsUpTo (part_widths starts) (part_fields_in starts bytes) (part_fields old) (part_fields (made phase values kept)) at wrong
    fills_values old values kept wrong long mail_long kept_is fills =
        let count : length old.values + length starts.mirrors ≡ part_numbers starts = omega (arith, long, places_is) in
        let here = fills_first (length old.values) (length starts.mirrors) (drop 1 bytes) old.values old.mail values (at + 1) wrong refl fills in
        let all = subst (λ (n : ℕ). FillsUpTo (replicate n 8) (numbers_in n (drop 1 bytes)) (old.values ++ old.mail) (values ++ old.mail) (at + 1) wrong) count here in
        subst (λ (l : List ℕ). FillsUpTo (part_widths starts) (part_fields_in starts bytes) (part_fields old) (part_fields (made phase values l)) at wrong) (sym kept_is)
        (subst (λ (b : ℕ). FillsUpTo (part_widths starts) (part_fields_in starts bytes) (part_fields old) (b ∷ values ++ old.mail) at wrong) (sym phase_at)
        (fills_behind (1 ∷ []) (replicate (part_numbers starts) 8) (slice_index bytes 0 ∷ []) (numbers_in (part_numbers starts) (drop 1 bytes)) (phase_byte old.phase ∷ []) (old.values ++ old.mail) (values ++ old.mail) at (at + 1) wrong refl refl refl all))

    pub fills_mail : (old : PartValues) (values mail : List ℕ) (wrong : ℕ) → length old.values ≡ places → length old.mail ≡ length starts.mirrors → values ≡ numbers_in (length old.values) (drop 1 bytes)
        → FillsUpTo (replicate (length old.mail) 8) (numbers_in (length old.mail) mail_bytes) old.mail mail next wrong
        → FillsUpTo (part_widths starts) (part_fields_in starts bytes) (part_fields old) (part_fields (made phase values mail)) at wrong
    fills_mail old values mail wrong long mail_long read fills =
        let count : length old.values + length old.mail ≡ part_numbers starts = omega (arith, long, places_is, mail_long) in
        let here = fills_second (length old.values) (length old.mail) (drop 1 bytes) mail_bytes old.values old.mail values mail (at + 1) next wrong refl
        (next_is ∙ ap (λ (n : ℕ). at + 1 + 8 * n) (sym long)) (mail_is ∙ ap (λ (n : ℕ). drop (8 * n) (drop 1 bytes)) (sym long)) read fills in
        let all = subst (λ (n : ℕ). FillsUpTo (replicate n 8) (numbers_in n (drop 1 bytes)) (old.values ++ old.mail) (values ++ mail) (at + 1) wrong) count here in
        subst (λ (b : ℕ). FillsUpTo (part_widths starts) (part_fields_in starts bytes) (part_fields old) (b ∷ values ++ mail) at wrong) (sym phase_at)
        (fills_behind (1 ∷ []) (replicate (part_numbers starts) 8) (slice_index bytes 0 ∷ []) (numbers_in (part_numbers starts) (drop 1 bytes)) (phase_byte old.phase ∷ []) (old.values ++ old.mail) (values ++ mail) at (at + 1) wrong refl refl refl all)

    pub fields_read : (old : PartValues) (values mail : List ℕ) → length old.values ≡ places → length old.mail ≡ length starts.mirrors → values ≡ numbers_in (length old.values) (drop 1 bytes) → mail ≡ numbers_in (length old.mail) mail_bytes
        → part_fields (made phase values mail) ≡ part_fields_in starts bytes
    fields_read old values mail long mail_long read mail_read =
        let count : length (old.values ++ old.mail) ≡ part_numbers starts = omega (arith, long, places_is, mail_long, length-append old.values old.mail) in
        ap (λ (b : ℕ). b ∷ values ++ mail) phase_at
        ∙ ap (λ (l : List ℕ). slice_index bytes 0 ∷ l) (both_in (drop 1 bytes) mail_bytes (old.values ++ old.mail) old.values old.mail values mail refl (mail_is ∙ ap (λ (n : ℕ). drop (8 * n) (drop 1 bytes)) (sym long)) read mail_read
        ∙ ap (λ (n : ℕ). numbers_in n (drop 1 bytes)) count)

-- ---- the same at equal slices

pub numbers_moved : (rule rule' : Rule) (order : Order) (starts starts' : List ℕ) (at : ℕ) (rest rest' : List ℕ) (right : Result (List ℕ) ℕ) → rule ≡ rule' → starts ≡ starts' → rest ≡ rest'
    → numbers (map (allows_of rule order) starts) at rest ≡ right → numbers (map (allows_of rule' order) starts') at rest' ≡ right
numbers_moved rule rule' order starts starts' at rest rest' right same_rule same_starts same_rest is =
    ap (λ (r : Rule). numbers (map (allows_of r order) starts') at rest') (sym same_rule)
    ∙ ap (λ (l : List ℕ). numbers (map (allows_of rule order) l) at rest') (sym same_starts)
    ∙ ap (numbers (map (allows_of rule order) starts) at) (sym same_rest) ∙ is

pub fills_moved : (old old' rest rest' new : List ℕ) (at place : ℕ) → old ≡ old' → rest ≡ rest'
    → FillsUpTo (replicate (length old) 8) (numbers_in (length old) rest) old new at place → FillsUpTo (replicate (length old') 8) (numbers_in (length old') rest') old' new at place
fills_moved old old' rest rest' new at place same_old same_rest fills =
    subst (λ (l : List ℕ). FillsUpTo (replicate (length old') 8) (numbers_in (length old') l) old' new at place) same_rest
    (subst (λ (l : List ℕ). FillsUpTo (replicate (length l) 8) (numbers_in (length l) rest) l new at place) same_old fills)

-- the part as the code leaves it
pub made_is : (phase : Phase) (values now_values mail now_mail : List ℕ) → now_values ≡ values → now_mail ≡ mail → made phase values mail ≡ made phase now_values now_mail
made_is phase values now_values mail now_mail values_is mail_is = ap (λ (l : List ℕ). made phase l mail) (sym values_is) ∙ ap (λ (l : List ℕ). made phase now_values l) (sym mail_is)
