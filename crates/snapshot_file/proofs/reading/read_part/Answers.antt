use Rattle.std.proofs.Common.{◌≡◌, ◌+◌, ◌*◌, ◌++◌, ℕ, List, length, map, drop, replicate, Result, Ok, Err, ap, sym, subst, refl, ◌∙◌, arith}
use Rattle.std.proofs.lemmas.List.{with_items_is}
use Rattle.std.specs.Vec.{with_items}
use Rattle.token_cut.specs.Parts.{PartValues}
use Rattle.snapshot_file.specs.declared.rule.Rule.TheVariants.{Mail}
use Rattle.snapshot_file.specs.Fields.{FillsUpTo, numbers_in, part_widths, part_fields, part_fields_in}
use Rattle.snapshot_file.specs.Reading.{numbers, part_decoded}
use Rattle.snapshot_file.specs.Rules.{allows_of, rule_of}
use Rattle.snapshot_file.proofs.Exits.{if_err, on_err, on_ok}
use Rattle.snapshot_file.proofs.Parts.{made, part_read, values_wrong, mail_wrong, fills_values, fills_mail, fields_read, numbers_moved, fills_moved, made_is}
use Rattle.snapshot_file.proofs.reading.read_part.Goals as goal

pub returns-in_err-read_values-clause-damaged : goal.returns-in_err-read_values-clause-damaged
returns-in_err-read_values-clause-damaged c =
    let wrong = numbers_moved _ (rule_of c.in-Some.phase) c.args.order (c.args.starts.now.owned ++ c.args.starts.now.mirrors) (c.args.starts.now.owned ++ c.args.starts.now.mirrors) (c.args.at + 1) c.split_at.result.1.now (drop 1 c.args.bytes.now) (Err c.in_err-read_values.field-0.0.place)
    c.of_values-rule.ensures refl c.split_at.ensures.back c.in_err-read_values.ensures.damaged in
    if_err _ _ _ c.from_residual.ensures.1
    (values_wrong c.args.order c.args.starts.now c.args.at c.args.bytes.now c.in-Some.phase c.in-Some.ensures _ _ _ refl refl refl c.in_err-read_values.field-0.0.place wrong)

pub returns-in_err-read_values-clause-filled : goal.returns-in_err-read_values-clause-filled
returns-in_err-read_values-clause-filled c =
    let fills = fills_moved _ c.args.into.now.values _ (drop 1 c.args.bytes.now) c.read_values.new.into (c.args.at + 1) c.in_err-read_values.field-0.0.place
    (c.deref_mut.ensures.value ∙ ap (λ p. p.values) c.into.view_is) c.split_at.ensures.back c.in_err-read_values.ensures.filled in
    let long : length c.read_values.new.into ≡ c.into.inside.values.len = omega (arith, c.in_err-read_values.ensures.length, c.deref_mut.ensures.len, c.into.inside.values.ok) in
    let is = made_is c.in-Some.phase c.read_values.new.into _ c.into.inside.mail.items c.into.inside.mail.items (with_items_is c.into.inside.values c.read_values.new.into long) refl in
    if_err _ _ _ c.from_residual.ensures.1
    (subst (λ (p : PartValues). FillsUpTo (part_widths c.args.starts.now) (part_fields_in c.args.starts.now c.args.bytes.now) (part_fields c.args.into.now) (part_fields p) c.args.at c.in_err-read_values.field-0.0.place) is
    (fills_values c.args.order c.args.starts.now c.args.at c.args.bytes.now c.in-Some.phase c.in-Some.ensures _ _ _ refl refl refl
    c.args.into.now c.read_values.new.into c.into.inside.mail.items c.in_err-read_values.field-0.0.place c.requires.values c.requires.mail (ap (λ p. p.mail) c.into.view_is) fills))

-- what is known once the values are read
module _ (c : goal.After-into-2-1) where
  old : c.deref_mut.result.now ≡ c.args.into.now.values
  old = c.deref_mut.ensures.value ∙ ap (λ p. p.values) c.into.view_is

  old_mail : c.deref_mut-2.result.now ≡ c.args.into.now.mail
  old_mail = c.deref_mut-2.ensures.value ∙ ap (λ p. p.mail) c.into.view_is

  len_is : c.len-places.result ≡ length c.args.into.now.values
  len_is = omega (arith, c.len-places.ensures, c.into.inside.values.ok, ap (λ p. length p.values) c.into.view_is)

  first : numbers (map (allows_of (rule_of c.in-Some.phase) c.args.order) (c.args.starts.now.owned ++ c.args.starts.now.mirrors)) (c.args.at + 1) (drop 1 c.args.bytes.now) ≡ Ok c.read_values.new.into
  first = numbers_moved _ (rule_of c.in-Some.phase) c.args.order (c.args.starts.now.owned ++ c.args.starts.now.mirrors) (c.args.starts.now.owned ++ c.args.starts.now.mirrors) (c.args.at + 1) c.split_at.result.1.now (drop 1 c.args.bytes.now) (Ok c.read_values.new.into)
      c.of_values-rule.ensures refl c.split_at.ensures.back c.in_ok-read_values.ensures.ok

  read : c.read_values.new.into ≡ numbers_in (length c.args.into.now.values) (drop 1 c.args.bytes.now)
  read = c.in_ok-read_values.ensures.read ∙ ap (λ (l : List ℕ). numbers_in (length l) c.split_at.result.1.now) old ∙ ap (numbers_in (length c.args.into.now.values)) c.split_at.ensures.back

  mirrors : c.deref.result.now ≡ c.args.starts.now.mirrors
  mirrors = c.deref.ensures.value ∙ ap (λ s. s.mirrors) c.starts.view_is

  next : c.args.at + 1 + 8 * c.len-places.result ≡ c.args.at + 1 + 8 * length c.args.into.now.values
  next = ap (λ (n : ℕ). c.args.at + 1 + 8 * n) len_is

  behind : c.split_at-2.result.1.now ≡ drop (8 * length c.args.into.now.values) (drop 1 c.args.bytes.now)
  behind = c.split_at-2.ensures.back ∙ ap (λ (n : ℕ). drop (8 * n) c.split_at.result.1.now) len_is ∙ ap (drop (8 * length c.args.into.now.values)) c.split_at.ensures.back

  mail_moved : (right : Result (List ℕ) ℕ) → numbers (map (allows_of Mail c.args.order) c.deref.result.now) (c.args.at + 1 + 8 * c.len-places.result) c.split_at-2.result.1.now ≡ right
      → numbers (map (allows_of Mail c.args.order) c.args.starts.now.mirrors) (c.args.at + 1 + 8 * c.len-places.result) c.split_at-2.result.1.now ≡ right
  mail_moved right is = numbers_moved Mail Mail c.args.order c.deref.result.now c.args.starts.now.mirrors (c.args.at + 1 + 8 * c.len-places.result) c.split_at-2.result.1.now c.split_at-2.result.1.now right refl mirrors refl is

  values_left : (with_items c.into.inside.values c.read_values.new.into).items ≡ c.read_values.new.into
  values_left = with_items_is c.into.inside.values c.read_values.new.into (omega (arith, c.in_ok-read_values.ensures.length, c.deref_mut.ensures.len, c.into.inside.values.ok))

  mail_left : (with_items c.into.inside.mail c.read_numbers.new.into).items ≡ c.read_numbers.new.into
  mail_left = with_items_is c.into.inside.mail c.read_numbers.new.into (omega (arith, c.read_numbers.ensures.length, c.deref_mut-2.ensures.len, c.into.inside.mail.ok))

  left : made c.in-Some.phase c.read_values.new.into c.read_numbers.new.into ≡ made c.in-Some.phase (with_items c.into.inside.values c.read_values.new.into).items (with_items c.into.inside.mail c.read_numbers.new.into).items
  left = made_is c.in-Some.phase c.read_values.new.into _ c.read_numbers.new.into _ values_left mail_left

pub returns-clause-ok : goal.returns-clause-ok
returns-clause-ok c =
    on_ok c.read_numbers.result
    (numbers (map (allows_of Mail c.args.order) c.deref.result.now) (c.args.at + 1 + 8 * c.len-places.result) c.split_at-2.result.1.now ≡ Ok c.read_numbers.new.into)
    (part_decoded c.args.order c.args.starts.now c.args.at c.args.bytes.now ≡ Ok (made c.in-Some.phase (with_items c.into.inside.values c.read_values.new.into).items (with_items c.into.inside.mail c.read_numbers.new.into).items))
    (λ ok. part_read c.args.order c.args.starts.now c.args.at c.args.bytes.now c.in-Some.phase c.in-Some.ensures (length c.args.into.now.values) (c.args.at + 1 + 8 * c.len-places.result) c.split_at-2.result.1.now
    c.requires.values (next c) (behind c) c.read_values.new.into c.read_numbers.new.into (c.in_ok-read_values.ensures.length ∙ ap length (old c)) (first c) (mail_moved c (Ok c.read_numbers.new.into) ok)
    ∙ ap Ok (left c))
    c.read_numbers.ensures.ok

pub returns-clause-damaged : goal.returns-clause-damaged
returns-clause-damaged c =
    on_err c.read_numbers.result
    (λ e. numbers (map (allows_of Mail c.args.order) c.deref.result.now) (c.args.at + 1 + 8 * c.len-places.result) c.split_at-2.result.1.now ≡ Err e.place)
    (λ e. part_decoded c.args.order c.args.starts.now c.args.at c.args.bytes.now ≡ Err e.place)
    (λ e wrong. mail_wrong c.args.order c.args.starts.now c.args.at c.args.bytes.now c.in-Some.phase c.in-Some.ensures (length c.args.into.now.values) (c.args.at + 1 + 8 * c.len-places.result) c.split_at-2.result.1.now
    c.requires.values (next c) (behind c) c.read_values.new.into e.place (first c) (mail_moved c (Err e.place) wrong))
    c.read_numbers.ensures.damaged

pub returns-clause-filled : goal.returns-clause-filled
returns-clause-filled c =
    on_err c.read_numbers.result
    (λ e. FillsUpTo (replicate (length c.deref_mut-2.result.now) 8) (numbers_in (length c.deref_mut-2.result.now) c.split_at-2.result.1.now) c.deref_mut-2.result.now c.read_numbers.new.into (c.args.at + 1 + 8 * c.len-places.result) e.place)
    (λ e. FillsUpTo (part_widths c.args.starts.now) (part_fields_in c.args.starts.now c.args.bytes.now) (part_fields c.args.into.now)
    (part_fields (made c.in-Some.phase (with_items c.into.inside.values c.read_values.new.into).items (with_items c.into.inside.mail c.read_numbers.new.into).items)) c.args.at e.place)
    (λ e fills. subst (λ (p : PartValues). FillsUpTo (part_widths c.args.starts.now) (part_fields_in c.args.starts.now c.args.bytes.now) (part_fields c.args.into.now) (part_fields p) c.args.at e.place) (left c)
    (fills_mail c.args.order c.args.starts.now c.args.at c.args.bytes.now c.in-Some.phase c.in-Some.ensures (length c.args.into.now.values) (c.args.at + 1 + 8 * c.len-places.result) c.split_at-2.result.1.now
    c.requires.values (next c) (behind c) c.args.into.now c.read_values.new.into c.read_numbers.new.into e.place refl c.requires.mail (read c)
    (fills_moved c.deref_mut-2.result.now c.args.into.now.mail c.split_at-2.result.1.now c.split_at-2.result.1.now c.read_numbers.new.into (c.args.at + 1 + 8 * c.len-places.result) e.place (old_mail c) refl fills)))
    c.read_numbers.ensures.filled

pub returns-clause-read : goal.returns-clause-read
returns-clause-read c =
    on_ok c.read_numbers.result
    (c.read_numbers.new.into ≡ numbers_in (length c.deref_mut-2.result.now) c.split_at-2.result.1.now)
    (part_fields (made c.in-Some.phase (with_items c.into.inside.values c.read_values.new.into).items (with_items c.into.inside.mail c.read_numbers.new.into).items) ≡ part_fields_in c.args.starts.now c.args.bytes.now)
    (λ mail. ap part_fields (sym (left c))
    ∙ fields_read c.args.order c.args.starts.now c.args.at c.args.bytes.now c.in-Some.phase c.in-Some.ensures (length c.args.into.now.values) (c.args.at + 1 + 8 * c.len-places.result) c.split_at-2.result.1.now
    c.requires.values (next c) (behind c) c.args.into.now c.read_values.new.into c.read_numbers.new.into refl c.requires.mail (read c) (mail ∙ ap (λ (l : List ℕ). numbers_in (length l) c.split_at-2.result.1.now) (old_mail c)))
    c.read_numbers.ensures.read
