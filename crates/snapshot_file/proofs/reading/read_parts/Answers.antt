use Rattle.std.proofs.Common.{◌≡◌, ◌+◌, ◌*◌, ◌≤◌, ℕ, length, drop, ap, sym, subst, ◌∙◌, arith}
use Rattle.token_cut.specs.Parts.{PartValues}
use Rattle.snapshot_file.specs.Fields.{FillsUpTo, part_widths, part_fields, part_fields_in}
use Rattle.snapshot_file.proofs.Exits.{if_err}
use Rattle.snapshot_file.proofs.ReadBack.{parts_small}
use Rattle.snapshot_file.proofs.Run.{HasPart, have_length, have_at, have_set, part_fills, one_read, all_read, long_standing}
use Rattle.snapshot_file.proofs.reading.read_parts.Goals as goal

within : (place left at total count : ℕ) → place + left ≡ at + total → total ≤ count * 24000001 → count ≤ 64 → at ≤ 9223372036854775808 → place ≤ 9223372041149743104
within place left at total count is small few low = omega arith

pub bounds-into-i : goal.bounds-into-i
bounds-into-i c = omega (arith, c.loop-i-test.true, have_length c.args.shape.now c.loop-i.into c.loop-i.invariant.have)

-- the part that is there
pub read_part-requires-clause-values : goal.read_part-requires-clause-values
read_part-requires-clause-values c =
    ap (λ (p : PartValues). length p.values) (sym c.index-into-i.is)
    ∙ (have_at c.args.shape.now c.loop-i.into c.loop-i.i c.index-shape-i.result c.index-into-i.result c.loop-i.invariant.have c.loop-i-test.true c.index-shape-i.is c.index-into-i.is).values

pub read_part-requires-clause-mail : goal.read_part-requires-clause-mail
read_part-requires-clause-mail c =
    ap (λ (p : PartValues). length p.mail) (sym c.index-into-i.is)
    ∙ (have_at c.args.shape.now c.loop-i.into c.loop-i.i c.index-shape-i.result c.index-into-i.result c.loop-i.invariant.have c.loop-i-test.true c.index-shape-i.is c.index-into-i.is).mail

pub read_part-requires-clause-place : goal.read_part-requires-clause-place
read_part-requires-clause-place c = within _ _ _ _ _ c.loop-i.invariant.left (parts_small c.args.shape.now c.requires.shape) c.requires.few c.requires.place

pub returns-in_err-read_part-clause-filled : goal.returns-in_err-read_part-clause-filled
returns-in_err-read_part-clause-filled c =
    let fills = subst (λ (p : PartValues). FillsUpTo (part_widths c.index-shape-i.result) (part_fields_in c.index-shape-i.result c.loop-i.rest.now) (part_fields p) (part_fields c.read_part.new.into) c.loop-i.place c.in_err-read_part.field-0.0.place)
    (sym c.index-into-i.is) c.in_err-read_part.ensures.filled in
    if_err _ _ _ c.from_residual.ensures.1
    (part_fills c.args.order c.args.shape.now c.args.at c.args.bytes.now c.args.into.now c.loop-i.i c.loop-i.place c.loop-i.rest.now c.loop-i.into c.loop-i.invariant
    c.index-shape-i.result c.loop-i-test.true c.index-shape-i.is c.index-into-i.result c.index-into-i.is c.read_part.new.into c.in_err-read_part.field-0.0.place (long_standing c.index-shape-i.result c.loop-i.rest.now) fills)

pub returns-in_err-read_part-clause-same_shape : goal.returns-in_err-read_part-clause-same_shape
returns-in_err-read_part-clause-same_shape c =
    let was = have_at c.args.shape.now c.loop-i.into c.loop-i.i c.index-shape-i.result c.index-into-i.result c.loop-i.invariant.have c.loop-i-test.true c.index-shape-i.is c.index-into-i.is in
    let has : HasPart c.index-shape-i.result c.read_part.new.into = record {
      values = c.in_err-read_part.ensures.values ∙ ap (λ (p : PartValues). length p.values) (sym c.index-into-i.is) ∙ was.values;
      mail = c.in_err-read_part.ensures.mail ∙ ap (λ (p : PartValues). length p.mail) (sym c.index-into-i.is) ∙ was.mail;
    } in
    have_set c.args.shape.now c.loop-i.into c.loop-i.i c.index-shape-i.result c.read_part.new.into c.loop-i.invariant.have c.loop-i-test.true c.index-shape-i.is has

pub loop-i-preserved : goal.loop-i-preserved
loop-i-preserved c =
    let was = have_at c.args.shape.now c.loop-i.into c.loop-i.i c.index-shape-i.result c.index-into-i.result c.loop-i.invariant.have c.loop-i-test.true c.index-shape-i.is c.index-into-i.is in
    let has : HasPart c.index-shape-i.result c.read_part.new.into = record {
      values = c.in_ok-read_part.ensures.values ∙ ap (λ (p : PartValues). length p.values) (sym c.index-into-i.is) ∙ was.values;
      mail = c.in_ok-read_part.ensures.mail ∙ ap (λ (p : PartValues). length p.mail) (sym c.index-into-i.is) ∙ was.mail;
    } in
    one_read c.args.order c.args.shape.now c.args.at c.args.bytes.now c.args.into.now c.loop-i.i c.loop-i.place c.loop-i.rest.now c.loop-i.into c.loop-i.invariant
    c.index-shape-i.result c.loop-i-test.true c.index-shape-i.is c.index-into-i.result c.index-into-i.is c.read_part.new.into _ _
    (ap (λ (n : ℕ). c.loop-i.place + n) c.part_len-len.ensures.length) (c.split_at.ensures.back ∙ ap (λ (n : ℕ). drop n c.loop-i.rest.now) c.part_len-len.ensures.length)
    c.in_ok-read_part.ensures.ok c.in_ok-read_part.ensures.read has

pub returns-clause-ok : goal.returns-clause-ok
returns-clause-ok c =
    all_read c.args.order c.args.shape.now c.args.at c.args.bytes.now c.args.into.now c.loop-i.i c.loop-i.place c.loop-i.rest.now c.loop-i.into c.loop-i.invariant (omega (arith, c.loop-i-test.false))
