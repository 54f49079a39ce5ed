use Rattle.std.proofs.Common.{◌≡◌, ℕ, ◌<◌, false, length, get_or, ap, sym, ◌∙◌, subst, arith}
use Rattle.token_cut.specs.Parts.{PartValues, no_part}
use Rattle.token_cut.specs.Shapes.{PartStarts}
use Rattle.snapshot_file.specs.Pieces.{IsField, starts_at, part_in, no_starts, tests_of, is_right_in}
use Rattle.snapshot_file.specs.declared.field.Field.{Field}
use Rattle.snapshot_file.proofs.ByField.{has_item, have_put, any_default}
use Rattle.snapshot_file.proofs.Run.{have_length, have_at}
use Rattle.snapshot_file.proofs.putting.put_in_parts.Goals as goal

pub bounds-into-part : goal.bounds-into-part
bounds-into-part c =
    let low : c.in-PhaseOf.part < length c.args.shape.now = subst (IsField c.args.shape.now) c.in-PhaseOf.is c.requires.field in
    omega (arith, low, have_length c.args.shape.now c.args.into.now c.requires.into)

pub bounds-into-part-in-NumberOf : goal.bounds-into-part-in-NumberOf
bounds-into-part-in-NumberOf c =
    let is = subst (IsField c.args.shape.now) c.in-NumberOf.is c.requires.field in
    omega (arith, is.0, have_length c.args.shape.now c.args.into.now c.requires.into)

pub put_number-requires-clause-values : goal.put_number-requires-clause-values
put_number-requires-clause-values c =
    let is = subst (IsField c.args.shape.now) c.in-NumberOf.is c.requires.field in
    ap (λ (p : PartValues). length p.values) (sym c.index-into-part-in-NumberOf.is)
    ∙ (have_at c.args.shape.now c.args.into.now c.in-NumberOf.part c.index-shape-part.result c.index-into-part-in-NumberOf.result c.requires.into is.0 c.index-shape-part.is c.index-into-part-in-NumberOf.is).values

pub put_number-requires-clause-mail : goal.put_number-requires-clause-mail
put_number-requires-clause-mail c =
    let is = subst (IsField c.args.shape.now) c.in-NumberOf.is c.requires.field in
    ap (λ (p : PartValues). length p.mail) (sym c.index-into-part-in-NumberOf.is)
    ∙ (have_at c.args.shape.now c.args.into.now c.in-NumberOf.part c.index-shape-part.result c.index-into-part-in-NumberOf.result c.requires.into is.0 c.index-shape-part.is c.index-into-part-in-NumberOf.is).mail

pub returns-in-PhaseOf-clause-same_shape : goal.returns-in-PhaseOf-clause-same_shape
returns-in-PhaseOf-clause-same_shape c =
    let low : c.in-PhaseOf.part < length c.args.shape.now = subst (IsField c.args.shape.now) c.in-PhaseOf.is c.requires.field in
    let has = has_item c.args.shape.now c.args.into.now c.in-PhaseOf.part c.index-into-part.result low c.requires.into c.index-into-part.is in
    have_put c.args.shape.now c.args.into.now c.in-PhaseOf.part c.put_phase.new.part c.requires.into low (record {
      values = ap length c.put_phase.ensures.values ∙ ap (λ (p : PartValues). length p.values) (sym c.index-into-part.is) ∙ has.values;
      mail = ap length c.put_phase.ensures.mail ∙ ap (λ (p : PartValues). length p.mail) (sym c.index-into-part.is) ∙ has.mail;
    })

pub returns-in-NumberOf-clause-right : goal.returns-in-NumberOf-clause-right
returns-in-NumberOf-clause-right c =
    let is = subst (IsField c.args.shape.now) c.in-NumberOf.is c.requires.field in
    let k = c.in-NumberOf.part in
    let low : c.in-NumberOf.part < length c.args.into.now = omega (arith, is.0, have_length c.args.shape.now c.args.into.now c.requires.into) in
    let starts_is : c.index-shape-part.result ≡ starts_at c.in-NumberOf.part c.args.shape.now = c.index-shape-part.is ∙ any_default c.args.shape.now c.in-NumberOf.part c.index-shape-part.result no_starts is.0 in
    let part_is : get_or c.args.into.now c.in-NumberOf.part c.index-into-part-in-NumberOf.result ≡ part_in c.in-NumberOf.part c.args.into.now = any_default c.args.into.now c.in-NumberOf.part c.index-into-part-in-NumberOf.result no_part low in
    c.put_number.ensures.right
    ∙ ap (λ (s : PartStarts). get_or (tests_of c.args.order s (get_or c.args.into.now c.in-NumberOf.part c.index-into-part-in-NumberOf.result).phase) c.in-NumberOf.place (λ _. false) c.read_u64-number.result) starts_is
    ∙ ap (λ (p : PartValues). get_or (tests_of c.args.order (starts_at c.in-NumberOf.part c.args.shape.now) p.phase) c.in-NumberOf.place (λ _. false) c.read_u64-number.result) part_is
    ∙ ap (λ (n : ℕ). get_or (tests_of c.args.order (starts_at c.in-NumberOf.part c.args.shape.now) (part_in c.in-NumberOf.part c.args.into.now).phase) c.in-NumberOf.place (λ _. false) n) c.read_u64-number.ensures
    ∙ ap (λ (f : Field). is_right_in c.args.order c.args.shape.now c.args.into.now f c.args.bytes.now) (sym c.in-NumberOf.is)

pub returns-in-NumberOf-clause-same_shape : goal.returns-in-NumberOf-clause-same_shape
returns-in-NumberOf-clause-same_shape c =
    let is = subst (IsField c.args.shape.now) c.in-NumberOf.is c.requires.field in
    let has = has_item c.args.shape.now c.args.into.now c.in-NumberOf.part c.index-into-part-in-NumberOf.result is.0 c.requires.into c.index-into-part-in-NumberOf.is in
    have_put c.args.shape.now c.args.into.now c.in-NumberOf.part c.put_number.new.part c.requires.into is.0 (record {
      values = c.put_number.ensures.values ∙ ap (λ (p : PartValues). length p.values) (sym c.index-into-part-in-NumberOf.is) ∙ has.values;
      mail = c.put_number.ensures.mail ∙ ap (λ (p : PartValues). length p.mail) (sym c.index-into-part-in-NumberOf.is) ∙ has.mail;
    })
