use Rattle.std.proofs.Common.{◌≡◌, ℕ, ◌+◌, Bool, IsTrue, if◌then◌else◌, List, ◌∷◌, [], length, drop, Result, Ok, Err, ap, sym, subst, refl, ◌∙◌, arith}
use Rattle.std.specs.List.{flat_map}
use Rattle.std.specs.Vec.{with_items}
use Rattle.std.proofs.lemmas.List.{with_items_is}
use Rattle.value_order.specs.declared.order.Order.{Order}
use Rattle.snapshot_file.specs.Tests.{is_epoch}
use Rattle.token_cut.specs.Parts.{PartValues, SnapshotParts}
use Rattle.token_cut.specs.Shapes.{PartStarts, Starts, HaveShape}
use Rattle.snapshot_file.specs.declared.damaged.Damaged.{Damaged}
use Rattle.snapshot_file.specs.Bodies.{Form}
use Rattle.snapshot_file.specs.Fields.{FillsUpTo, fields, fields_in, field_widths, part_widths, part_fields, parts_fields_in}
use Rattle.snapshot_file.specs.Reading.{number, decoded, parts_decoded, read_as}
use Rattle.snapshot_file.proofs.Exits.{on_err, on_ok, on_err_any}
use Rattle.snapshot_file.proofs.Filling.{fills_behind}
use Rattle.snapshot_file.proofs.FormOf.{body_form}
use Rattle.snapshot_file.proofs.ReadBack.{reads_back}
use Rattle.snapshot_file.proofs.Run.{have_length}
use Rattle.snapshot_file.proofs.reading.decode.Goals as goal

abbrev made : ℕ → List PartValues → SnapshotParts
made epoch parts = record { epoch = epoch; parts = parts }

-- a body that reads as two things
apart : (shape : Starts) (slot at : ℕ) (bytes : List ℕ) (wrong : ℕ) (snapshot : SnapshotParts) → decoded shape slot at bytes ≡ Err wrong → Form shape slot bytes snapshot → ⊥
apart shape slot at bytes wrong snapshot e form = differ (decoded shape slot at bytes) wrong snapshot e (reads_back shape slot at bytes snapshot form)
  where
    differ : (r : Result SnapshotParts ℕ) (wrong : ℕ) (snapshot : SnapshotParts) → r ≡ Err wrong → r ≡ Ok snapshot → ⊥
    differ r wrong snapshot a b = cc

-- the epoch stands before the parts
body_fills : (shape : Starts) (bytes : List ℕ) (old : SnapshotParts) (starts : List PartStarts) (rest : List ℕ) (was now : List PartValues) (base place : ℕ) → starts ≡ shape.parts → rest ≡ drop 8 bytes → was ≡ old.parts
    → FillsUpTo (flat_map part_widths starts) (parts_fields_in starts rest) (flat_map part_fields was) (flat_map part_fields now) (base + 8) place
    → FillsUpTo (field_widths shape) (fields_in shape bytes) (fields old) (fields (made (number bytes) now)) base place
body_fills shape bytes old starts rest was now base place starts_is rest_is was_is fills =
    let a = subst (λ (l : List PartStarts). FillsUpTo (flat_map part_widths l) (parts_fields_in l rest) (flat_map part_fields was) (flat_map part_fields now) (base + 8) place) starts_is fills in
    let b = subst (λ (l : List ℕ). FillsUpTo (flat_map part_widths shape.parts) (parts_fields_in shape.parts l) (flat_map part_fields was) (flat_map part_fields now) (base + 8) place) rest_is a in
    let d = subst (λ (l : List PartValues). FillsUpTo (flat_map part_widths shape.parts) (parts_fields_in shape.parts (drop 8 bytes)) (flat_map part_fields l) (flat_map part_fields now) (base + 8) place) was_is b in
    fills_behind (8 ∷ []) (flat_map part_widths shape.parts) (number bytes ∷ []) (parts_fields_in shape.parts (drop 8 bytes)) (old.epoch ∷ []) (flat_map part_fields old.parts) (flat_map part_fields now) base (base + 8) place refl refl refl d

module _ (c : goal.After-into-2-1) where
  moved : (right : Result (List PartValues) ℕ) → parts_decoded c.shape.inside.order c.deref.result.now (c.args.base + 8) c.split_at.result.1.now ≡ right
      → parts_decoded c.args.shape.now.order c.args.shape.now.parts (c.args.base + 8) (drop 8 c.args.bytes.now) ≡ right
  moved right is =
      ap (λ (o : Order). parts_decoded o c.args.shape.now.parts (c.args.base + 8) (drop 8 c.args.bytes.now)) (sym (ap (λ s. s.order) c.shape.view_is))
      ∙ ap (λ (l : List PartStarts). parts_decoded c.shape.inside.order l (c.args.base + 8) (drop 8 c.args.bytes.now)) (sym (c.deref.ensures.value ∙ ap (λ s. s.parts) c.shape.view_is))
      ∙ ap (parts_decoded c.shape.inside.order c.deref.result.now (c.args.base + 8)) (sym c.split_at.ensures.back) ∙ is

  is : IsTrue (is_epoch c.args.slot (number c.args.bytes.now))
  is = sym (c.is_epoch.ensures ∙ ap (is_epoch c.args.slot) c.epoch_of-epoch.ensures) ∙ c.if-not-is_epoch.false

  wrong_is : (wrong : ℕ) → parts_decoded c.shape.inside.order c.deref.result.now (c.args.base + 8) c.split_at.result.1.now ≡ Err wrong → decoded c.args.shape.now c.args.slot c.args.base c.args.bytes.now ≡ Err wrong
  wrong_is wrong e =
      ap (λ (b : Bool). if b then read_as (made (number c.args.bytes.now)) (parts_decoded c.args.shape.now.order c.args.shape.now.parts (c.args.base + 8) (drop 8 c.args.bytes.now)) else Err c.args.base) is
      ∙ ap (read_as (made (number c.args.bytes.now))) (moved (Err wrong) e)

  shape_is : c.deref.result.now ≡ c.args.shape.now.parts
  shape_is = c.deref.ensures.value ∙ ap (λ s. s.parts) c.shape.view_is

  old_is : c.deref_mut.result.now ≡ c.args.into.now.parts
  old_is = c.deref_mut.ensures.value ∙ ap (λ s. s.parts) c.into.view_is

  have_old : HaveShape c.args.shape.now.parts c.into.inside.parts.items
  have_old = subst (HaveShape c.args.shape.now.parts) (sym (ap (λ s. s.parts) c.into.view_is)) c.requires.into

  parts_left : (with_items c.into.inside.parts c.read_parts.new.into).items ≡ c.read_parts.new.into
  parts_left = with_items_is c.into.inside.parts c.read_parts.new.into
      (omega (arith, have_length c.args.shape.now.parts c.into.inside.parts.items have_old, have_length c.deref.result.now c.read_parts.new.into c.read_parts.ensures.same_shape, ap length shape_is, c.into.inside.parts.ok))

  left : made (number c.args.bytes.now) c.read_parts.new.into ≡ made c.epoch_of-epoch.result (with_items c.into.inside.parts c.read_parts.new.into).items
  left = ap (λ (n : ℕ). made n c.read_parts.new.into) (sym c.epoch_of-epoch.ensures) ∙ ap (made c.epoch_of-epoch.result) (sym parts_left)

pub returns-clause-form : goal.returns-clause-form
returns-clause-form c =
    on_ok c.read_parts.result
    (parts_decoded c.shape.inside.order c.deref.result.now (c.args.base + 8) c.split_at.result.1.now ≡ Ok c.read_parts.new.into)
    (Form c.args.shape.now c.args.slot c.args.bytes.now (made c.epoch_of-epoch.result (with_items c.into.inside.parts c.read_parts.new.into).items))
    (λ ok. subst (Form c.args.shape.now c.args.slot c.args.bytes.now) (left c)
    (body_form c.args.shape.now c.args.slot (c.args.base + 8) c.args.bytes.now c.read_parts.new.into c.requires.length (λ i. omega (arith, c.type_inv.bytes i)) (is c) (moved c (Ok c.read_parts.new.into) ok)))
    c.read_parts.ensures.ok

pub returns-clause-not_form : goal.returns-clause-not_form
returns-clause-not_form c =
    on_err_any c.read_parts.result
    (λ (e : Damaged). parts_decoded c.shape.inside.order c.deref.result.now (c.args.base + 8) c.split_at.result.1.now ≡ Err e.place)
    ((snapshot : SnapshotParts) → Form c.args.shape.now c.args.slot c.args.bytes.now snapshot → ⊥)
    (λ e wrong snapshot form. apart c.args.shape.now c.args.slot c.args.base c.args.bytes.now e.place snapshot (wrong_is c e.place wrong) form)
    c.read_parts.ensures.damaged

pub returns-clause-filled : goal.returns-clause-filled
returns-clause-filled c =
    on_err c.read_parts.result
    (λ (e : Damaged). FillsUpTo (flat_map part_widths c.deref.result.now) (parts_fields_in c.deref.result.now c.split_at.result.1.now) (flat_map part_fields c.deref_mut.result.now) (flat_map part_fields c.read_parts.new.into) (c.args.base + 8) e.place)
    (λ (e : Damaged). FillsUpTo (field_widths c.args.shape.now) (fields_in c.args.shape.now c.args.bytes.now) (fields c.args.into.now) (fields (made c.epoch_of-epoch.result (with_items c.into.inside.parts c.read_parts.new.into).items)) c.args.base e.place)
    (λ e fills. subst (λ (s : SnapshotParts). FillsUpTo (field_widths c.args.shape.now) (fields_in c.args.shape.now c.args.bytes.now) (fields c.args.into.now) (fields s) c.args.base e.place) (left c)
    (body_fills c.args.shape.now c.args.bytes.now c.args.into.now c.deref.result.now c.split_at.result.1.now c.deref_mut.result.now c.read_parts.new.into c.args.base e.place (shape_is c) c.split_at.ensures.back (old_is c) fills))
    c.read_parts.ensures.filled
