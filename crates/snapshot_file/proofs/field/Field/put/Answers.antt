use Rattle.std.proofs.Common.{◌≡◌, ℕ, List, ap, sym, refl, ◌∙◌, subst, arith}
use Rattle.std.specs.Vec.{with_items}
use Rattle.std.proofs.lemmas.List.{with_items_is}
use Rattle.value_order.specs.declared.order.Order.{Order}
use Rattle.token_cut.specs.Parts.{PartValues, SnapshotParts}
use Rattle.token_cut.specs.Shapes.{PartStarts, Starts, HaveShape}
use Rattle.snapshot_file.specs.Pieces.{is_right, is_right_in, put_field, put_in_parts}
use Rattle.snapshot_file.specs.declared.field.Field.{Field}
use Rattle.snapshot_file.specs.declared.field.Field.TheVariants.{Epoch, PhaseOf, NumberOf}
use Rattle.snapshot_file.proofs.Run.{have_length}
use Rattle.snapshot_file.proofs.field.Field.put.Goals as goal

right_is : (shape : Starts) (slot : ℕ) (into : SnapshotParts) (field : Field) (bytes : List ℕ) → (field ≡ Epoch → ⊥) → is_right_in shape.order shape.parts into.parts field bytes ≡ is_right shape slot into field bytes
right_is shape slot into Epoch bytes other = absurd (other refl)
right_is shape slot into (PhaseOf k) bytes other = refl
right_is shape slot into (NumberOf k n) bytes other = refl

put_is : (into : SnapshotParts) (field : Field) (bytes : List ℕ) → (field ≡ Epoch → ⊥) → (let s : SnapshotParts = record { epoch = into.epoch; parts = put_in_parts field bytes into.parts } in s) ≡ put_field field bytes into
put_is into Epoch bytes other = absurd (other refl)
put_is into (PhaseOf k) bytes other = refl
put_is into (NumberOf k n) bytes other = refl

pub returns-in_default : goal.returns-in_default
returns-in_default c =
    let shape_is = c.deref.ensures.value ∙ ap (λ (s : Starts). s.parts) c.shape.view_is in
    let old_is = c.deref_mut.ensures.value ∙ ap (λ (s : SnapshotParts). s.parts) c.into.view_is in
    let have_new = subst (λ (l : List PartStarts). HaveShape l c.put_in_parts.new.into) shape_is c.put_in_parts.ensures.same_shape in
    let have_old = subst (HaveShape c.args.shape.now.parts) (sym (ap (λ (s : SnapshotParts). s.parts) c.into.view_is)) c.requires.into in
    let left : (with_items c.into.inside.parts c.put_in_parts.new.into).items ≡ c.put_in_parts.new.into =
    with_items_is c.into.inside.parts c.put_in_parts.new.into
    (omega (arith, have_length c.args.shape.now.parts c.into.inside.parts.items have_old, have_length c.args.shape.now.parts c.put_in_parts.new.into have_new, c.into.inside.parts.ok)) in
    record {
      right =
          c.put_in_parts.ensures.right
          ∙ ap (λ (o : Order). is_right_in o c.deref.result.now c.deref_mut.result.now c.args.self c.args.bytes.now) (ap (λ (s : Starts). s.order) c.shape.view_is)
          ∙ ap (λ (l : List PartStarts). is_right_in c.args.shape.now.order l c.deref_mut.result.now c.args.self c.args.bytes.now) shape_is
          ∙ ap (λ (l : List PartValues). is_right_in c.args.shape.now.order c.args.shape.now.parts l c.args.self c.args.bytes.now) old_is
          ∙ right_is c.args.shape.now c.args.slot c.args.into.now c.args.self c.args.bytes.now c.in_default.not-Epoch;
      put = λ is.
          ap (λ (l : List PartValues). (let s : SnapshotParts = record { epoch = c.into.inside.epoch; parts = l } in s)) (left ∙ c.put_in_parts.ensures.put is ∙ ap (put_in_parts c.args.self c.args.bytes.now) old_is)
          ∙ ap (λ (n : ℕ). (let s : SnapshotParts = record { epoch = n; parts = put_in_parts c.args.self c.args.bytes.now c.args.into.now.parts } in s)) (ap (λ (s : SnapshotParts). s.epoch) c.into.view_is)
          ∙ put_is c.args.into.now c.args.self c.args.bytes.now c.in_default.not-Epoch;
      same_shape = subst (HaveShape c.args.shape.now.parts) (sym left) have_new;
    }
