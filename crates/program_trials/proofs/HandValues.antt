-- A hand that is filled mirror by mirror.
use Rattle.std.proofs.Common.{◌≡◌, ℕ, ◌+◌, ◌^◌, ◌<◌, ◌≤◌, inl, inr, Bool, true, false, ◌==◌, ◌%◌, cond, List, length, replicate, slice_index, refl, sym, ◌∙◌, ap, arith}
use Rattle.std.specs.Prelude.{slice_set}
use Rattle.std.proofs.lemmas.Bool.{cases_eq}
use Rattle.std.proofs.lemmas.List.{length-replicate, get_or-replicate, get_or-set_same, get_or-set_other, length-set}
use Rattle.std.proofs.lemmas.Nat.{and_comm, and_mask}
use Rattle.value_order.specs.declared.order.Order.{Order}
use Rattle.value_order.specs.declared.order.Order.TheVariants.{Least, Mask}
use Rattle.value_order.specs.declared.TheConstants.{NOTHING}
use Rattle.value_order.specs.Order.{meet_of}

-- what mirror m gets
abbrev pub hand_value : ℕ → ℕ → ℕ → ℕ
hand_value every value m = cond (m % every == 0) value NOTHING

-- the mirrors before k have what they get, and the others nothing
pub record IsFilledTo (every value mirrors k : ℕ) (values : List ℕ) : Type 0 where
  pub len : length values ≡ mirrors
  pub so_far : (m : ℕ) → m < k → slice_index values m ≡ hand_value every value m
  pub others : (m : ℕ) → k ≤ m → m < mirrors → slice_index values m ≡ NOTHING

met_nothing : (o : Order) (v : ℕ) → v < 2 ^ 64 → meet_of o NOTHING v ≡ v
met_nothing Least v h = omega (arith, h)
met_nothing Mask v h = and_comm NOTHING v ∙ (and_mask v 64 ∙ omega (arith, h))

chosen : (b : Bool) (value : ℕ) → b ≡ true → value ≡ cond b value NOTHING
chosen true value e = refl
chosen false value e = absurd (let x : false ≡ true = e in cc)

left : (b : Bool) (value : ℕ) → b ≡ false → NOTHING ≡ cond b value NOTHING
left true value e = absurd (let x : true ≡ false = e in cc)
left false value e = refl

pub filled-none : (every value mirrors : ℕ) → IsFilledTo every value mirrors 0 (replicate mirrors NOTHING)
filled-none every value mirrors = record {
  len = length-replicate mirrors NOTHING;
  so_far = λ m l. absurd (omega (arith, l));
  others = λ m _ l. get_or-replicate mirrors m NOTHING 0 l;
}

pub filled-past : (every value mirrors k : ℕ) (values : List ℕ) → k < mirrors → (k % every == 0) ≡ false → IsFilledTo every value mirrors k values → IsFilledTo every value mirrors (k + 1) values
filled-past every value mirrors k values inside not h = record {
  len = h.len;
  so_far = λ m l. elim (cases_eq m k) [
    | inl e ↦ ap (slice_index values) e ∙ h.others k (omega arith) inside ∙ left (k % every == 0) value not ∙ sym (ap (hand_value every value) e)
    | inr d ↦ h.so_far m (omega (arith, l, d))
  ];
  others = λ m l n. h.others m (omega (arith, l)) n;
}

pub filled-more : (o : Order) (every value mirrors k : ℕ) (values : List ℕ) → value < 2 ^ 64 → k < mirrors → (k % every == 0) ≡ true → IsFilledTo every value mirrors k values
    → IsFilledTo every value mirrors (k + 1) (slice_set values k (meet_of o (slice_index values k) value))
filled-more o every value mirrors k values word inside is h =
    let new = meet_of o (slice_index values k) value in
    let there : k < length values = omega (arith, inside, h.len) in
    let value_is : new ≡ value = ap (λ v. meet_of o v value) (h.others k (omega arith) inside) ∙ met_nothing o value word in
    record {
      len = length-set values k new ∙ h.len;
      so_far = λ m l. elim (cases_eq m k) [
        | inl e ↦ ap (slice_index (slice_set values k new)) e ∙ get_or-set_same values k new 0 there ∙ value_is ∙ chosen (k % every == 0) value is ∙ sym (ap (hand_value every value) e)
        | inr d ↦ get_or-set_other values k m new 0 d ∙ h.so_far m (omega (arith, l, d))
      ];
      others = λ m l n. get_or-set_other values k m new 0 (λ e. absurd (omega (arith, l, e))) ∙ h.others m (omega (arith, l)) n;
    }
