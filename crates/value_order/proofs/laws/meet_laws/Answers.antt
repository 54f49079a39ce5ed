use Rattle.std.proofs.Common.{arith, sym, ◌∙◌, ap, bit_and}
use Rattle.std.proofs.lemmas.Nat.{and_comm, and_assoc, and_mask}
use Rattle.std.specs.Int.Bits.{and_self}
use Rattle.value_order.specs.Order.{MeetLaws}
use Rattle.value_order.specs.declared.order.Order.{Order}
use Rattle.value_order.specs.declared.order.Order.TheVariants.{Least, Mask}
use Rattle.value_order.proofs.laws.meet_laws.Goals as goal

laws : (o : Order) → MeetLaws o
laws Least = record {
  associative = λ a b c. omega arith;
  commutative = λ a b. omega arith;
  idempotent = λ a. omega arith;
  neutral = λ a h. omega arith;
  below_is_meet = λ a b. (λ h. omega arith, λ h. omega arith);
  greatest = λ a b c. (λ h. (omega arith, omega arith), λ h. omega (arith, h.0, h.1));
}
laws Mask = record {
  associative = λ a b c. and_assoc c a b;
  commutative = λ a b. and_comm a b;
  idempotent = λ a. and_self a;
  neutral = λ a h. and_mask a 64 ∙ omega (arith, h);
  below_is_meet = λ a b. (λ h. h, λ h. h);
  greatest = λ a b c. (
    λ h. (
      ap (λ x. bit_and x a) (sym h) ∙ and_assoc a c (bit_and a b)
          ∙ ap (bit_and c) (and_comm (bit_and a b) a ∙ sym (and_assoc b a a) ∙ ap (λ x. bit_and x b) (and_self a)) ∙ h,
      ap (λ x. bit_and x b) (sym h) ∙ and_assoc b c (bit_and a b)
          ∙ ap (bit_and c) (and_assoc b a b ∙ ap (bit_and a) (and_self b)) ∙ h,
    ),
    λ h. sym (and_assoc b c a) ∙ ap (λ x. bit_and x b) h.0 ∙ h.1,
  );
}

pub returns : goal.returns
returns c = laws
