-- Meets of values, in turn and with NOTHING.
use Rattle.std.proofs.Common.{◌≡◌, ℕ, ap, sym, ◌∙◌, refl, arith, ◌<◌, ◌≤◌, ◌^◌}
use Rattle.std.proofs.lemmas.Nat.{and_comm, and_assoc, and_mask, and_le_l, and_le_r}
use Rattle.value_order.specs.declared.order.Order.{Order}
use Rattle.value_order.specs.declared.order.Order.TheVariants.{Least, Mask}
use Rattle.value_order.specs.declared.TheConstants.{NOTHING}
use Rattle.value_order.specs.Order.{meet_of}

pub meet-assoc : (o : Order) (a b c : ℕ) → meet_of o (meet_of o a b) c ≡ meet_of o a (meet_of o b c)
meet-assoc Least a b c = omega arith
meet-assoc Mask a b c = and_assoc c a b

meet-comm : (o : Order) (a b : ℕ) → meet_of o a b ≡ meet_of o b a
meet-comm Least a b = omega arith
meet-comm Mask a b = and_comm a b

-- the last of three values comes before the second one
pub meet-turn : (o : Order) (a b c : ℕ) → meet_of o (meet_of o a b) c ≡ meet_of o (meet_of o a c) b
meet-turn o a b c = meet-assoc o a b c ∙ ap (meet_of o a) (meet-comm o b c) ∙ sym (meet-assoc o a c b)

pub meet-nothing : (o : Order) → meet_of o NOTHING NOTHING ≡ NOTHING
meet-nothing Least = refl
meet-nothing Mask = refl

-- a value that NOTHING doesn't lower, met with another one
pub meet-neutral : (o : Order) (a b : ℕ) → meet_of o a NOTHING ≡ a → meet_of o (meet_of o a b) NOTHING ≡ meet_of o a b
meet-neutral o a b n = meet-turn o a b NOTHING ∙ ap (λ x. meet_of o x b) n

-- NOTHING lowers no value
pub meet-fits : (o : Order) (a : ℕ) → a < 2 ^ 64 → meet_of o a NOTHING ≡ a
meet-fits Least a h = omega (arith, h)
meet-fits Mask a h = and_mask a 64 ∙ omega (arith, h)

pub meet-le_l : (o : Order) (a b : ℕ) → meet_of o a b ≤ a
meet-le_l Least a b = omega arith
meet-le_l Mask a b = and_le_l a b

pub meet-le_r : (o : Order) (a b : ℕ) → meet_of o a b ≤ b
meet-le_r Least a b = omega arith
meet-le_r Mask a b = and_le_r a b
