-- Values of vertices, and the two orders in which they fall. A value is a number below 2 ^ 64.
use Rattle.std.specs.Prelude.{◌≡◌, ◌≢◌, ℕ, ◌^◌, ◌<◌, ◌≤◌, ◌↔◌, min, List, [], ◌∷◌, bit_and, count_ones}
use Rattle.value_order.specs.declared.order.Order.{Order}
use Rattle.value_order.specs.declared.order.Order.TheVariants.{Least, Mask}
use Rattle.value_order.specs.declared.TheConstants.{NOTHING}

-- the greatest value below both: the smaller one, or the bits that both have
abbrev pub meet_of : Order → ℕ → ℕ → ℕ
meet_of Least a b = min a b
meet_of Mask a b = bit_and a b

-- a is at most b, or has no bit that b lacks
abbrev pub Below : Order → ℕ → ℕ → Type 0
Below Least a b = a ≤ b
Below Mask a b = bit_and a b ≡ a

-- the meet of a value and of a list of values
abbrev pub meet_all : Order → ℕ → List ℕ → ℕ
meet_all o a [] = a
meet_all o a (x ∷ xs) = meet_all o (meet_of o a x) xs

-- how often a value can fall, at most
abbrev pub height_of : Order → ℕ → ℕ
height_of Least top = top
height_of Mask top = count_ones top

-- each value of the list lies below the one before it, the first one below top, and is another one
abbrev pub Falls : Order → ℕ → List ℕ → Type 0
Falls o top [] = Unit {0}
Falls o top (x ∷ xs) = Below o x top × (x ≢ top) × Falls o x xs

pub record MeetLaws (o : Order) : Type 0 where
  pub associative : (a b c : ℕ) → meet_of o (meet_of o a b) c ≡ meet_of o a (meet_of o b c)
  pub commutative : (a b : ℕ) → meet_of o a b ≡ meet_of o b a
  pub idempotent : (a : ℕ) → meet_of o a a ≡ a
  pub neutral : (a : ℕ) → a < 2 ^ 64 → meet_of o a NOTHING ≡ a
  pub below_is_meet : (a b : ℕ) → Below o a b ↔ (meet_of o a b ≡ a)
  pub greatest : (a b c : ℕ) → Below o c (meet_of o a b) ↔ (Below o c a × Below o c b)
