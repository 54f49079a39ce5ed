-- The tests that the numbers of a body in the form pass, one a number.
use Rattle.std.specs.Prelude.{ℕ, ◌%◌, ◌^◌, Bool, ◌&&◌, ◌||◌, nat_le, nat_lt, ◌==◌, List, ◌++◌, map, bit_and}
use Rattle.value_order.specs.declared.TheConstants.{NOTHING}
use Rattle.value_order.specs.declared.order.Order.{Order}
use Rattle.value_order.specs.declared.order.Order.TheVariants.{Least, Mask}
use Rattle.token_cut.specs.declared.phase.Phase.{Phase}
use Rattle.token_cut.specs.declared.phase.Phase.TheVariants.{Fresh, Rest}
use Rattle.token_cut.specs.Shapes.{PartStarts}

-- from 1 to 2 ^ 62 - 1, even in slot 0 and odd in slot 1
abbrev pub is_epoch : ℕ → ℕ → Bool
is_epoch slot n = nat_le 1 n && nat_lt n (2 ^ 62) && (n % 2 == slot)

-- lies below the start value in the order
abbrev pub is_below : Order → ℕ → ℕ → Bool
is_below Least start n = nat_le n start
is_below Mask start n = bit_and n start == n

-- a worker that has not begun has the start values
abbrev pub is_value : Order → Phase → ℕ → ℕ → Bool
is_value order Fresh start n = n == start
is_value order Rest start n = is_below order start n

-- no mail waits, or it lies below the start value of its mirror
abbrev pub is_mail : Order → ℕ → ℕ → Bool
is_mail order start n = (n == NOTHING) || is_below order start n

-- what each number of a part may be: the values of its own vertices and of its mirrors, then the mail
abbrev pub value_tests : Order → Phase → PartStarts → List (ℕ → Bool)
value_tests order phase starts = map (is_value order phase) (starts.owned ++ starts.mirrors)

abbrev pub mail_tests : Order → PartStarts → List (ℕ → Bool)
mail_tests order starts = map (is_mail order) starts.mirrors
