use Rattle.std.proofs.Common.{◌≡◌, ℕ, ◌<◌, ◌^◌, List, take, true}
use Rattle.std.specs.List.{list_all}
use Rattle.grape_port.specs.Decimal.{is_digit, digits_value}
use Rattle.grape_port.proofs.number.short_number.Given as goal

-- the digits so far stand for the value
pub record Digits (text : List ℕ) (i value : ℕ) : Type 0 where
  pub all : list_all is_digit (take i text) ≡ true
  pub is : digits_value (take i text) ≡ value
  pub small : value < 10 ^ i

abbrev pub invariant-loop-byte : goal.invariant-loop-byte
invariant-loop-byte l = Digits l.digits l.byte-index l.value
