use Rattle.std.proofs.Common.{◌≡◌, ℕ, ◌<◌, ◌^◌, List, take, true}
use Rattle.std.specs.List.{list_all}
use Rattle.grape_port.specs.Decimal.{is_digit, digits_value}
use Rattle.line_statements.proofs.plain_lines.leading_digits.Given as goal

-- the digits so far stand for the value
pub record Digits (text : List ℕ) (i value : ℕ) : Type 0 where
  pub all : list_all is_digit (take i text) ≡ true
  pub is : digits_value (take i text) ≡ value
  pub small : value < 10 ^ i

abbrev pub invariant-digits : goal.invariant-digits
invariant-digits l = Digits l.text l.at l.value
