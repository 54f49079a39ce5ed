-- The rules of the numbers of a part, and the tests that they stand for.
use Rattle.std.specs.Prelude.{ℕ, Bool, ◌==◌}
use Rattle.value_order.specs.declared.order.Order.{Order}
use Rattle.token_cut.specs.declared.phase.Phase.{Phase}
use Rattle.token_cut.specs.declared.phase.Phase.TheVariants.{Fresh, Rest}
use Rattle.snapshot_file.specs.Tests.{is_below, is_mail}
use Rattle.snapshot_file.specs.declared.rule.Rule.{Rule}
use Rattle.snapshot_file.specs.declared.rule.Rule.TheVariants.{Start, Below, Mail}

-- whether a rule allows a number beside that start value
abbrev pub allows_of : Rule → Order → ℕ → ℕ → Bool
allows_of Start order start n = n == start
allows_of Below order start n = is_below order start n
allows_of Mail order start n = is_mail order start n

-- what the values of a part in that phase may be
abbrev pub rule_of : Phase → Rule
rule_of Fresh = Start
rule_of Rest = Below
