use Rattle.std.proofs.Common.{◌≡◌}
use Rattle.graph_core.specs.Fragments.{numbers_below}
use Rattle.fragment_cut.proofs.half.all_below.Given as goal

abbrev pub invariant-loop-number : goal.invariant-loop-number
invariant-loop-number l = l.numbers.items ≡ numbers_below l.number
