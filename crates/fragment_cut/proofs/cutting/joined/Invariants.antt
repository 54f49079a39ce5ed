use Rattle.std.proofs.Common.{◌≡◌, map, length}
use Rattle.graph_core.specs.Fragments.{numbers_below, fragment_of}
use Rattle.fragment_cut.proofs.cutting.joined.Given as goal

abbrev pub invariant-loop-half : goal.invariant-loop-half
invariant-loop-half l = record {
  count : l.number ≡ length l.yielded;
  made : l.fragments.items ≡ map (fragment_of l.job) (numbers_below l.number);
}
