use Rattle.std.proofs.Common.{◌≡◌, map, length}
use Rattle.graph_core.specs.Graphs.{count_of}
use Rattle.graph_core.specs.Fragments.{numbers_below}
use Rattle.fragment_cut.specs.Halves.{half_of}
use Rattle.fragment_cut.proofs.cutting.several_halves.Given as goal

abbrev pub invariant-loop-fragment : goal.invariant-loop-fragment
invariant-loop-fragment l = record {
  made : l.halves.items ≡ map (half_of l.job) (numbers_below l.fragment);
  places : length l.places.items ≡ count_of l.job.graph;
}
