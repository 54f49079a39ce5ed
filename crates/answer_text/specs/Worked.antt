-- The job of a worked row, and values of its fragments.
use Rattle.std.specs.Prelude.{List, [], ◌∷◌}
use Rattle.graph_core.specs.declared.query.Query.TheVariants as query
use Rattle.graph_core.specs.declared.settings.Cut.TheVariants as cut
use Rattle.graph_core.specs.declared.settings.Policy.TheVariants as policy
use Rattle.graph_core.specs.declared.job.Job.{Job}
use Rattle.pie_core.specs.Locals.{LocalValues}

-- three vertices without edges, which the hash gives to two fragments: the first has vertex 2, and the second has vertices 1 and 3
abbrev pub scattered : Job
scattered = record {
  graph = record { vertices = (1, 0) ∷ (2, 0) ∷ (3, 0) ∷ []; edges = [] };
  query = query.Label;
  settings = record { fragments = 2; lanes = 1; cut = cut.Hash; policy = policy.Ap; snapshot = 0 };
}

abbrev pub scattered_values : List LocalValues
scattered_values =
    record { values = 5 ∷ []; before = 5 ∷ []; counters = []; waiting = [] } ∷
    record { values = 7 ∷ 9 ∷ []; before = 7 ∷ 9 ∷ []; counters = []; waiting = [] } ∷ []
