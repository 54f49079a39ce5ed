-- The jobs of worked rows.
use Rattle.std.specs.Prelude.{[], ◌∷◌}
use Rattle.graph_core.specs.declared.query.Query.TheVariants as query
use Rattle.graph_core.specs.declared.settings.Cut.TheVariants as cut
use Rattle.graph_core.specs.declared.settings.Policy.TheVariants as policy
use Rattle.graph_core.specs.declared.job.Job.{Job}

-- distances from vertex 1 over the edges 1 2 5 and 2 3 1, in two fragments by ranges
abbrev pub two_ranges : Job
two_ranges = record {
  graph = record { vertices = (1, 0) ∷ (2, 0) ∷ (3, 0) ∷ []; edges = record { from = 0; to = 1; weight = 5 } ∷ record { from = 1; to = 2; weight = 1 } ∷ [] };
  query = query.Dist 1;
  settings = record { fragments = 2; lanes = 1; cut = cut.Range; policy = policy.Ap; snapshot = 0 };
}

-- in one fragment: a loop of weight 0, an edge twice, the largest weights along a chain, a loop at its end, and two vertices that no walk reaches
abbrev pub one_range : Job
one_range = record {
  graph = record {
    vertices = (1, 0) ∷ (2, 0) ∷ (3, 0) ∷ (4, 0) ∷ (5, 0) ∷ [];
    edges = record { from = 0; to = 0; weight = 0 } ∷ record { from = 0; to = 1; weight = 4294967295 } ∷ record { from = 0; to = 1; weight = 4294967295 } ∷ record { from = 1; to = 2; weight = 4294967295 } ∷
        record { from = 2; to = 2; weight = 7 } ∷ record { from = 3; to = 4; weight = 0 } ∷ [];
  };
  query = query.Dist 1;
  settings = record { fragments = 1; lanes = 1; cut = cut.Range; policy = policy.Ap; snapshot = 0 };
}
