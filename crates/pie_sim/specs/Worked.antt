-- The job of a worked row.
use Rattle.std.specs.Prelude.{List, [], ◌∷◌}
use Rattle.graph_core.specs.declared.pattern.PatternLink.{PatternLink}
use Rattle.graph_core.specs.declared.query.Query.TheVariants as query
use Rattle.graph_core.specs.declared.settings.Cut.TheVariants as cut
use Rattle.graph_core.specs.declared.settings.Policy.TheVariants as policy
use Rattle.graph_core.specs.declared.job.Job.{Job}

-- two nodes that link to each other
abbrev pub ring_links : List PatternLink
ring_links = record { from = 0; to = 1 } ∷ record { from = 1; to = 0 } ∷ []

-- these nodes on four vertices in a ring with their labels in turn, in two fragments by ranges: the second owns 3 and 4, and reads 1
abbrev pub ring_row : Job
ring_row = record {
  graph = record {
    vertices = (1, 1) ∷ (2, 2) ∷ (3, 1) ∷ (4, 2) ∷ [];
    edges = record { from = 0; to = 1; weight = 1 } ∷ record { from = 1; to = 2; weight = 1 } ∷ record { from = 2; to = 3; weight = 1 } ∷ record { from = 3; to = 0; weight = 1 } ∷ [];
  };
  query = query.Sim (record {
    nodes = record { number = 0; label = 1 } ∷ record { number = 1; label = 2 } ∷ [];
    links = ring_links;
  });
  settings = record { fragments = 2; lanes = 1; cut = cut.Range; policy = policy.Ap; snapshot = 0 };
}
