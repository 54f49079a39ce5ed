-- The jobs of worked rows.
use Rattle.std.specs.Prelude.{[], ◌∷◌}
use Rattle.graph_core.specs.declared.query.Query.{Query}
use Rattle.graph_core.specs.declared.query.Query.TheVariants as query
use Rattle.graph_core.specs.declared.settings.Cut.TheVariants as cut
use Rattle.graph_core.specs.declared.settings.Policy.TheVariants as policy
use Rattle.graph_core.specs.declared.job.Job.{Job}

-- a query over the edges 3 5 9 and 7 5 2, in two fragments by ranges: the second owns 7 alone
abbrev pub two_ranges : Query → Job
two_ranges asked = record {
  graph = record { vertices = (3, 0) ∷ (5, 0) ∷ (7, 0) ∷ []; edges = record { from = 0; to = 1; weight = 9 } ∷ record { from = 2; to = 1; weight = 2 } ∷ [] };
  query = asked;
  settings = record { fragments = 2; lanes = 1; cut = cut.Range; policy = policy.Ap; snapshot = 0 };
}

abbrev pub label_row : Job
label_row = two_ranges query.Label

abbrev pub reach_row : Job
reach_row = two_ranges (query.Reach 7)
