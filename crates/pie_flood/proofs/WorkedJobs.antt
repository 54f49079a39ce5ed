-- The jobs of worked rows are jobs.
use Rattle.std.proofs.Common.{ℕ, ◌<◌, ◌^◌, refl, arith}
use Rattle.std.proofs.lemmas.List.Elements.{All-from_recursion}
use Rattle.graph_core.specs.declared.edge.Edge.{Edge}
use Rattle.graph_core.specs.declared.query.Query.{Query}
use Rattle.graph_core.specs.declared.query.Query.TheVariants as query
use Rattle.graph_core.specs.Graphs.{IsQuery, IsJob}
use Rattle.pie_flood.specs.FloodJobs.{IsLabelJob, IsReachJob}
use Rattle.pie_flood.specs.Worked.{two_ranges, label_row, reach_row}

row_is_job : (asked : Query) → IsQuery asked → IsJob (two_ranges asked)
row_is_job asked h =
    let words : ℕ × ℕ → Type 0 = λ vertex. (vertex.0 < 2 ^ 32) × (vertex.1 < 2 ^ 32) in
    let ends : Edge → Type 0 = λ e. (e.from < 3) × (e.to < 3) in
    let weight : Edge → Type 0 = λ e. e.weight < 2 ^ 32 in
    record {
      graph = record {
        rising = (omega arith, (omega arith, tt));
        words = All-from_recursion words (two_ranges asked).graph.vertices ((omega arith, omega arith), ((omega arith, omega arith), ((omega arith, omega arith), tt)));
        ends = All-from_recursion ends (two_ranges asked).graph.edges ((omega arith, omega arith), ((omega arith, omega arith), tt));
        weights = All-from_recursion weight (two_ranges asked).graph.edges (omega arith, (omega arith, tt));
        sorted = refl;
        few_vertices = omega arith;
        few_edges = omega arith;
      };
      query = h;
      settings = record { fragments = (omega arith, omega arith); lanes = (omega arith, omega arith); policy = tt; snapshot = omega arith };
    }

pub label_is_for : IsLabelJob label_row
label_is_for = (row_is_job query.Label tt, tt)

pub reach_is_for : IsReachJob reach_row
reach_is_for = (row_is_job (query.Reach 7) (omega arith), tt)
