-- The job of the worked input is one within the limits, and its values.
use Rattle.std.proofs.Common.{ℕ, ◌<◌, ◌^◌, [], ◌∷◌, refl, arith}
use Rattle.std.proofs.lemmas.Grind.{common_steps}
use Rattle.std.proofs.lemmas.List.Elements.{All-from_recursion}
use Rattle.graph_core.specs.declared.edge.Edge.{Edge}
use Rattle.graph_core.specs.Graphs.{IsJob}
use Rattle.graph_core.specs.Meaning.{AreValues}
use Rattle.graph_core.specs.Rows.{listed, detour}
use Rattle.graph_core.proofs.Values.{job-meaning}

pub detour_is_job : IsJob detour
detour_is_job =
    let words : ℕ × ℕ → Type 0 = λ vertex. (vertex.0 < 2 ^ 32) × (vertex.1 < 2 ^ 32) in
    let ends : Edge → Type 0 = λ e. (e.from < 3) × (e.to < 3) in
    let weight : Edge → Type 0 = λ e. e.weight < 2 ^ 32 in
    record {
      graph = record {
        rising = (omega arith, (omega arith, tt));
        words = All-from_recursion words detour.graph.vertices ((omega arith, omega arith), ((omega arith, omega arith), ((omega arith, omega arith), tt)));
        ends = All-from_recursion ends detour.graph.edges ((omega arith, omega arith), ((omega arith, omega arith), ((omega arith, omega arith), tt)));
        weights = All-from_recursion weight detour.graph.edges (omega arith, (omega arith, (omega arith, tt)));
        sorted = refl;
        few_vertices = omega arith;
        few_edges = omega arith;
      };
      query = omega arith;
      settings = record { fragments = (omega arith, omega arith); lanes = (omega arith, omega arith); policy = (omega arith, omega arith, omega arith); snapshot = omega arith };
    }

pub detour_values : AreValues detour (listed (0 ∷ 5 ∷ 6 ∷ []))
detour_values = (job-meaning detour detour_is_job (listed (0 ∷ 5 ∷ 6 ∷ []))).0 (grind (arith, common_steps))
