-- Equations whose values are least: each value is the least of its vertex's start and of what the vertex reads, each with
-- the cost of the weight between them.
use Rattle.std.specs.Prelude.{◌≡◌, ℕ, ◌+◌, map}
use Rattle.value_order.specs.declared.order.Order.TheVariants.{Least}
use Rattle.graph_core.specs.declared.query.Query.{Query}
use Rattle.graph_core.specs.declared.job.Job.{Job}
use Rattle.graph_core.specs.Digraph.{Digraph}
use Rattle.graph_core.specs.Graphs.{count_of, IsJob}
use Rattle.graph_core.specs.Equations.{Equations}
use Rattle.graph_core.specs.Queries.{start_value, reads_of, least_of, equations_of}

-- what a reading costs by its weight: all of it, or nothing
abbrev pub whole_weight : ℕ → ℕ
whole_weight weight = weight

abbrev pub no_cost : ℕ → ℕ
no_cost weight = 0

abbrev pub least_equations : (ℕ → ℕ) → Digraph → Query → Equations
least_equations cost g q =
    record {
      order = Least;
      count = count_of g;
      start = start_value g q;
      reads = λ v. map (λ r. r.vertex) (reads_of g q v);
      phi = λ v x. least_of (start_value g q v) (map (λ r. x r.vertex + cost r.weight) (reads_of g q v));
    }

-- a job whose equations are these
pub record IsLeastJob (cost : ℕ → ℕ) (job : Job) : Type 0 where
  pub is_job : IsJob job
  pub equations : equations_of job ≡ least_equations cost job.graph job.query
