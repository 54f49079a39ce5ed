-- How a job is shown to have least equations.
use Rattle.std.proofs.Common.{◌≡◌, ℕ, ◌+◌, Bool, true, false, ◌==◌, cond, List, map, refl, arith}
use Rattle.std.specs.List.{list_any}
use Rattle.value_order.specs.declared.order.Order.TheVariants.{Least}
use Rattle.graph_core.specs.declared.job.Job.{Job}
use Rattle.graph_core.specs.Digraph.{Digraph}
use Rattle.graph_core.specs.Graphs.{count_of, number_at, IsJob}
use Rattle.graph_core.specs.Equations.{Assignment}
use Rattle.graph_core.specs.Queries.{Read, least_of, zero_at_source, order_of, start_value, reads_of, right_side}
use Rattle.graph_core.proofs.Lists.{least-top}
use Rattle.pie_lowering.specs.LeastEquations.{no_cost, IsLeastJob}

-- the least of a list is 0 where the top is
zero-of : (b : Bool) (top : ℕ) (ns : List ℕ) → cond b 0 (least_of top ns) ≡ least_of (cond b 0 top) ns
zero-of true top ns = omega (arith, least-top 0 ns)
zero-of false top ns = refl

pub zero-least : (g : Digraph) (sources : List ℕ) (v top : ℕ) (ns : List ℕ) → zero_at_source g sources v (least_of top ns) ≡ least_of (zero_at_source g sources v top) ns
zero-least g sources v = zero-of (list_any (λ source. source == number_at g v) sources)

-- a reading that costs nothing
pub costs-nothing : (x : Assignment) (reads : List Read) → map (λ (r : Read). x r.vertex) reads ≡ map (λ (r : Read). x r.vertex + no_cost r.weight) reads
costs-nothing x reads = λ i. map (λ (r : Read). (nothing (x r.vertex)) i) reads
  where
    nothing : (n : ℕ) → n ≡ n + 0
    nothing n = omega arith

-- each equation is the least of the start and the readings
pub least-job : (cost : ℕ → ℕ) (job : Job) → IsJob job → order_of job.query ≡ Least →
    ((v : ℕ) (x : Assignment) → right_side job.graph job.query v (reads_of job.graph job.query v) x ≡ least_of (start_value job.graph job.query v) (map (λ (r : Read). x r.vertex + cost r.weight) (reads_of job.graph job.query v))) → IsLeastJob cost job
least-job cost job is_job order each = record {
  is_job = is_job;
  equations = λ i. record {
    order = order i;
    count = count_of job.graph;
    start = start_value job.graph job.query;
    reads = λ v. map (λ (r : Read). r.vertex) (reads_of job.graph job.query v);
    phi = λ v x. (each v x) i;
  };
}
