-- A query as equations: what each vertex starts with, what it reads, its equation, and the order of the values.
use Rattle.std.specs.Prelude.{ℕ, zero, suc, ◌+◌, ◌/◌, ◌%◌, ◌^◌, min, Bool, if◌then◌else◌, ◌==◌, ◌&&◌, ◌||◌, not, List, [], ◌∷◌, map, flat_map}
use Rattle.std.specs.List.{list_any, list_all}
use Rattle.value_order.specs.declared.order.Order.{Order}
use Rattle.value_order.specs.declared.order.Order.TheVariants.{Least, Mask}
use Rattle.graph_core.specs.declared.edge.Edge.{Edge}
use Rattle.graph_core.specs.declared.pattern.PatternLink.{PatternLink}
use Rattle.graph_core.specs.declared.query.Query.{Query}
use Rattle.graph_core.specs.declared.query.Query.TheVariants.{Dist, Label, Reach, Sim}
use Rattle.graph_core.specs.declared.job.Job.{Job}
use Rattle.graph_core.specs.declared.TheConstants.{FAR}
use Rattle.graph_core.specs.Digraph.{Digraph}
use Rattle.graph_core.specs.PatternGraph.{PatternGraph}
use Rattle.graph_core.specs.Graphs.{count_of, number_at, label_at}
use Rattle.graph_core.specs.Equations.{Assignment, Equations}

-- what is read along an edge: a vertex, and the edge's weight
pub record Read : Type 0 where
  pub vertex : ℕ
  pub weight : ℕ

-- what v reads along one edge: the edge's source, its target, or its other end
abbrev pub source_read : ℕ → Edge → List Read
source_read v e = if e.to == v then record { vertex = e.from; weight = e.weight } ∷ [] else []

abbrev pub target_read : ℕ → Edge → List Read
target_read v e = if e.from == v then record { vertex = e.to; weight = e.weight } ∷ [] else []

abbrev pub other_end_read : ℕ → Edge → List Read
other_end_read v e = if e.from == v then record { vertex = e.to; weight = e.weight } ∷ [] else source_read v e

-- the least of top and the numbers
abbrev pub least_of : ℕ → List ℕ → ℕ
least_of top [] = top
least_of top (n ∷ ns) = min n (least_of top ns)

abbrev pub has_bit : ℕ → ℕ → Bool
has_bit n k = n / 2 ^ k % 2 == 1

-- the number whose bits below n are those of the test, and that has no others
abbrev pub mask_below : ℕ → (ℕ → Bool) → ℕ
mask_below zero test = 0
mask_below (suc n) test = (if test n then 2 ^ n else 0) + mask_below n test

unfoldable pub mask_of : (ℕ → Bool) → ℕ
mask_of test = mask_below 64 test

-- 0 at a source, and another number elsewhere
abbrev pub zero_at_source : Digraph → List ℕ → ℕ → ℕ → ℕ
zero_at_source g sources v other = if list_any (λ source. source == number_at g v) sources then 0 else other

-- whether a pattern has a node with this number and this label
abbrev pub has_node : PatternGraph → ℕ → ℕ → Bool
has_node p k label = list_any (λ node. (node.number == k) && (node.label == label)) p.nodes

-- whether a link leads from another node than k, or some vertex that is read has the bit of the node that it leads to
abbrev pub link_is_met : ℕ → List Read → Assignment → PatternLink → Bool
link_is_met k reads x link = not (link.from == k) || list_any (λ r. has_bit (x r.vertex) link.to) reads

-- ---- a line for each query

abbrev pub order_of : Query → Order
order_of (Dist source) = Least
order_of Label = Least
order_of (Reach source) = Least
order_of (Sim pattern) = Mask

abbrev pub edge_reads : Query → ℕ → Edge → List Read
edge_reads (Dist source) = source_read
edge_reads Label = other_end_read
edge_reads (Reach source) = source_read
edge_reads (Sim pattern) = target_read

abbrev pub start_value : Digraph → Query → ℕ → ℕ
start_value g (Dist source) v = zero_at_source g (source ∷ []) v FAR
start_value g Label v = number_at g v
start_value g (Reach source) v = zero_at_source g (source ∷ []) v 1
start_value g (Sim pattern) v = mask_of (λ k. has_node pattern k (label_at g v))

-- the right side of the equation of v, over what it reads
abbrev pub right_side : Digraph → Query → ℕ → List Read → Assignment → ℕ
right_side g (Dist source) v reads x = zero_at_source g (source ∷ []) v (least_of FAR (map (λ r. x r.vertex + r.weight) reads))
right_side g Label v reads x = least_of (number_at g v) (map (λ r. x r.vertex) reads)
right_side g (Reach source) v reads x = zero_at_source g (source ∷ []) v (least_of 1 (map (λ r. x r.vertex) reads))
right_side g (Sim pattern) v reads x = mask_of (λ k. has_node pattern k (label_at g v) && list_all (link_is_met k reads x) pattern.links)

-- ---- the equations

-- what v reads, as often as there are edges
abbrev pub reads_of : Digraph → Query → ℕ → List Read
reads_of g q v = flat_map (edge_reads q v) g.edges

abbrev pub equations_on : Digraph → Query → Equations
equations_on g q =
    record {
      order = order_of q;
      count = count_of g;
      start = start_value g q;
      reads = λ v. map (λ r. r.vertex) (reads_of g q v);
      phi = λ v x. right_side g q v (reads_of g q v) x;
    }

abbrev pub equations_of : Job → Equations
equations_of job = equations_on job.graph job.query
