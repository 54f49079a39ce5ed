-- The greatest solution of `sim` has the bits of the nodes that some simulation relates to the vertex.
use Rattle.std.proofs.Common.{◌≡◌, ℕ, ◌<◌, inl, inr, List, refl, ◌∙◌, ap, subst, Bool, true, not, ◌&&◌, ◌==◌, IsTrue, Contains}
use Rattle.std.specs.Prelude.{nat_lt}
use Rattle.std.specs.Int.{bit_at}
use Rattle.std.specs.List.{list_any, list_all}
use Rattle.std.proofs.lemmas.Bool.{and_parts, and_from, or_cases, or_left, or_right, eqb-true, eq-eqb, ltb-true, lt-ltb, cases_Bool, both_ways, not-true, not_from_false}
use Rattle.std.proofs.lemmas.List.Elements.{All-contains}
use Rattle.value_order.specs.declared.order.Order.TheVariants.{Mask}
use Rattle.value_order.specs.Order.{Below}
use Rattle.value_order.proofs.Orders.{below-mask}
use Rattle.graph_core.specs.declared.edge.Edge.{Edge}
use Rattle.graph_core.specs.declared.pattern.PatternNode.{PatternNode}
use Rattle.graph_core.specs.declared.pattern.PatternLink.{PatternLink}
use Rattle.graph_core.specs.declared.query.Query.TheVariants.{Sim}
use Rattle.graph_core.specs.Digraph.{Digraph}
use Rattle.graph_core.specs.PatternGraph.{PatternGraph}
use Rattle.graph_core.specs.Graphs.{count_of, label_at, IsGraph, IsPattern}
use Rattle.graph_core.specs.Walks.{HasEdge, IsSimulation}
use Rattle.graph_core.specs.Meaning.{AreSimulated}
use Rattle.graph_core.specs.Equations.{Assignment, IsGreatest}
use Rattle.graph_core.specs.Queries.{Read, has_bit, mask_of, has_node, link_is_met, reads_of, equations_on}
use Rattle.graph_core.specs.Theorems.{GreatestIsValues}
use Rattle.graph_core.proofs.Lists.{any_from, any_gives, all_from, all_gives}
use Rattle.graph_core.proofs.EdgeReads.{read_of, read_in, target_gives, target_from}
use Rattle.graph_core.proofs.Masks.{HasBit, mask_has, mask_gives, mask_of-below, bit_from_set, set_from_bit, same_bits}
use Rattle.graph_core.proofs.Lawful.{lawful}
use Rattle.graph_core.proofs.Greatest.{greatest_from_values}

-- ---- nodes and links

abbrev node_of : ℕ → ℕ → PatternNode
node_of k label = record { number = k; label = label }

has_node-gives : (p : PatternGraph) (k label : ℕ) → has_node p k label ≡ true → Contains p.nodes (node_of k label)
has_node-gives p k label e =
    let f = any_gives (λ (node : PatternNode). (node.number == k) && (node.label == label)) p.nodes e in
    let node : PatternNode = f.0 in
    let t = and_parts (node.number == k) (node.label == label) f.2 in
    let number : node.number ≡ k = eqb-true node.number k t.0 in
    let labels : node.label ≡ label = eqb-true node.label label t.1 in
    let same : node ≡ node_of k label = λ i. record { number = number i; label = labels i } in
    subst (λ (n : PatternNode). Contains p.nodes n) same f.1

has_node-from : (p : PatternGraph) (k label : ℕ) → Contains p.nodes (node_of k label) → has_node p k label ≡ true
has_node-from p k label c =
    any_from (λ (node : PatternNode). (node.number == k) && (node.label == label)) p.nodes (node_of k label) c
    (and_from (k == k) (label == label) (eq-eqb k k refl) (eq-eqb label label refl))

module _ (g : Digraph) (p : PatternGraph) (h : IsGraph g) (hp : IsPattern p) where
  abbrev reads : ℕ → List Read
  reads v = reads_of g (Sim p) v

  -- ---- the greatest solution is a simulation

  abbrev related_by : Assignment → ℕ → ℕ → Bool
  related_by x k v = nat_lt v (count_of g) && has_bit (x v) k

  -- what a bit of the greatest solution says
  bit_gives : (x : Assignment) → IsGreatest (equations_on g (Sim p)) x → (k v : ℕ) → v < count_of g → HasBit (x v) k → (k < 64) × (has_node p k (label_at g v) ≡ true) × (list_all (link_is_met k (reads v) x) p.links ≡ true)
  bit_gives x gx k v l b =
      let r = mask_gives (λ k. has_node p k (label_at g v) && list_all (link_is_met k (reads v) x) p.links) k (subst (λ n. HasBit n k) (gx.solves v l) b) in
      let t = and_parts (has_node p k (label_at g v)) (list_all (link_is_met k (reads v) x) p.links) r.1 in
      (r.0, t.0, t.1)

  related_gives : (x : Assignment) (k v : ℕ) → IsTrue (related_by x k v) → (v < count_of g) × HasBit (x v) k
  related_gives x k v t = let q = and_parts (nat_lt v (count_of g)) (has_bit (x v) k) t in (ltb-true v (count_of g) q.0, eqb-true (bit_at (x v) k) 1 q.1)

  link_leads : (x : Assignment) (k m v : ℕ) → link_is_met k (reads v) x (record { from = k; to = m }) ≡ true → (u : ℕ) × HasEdge g v u × IsTrue (related_by x m u)
  link_leads x k m v e = elim (or_cases (not (k == k)) (list_any (λ (r : Read). has_bit (x r.vertex) m) (reads v)) e) [
    | inl n ↦ absurd (both_ways (k == k) (not-true (k == k) n) (eq-eqb k k refl))
    | inr a ↦
        let f = any_gives (λ (r : Read). has_bit (x r.vertex) m) (reads v) a in
        let r : Read = f.0 in
        let edge = target_gives g.edges v r f.1 in
        (r.vertex, (edge.0, edge.1, edge.2, edge.3), and_from (nat_lt r.vertex (count_of g)) (has_bit (x r.vertex) m) (lt-ltb r.vertex (count_of g) (read_in g (Sim p) h v r f.1)) f.2)
  ]

  greatest_is_simulation : (x : Assignment) → IsGreatest (equations_on g (Sim p)) x → IsSimulation g p (related_by x)
  greatest_is_simulation x gx = record {
    labels = λ k v t.
        let q = related_gives x k v t in
        (q.0, has_node-gives p k (label_at g v) (bit_gives x gx k v q.0 q.1).1);
    links = λ k m v t c.
        let q = related_gives x k v t in
        link_leads x k m v (all_gives (link_is_met k (reads v) x) p.links (bit_gives x gx k v q.0 q.1).2 (record { from = k; to = m }) c);
  }

  -- ---- every simulation lies below it

  module _ (related : ℕ → ℕ → Bool) (s : IsSimulation g p related) where
    abbrev marks : Assignment
    marks v = mask_of (λ k. related k v)

    node_there : (k v : ℕ) → related k v ≡ true → has_node p k (label_at g v) ≡ true
    node_there k v e = has_node-from p k (label_at g v) (s.labels k v e).1

    link_met : (k v : ℕ) → related k v ≡ true → (link : PatternLink) → Contains p.links link → link_is_met k (reads v) marks link ≡ true
    link_met k v e link c = elim (cases_Bool (link.from == k)) [
      | inl t ↦
          let same : link.from ≡ k = eqb-true link.from k t in
          let f = s.links link.from link.to v (ap (λ j. related j v) same ∙ e) c in
          let d : Edge = f.1.0 in
          let there = subst (λ n. Contains (reads n) (read_of d.to d.weight)) f.1.2 (target_from g.edges d f.1.1) in
          let to_u : related link.to d.to ≡ true = ap (λ n. related link.to n) f.1.3 ∙ f.2 in
          let small = (All-contains (λ (l : PatternLink). (l.from < 64) × (l.to < 64)) p.links link hp.links c).1 in
          or_right (not (link.from == k)) (list_any (λ (r : Read). has_bit (marks r.vertex) link.to) (reads v))
          (any_from (λ (r : Read). has_bit (marks r.vertex) link.to) (reads v) (read_of d.to d.weight) there (eq-eqb (bit_at (marks d.to) link.to) 1 (mask_has (λ k. related k d.to) link.to small to_u)))
      | inr n ↦ or_left (not (link.from == k)) (list_any (λ (r : Read). has_bit (marks r.vertex) link.to) (reads v)) (not_from_false (link.from == k) n)
    ]

    links_met : (k v : ℕ) → related k v ≡ true → list_all (link_is_met k (reads v) marks) p.links ≡ true
    links_met k v e = all_from (link_is_met k (reads v) marks) p.links (link_met k v e)

    marks-below : (x : Assignment) → IsGreatest (equations_on g (Sim p)) x → (v : ℕ) → v < count_of g → Below Mask (marks v) (x v)
    marks-below x gx v l =
        gx.greatest marks
        (λ u m. mask_of-below (λ k. related k u) (λ k. has_node p k (label_at g u)) (λ k b e. node_there k u e))
        (λ u m. mask_of-below (λ k. related k u) (λ k. has_node p k (label_at g u) && list_all (link_is_met k (reads u) marks) p.links)
        (λ k b e. and_from (has_node p k (label_at g u)) (list_all (link_is_met k (reads u) marks) p.links) (node_there k u e) (links_met k u e)))
        v l

    related_has_bit : (x : Assignment) → IsGreatest (equations_on g (Sim p)) x → (k v : ℕ) → IsTrue (related k v) → HasBit (x v) k
    related_has_bit x gx k v e =
        let q = s.labels k v e in
        let small = (All-contains (λ (n : PatternNode). (n.number < 64) × (n.label < 4294967296)) p.nodes (node_of k (label_at g v)) hp.nodes q.1).0 in
        below-mask (marks v) (x v) (marks-below x gx v q.0) k (mask_has (λ k. related k v) k small e)

  -- ---- the meaning

  simulated-value : (x : Assignment) → IsGreatest (equations_on g (Sim p)) x → (v : ℕ) → v < count_of g → AreSimulated g p v (x v)
  simulated-value x gx v l k = (
    λ b. (
      related_by x,
      greatest_is_simulation x gx,
      and_from (nat_lt v (count_of g)) (has_bit (x v) k) (lt-ltb v (count_of g) l) (eq-eqb (bit_at (x v) k) 1 (bit_from_set (x v) k b)),
    ),
    λ r. set_from_bit (x v) k (related_has_bit r.0 r.1 x gx k v r.2),
  )

  simulated-one : (v m n : ℕ) → AreSimulated g p v m → AreSimulated g p v n → m ≡ n
  simulated-one v m n a b = same_bits m n (λ k. (related : ℕ → ℕ → Bool) × IsSimulation g p related × IsTrue (related k v)) a b

  pub simulation-meaning : GreatestIsValues g (Sim p)
  simulation-meaning x = (simulated-value x, greatest_from_values (equations_on g (Sim p)) (lawful g (Sim p) h) (AreSimulated g p) simulated-one simulated-value x)
