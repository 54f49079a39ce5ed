-- The equations of a query are lawful.
use Rattle.std.proofs.Common.{◌≡◌, ℕ, ◌+◌, inl, inr, arith, true, not, ◌==◌, List, [], ◌∷◌, Contains}
use Rattle.std.specs.List.{list_any, list_all}
use Rattle.std.proofs.lemmas.Bool.{and_parts, and_from, or_cases, or_left, or_right, eqb-true, eq-eqb}
use Rattle.value_order.specs.declared.order.Order.TheVariants.{Mask}
use Rattle.value_order.specs.Order.{Below}
use Rattle.value_order.proofs.Orders.{below-mask}
use Rattle.graph_core.specs.declared.pattern.PatternLink.{PatternLink}
use Rattle.graph_core.specs.declared.query.Query.{Query}
use Rattle.graph_core.specs.declared.query.Query.TheVariants.{Dist, Label, Reach, Sim}
use Rattle.graph_core.specs.declared.TheConstants.{FAR}
use Rattle.graph_core.specs.Digraph.{Digraph}
use Rattle.graph_core.specs.Graphs.{number_at, label_at, IsGraph}
use Rattle.graph_core.specs.Equations.{Assignment, AreLawful}
use Rattle.graph_core.specs.Queries.{Read, has_bit, has_node, link_is_met, reads_of, equations_on}
use Rattle.graph_core.proofs.Lists.{contains_map, least-top, least-below, any_from, any_gives, all_from, all_gives}
use Rattle.graph_core.proofs.EdgeReads.{reads_in}
use Rattle.graph_core.proofs.Sources.{zero-le, zero-at_most}
use Rattle.graph_core.proofs.Masks.{mask_of-below, mask_is_value}

-- a larger reading has the bits of a smaller one
link_below : (k : ℕ) (reads : List Read) (x y : Assignment) → ((r : Read) → Contains reads r → Below Mask (x r.vertex) (y r.vertex))
    → (link : PatternLink) → link_is_met k reads x link ≡ true → link_is_met k reads y link ≡ true
link_below k reads x y h link e = elim (or_cases (not (link.from == k)) (list_any (λ r. has_bit (x r.vertex) link.to) reads) e) [
  | inl n ↦ or_left (not (link.from == k)) (list_any (λ r. has_bit (y r.vertex) link.to) reads) n
  | inr a ↦
      let f = any_gives (λ (r : Read). has_bit (x r.vertex) link.to) reads a in
      let r : Read = f.0 in
      or_right (not (link.from == k)) (list_any (λ r. has_bit (y r.vertex) link.to) reads)
      (any_from (λ (r : Read). has_bit (y r.vertex) link.to) reads r f.1 (eq-eqb _ 1 (below-mask (x r.vertex) (y r.vertex) (h r f.1) link.to (eqb-true _ 1 f.2))))
]

links-below : (links : List PatternLink) (k : ℕ) (reads : List Read) (x y : Assignment) → ((r : Read) → Contains reads r → Below Mask (x r.vertex) (y r.vertex))
    → list_all (link_is_met k reads x) links ≡ true → list_all (link_is_met k reads y) links ≡ true
links-below links k reads x y h e = all_from (link_is_met k reads y) links (λ link c. link_below k reads x y h link (all_gives (link_is_met k reads x) links e link c))

pub lawful : (g : Digraph) (q : Query) → IsGraph g → AreLawful (equations_on g q)
lawful g (Dist source) h = record {
  in_range = λ v u l c. reads_in g (Dist source) h v u c;
  monotone = λ v x y l c.
      zero-le g (source ∷ []) v _ _
      (least-below FAR (λ (r : Read). x r.vertex + r.weight) (λ (r : Read). y r.vertex + r.weight) (reads_of g (Dist source) v)
      (λ r d. let m = c r.vertex (contains_map (λ (r : Read). r.vertex) (reads_of g (Dist source) v) r d) in omega (arith, m)));
  start_above = λ v l. zero-le g (source ∷ []) v _ _ (least-top FAR _);
  start_is_value = λ v l. omega (arith, zero-at_most g (source ∷ []) v FAR);
}
lawful g Label h = record {
  in_range = λ v u l c. reads_in g Label h v u c;
  monotone = λ v x y l c.
      least-below (number_at g v) (λ (r : Read). x r.vertex) (λ (r : Read). y r.vertex) (reads_of g Label v)
      (λ r d. c r.vertex (contains_map (λ (r : Read). r.vertex) (reads_of g Label v) r d));
  start_above = λ v l. least-top (number_at g v) _;
  start_is_value = λ v l. let w = (h.words v (0, 0) l).0 in omega (arith, w);
}
lawful g (Reach source) h = record {
  in_range = λ v u l c. reads_in g (Reach source) h v u c;
  monotone = λ v x y l c.
      zero-le g (source ∷ []) v _ _
      (least-below 1 (λ (r : Read). x r.vertex) (λ (r : Read). y r.vertex) (reads_of g (Reach source) v)
      (λ r d. c r.vertex (contains_map (λ (r : Read). r.vertex) (reads_of g (Reach source) v) r d)));
  start_above = λ v l. zero-le g (source ∷ []) v _ _ (least-top 1 _);
  start_is_value = λ v l. omega (arith, zero-at_most g (source ∷ []) v 1);
}
lawful g (Sim pattern) h = record {
  in_range = λ v u l c. reads_in g (Sim pattern) h v u c;
  monotone = λ v x y l c.
      let reads = reads_of g (Sim pattern) v in
      mask_of-below _ _
      (λ k b e.
      let p = and_parts (has_node pattern k (label_at g v)) (list_all (link_is_met k reads x) pattern.links) e in
      and_from (has_node pattern k (label_at g v)) (list_all (link_is_met k reads y) pattern.links) p.0
      (links-below pattern.links k reads x y (λ r d. c r.vertex (contains_map (λ (r : Read). r.vertex) reads r d)) p.1));
  start_above = λ v l. mask_of-below _ _ (λ k b e. (and_parts (has_node pattern k (label_at g v)) (list_all (link_is_met k (reads_of g (Sim pattern) v) _) pattern.links) e).0);
  start_is_value = λ v l. mask_is_value _;
}
