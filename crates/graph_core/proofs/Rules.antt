-- Below the starts an equation asks what the rule asks without the start.
use Rattle.std.proofs.Common.{◌≡◌, ℕ, ◌+◌, ◌≤◌, inl, inr, Bool, true, not, ◌==◌, ◌&&◌, IsTrue, List, [], ◌∷◌, map, Contains, refl, subst, sym, arith}
use Rattle.std.specs.Int.{bit_at}
use Rattle.std.specs.List.{list_any, list_all}
use Rattle.std.proofs.lemmas.Bool.{and_parts, and_from, or_cases, or_left, or_right, eqb-true, eq-eqb, cases_Bool, both_ways, not-true, not_from_false}
use Rattle.value_order.specs.declared.order.Order.TheVariants.{Mask}
use Rattle.value_order.specs.Order.{Below}
use Rattle.value_order.proofs.Orders.{below-mask, mask-below}
use Rattle.graph_core.specs.declared.query.Query.{Query}
use Rattle.graph_core.specs.declared.query.Query.TheVariants.{Dist, Label, Reach, Sim}
use Rattle.graph_core.specs.declared.TheConstants.{FAR}
use Rattle.graph_core.specs.Digraph.{Digraph}
use Rattle.graph_core.specs.Graphs.{number_at, label_at}
use Rattle.graph_core.specs.PatternGraph.{PatternGraph}
use Rattle.graph_core.specs.Equations.{Assignment}
use Rattle.graph_core.specs.Queries.{Read, has_bit, mask_of, has_node, link_is_met, least_of, zero_at_source, reads_of, start_value, equations_on}
use Rattle.graph_core.specs.Theorems.{MeetsRule, BelowStartsRulesDecide}
use Rattle.graph_core.proofs.Lists.{any_from, any_gives, all_from, all_gives, least-le, le-least}
use Rattle.graph_core.proofs.Sources.{zero-at_most, zero-at, zero-cases}
use Rattle.graph_core.proofs.Masks.{mask_has, mask_gives}

-- ---- the least of what is read

least_asks : (top n : ℕ) (f : Read → ℕ) (reads : List Read) → n ≤ least_of top (map f reads) → (r : Read) → Contains reads r → n ≤ f r
least_asks top n f reads h r c = omega (arith, h, least-le top f reads r c)

module _ (g : Digraph) (source v top n : ℕ) (f : Read → ℕ) (reads : List Read) where
  abbrev from : List ℕ
  from = source ∷ []

  zero_asks : n ≤ zero_at_source g from v (least_of top (map f reads)) → (r : Read) → Contains reads r → n ≤ f r
  zero_asks h = least_asks top n f reads (omega (arith, h, zero-at_most g from v (least_of top (map f reads))))

  zero_holds : n ≤ zero_at_source g from v top → ((r : Read) → Contains reads r → n ≤ f r) → n ≤ zero_at_source g from v (least_of top (map f reads))
  zero_holds low h = elim (zero-cases g from v (least_of top (map f reads))) [
    | inl z ↦ omega (arith, low, zero-at g from v top z.0)
    | inr e ↦ omega (arith, e, le-least top f reads n (omega (arith, low, zero-at_most g from v top)) h)
  ]

-- ---- the bits whose links are met

module _ (g : Digraph) (pattern : PatternGraph) (v : ℕ) (x : Assignment) where
  abbrev reads : List Read
  reads = reads_of g (Sim pattern) v

  links_ask : Below Mask (x v) ((equations_on g (Sim pattern)).phi v x) → MeetsRule g (Sim pattern) v x
  links_ask h link c b =
      let k = link.from in
      let test : ℕ → Bool = λ k. has_node pattern k (label_at g v) && list_all (link_is_met k reads x) pattern.links in
      let bit = below-mask (x v) (mask_of test) h k (eqb-true (bit_at (x v) k) 1 b) in
      let met = (and_parts (has_node pattern k (label_at g v)) (list_all (link_is_met k reads x) pattern.links) (mask_gives test k bit).1).1 in
      elim (or_cases (not (link.from == k)) (list_any (λ (r : Read). has_bit (x r.vertex) link.to) reads) (all_gives (link_is_met k reads x) pattern.links met link c)) [
        | inl n ↦ absurd (both_ways (link.from == k) (not-true (link.from == k) n) (eq-eqb k k refl))
        | inr a ↦ any_gives (λ (r : Read). has_bit (x r.vertex) link.to) reads a
      ]

  links_hold : Below Mask (x v) (start_value g (Sim pattern) v) → MeetsRule g (Sim pattern) v x → Below Mask (x v) ((equations_on g (Sim pattern)).phi v x)
  links_hold low h =
      let node : ℕ → Bool = λ k. has_node pattern k (label_at g v) in
      let test : ℕ → Bool = λ k. has_node pattern k (label_at g v) && list_all (link_is_met k reads x) pattern.links in
      mask-below (x v) (mask_of test) (λ k b.
      let start = mask_gives node k (below-mask (x v) (mask_of node) low k b) in
      mask_has test k start.0 (and_from (has_node pattern k (label_at g v)) (list_all (link_is_met k reads x) pattern.links) start.1
      (all_from (link_is_met k reads x) pattern.links (λ link c. elim (cases_Bool (link.from == k)) [
        | inr n ↦ or_left (not (link.from == k)) (list_any (λ (r : Read). has_bit (x r.vertex) link.to) reads) (not_from_false (link.from == k) n)
        | inl t ↦
            let here : IsTrue (has_bit (x v) link.from) = subst (λ m. has_bit (x v) m ≡ true) (sym (eqb-true link.from k t)) (eq-eqb (bit_at (x v) k) 1 b) in
            let f = h link c here in
            or_right (not (link.from == k)) (list_any (λ (r : Read). has_bit (x r.vertex) link.to) reads) (any_from (λ (r : Read). has_bit (x r.vertex) link.to) reads f.0 f.1 f.2)
      ]))))

pub rules_decide : (g : Digraph) (q : Query) → BelowStartsRulesDecide g q
rules_decide g (Dist source) v x low =
    let f : Read → ℕ = λ r. x r.vertex + r.weight in
    (zero_asks g source v FAR (x v) f (reads_of g (Dist source) v), zero_holds g source v FAR (x v) f (reads_of g (Dist source) v) low)
rules_decide g Label v x low =
    let f : Read → ℕ = λ r. x r.vertex in
    (least_asks (number_at g v) (x v) f (reads_of g Label v), le-least (number_at g v) f (reads_of g Label v) (x v) low)
rules_decide g (Reach source) v x low =
    let f : Read → ℕ = λ r. x r.vertex in
    (zero_asks g source v 1 (x v) f (reads_of g (Reach source) v), zero_holds g source v 1 (x v) f (reads_of g (Reach source) v) low)
rules_decide g (Sim pattern) v x low = (links_ask g pattern v x, links_hold g pattern v x low)
