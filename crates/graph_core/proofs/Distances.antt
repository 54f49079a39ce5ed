-- The greatest solution of `dist` is the least weight of a walk from a source, or FAR where there is none.
use Rattle.std.proofs.Common.{◌≡◌, ℕ, ◌+◌, ◌<◌, inl, inr, List, [], ◌∷◌, ◌++◌, refl, sym, ◌∙◌, ap, subst, arith, map, Contains}
use Rattle.graph_core.specs.declared.edge.Edge.{Edge}
use Rattle.graph_core.specs.declared.query.Query.TheVariants.{Dist}
use Rattle.graph_core.specs.declared.TheConstants.{FAR}
use Rattle.graph_core.specs.Digraph.{Digraph}
use Rattle.graph_core.specs.Graphs.{count_of, number_at, IsGraph}
use Rattle.graph_core.specs.Walks.{IsWalkFrom, IsWeightOrFar, IsRelaxed}
use Rattle.graph_core.specs.Meaning.{IsLeastWeight, IsDistance}
use Rattle.graph_core.specs.Equations.{Assignment, IsGreatest}
use Rattle.graph_core.specs.Queries.{Read, least_of, reads_of, start_value, right_side, equations_on}
use Rattle.graph_core.specs.Theorems.{GreatestIsValues}
use Rattle.graph_core.proofs.Lists.{contains_here, contains_none, contains_cases, least-top, least-le, least-cases}
use Rattle.graph_core.proofs.EdgeReads.{source_gives, source_from}
use Rattle.graph_core.proofs.WalkLemmas.{ends_in, ends_at_vertex, goes_on_from, weight-goes_on}
use Rattle.graph_core.proofs.Relaxation.{relaxed_weights, relaxed-near, distance-one}
use Rattle.graph_core.proofs.Sources.{zero-at_most, zero-cases, zero-at}
use Rattle.graph_core.proofs.Lawful.{lawful}
use Rattle.graph_core.proofs.Greatest.{greatest_is_there, greatest_has, greatest_from_values}

module _ (g : Digraph) (source : ℕ) (h : IsGraph g) where
  abbrev from : List ℕ
  from = source ∷ []

  at_source : (v n : ℕ) → v < count_of g → Contains from (number_at g v) → n ≡ 0 → IsWeightOrFar g from v n
  at_source v n l c e = inl ([], (v, l, c, refl), sym e)

  first : (v : ℕ) → v < count_of g → IsWeightOrFar g from v (start_value g (Dist source) v)
  first v l = elim (zero-cases g from v FAR) [ inl z ↦ at_source v _ l z.0 z.1 | inr e ↦ inr e ]

  -- what the edges that come in at v allow
  abbrev least_read : Assignment → ℕ → ℕ
  least_read x v = least_of FAR (map (λ (r : Read). x r.vertex + r.weight) (reads_of g (Dist source) v))

  kept : (x : Assignment) → ((u : ℕ) → u < count_of g → IsWeightOrFar g from u (x u)) → (v : ℕ) → v < count_of g → IsWeightOrFar g from v (right_side g (Dist source) v (reads_of g (Dist source) v) x)
  kept x has v l = elim (zero-cases g from v (least_read x v)) [
    | inl z ↦ at_source v _ l z.0 z.1
    | inr e ↦ elim (least-cases FAR (λ (r : Read). x r.vertex + r.weight) (reads_of g (Dist source) v)) [
      | inl q ↦ inr (e ∙ q)
      | inr f ↦
          let r : Read = f.0 in
          let edge = source_gives g.edges v r f.1 in
          let d : Edge = edge.0 in
          let to_v = edge.2 in
          let value : right_side g (Dist source) v (reads_of g (Dist source) v) x ≡ x d.from + d.weight = omega (arith, e, f.2, ap x edge.3, edge.4) in
          elim (has d.from (ends_in g d h edge.1).0) [
            | inl w ↦ inl (
              w.0 ++ d ∷ [],
              subst (λ u. IsWalkFrom g from u (w.0 ++ d ∷ [])) to_v (goes_on_from g from w.0 d w.1 edge.1),
              omega (arith, weight-goes_on w.0 d, w.2, value),
            )
            | inr q ↦ inr (omega (arith, value, q, e, least-top FAR (map (λ (r : Read). x r.vertex + r.weight) (reads_of g (Dist source) v))))
          ]
    ]
  ]

  relaxed : (x : Assignment) → IsGreatest (equations_on g (Dist source)) x → IsRelaxed g from x
  relaxed x gx = record {
    edges = λ e c.
        omega (
          arith,
          gx.solves e.to (ends_in g e h c).1,
          zero-at_most g from e.to (least_read x e.to),
          least-le FAR (λ (r : Read). x r.vertex + r.weight) (reads_of g (Dist source) e.to) _ (source_from g.edges e c),
        );
    sources_are_zero = λ u l c. gx.solves u l ∙ zero-at g from u (least_read x u) c;
  }

  distance-value : (x : Assignment) → IsGreatest (equations_on g (Dist source)) x → (v : ℕ) → v < count_of g → IsDistance g from v (x v)
  distance-value x gx v l =
      relaxed_weights g from h x (relaxed x gx) v l (greatest_has (equations_on g (Dist source)) (lawful g (Dist source) h) (IsWeightOrFar g from) first kept x gx v l)

  pub distance-meaning : GreatestIsValues g (Dist source)
  distance-meaning x = (distance-value x, greatest_from_values (equations_on g (Dist source)) (lawful g (Dist source) h) (IsDistance g from) (distance-one g from) distance-value x)

  -- a distance along a walk is less than FAR
  near : (v n : ℕ) → IsLeastWeight g from v n → n < FAR
  near v n d =
      let walk = d.leads in
      let l = ends_at_vertex g walk.0 v d.walk h walk.1 walk.3 in
      let there = greatest_is_there (equations_on g (Dist source)) (lawful g (Dist source) h) in
      let x : Assignment = there.0 in
      let same : x v ≡ n = distance-one g from v (x v) n (distance-value x there.1 v l) (inl d) in
      subst (λ m. m < FAR) same (relaxed-near g from h x (relaxed x there.1) v d.walk l walk)

-- the source at which the least walk begins is as near as all of them
one_source : (g : Digraph) (sources : List ℕ) (v n : ℕ) → (d : IsLeastWeight g sources v n) → IsLeastWeight g (number_at g d.leads.0 ∷ []) v n
one_source g sources v n d = record {
  walk = d.walk;
  leads = (d.leads.0, d.leads.1, contains_here (number_at g d.leads.0) [], d.leads.3);
  weighs = d.weighs;
  least = λ other o. d.least other (
    o.0,
    o.1,
    elim (contains_cases (number_at g d.leads.0) [] (number_at g o.0) o.2) [
      | inl e ↦ subst (λ s. Contains sources s) e d.leads.2
      | inr c ↦ contains_none (number_at g o.0) c
    ],
    o.3,
  );
}

pub distance-near : (g : Digraph) (sources : List ℕ) (v n : ℕ) → IsGraph g → IsLeastWeight g sources v n → n < FAR
distance-near g sources v n h d = near g (number_at g d.leads.0) h v n (one_source g sources v n d)
