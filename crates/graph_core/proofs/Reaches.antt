-- The greatest solution of `reach` is 0 exactly where a walk from a source leads.
use Rattle.std.proofs.Common.{◌≡◌, ℕ, ◌<◌, ◌≤◌, ◌⊎◌, inl, inr, List, [], ◌∷◌, ◌++◌, refl, sym, ◌∙◌, ap, subst, arith, map, Contains}
use Rattle.graph_core.specs.declared.edge.Edge.{Edge}
use Rattle.graph_core.specs.declared.query.Query.TheVariants.{Reach}
use Rattle.graph_core.specs.Digraph.{Digraph}
use Rattle.graph_core.specs.Graphs.{count_of, number_at, IsGraph}
use Rattle.graph_core.specs.Walks.{IsWalkFrom}
use Rattle.graph_core.specs.Meaning.{IsReached}
use Rattle.graph_core.specs.Equations.{Assignment, IsGreatest}
use Rattle.graph_core.specs.Queries.{Read, least_of, reads_of, start_value, right_side, equations_on}
use Rattle.graph_core.specs.Theorems.{GreatestIsValues}
use Rattle.graph_core.proofs.Lists.{least-le, least-cases}
use Rattle.graph_core.proofs.EdgeReads.{source_gives, source_from}
use Rattle.graph_core.proofs.WalkLemmas.{ends_in, goes_on_from, walk-falls}
use Rattle.graph_core.proofs.Sources.{zero-at_most, zero-cases, zero-at}
use Rattle.graph_core.proofs.Lawful.{lawful}
use Rattle.graph_core.proofs.Greatest.{greatest_has, greatest_from_values}

module _ (g : Digraph) (source : ℕ) (h : IsGraph g) where
  abbrev from : List ℕ
  from = source ∷ []

  -- 0 only where a walk leads
  abbrev IsRight : ℕ → ℕ → Type 0
  IsRight v n = (((walk : List Edge) × IsWalkFrom g from v walk) × (n ≡ 0)) ⊎ (n ≡ 1)

  at_source : (v n : ℕ) → v < count_of g → Contains from (number_at g v) → n ≡ 0 → IsRight v n
  at_source v n l c e = inl (([], (v, l, c, refl)), e)

  first : (v : ℕ) → v < count_of g → IsRight v (start_value g (Reach source) v)
  first v l = elim (zero-cases g from v 1) [ inl z ↦ at_source v _ l z.0 z.1 | inr e ↦ inr e ]

  kept : (x : Assignment) → ((u : ℕ) → u < count_of g → IsRight u (x u)) → (v : ℕ) → v < count_of g → IsRight v (right_side g (Reach source) v (reads_of g (Reach source) v) x)
  kept x has v l = elim (zero-cases g from v (least_of 1 (map (λ (r : Read). x r.vertex) (reads_of g (Reach source) v)))) [
    | inl z ↦ at_source v _ l z.0 z.1
    | inr e ↦ elim (least-cases 1 (λ (r : Read). x r.vertex) (reads_of g (Reach source) v)) [
      | inl q ↦ inr (e ∙ q)
      | inr f ↦
          let r : Read = f.0 in
          let edge = source_gives g.edges v r f.1 in
          let d : Edge = edge.0 in
          let to_v = edge.2 in
          let same : x d.from ≡ right_side g (Reach source) v (reads_of g (Reach source) v) x = ap x edge.3 ∙ sym (e ∙ f.2) in
          elim (has d.from (ends_in g d h edge.1).0) [
            | inl w ↦ inl ((w.0.0 ++ d ∷ [], subst (λ u. IsWalkFrom g from u (w.0.0 ++ d ∷ [])) to_v (goes_on_from g from w.0.0 d w.0.1 edge.1)), sym same ∙ w.1)
            | inr q ↦ inr (sym same ∙ q)
          ]
    ]
  ]

  falls : (x : Assignment) → IsGreatest (equations_on g (Reach source)) x → (e : Edge) → Contains g.edges e → x e.to ≤ x e.from
  falls x gx e c =
      omega (
        arith,
        gx.solves e.to (ends_in g e h c).1,
        zero-at_most g from e.to (least_of 1 (map (λ (r : Read). x r.vertex) (reads_of g (Reach source) e.to))),
        least-le 1 (λ (r : Read). x r.vertex) (reads_of g (Reach source) e.to) _ (source_from g.edges e c),
      )

  -- where a walk leads, the value is 0
  zero_where : (x : Assignment) → IsGreatest (equations_on g (Reach source)) x → (v : ℕ) (walk : List Edge) → IsWalkFrom g from v walk → x v ≤ 0
  zero_where x gx v walk w = omega (arith, gx.solves w.0 w.1, zero-at g from w.0 (least_of 1 (map (λ (r : Read). x r.vertex) (reads_of g (Reach source) w.0))) w.2, walk-falls g x w.0 v walk (falls x gx) w.3)

  reach-value : (x : Assignment) → IsGreatest (equations_on g (Reach source)) x → (v : ℕ) → v < count_of g → IsReached g from v (x v)
  reach-value x gx v l = elim (greatest_has (equations_on g (Reach source)) (lawful g (Reach source) h) IsRight first kept x gx v l) [
    | inl w ↦ inl w
    | inr e ↦ inr (λ walk w. absurd (omega (arith, e, zero_where x gx v walk w)), e)
  ]

  reach-one : (v m n : ℕ) → IsReached g from v m → IsReached g from v n → m ≡ n
  reach-one v m n (inl a) (inl b) = a.1 ∙ sym b.1
  reach-one v m n (inl a) (inr b) = absurd (b.0 a.0.0 a.0.1)
  reach-one v m n (inr a) (inl b) = absurd (a.0 b.0.0 b.0.1)
  reach-one v m n (inr a) (inr b) = a.1 ∙ sym b.1

  pub reach-meaning : GreatestIsValues g (Reach source)
  reach-meaning x = (reach-value x, greatest_from_values (equations_on g (Reach source)) (lawful g (Reach source) h) (IsReached g from) reach-one reach-value x)
