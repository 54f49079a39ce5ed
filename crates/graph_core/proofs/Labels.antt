-- The greatest solution of `label` is the least number of a joined vertex.
use Rattle.std.proofs.Common.{◌≡◌, ℕ, ◌<◌, ◌≤◌, ◌⊎◌, inl, inr, [], ◌∷◌, ◌++◌, refl, sym, ap, subst, arith, Contains}
use Rattle.graph_core.specs.declared.edge.Edge.{Edge}
use Rattle.graph_core.specs.declared.query.Query.TheVariants.{Label}
use Rattle.graph_core.specs.Digraph.{Digraph}
use Rattle.graph_core.specs.Graphs.{count_of, number_at, IsGraph}
use Rattle.graph_core.specs.Walks.{AreJoined}
use Rattle.graph_core.specs.Meaning.{IsLeastJoined}
use Rattle.graph_core.specs.Equations.{Assignment, IsGreatest}
use Rattle.graph_core.specs.Queries.{Read, reads_of, right_side, equations_on}
use Rattle.graph_core.specs.Theorems.{GreatestIsValues}
use Rattle.graph_core.proofs.Lists.{least-le, least-cases}
use Rattle.graph_core.proofs.EdgeReads.{read_in, other_gives, other_from_source, other_from_target}
use Rattle.graph_core.proofs.WalkLemmas.{ends_in, path_goes_on, path-falls}
use Rattle.graph_core.proofs.Lawful.{lawful}
use Rattle.graph_core.proofs.Greatest.{greatest_has, greatest_from_values}

module _ (g : Digraph) (h : IsGraph g) where
  -- n is the number of a vertex joined to v
  abbrev HasNumber : ℕ → ℕ → Type 0
  HasNumber v n = (u : ℕ) × AreJoined g u v × (number_at g u ≡ n)

  itself : (v : ℕ) → v < count_of g → HasNumber v (number_at g v)
  itself v l = (v, (l, l, [], refl), refl)

  turned : (v w : ℕ) (e : Edge) → ((e.from ≡ v) × (e.to ≡ w)) ⊎ ((e.to ≡ v) × (e.from ≡ w)) → ((e.from ≡ w) × (e.to ≡ v)) ⊎ ((e.to ≡ w) × (e.from ≡ v))
  turned v w e (inl a) = inr (a.1, a.0)
  turned v w e (inr a) = inl (a.1, a.0)

  kept : (x : Assignment) → ((u : ℕ) → u < count_of g → HasNumber u (x u)) → (v : ℕ) → v < count_of g → HasNumber v (right_side g Label v (reads_of g Label v) x)
  kept x has v l = elim (least-cases (number_at g v) (λ (r : Read). x r.vertex) (reads_of g Label v)) [
    | inl e ↦ subst (HasNumber v) (sym e) (itself v l)
    | inr f ↦
        let r : Read = f.0 in
        let edge = other_gives g.edges v r f.1 in
        let e : Edge = edge.0 in
        let has_w = has r.vertex (read_in g Label h v r f.1) in
        let joined = has_w.1 in
        subst (HasNumber v) (sym f.2) (has_w.0, (joined.0, l, joined.2 ++ e ∷ [], path_goes_on g has_w.0 r.vertex v joined.2 e joined.3 edge.1 (turned v r.vertex e edge.2)), has_w.2)
  ]

  -- the ends of an edge have one value
  same_ends : (x : Assignment) → IsGreatest (equations_on g Label) x → (e : Edge) → Contains g.edges e → (x e.to ≤ x e.from) × (x e.from ≤ x e.to)
  same_ends x gx e c =
      let ends = ends_in g e h c in
      let to_from = other_from_target g.edges e c in
      let a = least-le (number_at g e.to) (λ (r : Read). x r.vertex) (reads_of g Label e.to) to_from.0 to_from.1 in
      let b = least-le (number_at g e.from) (λ (r : Read). x r.vertex) (reads_of g Label e.from) _ (other_from_source g.edges e c) in
      (omega (arith, gx.solves e.to ends.1, a, ap x to_from.2), omega (arith, gx.solves e.from ends.0, b))

  label-value : (x : Assignment) → IsGreatest (equations_on g Label) x → (v : ℕ) → v < count_of g → IsLeastJoined g v (x v)
  label-value x gx v l =
      let has = greatest_has (equations_on g Label) (lawful g Label h) HasNumber itself kept x gx v l in
      record {
        least_vertex = has.0;
        joined = has.1;
        number = has.2;
        least = λ u j. omega (arith, path-falls g x u v j.2 (same_ends x gx) j.3, gx.below_start u j.0);
      }

  least-joined_le : (v m n : ℕ) → IsLeastJoined g v m → IsLeastJoined g v n → m ≤ n
  least-joined_le v m n a b = subst (λ w. m ≤ w) b.number (a.least b.least_vertex b.joined)

  label-one : (v m n : ℕ) → IsLeastJoined g v m → IsLeastJoined g v n → m ≡ n
  label-one v m n a b = omega (arith, least-joined_le v m n a b, least-joined_le v n m b a)

  pub label-meaning : GreatestIsValues g Label
  label-meaning x = (label-value x, greatest_from_values (equations_on g Label) (lawful g Label h) (IsLeastJoined g) label-one label-value x)
