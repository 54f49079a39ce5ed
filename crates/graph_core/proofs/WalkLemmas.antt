-- Walks, paths and relaxed values.
use Rattle.std.proofs.Common.{◌≡◌, ℕ, ◌+◌, ◌<◌, ◌≤◌, ◌⊎◌, inl, inr, List, [], ◌∷◌, ◌++◌, arith, ap, sym, refl, subst, Contains}
use Rattle.std.proofs.lemmas.List.Elements.{All-contains}
use Rattle.std.proofs.lemmas.List.Sums.{sum_by-cons, sum_by_push}
use Rattle.graph_core.specs.declared.edge.Edge.{Edge}
use Rattle.graph_core.specs.Digraph.{Digraph}
use Rattle.graph_core.specs.Graphs.{count_of, IsGraph}
use Rattle.graph_core.specs.Walks.{IsWalk, IsPath, IsWalkFrom, walk_weight, IsRelaxed}

-- ---- edges of a graph within its limits

pub ends_in : (g : Digraph) (e : Edge) → IsGraph g → Contains g.edges e → (e.from < count_of g) × (e.to < count_of g)
ends_in g e h c = All-contains (λ (d : Edge). (d.from < count_of g) × (d.to < count_of g)) g.edges e h.ends c

pub weight_in : (g : Digraph) (e : Edge) → IsGraph g → Contains g.edges e → e.weight < 4294967296
weight_in g e h c = All-contains (λ (d : Edge). d.weight < 4294967296) g.edges e h.weights c

-- a walk from a vertex ends at one
pub ends_at_vertex : (g : Digraph) (u v : ℕ) (walk : List Edge) → IsGraph g → u < count_of g → IsWalk g u v walk → v < count_of g
ends_at_vertex g u v [] h l w = subst (λ n. n < count_of g) w l
ends_at_vertex g u v (e ∷ walk) h l w = ends_at_vertex g e.to v walk h (ends_in g e h w.0).1 w.2

-- ---- a walk goes on by an edge that begins where it ends

pub goes_on : (g : Digraph) (u : ℕ) (walk : List Edge) (e : Edge) → IsWalk g u e.from walk → Contains g.edges e → IsWalk g u e.to (walk ++ e ∷ [])
goes_on g u [] e w h = (h, sym w, refl)
goes_on g u (d ∷ walk) e w h = (w.0, w.1, goes_on g d.to walk e w.2 h)

pub goes_on_from : (g : Digraph) (sources : List ℕ) (walk : List Edge) (e : Edge) → IsWalkFrom g sources e.from walk → Contains g.edges e → IsWalkFrom g sources e.to (walk ++ e ∷ [])
goes_on_from g sources walk e w h = (w.0, w.1, w.2, goes_on g w.0 walk e w.3 h)

pub weight-goes_on : (walk : List Edge) (e : Edge) → walk_weight (walk ++ e ∷ []) ≡ walk_weight walk + e.weight
weight-goes_on walk e = sum_by_push (λ (d : Edge). d.weight) walk e

pub path_goes_on : (g : Digraph) (u w v : ℕ) (walk : List Edge) (e : Edge) → IsPath g u w walk → Contains g.edges e → ((e.from ≡ w) × (e.to ≡ v)) ⊎ ((e.to ≡ w) × (e.from ≡ v)) → IsPath g u v (walk ++ e ∷ [])
path_goes_on g u w v [] e p h (inl a) = (h, inl (subst (λ n. e.from ≡ n) (sym p) a.0, a.1))
path_goes_on g u w v [] e p h (inr a) = (h, inr (subst (λ n. e.to ≡ n) (sym p) a.0, a.1))
path_goes_on g u w v (d ∷ walk) e p h a = (
  p.0,
  elim p.1 [
    | inl q ↦ inl (q.0, path_goes_on g d.to w v walk e q.1 h a)
    | inr q ↦ inr (q.0, path_goes_on g d.from w v walk e q.1 h a)
  ],
)

-- ---- values along walks

-- where no edge raises a value, no walk does
pub walk-falls : (g : Digraph) (x : ℕ → ℕ) (u v : ℕ) (walk : List Edge) → ((e : Edge) → Contains g.edges e → x e.to ≤ x e.from) → IsWalk g u v walk → x v ≤ x u
walk-falls g x u v [] r w = omega (arith, ap x w)
walk-falls g x u v (e ∷ walk) r w = omega (arith, r e w.0, ap x w.1, walk-falls g x e.to v walk r w.2)

pub path-falls : (g : Digraph) (x : ℕ → ℕ) (u v : ℕ) (walk : List Edge) → ((e : Edge) → Contains g.edges e → (x e.to ≤ x e.from) × (x e.from ≤ x e.to)) → IsPath g u v walk → x v ≤ x u
path-falls g x u v [] r w = omega (arith, ap x w)
path-falls g x u v (e ∷ walk) r w = elim w.1 [
  | inl q ↦ omega (arith, (r e w.0).0, ap x q.0, path-falls g x e.to v walk r q.1)
  | inr q ↦ omega (arith, (r e w.0).1, ap x q.0, path-falls g x e.from v walk r q.1)
]

along : (g : Digraph) (sources : List ℕ) (x : ℕ → ℕ) (u v : ℕ) (walk : List Edge) → IsRelaxed g sources x → IsWalk g u v walk → x v ≤ x u + walk_weight walk
along g sources x u v [] r w = omega (arith, ap x w)
along g sources x u v (e ∷ walk) r w =
    omega (arith, r.edges e w.0, ap x w.1, along g sources x e.to v walk r w.2, sum_by-cons (λ (d : Edge). d.weight) e walk)

-- no walk weighs less than the relaxed value of its end
pub relaxed-le : (g : Digraph) (sources : List ℕ) (x : ℕ → ℕ) (v : ℕ) (walk : List Edge) → IsRelaxed g sources x → IsWalkFrom g sources v walk → x v ≤ walk_weight walk
relaxed-le g sources x v walk r w = omega (arith, r.sources_are_zero w.0 w.1 w.2, along g sources x w.0 v walk r w.3)
