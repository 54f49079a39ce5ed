-- Relaxed values that are the weights of walks are distances.
use Rattle.std.proofs.Common.{◌≡◌, ℕ, zero, suc, ◌+◌, ◌-◌, ◌*◌, ◌<◌, ◌≤◌, inl, inr, List, [], ◌∷◌, sym, ◌∙◌, ap, subst, arith, cond}
use Rattle.std.specs.Prelude.{nat_le}
use Rattle.std.proofs.lemmas.Bool.{cases_lt, cases_eq}
use Rattle.std.proofs.lemmas.Bool.Decides.{nat_tests}
use Rattle.graph_core.specs.declared.edge.Edge.{Edge}
use Rattle.graph_core.specs.declared.TheConstants.{FAR}
use Rattle.graph_core.specs.Digraph.{Digraph}
use Rattle.graph_core.specs.Graphs.{count_of, IsGraph}
use Rattle.graph_core.specs.Walks.{IsWalk, IsWalkFrom, IsWeightOrFar, IsRelaxed}
use Rattle.graph_core.specs.Meaning.{IsLeastWeight, IsDistance}
use Rattle.graph_core.proofs.WalkLemmas.{ends_in, weight_in, relaxed-le}

-- ---- a relaxed value that a walk leads to is at most (count - 1) * 2 ^ 32

-- 1 for a value that is at most t
abbrev at_most : ℕ → ℕ → ℕ
at_most t a = cond (nat_le a t) 1 0

-- how many of the first n values are at most t
abbrev count_at_most : (ℕ → ℕ) → ℕ → ℕ → ℕ
count_at_most x t zero = 0
count_at_most x t (suc n) = at_most t (x n) + count_at_most x t n

at_most-le : (t a : ℕ) → at_most t a ≤ 1
at_most-le t a = grind (arith, nat_tests)

at_most-is : (t a : ℕ) → a ≤ t → at_most t a ≡ 1
at_most-is t a h = grind (arith, nat_tests)

at_most-not : (t a : ℕ) → t < a → at_most t a ≡ 0
at_most-not t a h = grind (arith, nat_tests)

at_most-more : (t s a : ℕ) → t ≤ s → at_most t a ≤ at_most s a
at_most-more t s a h = grind (arith, nat_tests)

count-le : (x : ℕ → ℕ) (t n : ℕ) → count_at_most x t n ≤ n
count-le x t zero = omega arith
count-le x t (suc n) = omega (arith, at_most-le t (x n), count-le x t n)

count-some : (x : ℕ → ℕ) (t n v : ℕ) → v < n → x v ≤ t → 1 ≤ count_at_most x t n
count-some x t zero v l h = absurd (omega (arith, l))
count-some x t (suc n) v l h = elim (cases_eq v n) [
  | inl e ↦ omega (arith, at_most-is t (x n) (omega (arith, h, ap x e)))
  | inr d ↦ omega (arith, count-some x t n v (omega (arith, l, d)) h)
]

count-not_all : (x : ℕ → ℕ) (t n v : ℕ) → v < n → t < x v → count_at_most x t n < n
count-not_all x t zero v l h = absurd (omega (arith, l))
count-not_all x t (suc n) v l h = elim (cases_eq v n) [
  | inl e ↦ omega (arith, at_most-not t (x n) (omega (arith, h, ap x e)), count-le x t n)
  | inr d ↦ omega (arith, at_most-le t (x n), count-not_all x t n v (omega (arith, l, d)) h)
]

count-more : (x : ℕ → ℕ) (t s n : ℕ) → t ≤ s → count_at_most x t n ≤ count_at_most x s n
count-more x t s zero h = omega arith
count-more x t s (suc n) h = omega (arith, at_most-more t s (x n) h, count-more x t s n h)

count-lt : (x : ℕ → ℕ) (t s n v : ℕ) → t ≤ s → v < n → t < x v → x v ≤ s → count_at_most x t n < count_at_most x s n
count-lt x t s zero v h l a b = absurd (omega (arith, l))
count-lt x t s (suc n) v h l a b = elim (cases_eq v n) [
  | inl e ↦ omega (arith, at_most-not t (x n) (omega (arith, a, ap x e)), at_most-is s (x n) (omega (arith, b, ap x e)), count-more x t s n h)
  | inr d ↦ omega (arith, at_most-more t s (x n) h, count-lt x t s n v h (omega (arith, l, d)) a b)
]

module _ (g : Digraph) (sources : List ℕ) (h : IsGraph g) (x : ℕ → ℕ) (relaxed : IsRelaxed g sources x) where
  -- a walk that goes above t has a vertex just above it
  just_above : (u v t : ℕ) (walk : List Edge) → IsWalk g u v walk → x u ≤ t → t < x v → (w : ℕ) × (w < count_of g) × (t < x w) × (x w ≤ t + 4294967296)
  just_above u v t [] w a b = absurd (omega (arith, ap x w, a, b))
  just_above u v t (e ∷ walk) w a b = elim (cases_lt t (x e.to)) [
    | inl l ↦ (e.to, (ends_in g e h w.0).1, l, omega (arith, relaxed.edges e w.0, weight_in g e h w.0, ap x w.1, a))
    | inr l ↦ just_above e.to v t walk w.2 l b
  ]

  -- so with each step of 2 ^ 32 there are more values below
  steps : (v : ℕ) (walk : List Edge) → IsWalkFrom g sources v walk → (j : ℕ) → j * 4294967296 < x v → j + 1 ≤ count_at_most x (j * 4294967296) (count_of g)
  steps v walk w zero b = omega (arith, count-some x (0 * 4294967296) (count_of g) w.0 w.1 (omega (arith, relaxed.sources_are_zero w.0 w.1 w.2)))
  steps v walk w (suc j) b =
      let below : j * 4294967296 < x v = omega (arith, b) in
      let f = just_above w.0 v (j * 4294967296) walk w.3 (omega (arith, relaxed.sources_are_zero w.0 w.1 w.2)) below in
      omega (arith, steps v walk w j below, count-lt x (j * 4294967296) (suc j * 4294967296) (count_of g) f.0 (omega arith) f.1 f.2 (omega (arith, f.3)))

  pub relaxed-bound : (v : ℕ) (walk : List Edge) → v < count_of g → IsWalkFrom g sources v walk → x v ≤ (count_of g - 1) * 4294967296
  relaxed-bound v walk l w = elim (cases_lt ((count_of g - 1) * 4294967296) (x v)) [
    | inl b ↦ absurd (omega (arith, l, steps v walk w (count_of g - 1) b, count-not_all x ((count_of g - 1) * 4294967296) (count_of g) v l b))
    | inr b ↦ b
  ]

  pub relaxed-near : (v : ℕ) (walk : List Edge) → v < count_of g → IsWalkFrom g sources v walk → x v < FAR
  relaxed-near v walk l w = omega (arith, relaxed-bound v walk l w, h.few_vertices)

  pub relaxed_weights : (v : ℕ) → v < count_of g → IsWeightOrFar g sources v (x v) → IsDistance g sources v (x v)
  relaxed_weights v l (inl w) = inl (record { walk = w.0; leads = w.1; weighs = w.2; least = λ other o. relaxed-le g sources x v other relaxed o })
  relaxed_weights v l (inr e) = inr (λ walk w. absurd (omega (arith, e, relaxed-near v walk l w)), e)

-- a vertex has one distance
pub distance-one : (g : Digraph) (sources : List ℕ) (v m n : ℕ) → IsDistance g sources v m → IsDistance g sources v n → m ≡ n
distance-one g sources v m n a b = go a b
  where
    least_le : (m n : ℕ) → IsLeastWeight g sources v m → IsLeastWeight g sources v n → m ≤ n
    least_le m n a b = subst (λ w. m ≤ w) b.weighs (a.least b.walk b.leads)

    go : IsDistance g sources v m → IsDistance g sources v n → m ≡ n
    go (inl a) (inl b) = omega (arith, least_le m n a b, least_le n m b a)
    go (inl a) (inr b) = absurd (b.0 a.walk a.leads)
    go (inr a) (inl b) = absurd (a.0 b.walk b.leads)
    go (inr a) (inr b) = a.1 ∙ sym b.1
