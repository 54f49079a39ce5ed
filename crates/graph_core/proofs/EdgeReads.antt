-- What a vertex reads, in terms of edges.
use Rattle.std.proofs.Common.{◌≡◌, ℕ, ◌<◌, ◌⊎◌, inl, inr, refl, sym, ap, subst, Bool, true, false, if◌then◌else◌, ◌==◌, List, [], ◌∷◌, map, flat_map, Contains}
use Rattle.std.proofs.lemmas.Bool.{eqb-true, eq-eqb}
use Rattle.graph_core.specs.declared.edge.Edge.{Edge}
use Rattle.graph_core.specs.declared.query.Query.{Query}
use Rattle.graph_core.specs.declared.query.Query.TheVariants.{Dist, Label, Reach, Sim}
use Rattle.graph_core.specs.Digraph.{Digraph}
use Rattle.graph_core.specs.Graphs.{count_of, IsGraph}
use Rattle.graph_core.specs.Queries.{Read, source_read, target_read, other_end_read, reads_of}
use Rattle.graph_core.proofs.Lists.{contains_here, contains_none, contains_cases, contains_flat_map, flat_map_contains, map_contains}
use Rattle.graph_core.proofs.WalkLemmas.{ends_in}

abbrev pub read_of : ℕ → ℕ → Read
read_of u w = record { vertex = u; weight = w }

-- the one read of a list that has it where a test passes
only : (b : Bool) (u w : ℕ) (r : Read) → Contains (if b then read_of u w ∷ [] else []) r → (b ≡ true) × (u ≡ r.vertex) × (w ≡ r.weight)
only true u w r c = elim (contains_cases (read_of u w) [] r c) [
  | inl s ↦ (refl, ap (λ (t : Read). t.vertex) s, ap (λ (t : Read). t.weight) s)
  | inr n ↦ contains_none r n
]
only false u w r c = contains_none r c

there : (b : Bool) (u w : ℕ) → b ≡ true → Contains (if b then read_of u w ∷ [] else []) (read_of u w)
there true u w e = contains_here (read_of u w) []
there false u w e = absurd (let x : false ≡ true = e in cc)

-- ---- along the edges that come in

pub source_gives : (edges : List Edge) (v : ℕ) (r : Read) → Contains (flat_map (source_read v) edges) r
    → (e : Edge) × Contains edges e × (e.to ≡ v) × (e.from ≡ r.vertex) × (e.weight ≡ r.weight)
source_gives edges v r c =
    let f = flat_map_contains (source_read v) edges r c in
    let e : Edge = f.0 in
    let o = only (e.to == v) e.from e.weight r f.2 in
    (e, f.1, eqb-true e.to v o.0, o.1, o.2)

pub source_from : (edges : List Edge) (e : Edge) → Contains edges e → Contains (flat_map (source_read e.to) edges) (read_of e.from e.weight)
source_from edges e c = contains_flat_map (source_read e.to) edges e (read_of e.from e.weight) c (there (e.to == e.to) e.from e.weight (eq-eqb e.to e.to refl))

-- ---- along those that go out

pub target_gives : (edges : List Edge) (v : ℕ) (r : Read) → Contains (flat_map (target_read v) edges) r → (e : Edge) × Contains edges e × (e.from ≡ v) × (e.to ≡ r.vertex)
target_gives edges v r c =
    let f = flat_map_contains (target_read v) edges r c in
    let e : Edge = f.0 in
    let o = only (e.from == v) e.to e.weight r f.2 in
    (e, f.1, eqb-true e.from v o.0, o.1)

pub target_from : (edges : List Edge) (e : Edge) → Contains edges e → Contains (flat_map (target_read e.from) edges) (read_of e.to e.weight)
target_from edges e c = contains_flat_map (target_read e.from) edges e (read_of e.to e.weight) c (there (e.from == e.from) e.to e.weight (eq-eqb e.from e.from refl))

-- ---- along all

either : (b : Bool) (v : ℕ) (e : Edge) (r : Read) → (e.from == v) ≡ b → Contains (if b then read_of e.to e.weight ∷ [] else source_read v e) r
    → ((e.from ≡ v) × (e.to ≡ r.vertex)) ⊎ ((e.to ≡ v) × (e.from ≡ r.vertex))
either true v e r q c = inl (eqb-true e.from v q, (only true e.to e.weight r c).1)
either false v e r q c = let o = only (e.to == v) e.from e.weight r c in inr (eqb-true e.to v o.0, o.1)

pub other_gives : (edges : List Edge) (v : ℕ) (r : Read) → Contains (flat_map (other_end_read v) edges) r
    → (e : Edge) × Contains edges e × (((e.from ≡ v) × (e.to ≡ r.vertex)) ⊎ ((e.to ≡ v) × (e.from ≡ r.vertex)))
other_gives edges v r c =
    let f = flat_map_contains (other_end_read v) edges r c in
    let e : Edge = f.0 in
    (e, f.1, either (e.from == v) v e r refl f.2)

first_end : (b : Bool) (e : Edge) → b ≡ true → Contains (if b then read_of e.to e.weight ∷ [] else source_read e.from e) (read_of e.to e.weight)
first_end true e q = contains_here (read_of e.to e.weight) []
first_end false e q = absurd (let x : false ≡ true = q in cc)

pub other_from_source : (edges : List Edge) (e : Edge) → Contains edges e → Contains (flat_map (other_end_read e.from) edges) (read_of e.to e.weight)
other_from_source edges e c = contains_flat_map (other_end_read e.from) edges e (read_of e.to e.weight) c (first_end (e.from == e.from) e (eq-eqb e.from e.from refl))

second_end : (b : Bool) (e : Edge) → (e.from == e.to) ≡ b → (r : Read) × Contains (if b then read_of e.to e.weight ∷ [] else source_read e.to e) r × (r.vertex ≡ e.from)
second_end true e q = (read_of e.to e.weight, contains_here (read_of e.to e.weight) [], sym (eqb-true e.from e.to q))
second_end false e q = (read_of e.from e.weight, there (e.to == e.to) e.from e.weight (eq-eqb e.to e.to refl), refl)

pub other_from_target : (edges : List Edge) (e : Edge) → Contains edges e → (r : Read) × Contains (flat_map (other_end_read e.to) edges) r × (r.vertex ≡ e.from)
other_from_target edges e c = let r = second_end (e.from == e.to) e refl in (r.0, contains_flat_map (other_end_read e.to) edges e r.0 c r.1, r.2)

-- ---- reads are vertices

pub read_in : (g : Digraph) (q : Query) → IsGraph g → (v : ℕ) (r : Read) → Contains (reads_of g q v) r → r.vertex < count_of g
read_in g (Dist source) h v r c = let e = source_gives g.edges v r c in subst (λ n. n < count_of g) e.3 (ends_in g e.0 h e.1).0
read_in g Label h v r c =
    let e = other_gives g.edges v r c in
    let ends = ends_in g e.0 h e.1 in
    elim e.2 [ inl a ↦ subst (λ n. n < count_of g) a.1 ends.1 | inr a ↦ subst (λ n. n < count_of g) a.1 ends.0 ]
read_in g (Reach source) h v r c = let e = source_gives g.edges v r c in subst (λ n. n < count_of g) e.3 (ends_in g e.0 h e.1).0
read_in g (Sim pattern) h v r c = let e = target_gives g.edges v r c in subst (λ n. n < count_of g) e.3 (ends_in g e.0 h e.1).1

pub reads_in : (g : Digraph) (q : Query) → IsGraph g → (v u : ℕ) → Contains (map (λ (r : Read). r.vertex) (reads_of g q v)) u → u < count_of g
reads_in g q h v u c = let f = map_contains (λ (r : Read). r.vertex) (reads_of g q v) u c in subst (λ n. n < count_of g) f.2 (read_in g q h v f.0 f.1)
