-- Jobs and starts with one ground are equal.
use Rattle.std.proofs.Common.{◌≡◌, ℕ, refl, sym, ◌∙◌, List, [], ◌∷◌, ◌++◌, length, flat_map, append_assoc, append-nil}
use Rattle.graph_core.specs.declared.edge.Edge.{Edge}
use Rattle.graph_core.specs.Digraph.{Digraph}
use Rattle.graph_core.specs.declared.pattern.PatternNode.{PatternNode}
use Rattle.graph_core.specs.declared.pattern.PatternLink.{PatternLink}
use Rattle.graph_core.specs.PatternGraph.{PatternGraph}
use Rattle.graph_core.specs.declared.query.Query.{Query}
use Rattle.graph_core.specs.declared.query.Query.TheVariants as query
use Rattle.graph_core.specs.declared.settings.Cut.{Cut}
use Rattle.graph_core.specs.declared.settings.Cut.TheVariants as cut
use Rattle.graph_core.specs.declared.settings.Policy.{Policy}
use Rattle.graph_core.specs.declared.settings.Policy.TheVariants as policy
use Rattle.graph_core.specs.declared.settings.Settings.{Settings}
use Rattle.graph_core.specs.declared.job.Job.{Job}
use Rattle.token_cut.specs.declared.phase.Phase.{Phase}
use Rattle.token_cut.specs.declared.phase.Phase.TheVariants as phase
use Rattle.token_cut.specs.Parts.{PartValues, SnapshotParts}
use Rattle.grape_hub.specs.Notes.{numbers_of_list, numbers_of_vertex, numbers_of_edge, numbers_of_graph, numbers_of_pattern, numbers_of_query, number_of_cut, numbers_of_policy, numbers_of_settings, numbers_of_job, number_of_phase, listed, numbers_of_part, numbers_of_snapshot}
use Rattle.grape_hub.specs.Theorems.{GroundsTell}

-- ---- lists of numbers

pub head_same : (a b : ℕ) (s t : List ℕ) → a ∷ s ≡ b ∷ t → a ≡ b
head_same a b s t h = cc

pub tail_same : (a b : ℕ) (s t : List ℕ) → a ∷ s ≡ b ∷ t → s ≡ t
tail_same a b s t h = cc

-- what begins with the numbers of a value tells the value, and what stands behind
pub record IsPrefixFree {A : Type 0} (numbers : A → List ℕ) : Type 0 where
  pub tell : (x y : A) (s t : List ℕ) → numbers x ++ s ≡ numbers y ++ t → (x ≡ y) × (s ≡ t)

-- the numbers of one value and then of another
pub both_told : {A B : Type 0} (f : A → List ℕ) (g : B → List ℕ) → IsPrefixFree f → IsPrefixFree g → (a b : A) (c d : B) (s t : List ℕ) → (f a ++ g c) ++ s ≡ (f b ++ g d) ++ t → (a ≡ b) × (c ≡ d) × (s ≡ t)
both_told f g p q a b c d s t h =
    let first = p.tell a b (g c ++ s) (g d ++ t) (sym (append_assoc (f a) (g c) s) ∙ (h ∙ append_assoc (f b) (g d) t)) in
    let second = q.tell c d s t first.1 in
    (first.0, second.0, second.1)

members_told : {A : Type 0} (f : A → List ℕ) → IsPrefixFree f → (xs ys : List A) (s t : List ℕ) → length xs ≡ length ys → flat_map f xs ++ s ≡ flat_map f ys ++ t → (xs ≡ ys) × (s ≡ t)
members_told f p [] [] s t n h = (refl, h)
members_told f p [] (y ∷ ys) s t n h = absurd (cc)
members_told f p (x ∷ xs) [] s t n h = absurd (cc)
members_told f p (x ∷ xs) (y ∷ ys) s t n h =
    let first = p.tell x y (flat_map f xs ++ s) (flat_map f ys ++ t) (sym (append_assoc (f x) (flat_map f xs) s) ∙ (h ∙ append_assoc (f y) (flat_map f ys) t)) in
    let rest = members_told f p xs ys s t (cc) first.1 in
    (λ i. first.0 i ∷ rest.0 i, rest.1)

list_told : {A : Type 0} (f : A → List ℕ) → IsPrefixFree f → IsPrefixFree (numbers_of_list f)
list_told f p = record { tell = λ xs ys s t h. members_told f p xs ys s t (head_same _ _ _ _ h) (tail_same _ _ _ _ h) }

pub split_told : (xs ys s t : List ℕ) → length xs ≡ length ys → xs ++ s ≡ ys ++ t → (xs ≡ ys) × (s ≡ t)
split_told [] [] s t n h = (refl, h)
split_told [] (y ∷ ys) s t n h = absurd (cc)
split_told (x ∷ xs) [] s t n h = absurd (cc)
split_told (x ∷ xs) (y ∷ ys) s t n h =
    let first = head_same x y (xs ++ s) (ys ++ t) h in
    let rest = split_told xs ys s t (cc) (tail_same x y (xs ++ s) (ys ++ t) h) in
    (λ i. first i ∷ rest.0 i, rest.1)

pub listed_told : IsPrefixFree listed
listed_told = record { tell = λ xs ys s t h. split_told xs ys s t (head_same _ _ _ _ h) (tail_same _ _ _ _ h) }

-- ---- the job

vertex_told : IsPrefixFree numbers_of_vertex
vertex_told = record { tell = λ x y s t h. let rest = tail_same _ _ _ _ h in (λ i. (head_same _ _ _ _ h i, head_same _ _ _ _ rest i), tail_same _ _ _ _ rest) }

edge_told : IsPrefixFree numbers_of_edge
edge_told = record { tell = tell }
  where
    tell : (x y : Edge) (s t : List ℕ) → numbers_of_edge x ++ s ≡ numbers_of_edge y ++ t → (x ≡ y) × (s ≡ t)
    tell x y s t h =
        let second = tail_same _ _ _ _ h in
        let third = tail_same _ _ _ _ second in
        (λ i. record { from = head_same _ _ _ _ h i; to = head_same _ _ _ _ second i; weight = head_same _ _ _ _ third i }, tail_same _ _ _ _ third)

graph_told : IsPrefixFree numbers_of_graph
graph_told = record { tell = tell }
  where
    tell : (x y : Digraph) (s t : List ℕ) → numbers_of_graph x ++ s ≡ numbers_of_graph y ++ t → (x ≡ y) × (s ≡ t)
    tell x y s t h =
        let parts = both_told (numbers_of_list numbers_of_vertex) (numbers_of_list numbers_of_edge) (list_told numbers_of_vertex vertex_told) (list_told numbers_of_edge edge_told) x.vertices y.vertices x.edges y.edges s t h in
        (λ i. record { vertices = parts.0 i; edges = parts.1 i }, parts.2)

abbrev numbers_of_node : PatternNode → List ℕ
numbers_of_node n = n.number ∷ n.label ∷ []

abbrev numbers_of_link : PatternLink → List ℕ
numbers_of_link l = l.from ∷ l.to ∷ []

node_told : IsPrefixFree numbers_of_node
node_told = record { tell = λ x y s t h. let rest = tail_same _ _ _ _ h in (λ i. record { number = head_same _ _ _ _ h i; label = head_same _ _ _ _ rest i }, tail_same _ _ _ _ rest) }

link_told : IsPrefixFree numbers_of_link
link_told = record { tell = λ x y s t h. let rest = tail_same _ _ _ _ h in (λ i. record { from = head_same _ _ _ _ h i; to = head_same _ _ _ _ rest i }, tail_same _ _ _ _ rest) }

pattern_told : IsPrefixFree numbers_of_pattern
pattern_told = record { tell = tell }
  where
    tell : (x y : PatternGraph) (s t : List ℕ) → numbers_of_pattern x ++ s ≡ numbers_of_pattern y ++ t → (x ≡ y) × (s ≡ t)
    tell x y s t h =
        let parts = both_told (numbers_of_list numbers_of_node) (numbers_of_list numbers_of_link) (list_told numbers_of_node node_told) (list_told numbers_of_link link_told) x.nodes y.nodes x.links y.links s t h in
        (λ i. record { nodes = parts.0 i; links = parts.1 i }, parts.2)

query_told : IsPrefixFree numbers_of_query
query_told = record { tell = tell }
  where
    tell : (x y : Query) (s t : List ℕ) → numbers_of_query x ++ s ≡ numbers_of_query y ++ t → (x ≡ y) × (s ≡ t)
    tell (query.Dist a) (query.Dist b) s t h = let rest = tail_same _ _ _ _ h in (λ i. query.Dist (head_same _ _ _ _ rest i), tail_same _ _ _ _ rest)
    tell (query.Dist a) query.Label s t h = absurd (cc)
    tell (query.Dist a) (query.Reach b) s t h = absurd (cc)
    tell (query.Dist a) (query.Sim q) s t h = absurd (cc)
    tell query.Label (query.Dist b) s t h = absurd (cc)
    tell query.Label query.Label s t h = (refl, tail_same _ _ _ _ h)
    tell query.Label (query.Reach b) s t h = absurd (cc)
    tell query.Label (query.Sim q) s t h = absurd (cc)
    tell (query.Reach a) (query.Dist b) s t h = absurd (cc)
    tell (query.Reach a) query.Label s t h = absurd (cc)
    tell (query.Reach a) (query.Reach b) s t h = let rest = tail_same _ _ _ _ h in (λ i. query.Reach (head_same _ _ _ _ rest i), tail_same _ _ _ _ rest)
    tell (query.Reach a) (query.Sim q) s t h = absurd (cc)
    tell (query.Sim p) (query.Dist b) s t h = absurd (cc)
    tell (query.Sim p) query.Label s t h = absurd (cc)
    tell (query.Sim p) (query.Reach b) s t h = absurd (cc)
    tell (query.Sim p) (query.Sim q) s t h = let told = pattern_told.tell p q s t (tail_same _ _ _ _ h) in (λ i. query.Sim (told.0 i), told.1)

cut_told : (x y : Cut) → number_of_cut x ≡ number_of_cut y → x ≡ y
cut_told cut.Range cut.Range h = refl
cut_told cut.Range cut.Hash h = absurd (cc)
cut_told cut.Hash cut.Range h = absurd (cc)
cut_told cut.Hash cut.Hash h = refl

policy_told : IsPrefixFree numbers_of_policy
policy_told = record { tell = tell }
  where
    tell : (x y : Policy) (s t : List ℕ) → numbers_of_policy x ++ s ≡ numbers_of_policy y ++ t → (x ≡ y) × (s ≡ t)
    tell policy.Bsp policy.Bsp s t h = (refl, tail_same _ _ _ _ h)
    tell policy.Bsp policy.Ap s t h = absurd (cc)
    tell policy.Bsp (policy.Ssp b) s t h = absurd (cc)
    tell policy.Bsp (policy.Aap b m) s t h = absurd (cc)
    tell policy.Ap policy.Bsp s t h = absurd (cc)
    tell policy.Ap policy.Ap s t h = (refl, tail_same _ _ _ _ h)
    tell policy.Ap (policy.Ssp b) s t h = absurd (cc)
    tell policy.Ap (policy.Aap b m) s t h = absurd (cc)
    tell (policy.Ssp a) policy.Bsp s t h = absurd (cc)
    tell (policy.Ssp a) policy.Ap s t h = absurd (cc)
    tell (policy.Ssp a) (policy.Ssp b) s t h = let rest = tail_same _ _ _ _ h in (λ i. policy.Ssp (head_same _ _ _ _ rest i), tail_same _ _ _ _ rest)
    tell (policy.Ssp a) (policy.Aap b m) s t h = absurd (cc)
    tell (policy.Aap a l) policy.Bsp s t h = absurd (cc)
    tell (policy.Aap a l) policy.Ap s t h = absurd (cc)
    tell (policy.Aap a l) (policy.Ssp b) s t h = absurd (cc)
    tell (policy.Aap a l) (policy.Aap b m) s t h =
        let second = tail_same _ _ _ _ h in
        let third = tail_same _ _ _ _ second in
        (λ i. policy.Aap (head_same _ _ _ _ second i) (head_same _ _ _ _ third i), tail_same _ _ _ _ third)

settings_told : IsPrefixFree numbers_of_settings
settings_told = record { tell = tell }
  where
    tell : (x y : Settings) (s t : List ℕ) → numbers_of_settings x ++ s ≡ numbers_of_settings y ++ t → (x ≡ y) × (s ≡ t)
    tell x y s t h =
        let second = tail_same _ _ _ _ h in
        let third = tail_same _ _ _ _ second in
        let fourth = tail_same _ _ _ _ third in
        let cuts = cut_told x.cut y.cut (head_same _ _ _ _ third) in
        let last = policy_told.tell x.policy y.policy s t (tail_same _ _ _ _ fourth) in
        (λ i. record { fragments = head_same _ _ _ _ h i; lanes = head_same _ _ _ _ second i; cut = cuts i; policy = last.0 i; snapshot = head_same _ _ _ _ fourth i }, last.1)

job_told : IsPrefixFree numbers_of_job
job_told = record { tell = tell }
  where
    tell : (x y : Job) (s t : List ℕ) → numbers_of_job x ++ s ≡ numbers_of_job y ++ t → (x ≡ y) × (s ≡ t)
    tell x y s t h =
        let first = graph_told.tell x.graph y.graph ((numbers_of_query x.query ++ numbers_of_settings x.settings) ++ s) ((numbers_of_query y.query ++ numbers_of_settings y.settings) ++ t)
        (sym (append_assoc (numbers_of_graph x.graph) (numbers_of_query x.query ++ numbers_of_settings x.settings) s) ∙ (h ∙ append_assoc (numbers_of_graph y.graph) (numbers_of_query y.query ++ numbers_of_settings y.settings) t)) in
        let rest = both_told numbers_of_query numbers_of_settings query_told settings_told x.query y.query x.settings y.settings s t first.1 in
        (λ i. record { graph = first.0 i; query = rest.0 i; settings = rest.1 i }, rest.2)

-- ---- the start

phase_told : (x y : Phase) → number_of_phase x ≡ number_of_phase y → x ≡ y
phase_told phase.Fresh phase.Fresh h = refl
phase_told phase.Fresh phase.Rest h = absurd (cc)
phase_told phase.Rest phase.Fresh h = absurd (cc)
phase_told phase.Rest phase.Rest h = refl

part_told : IsPrefixFree numbers_of_part
part_told = record { tell = tell }
  where
    tell : (x y : PartValues) (s t : List ℕ) → numbers_of_part x ++ s ≡ numbers_of_part y ++ t → (x ≡ y) × (s ≡ t)
    tell x y s t h =
        let phases = phase_told x.phase y.phase (head_same _ _ _ _ h) in
        let rest = both_told listed listed listed_told listed_told x.values y.values x.mail y.mail s t (tail_same _ _ _ _ h) in
        (λ i. record { phase = phases i; values = rest.0 i; mail = rest.1 i }, rest.2)

pub snapshot_told : IsPrefixFree numbers_of_snapshot
snapshot_told = record { tell = tell }
  where
    tell : (x y : SnapshotParts) (s t : List ℕ) → numbers_of_snapshot x ++ s ≡ numbers_of_snapshot y ++ t → (x ≡ y) × (s ≡ t)
    tell x y s t h =
        let parts = (list_told numbers_of_part part_told).tell x.parts y.parts s t (tail_same _ _ _ _ h) in
        (λ i. record { epoch = head_same _ _ _ _ h i; parts = parts.0 i }, parts.1)

pub grounds_tell : GroundsTell
grounds_tell job other start begun h =
    let first = job_told.tell job other (numbers_of_snapshot start) (numbers_of_snapshot begun) (tail_same _ _ _ _ h) in
    let second = snapshot_told.tell start begun [] [] (append-nil (numbers_of_snapshot start) ∙ (first.1 ∙ sym (append-nil (numbers_of_snapshot begun)))) in
    (first.0, second.0)
