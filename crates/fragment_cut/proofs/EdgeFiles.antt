-- What is filed along edges is what their vertices read.
use Rattle.std.proofs.Common.{◌≡◌, ℕ, ◌<◌, Bool, true, false, cond, ◌==◌, List, [], ◌∷◌, ◌++◌, map, filter, flat_map, get_or, refl, ◌∙◌, sym, ap, subst, eqb-true, eq-eqb}
use Rattle.std.specs.Prelude.{All}
use Rattle.std.specs.List.{range_with_len, AllByRecursion}
use Rattle.std.proofs.lemmas.Bool.{both_ways}
use Rattle.std.proofs.lemmas.List.{map-append}
use Rattle.std.proofs.lemmas.List.Elements.{filter-append, All-append, All-head, All-tail, All-nil, All-from_recursion}
use Rattle.graph_core.specs.declared.edge.Edge.{Edge}
use Rattle.graph_core.specs.declared.query.Query.{Query}
use Rattle.graph_core.specs.declared.query.Query.TheVariants.{Dist, Label, Reach, Sim}
use Rattle.graph_core.specs.Digraph.{Digraph, count_of, IsGraph}
use Rattle.graph_core.specs.Queries.{reads_of, edge_reads}
use Rattle.graph_core.specs.Fragments.{sorted_readings}
use Rattle.fragment_cut.specs.Filing.{Filed, reading_of, filed_under, by_source, by_target, reading_at, reads_table, table}
use Rattle.fragment_cut.proofs.SortedFiled.{map_same}

-- the reads along an edge, filed under the vertices that read
abbrev pub filed_by : Query → Edge → List Filed
filed_by (Dist source) e = by_target e ∷ []
filed_by Label e = cond (e.from == e.to) (by_source e ∷ []) (by_source e ∷ by_target e ∷ [])
filed_by (Reach source) e = by_target e ∷ []
filed_by (Sim pattern) e = by_source e ∷ []

-- an entry whose vertex is replaced by its place
abbrev pub with_place : List ℕ → Filed → Filed
with_place places entry = record { row = entry.row; place = get_or places entry.place 0; weight = entry.weight }

-- a reading filed under what is read
abbrev pub turned : Filed → Filed
turned entry = record { row = entry.place; place = entry.row; weight = entry.weight }

pub under-append : (xs ys : List Filed) (row : ℕ) → filed_under (xs ++ ys) row ≡ filed_under xs row ++ filed_under ys row
under-append xs ys row = ap (map reading_of) (filter-append (λ e. e.row == row) xs ys) ∙ map-append reading_of (filter (λ e. e.row == row) xs) (filter (λ e. e.row == row) ys)

target_case : (e : Edge) (c : Bool) → map reading_of (cond c (by_target e ∷ []) []) ≡ map reading_at (cond c (record { vertex = e.from; weight = e.weight } ∷ []) [])
target_case e true = refl
target_case e false = refl

source_case : (e : Edge) (c : Bool) → map reading_of (cond c (by_source e ∷ []) []) ≡ map reading_at (cond c (record { vertex = e.to; weight = e.weight } ∷ []) [])
source_case e true = refl
source_case e false = refl

-- a loop is read once, and another edge by each of its ends
loop_case : (e : Edge) (c d : Bool) → c ≡ d → map reading_of (cond c (by_source e ∷ []) []) ≡ map reading_at (cond c (record { vertex = e.to; weight = e.weight } ∷ []) (cond d (record { vertex = e.from; weight = e.weight } ∷ []) []))
loop_case e true d h = refl
loop_case e false true h = absurd (let x : false ≡ true = h in cc)
loop_case e false false h = refl

ends_case : (e : Edge) (c d : Bool) → (c ≡ true → d ≡ true → ⊥)
    → map reading_of (cond c (by_source e ∷ cond d (by_target e ∷ []) []) (cond d (by_target e ∷ []) [])) ≡ map reading_at (cond c (record { vertex = e.to; weight = e.weight } ∷ []) (cond d (record { vertex = e.from; weight = e.weight } ∷ []) []))
ends_case e true true h = absurd (h refl refl)
ends_case e true false h = refl
ends_case e false true h = refl
ends_case e false false h = refl

label_case : (e : Edge) (v : ℕ) (b : Bool) → (e.from == e.to) ≡ b
    → map reading_of (filter (λ x. x.row == v) (cond b (by_source e ∷ []) (by_source e ∷ by_target e ∷ []))) ≡ map reading_at (cond (e.from == v) (record { vertex = e.to; weight = e.weight } ∷ []) (cond (e.to == v) (record { vertex = e.from; weight = e.weight } ∷ []) []))
label_case e v true q = loop_case e (e.from == v) (e.to == v) (ap (λ n. n == v) (eqb-true e.from e.to q))
label_case e v false q =
    ends_case e (e.from == v) (e.to == v) (λ c d. both_ways (e.from == e.to) q (eq-eqb e.from e.to (eqb-true e.from v c ∙ sym (eqb-true e.to v d))))

pub edge-files : (q : Query) (e : Edge) (v : ℕ) → filed_under (filed_by q e) v ≡ map reading_at (edge_reads q v e)
edge-files (Dist s) e v = target_case e (e.to == v)
edge-files (Reach s) e v = target_case e (e.to == v)
edge-files (Sim p) e v = source_case e (e.from == v)
edge-files Label e v = label_case e v (e.from == e.to) refl

-- all edges
pub edges-files : (q : Query) (edges : List Edge) (v : ℕ) → filed_under (flat_map (filed_by q) edges) v ≡ map reading_at (flat_map (edge_reads q v) edges)
edges-files q [] v = refl
edges-files q (e ∷ edges) v =
    under-append (filed_by q e) (flat_map (filed_by q) edges) v ∙ ap (λ l. l ++ filed_under (flat_map (filed_by q) edges) v) (edge-files q e v)
    ∙ ap (λ l. map reading_at (edge_reads q v e) ++ l) (edges-files q edges v) ∙ sym (map-append reading_at (edge_reads q v e) (flat_map (edge_reads q v) edges))

pub reads_table_is : (g : Digraph) (q : Query) → table (flat_map (filed_by q) g.edges) (count_of g) ≡ reads_table g q
reads_table_is g q =
    map_same (λ v. sorted_readings (filed_under (flat_map (filed_by q) g.edges) v)) (λ v. sorted_readings (map reading_at (reads_of g q v))) (λ v. ap sorted_readings (edges-files q g.edges v)) (range_with_len 0 (count_of g))

-- the entries name vertices
module _ (n : ℕ) where
  abbrev pub Inside : Filed → Type 0
  Inside x = (x.row < n) × (x.place < n)

  edge_inside : (q : Query) (e : Edge) → e.from < n → e.to < n → AllByRecursion Inside (filed_by q e)
  edge_inside (Dist s) e h k = ((k, h), tt)
  edge_inside (Reach s) e h k = ((k, h), tt)
  edge_inside (Sim p) e h k = ((h, k), tt)
  edge_inside Label e h k = both (e.from == e.to)
    where
      both : (b : Bool) → AllByRecursion Inside (cond b (by_source e ∷ []) (by_source e ∷ by_target e ∷ []))
      both true = ((h, k), tt)
      both false = ((h, k), ((k, h), tt))

  edges_inside : (q : Query) (edges : List Edge) → All (λ e. (e.from < n) × (e.to < n)) edges → All Inside (flat_map (filed_by q) edges)
  edges_inside q [] h = All-nil Inside
  edges_inside q (e ∷ edges) h =
      let P : Edge → Type 0 = λ x. (x.from < n) × (x.to < n) in
      let here = All-head P e edges h in
      All-append Inside (filed_by q e) (flat_map (filed_by q) edges) (All-from_recursion Inside (filed_by q e) (edge_inside q e here.0 here.1)) (edges_inside q edges (All-tail P e edges h))

pub edges_filed_inside : (g : Digraph) (q : Query) → IsGraph g → All (λ x. x.row < count_of g) (flat_map (filed_by q) g.edges)
edges_filed_inside g q h = λ k d l. (edges_inside (count_of g) q g.edges h.ends k d l).0

pub edges_filed_placed : (g : Digraph) (q : Query) → IsGraph g → All (λ x. x.place < count_of g) (flat_map (filed_by q) g.edges)
edges_filed_placed g q h = λ k d l. (edges_inside (count_of g) q g.edges h.ends k d l).1

pub all_at : {X : Type 0} (f : X → ℕ) (xs ys : List X) (n m : ℕ) → xs ≡ ys → n ≡ m → All (λ x. f x < m) ys → All (λ x. f x < n) xs
all_at f xs ys n m e g h =
    let P : ℕ → Type 0 = λ k. All (λ x. f x < k) xs in
    let Q : List _ → Type 0 = λ l. All (λ x. f x < m) l in
    subst P (sym g) (subst Q (sym e) h)
