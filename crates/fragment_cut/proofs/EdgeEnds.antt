-- The tables of the edges, by the vertices that they leave and by those that they reach, merged: what is read under label.
use Rattle.std.proofs.Common.{◌≡◌, ℕ, ◌+◌, ◌<◌, ◌^◌, Bool, true, false, not, cond, ◌==◌, List, [], ◌∷◌, ◌++◌, length, map, flat_map, get_or, refl, ◌∙◌, sym, ap, subst, arith}
use Rattle.std.specs.Prelude.{All, sum_by}
use Rattle.std.specs.List.{AllByRecursion, range_with_len}
use Rattle.std.proofs.lemmas.List.Elements.{All-from_recursion}
use Rattle.std.proofs.lemmas.List.FromFn.{get_or-map-range_with_len, length-map-range_with_len}
use Rattle.std.proofs.lemmas.List.Sums.{sum_by-append, sum_by-cons}
use Rattle.graph_core.specs.declared.edge.Edge.{Edge}
use Rattle.graph_core.specs.declared.fragment.Reading.{Reading}
use Rattle.graph_core.specs.declared.query.Query.TheVariants.{Label}
use Rattle.graph_core.specs.Digraph.{Digraph, count_of, IsGraph}
use Rattle.graph_core.specs.Queries.{reads_of, other_end_read}
use Rattle.graph_core.specs.Fragments.{sorted_readings}
use Rattle.graph_core.proofs.Sums.{sum-map, sum-flat_map, sum-same, sum_one, sum_by-sorted_readings}
use Rattle.fragment_cut.specs.Filing.{Filed, IsInOrder, reading_of, filed_under, table, by_source, by_target, reading_at, reads_table, others, merged_rows}
use Rattle.fragment_cut.proofs.InOrder.{sorted_same}
use Rattle.fragment_cut.proofs.SortedFiled.{sum_under}
use Rattle.fragment_cut.proofs.Turning.{sum-plus}
use Rattle.fragment_cut.proofs.Placing.{map_range_same}
use Rattle.fragment_cut.proofs.MergedRows.{sorted_in_order}

-- ---- tables have their rows in order

every_sorted : (h : ℕ → List Reading) (vs : List ℕ) → AllByRecursion IsInOrder (map (λ v. sorted_readings (h v)) vs)
every_sorted h [] = tt
every_sorted h (v ∷ vs) = (sorted_in_order (h v), every_sorted h vs)

pub table_in_order : (filed : List Filed) (n : ℕ) (made : List (List Reading)) → made ≡ table filed n → All IsInOrder made
table_in_order filed n made e = subst (λ (rows : List (List Reading)). All IsInOrder rows) (sym e) (All-from_recursion IsInOrder (table filed n) (every_sorted (filed_under filed) (range_with_len 0 n)))

pub table_len : (filed : List Filed) (n : ℕ) (made : List (List Reading)) → made ≡ table filed n → length made ≡ n
table_len filed n made e = ap length e ∙ length-map-range_with_len (λ row. sorted_readings (filed_under filed row)) 0 n

-- ---- one row

module _ (v : ℕ) (f : Reading → ℕ) where
  abbrev other : Reading → ℕ
  other r = cond (not (r.place == v)) (f r) 0

  sum-others : (rs : List Reading) → sum_by f (others v rs) ≡ sum_by other rs
  sum-others [] = refl
  sum-others (r ∷ rs) = others_case (not (r.place == v)) (sum-others rs) ∙ sym (sum_by-cons other r rs)
    where
      others_case : (c : Bool) → sum_by f (others v rs) ≡ sum_by other rs → sum_by f (cond c (r ∷ others v rs) (others v rs)) ≡ cond c (f r) 0 + sum_by other rs
      others_case true h = omega (arith, sum_by-cons f r (others v rs), h)
      others_case false h = omega (arith, h)

  -- a reading along one edge, by each of both tables
  abbrev along : Edge → ℕ
  along e = cond (e.from == v) (f (record { place = e.to; weight = e.weight })) 0

  abbrev against : Edge → ℕ
  against e = cond (e.to == v) (cond (not (e.from == v)) (f (record { place = e.from; weight = e.weight })) 0) 0

  one_end : (e : Edge) (c d : Bool)
      → cond c (f (record { place = e.to; weight = e.weight })) 0 + cond d (cond (not c) (f (record { place = e.from; weight = e.weight })) 0) 0
      ≡ sum_by (λ r. f (reading_at r)) (cond c (record { vertex = e.to; weight = e.weight } ∷ []) (cond d (record { vertex = e.from; weight = e.weight } ∷ []) []))
  one_end e true true = omega (arith, sum_one (λ r. f (reading_at r)) (record { vertex = e.to; weight = e.weight }))
  one_end e true false = omega (arith, sum_one (λ r. f (reading_at r)) (record { vertex = e.to; weight = e.weight }))
  one_end e false true = omega (arith, sum_one (λ r. f (reading_at r)) (record { vertex = e.from; weight = e.weight }))
  one_end e false false = refl

  sum-ends : (edges : List Edge) → sum_by f (filed_under (map by_source edges) v) + sum_by other (filed_under (map by_target edges) v) ≡ sum_by f (map reading_at (flat_map (other_end_read v) edges))
  sum-ends edges =
      ap (λ n. n + sum_by other (filed_under (map by_target edges) v)) (sum_under f v (map by_source edges) ∙ sum-map (λ (e : Filed). cond (e.row == v) (f (reading_of e)) 0) by_source edges)
      ∙ ap (λ n. sum_by along edges + n) (sum_under other v (map by_target edges) ∙ sum-map (λ (e : Filed). cond (e.row == v) (other (reading_of e)) 0) by_target edges)
      ∙ sym (sum-plus along against edges)
      ∙ sum-same (λ e. along e + against e) (λ e. sum_by (λ r. f (reading_at r)) (other_end_read v e)) edges (λ e c. one_end e (e.from == v) (e.to == v))
      ∙ sym (sum-map f reading_at (flat_map (other_end_read v) edges) ∙ sum-flat_map (λ r. f (reading_at r)) (other_end_read v) edges)

  pub row-sums : (edges : List Edge) → sum_by f (sorted_readings (filed_under (map by_source edges) v) ++ others v (sorted_readings (filed_under (map by_target edges) v))) ≡ sum_by f (map reading_at (flat_map (other_end_read v) edges))
  row-sums edges =
      let first = filed_under (map by_source edges) v in
      let second = filed_under (map by_target edges) v in
      sum_by-append f (sorted_readings first) (others v (sorted_readings second))
      ∙ ap (λ n. n + sum_by f (others v (sorted_readings second))) (sum_by-sorted_readings f first)
      ∙ ap (λ n. sum_by f first + n) (sum-others (sorted_readings second) ∙ sum_by-sorted_readings other second)
      ∙ sum-ends edges

-- ---- the tables

module _ (g : Digraph) (targets sources : List (List Reading)) (e : targets ≡ table (map by_source g.edges) (count_of g)) (f : sources ≡ table (map by_target g.edges) (count_of g)) where
  abbrev target_rows : ℕ → List Reading
  target_rows v = sorted_readings (filed_under (map by_source g.edges) v)

  abbrev source_rows : ℕ → List Reading
  source_rows v = sorted_readings (filed_under (map by_target g.edges) v)

  row_is : (v : ℕ) → v < count_of g → sorted_readings (get_or targets v [] ++ others v (get_or sources v [])) ≡ sorted_readings (map reading_at (reads_of g Label v))
  row_is v h =
      ap (λ l. sorted_readings (l ++ others v (get_or sources v []))) (ap (λ l. get_or l v []) e ∙ get_or-map-range_with_len target_rows 0 (count_of g) v v [] h (omega arith))
      ∙ ap (λ l. sorted_readings (target_rows v ++ others v l)) (ap (λ l. get_or l v []) f ∙ get_or-map-range_with_len source_rows 0 (count_of g) v v [] h (omega arith))
      ∙ sorted_same (target_rows v ++ others v (source_rows v)) (map reading_at (reads_of g Label v)) (λ t. row-sums v t g.edges)

  pub ends_are : merged_rows targets sources ≡ reads_table g Label
  ends_are =
      ap (λ n. map (λ v. sorted_readings (get_or targets v [] ++ others v (get_or sources v []))) (range_with_len 0 n)) (table_len (map by_source g.edges) (count_of g) targets e)
      ∙ map_range_same _ (λ v. sorted_readings (map reading_at (reads_of g Label v))) 0 (count_of g) (λ v l m. row_is v (omega (arith, m)))

  pub ends_short : IsGraph g → length targets < 2 ^ 32
  ends_short is = let few = is.few_vertices in omega (arith, few, table_len (map by_source g.edges) (count_of g) targets e)

  pub ends_len : length sources ≡ length targets
  ends_len = table_len (map by_target g.edges) (count_of g) sources f ∙ sym (table_len (map by_source g.edges) (count_of g) targets e)
