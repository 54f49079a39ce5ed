-- The edges of a graph stand in the order of their rows.
use Rattle.std.proofs.Common.{◌≡◌, ◌≢◌, ℕ, zero, suc, ◌+◌, ◌-◌, ◌<◌, ◌≤◌, ◌^◌, true, false, List, [], ◌∷◌, length, map, flat_map, take, drop, get_or, slice_range, refl, ◌∙◌, sym, ap, subst, arith, Bool, cond, ◌==◌, eqb-true}
use Rattle.std.specs.Prelude.{All, sum_by}
use Rattle.std.specs.List.Sorted.{IsNonDecreasingBy}
use Rattle.std.proofs.lemmas.Bool.Decides.{nat_tests}
use Rattle.std.proofs.lemmas.List.{take-map, drop-map, get_or-map, length-map}
use Rattle.std.proofs.lemmas.List.Sorted.{IsPermutation-refl}
use Rattle.graph_core.specs.declared.edge.Edge.{Edge}
use Rattle.graph_core.specs.declared.fragment.Reading.{Reading}
use Rattle.graph_core.specs.declared.query.Query.{Query}
use Rattle.graph_core.specs.declared.query.Query.TheVariants.{Dist, Label, Reach, Sim}
use Rattle.graph_core.specs.Digraph.{Digraph, count_of, edge_le, IsGraph}
use Rattle.graph_core.proofs.GraphLemmas.{Rises, RisesFrom, rises-sorted}
use Rattle.fragment_cut.specs.Filing.{Filed, reading_of, filed_under, rows_under, table, by_source, by_target, reads_table, readers_table, all_turned}
use Rattle.fragment_cut.proofs.FiledRows.{SplitAt, split_more, row_between}
use Rattle.fragment_cut.proofs.SortedFiled.{is_less, AreSorted, rows_rise, table_is, map_same, same_under}
use Rattle.fragment_cut.proofs.InOrder.{sorted_same}
use Rattle.graph_core.proofs.Sums.{sum-map, sum-flat_map, sum-same, sum_one}
use Rattle.graph_core.specs.Fragments.{sorted_readings}
use Rattle.std.specs.List.{range_with_len}
use Rattle.std.proofs.lemmas.List.Sums.{sum_by-cons}
use Rattle.fragment_cut.proofs.EdgeFiles.{filed_by, turned, reads_table_is}
use Rattle.fragment_cut.proofs.Turning.{readers_table_is}
use Rattle.fragment_cut.proofs.TurnedTables.{turned_table_is, turned_inside}
use Rattle.std.proofs.lemmas.List.Elements.{All-map}
use Rattle.std.proofs.lemmas.List.FromFn.{length-map-range_with_len}

not_less : (a b : Edge) → edge_le a b ≡ true → is_less (by_source b) (by_source a) ≡ false
not_less a b h = grind (arith, nat_tests, h)

steps : (a : Edge) (edges : List Edge) → RisesFrom a edges → (k : ℕ) (d : Filed) → k + 1 < length (map by_source (a ∷ edges)) → is_less (get_or (map by_source (a ∷ edges)) (k + 1) d) (get_or (map by_source (a ∷ edges)) k d) ≡ false
steps a [] r k d h = absurd (omega (arith, h))
steps a (b ∷ edges) r zero d h = not_less a b r.0
steps a (b ∷ edges) r (suc k) d h =
    let n : suc k + 1 ≡ suc (k + 1) = omega arith in
    subst (λ j. is_less (get_or (map by_source (a ∷ b ∷ edges)) j d) (get_or (map by_source (b ∷ edges)) k d) ≡ false) (sym n) (steps b edges r.1 k d (omega (arith, h)))

all_steps : (edges : List Edge) → Rises edges → AreSorted (map by_source edges)
all_steps [] r k d l h = absurd (omega (arith, h))
all_steps (a ∷ edges) r k d l h = steps a edges r k d h

module _ (g : Digraph) (is : IsGraph g) where
  pub edges_sorted : AreSorted (map by_source g.edges)
  edges_sorted = all_steps g.edges (subst Rises is.sorted (rises-sorted g.edges))

  pub edges_rise : (edges : List Edge) → edges ≡ g.edges → IsNonDecreasingBy (λ e. e.row) (map by_source edges)
  edges_rise edges e = subst (λ l. IsNonDecreasingBy (λ (x : Filed). x.row) (map by_source l)) (sym e) (rows_rise (map by_source g.edges) edges_sorted)

  pub edges_inside : (edges : List Edge) (n : ℕ) → edges ≡ g.edges → n ≡ count_of g → All (λ e. e.from < n) edges
  edges_inside edges n e f = subst (λ m. All (λ (x : Edge). x.from < m) edges) (sym f) (subst (λ l. All (λ (x : Edge). x.from < count_of g) l) (sym e) (λ k d l. (is.ends k d l).0))

  pub rows_are_table : (edges : List Edge) (n : ℕ) → edges ≡ g.edges → n ≡ count_of g → rows_under (map by_source edges) n ≡ table (map by_source g.edges) (count_of g)
  rows_are_table edges n e f =
      ap (λ l. rows_under (map by_source l) n) e ∙ ap (rows_under (map by_source g.edges)) f
      ∙ table_is (map by_source g.edges) (map by_source g.edges) (count_of g) (IsPermutation-refl (map by_source g.edges)) edges_sorted

  sim_files : (p : _) (edges : List Edge) → flat_map (filed_by (Sim p)) edges ≡ map by_source edges
  sim_files p [] = refl
  sim_files p (e ∷ edges) = ap (λ l. by_source e ∷ l) (sim_files p edges)

  dist_files : (s : ℕ) (edges : List Edge) → map turned (flat_map (filed_by (Dist s)) edges) ≡ map by_source edges
  dist_files s [] = refl
  dist_files s (e ∷ edges) = ap (λ l. by_source e ∷ l) (dist_files s edges)

  reach_files : (s : ℕ) (edges : List Edge) → map turned (flat_map (filed_by (Reach s)) edges) ≡ map by_source edges
  reach_files s [] = refl
  reach_files s (e ∷ edges) = ap (λ l. by_source e ∷ l) (reach_files s edges)

  pub sim_reads : (q : Query) (p : _) → q ≡ Sim p → table (map by_source g.edges) (count_of g) ≡ reads_table g q
  sim_reads q p e = ap (λ l. table l (count_of g)) (sym (sim_files p g.edges)) ∙ reads_table_is g (Sim p) ∙ ap (reads_table g) (sym e)

  pub dist_readers : (q : Query) (s : ℕ) → q ≡ Dist s → table (map by_source g.edges) (count_of g) ≡ readers_table g q
  dist_readers q s e = ap (λ l. table l (count_of g)) (sym (dist_files s g.edges)) ∙ readers_table_is g (Dist s) is ∙ ap (readers_table g) (sym e)

  pub reach_readers : (q : Query) (s : ℕ) → q ≡ Reach s → table (map by_source g.edges) (count_of g) ≡ readers_table g q
  reach_readers q s e = ap (λ l. table l (count_of g)) (sym (reach_files s g.edges)) ∙ readers_table_is g (Reach s) is ∙ ap (readers_table g) (sym e)

turned_edges : (edges : List Edge) → map turned (map by_source edges) ≡ map by_target edges
turned_edges [] = refl
turned_edges (e ∷ edges) = ap (λ l. by_target e ∷ l) (turned_edges edges)

-- the table of the edges' targets, turned round
module _ (g : Digraph) (is : IsGraph g) (targets : List (List Reading)) (n : ℕ) (e : targets ≡ table (map by_source g.edges) (count_of g)) (count : n ≡ count_of g) where
  by_source_inside : All (λ (x : Filed). x.row < count_of g) (map by_source g.edges)
  by_source_inside = All-map (λ (x : Filed). x.row < count_of g) by_source g.edges (λ k d l. (is.ends k d l).0)

  by_source_placed : All (λ (x : Filed). x.place < count_of g) (map by_source g.edges)
  by_source_placed = All-map (λ (x : Filed). x.place < count_of g) by_source g.edges (λ k d l. (is.ends k d l).1)

  pub sources_inside : All (λ (x : Filed). x.row < n) (all_turned targets)
  sources_inside =
      subst (λ m. All (λ (x : Filed). x.row < m) (all_turned targets)) (sym count)
      (subst (λ l. All (λ (x : Filed). x.row < count_of g) (all_turned l)) (sym e) (turned_inside (map by_source g.edges) (count_of g) by_source_inside (count_of g) by_source_placed))

  pub sources_are : rows_under (all_turned targets) n ≡ table (map by_target g.edges) (count_of g)
  sources_are =
      ap (rows_under (all_turned targets)) count ∙ ap (λ l. rows_under (all_turned l) (count_of g)) e
      ∙ turned_table_is (map by_source g.edges) (count_of g) by_source_inside (count_of g) ∙ ap (λ l. table l (count_of g)) (turned_edges g.edges)

pub sources_short : (g : Digraph) → IsGraph g → (targets : List (List Reading)) → targets ≡ table (map by_source g.edges) (count_of g) → length targets < 2 ^ 32
sources_short g is targets e =
    let few = is.few_vertices in
    omega (arith, few, ap length e, length-map-range_with_len (λ row. sorted_readings (filed_under (map by_source g.edges) row)) 0 (count_of g))

module _ (g : Digraph) (is : IsGraph g) where
  dist_sources : (s : ℕ) (edges : List Edge) → flat_map (filed_by (Dist s)) edges ≡ map by_target edges
  dist_sources s [] = refl
  dist_sources s (e ∷ edges) = ap (λ l. by_target e ∷ l) (dist_sources s edges)

  reach_sources : (s : ℕ) (edges : List Edge) → flat_map (filed_by (Reach s)) edges ≡ map by_target edges
  reach_sources s [] = refl
  reach_sources s (e ∷ edges) = ap (λ l. by_target e ∷ l) (reach_sources s edges)

  sim_targets : (p : _) (edges : List Edge) → map turned (flat_map (filed_by (Sim p)) edges) ≡ map by_target edges
  sim_targets p [] = refl
  sim_targets p (e ∷ edges) = ap (λ l. by_target e ∷ l) (sim_targets p edges)

  pub dist_reads : (q : Query) (s : ℕ) → q ≡ Dist s → table (map by_target g.edges) (count_of g) ≡ reads_table g q
  dist_reads q s e = ap (λ l. table l (count_of g)) (sym (dist_sources s g.edges)) ∙ reads_table_is g (Dist s) ∙ ap (reads_table g) (sym e)

  pub reach_reads : (q : Query) (s : ℕ) → q ≡ Reach s → table (map by_target g.edges) (count_of g) ≡ reads_table g q
  reach_reads q s e = ap (λ l. table l (count_of g)) (sym (reach_sources s g.edges)) ∙ reads_table_is g (Reach s) ∙ ap (reads_table g) (sym e)

  pub sim_readers : (q : Query) (p : _) → q ≡ Sim p → table (map by_target g.edges) (count_of g) ≡ readers_table g q
  sim_readers q p e = ap (λ l. table l (count_of g)) (sym (sim_targets p g.edges)) ∙ readers_table_is g (Sim p) is ∙ ap (readers_table g) (sym e)

-- under label an edge is read the same way turned round
label_edge : (f : Filed → ℕ) (e : Edge) (b : Bool) → (e.from == e.to) ≡ b → sum_by (λ x. f (turned x)) (cond b (by_source e ∷ []) (by_source e ∷ by_target e ∷ [])) ≡ sum_by f (cond b (by_source e ∷ []) (by_source e ∷ by_target e ∷ []))
label_edge f e true h =
    let same = eqb-true e.from e.to h in
    sym (sum_one (λ x. f (turned x)) (by_source e)) ∙ ap (λ n. f (record { row = n; place = e.from; weight = e.weight })) (sym same) ∙ ap (λ n. f (record { row = e.from; place = n; weight = e.weight })) same ∙ sum_one f (by_source e)
label_edge f e false h =
    omega (arith, sum_by-cons (λ x. f (turned x)) (by_source e) (by_target e ∷ []), sum_by-cons f (by_source e) (by_target e ∷ []), sum_one (λ x. f (turned x)) (by_target e), sum_one f (by_target e))

label_sums : (edges : List Edge) (f : Filed → ℕ) → sum_by f (map turned (flat_map (filed_by Label) edges)) ≡ sum_by f (flat_map (filed_by Label) edges)
label_sums edges f =
    sum-map f turned (flat_map (filed_by Label) edges)
    ∙ sum-flat_map (λ x. f (turned x)) (filed_by Label) edges
    ∙ sum-same _ (λ e. sum_by f (filed_by Label e)) edges (λ e c. label_edge f e (e.from == e.to) refl)
    ∙ sym (sum-flat_map f (filed_by Label) edges)

pub label_readers : (g : Digraph) (is : IsGraph g) (q : Query) → q ≡ Label → reads_table g q ≡ readers_table g q
label_readers g is q e =
    let filed = flat_map (filed_by Label) g.edges in
    ap (reads_table g) e ∙ sym (reads_table_is g Label)
    ∙ map_same (λ row. sorted_readings (filed_under filed row)) (λ row. sorted_readings (filed_under (map turned filed) row))
    (λ row. sorted_same (filed_under filed row) (filed_under (map turned filed) row) (same_under row filed (map turned filed) (λ f. sym (label_sums g.edges f)))) (range_with_len 0 (count_of g))
    ∙ readers_table_is g Label is ∙ ap (readers_table g) (sym e)

map_twice : (edges : List Edge) → map (λ e. reading_of (by_source e)) edges ≡ map reading_of (map by_source edges)
map_twice [] = refl
map_twice (e ∷ edges) = ap (λ l. reading_of (by_source e) ∷ l) (map_twice edges)

blank : Edge
blank = record { from = 0; to = 0; weight = 0 }

-- one row more
module _ (edges : List Edge) (row start end : ℕ) (up : IsNonDecreasingBy (λ e. e.row) (map by_source edges)) (split : SplitAt (map by_source edges) row start) (from : start ≤ end) (within : end ≤ length edges)
    (same : (k : ℕ) (d : Edge) → start ≤ k → k < end → (get_or edges k d).from ≡ row) (other : (d : Edge) → end < length edges → (get_or edges end d).from ≢ row) where
  same_row : (k : ℕ) (d : Filed) → start ≤ k → k < end → (get_or (map by_source edges) k d).row ≡ row
  same_row k d l m = ap (λ (x : Filed). x.row) (get_or-map by_source edges k blank d (omega (arith, m, within))) ∙ same k blank l m

  other_row : (d : Filed) → end < length (map by_source edges) → (get_or (map by_source edges) end d).row ≢ row
  other_row d h =
      let l : end < length edges = omega (arith, h, length-map edges by_source) in
      λ e. other blank l (sym (ap (λ (x : Filed). x.row) (get_or-map by_source edges end blank d l)) ∙ e)

  pub split_edges : SplitAt (map by_source edges) (row + 1) end
  split_edges = split_more (map by_source edges) row start end up split from (omega (arith, within, length-map edges by_source)) same_row other_row

  pub row_edges : map (λ e. reading_of (by_source e)) (slice_range edges start end) ≡ filed_under (map by_source edges) row
  row_edges =
      map_twice (slice_range edges start end)
      ∙ ap (map reading_of) (sym (ap (take (end - start)) (drop-map by_source start edges) ∙ take-map by_source (end - start) (drop start edges)))
      ∙ row_between (map by_source edges) row start end split split_edges from same_row
