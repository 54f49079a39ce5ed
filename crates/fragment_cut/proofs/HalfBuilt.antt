-- What the steps leave from which a fragment without routes is built.
use Rattle.std.proofs.Common.{◌≡◌, ℕ, ◌<◌, List, [], ◌∷◌, ◌++◌, length, map, flat_map, slice_index, ◌∙◌, sym, ap, subst}
use Rattle.std.specs.Prelude.{All}
use Rattle.std.specs.List.{AllByRecursion, range_with_len}
use Rattle.std.proofs.lemmas.List.Elements.{All-map, All-from_recursion}
use Rattle.graph_core.specs.declared.job.Job.{Job}
use Rattle.graph_core.specs.declared.fragment.Reading.{Reading}
use Rattle.graph_core.specs.Digraph.{Digraph, count_of, IsGraph}
use Rattle.graph_core.specs.Graphs.{IsJob}
use Rattle.graph_core.specs.declared.query.Query.{Query}
use Rattle.graph_core.specs.Fragments.{owned_of, mirrors_of, places_of, readings_of, readers_of, sorted_readings, StandsAt}
use Rattle.fragment_cut.specs.Filing.{Filed, filed_under, table, rows_under, reads_table, filed_rows, all_turned}
use Rattle.fragment_cut.specs.Halves.{HalfLists, half_of}
use Rattle.fragment_cut.proofs.EdgeFiles.{filed_by, with_place, reads_table_is, edges_filed_placed}
use Rattle.fragment_cut.proofs.Marked.{places_listed}
use Rattle.fragment_cut.proofs.Placing.{filed_owned, filed_placed, readings_are, readers_are, every-sorted}
use Rattle.fragment_cut.proofs.TurnedTables.{turned_table_is, turned_inside, under_every}

pub both_are : (us ws xs ys : List ℕ) → us ≡ xs → ws ≡ ys → us ++ ws ≡ xs ++ ys
both_are us ws xs ys e f = ap (λ l. l ++ ws) e ∙ ap (λ l. xs ++ l) f

every_table : (Q : List Reading → Type 0) (f : ℕ → List Reading) (ks : List ℕ) → ((k : ℕ) → Q (f k)) → AllByRecursion Q (map f ks)
every_table Q f [] h = tt
every_table Q f (k ∷ ks) h = (h k, every_table Q f ks h)

-- all that is read is a vertex
pub reads_placed : (g : Digraph) (q : Query) → IsGraph g → All (λ row. All (λ (r : Reading). r.place < count_of g) row) (reads_table g q)
reads_placed g q is =
    let filed = flat_map (filed_by q) g.edges in
    let Q : List Reading → Type 0 = λ row. All (λ (r : Reading). r.place < count_of g) row in
    let R : Reading → Type 0 = λ r. r.place < count_of g in
    subst (λ t. All Q t) (reads_table_is g q) (All-from_recursion Q (table filed (count_of g))
    (every_table Q (λ row. sorted_readings (filed_under filed row)) (range_with_len 0 (count_of g)) (λ k. All-from_recursion R _ (every-sorted R (filed_under filed k) (under_every (count_of g) k filed (edges_filed_placed g q is))))))

-- ---- the readings turned round

module _ (job : Job) (is : IsJob job) (i : ℕ) (small : i < job.settings.fragments) (readings : List (List Reading)) (e : readings ≡ map (readings_of job i) (owned_of job i)) (places : ℕ) (n : places ≡ length (places_of job i)) where
  abbrev P : List ℕ
  P = (places_listed job is i small).0

  abbrev right : (p v : ℕ) → StandsAt (places_of job i) p v → slice_index P v ≡ p
  right = (places_listed job is i small).1

  abbrev placed : List Filed
  placed = map (with_place P) (filed_rows (owned_of job i) (reads_table job.graph job.query) (length (owned_of job i)))

  tables : readings ≡ table placed (length (owned_of job i))
  tables = e ∙ sym (readings_are job is i small P right)

  rows_inside : All (λ (x : Filed). x.row < length (owned_of job i)) placed
  rows_inside = All-map (λ (x : Filed). x.row < length (owned_of job i)) (with_place P) (filed_rows (owned_of job i) (reads_table job.graph job.query) (length (owned_of job i))) (filed_owned job is i small)

  places_inside : All (λ (x : Filed). x.place < length (places_of job i)) placed
  places_inside = All-map (λ (x : Filed). x.place < length (places_of job i)) (with_place P) (filed_rows (owned_of job i) (reads_table job.graph job.query) (length (owned_of job i))) (filed_placed job is i small P right)

  pub readings_inside : All (λ (x : Filed). x.row < places) (all_turned readings)
  readings_inside =
      subst (λ m. All (λ (x : Filed). x.row < m) (all_turned readings)) (sym n)
      (subst (λ l. All (λ (x : Filed). x.row < length (places_of job i)) (all_turned l)) (sym tables) (turned_inside placed (length (owned_of job i)) rows_inside (length (places_of job i)) places_inside))

  pub readers_made : rows_under (all_turned readings) places ≡ map (readers_of job i) (places_of job i)
  readers_made =
      ap (rows_under (all_turned readings)) n ∙ ap (λ l. rows_under (all_turned l) (length (places_of job i))) tables
      ∙ turned_table_is placed (length (owned_of job i)) rows_inside (length (places_of job i)) ∙ readers_are job is i small P right

pub half_is : (job : Job) (i : ℕ) (owned mirrors : List ℕ) (readings readers : List (List Reading)) → owned ≡ owned_of job i → mirrors ≡ mirrors_of job i → readings ≡ map (readings_of job i) (owned_of job i) → readers ≡ map (readers_of job i) (places_of job i)
    → (let h : HalfLists = record { owned = owned; mirrors = mirrors; readings = readings; readers = readers } in h) ≡ half_of job i
half_is job i owned mirrors readings readers eo em er es =
    ap (λ o. let h : HalfLists = record { owned = o; mirrors = mirrors; readings = readings; readers = readers } in h) eo
    ∙ ap (λ m. let h : HalfLists = record { owned = owned_of job i; mirrors = m; readings = readings; readers = readers } in h) em
    ∙ ap (λ r. let h : HalfLists = record { owned = owned_of job i; mirrors = mirrors_of job i; readings = r; readers = readers } in h) er
    ∙ ap (λ s. let h : HalfLists = record { owned = owned_of job i; mirrors = mirrors_of job i; readings = map (readings_of job i) (owned_of job i); readers = s } in h) es
