-- What is filed along the edges, turned round, is by whom their vertices are read.
use Rattle.std.proofs.Common.{◌≡◌, ◌≢◌, ℕ, ◌+◌, ◌<◌, Bool, true, false, cond, ◌==◌, List, [], ◌∷◌, map, flat_map, refl, ◌∙◌, sym, ap, arith, eqb-true, eq-eqb}
use Rattle.std.specs.Prelude.{All, sum_by}
use Rattle.std.specs.List.{range_with_len}
use Rattle.std.proofs.lemmas.Bool.{ne_eqb}
use Rattle.std.proofs.lemmas.List.Sums.{sum_by-cons}
use Rattle.std.proofs.lemmas.List.Elements.{All-head, All-tail}
use Rattle.graph_core.specs.declared.fragment.Reading.{Reading}
use Rattle.graph_core.specs.declared.query.Query.{Query}
use Rattle.graph_core.specs.Digraph.{Digraph, count_of, IsGraph}
use Rattle.graph_core.specs.Queries.{Read, reads_of}
use Rattle.graph_core.specs.Fragments.{sorted_readings}
use Rattle.graph_core.proofs.Sums.{sum-map, sum-flat_map, sum-same, sum-zero, sum_one, sum_range_one}
use Rattle.fragment_cut.specs.Filing.{Filed, reading_of, filed_under, table, reading_at, readers_at, readers_table}
use Rattle.fragment_cut.proofs.InOrder.{SameSums, sorted_same}
use Rattle.fragment_cut.proofs.SortedFiled.{sum_under, map_same}
use Rattle.fragment_cut.proofs.EdgeFiles.{filed_by, turned, edges-files, edges_filed_inside}

pub sum-plus : {X : Type 0} (f g : X → ℕ) (xs : List X) → sum_by (λ x. f x + g x) xs ≡ sum_by f xs + sum_by g xs
sum-plus f g [] = refl
sum-plus f g (x ∷ xs) = omega (arith, sum_by-cons (λ x. f x + g x) x xs, sum_by-cons f x xs, sum_by-cons g x xs, sum-plus f g xs)

other_row : (k w n : ℕ) → w ≢ k → cond (k == w) n 0 ≡ 0
other_row k w n d = ap (λ b. cond b n 0) (ne_eqb k w (λ e. d (sym e)))

own_row : (k n : ℕ) → cond (k == k) n 0 ≡ n
own_row k n = ap (λ b. cond b n 0) (eq-eqb k k refl)

-- a sum over entries, row by row
pub sum_by_rows : (n : ℕ) (f : Filed → ℕ) (filed : List Filed) → All (λ e. e.row < n) filed → sum_by (λ w. sum_by (λ e. cond (e.row == w) (f e) 0) filed) (range_with_len 0 n) ≡ sum_by f filed
sum_by_rows n f [] h = sum-zero (λ w. 0) (range_with_len 0 n) (λ w. refl)
sum_by_rows n f (e ∷ filed) h =
    let P : Filed → Type 0 = λ x. x.row < n in
    let here : e.row < n = All-head P e filed h in
    let own : ℕ → ℕ = λ w. cond (e.row == w) (f e) 0 in
    let rest : ℕ → ℕ = λ w. sum_by (λ x. cond (x.row == w) (f x) 0) filed in
    sum-same (λ w. sum_by (λ x. cond (x.row == w) (f x) 0) (e ∷ filed)) (λ w. own w + rest w) (range_with_len 0 n) (λ w c. sum_by-cons (λ (x : Filed). cond (x.row == w) (f x) 0) e filed)
    ∙ sum-plus own rest (range_with_len 0 n)
    ∙ ap (λ m. m + sum_by rest (range_with_len 0 n)) (sum_range_one own e.row 0 n (λ w d. other_row e.row w (f e) d) (omega arith) (omega (arith, here)) ∙ own_row e.row (f e))
    ∙ ap (λ m. f e + m) (sum_by_rows n f filed (All-tail P e filed h))
    ∙ sym (sum_by-cons f e filed)

-- in one row an entry is its reading
pub row_term : (f : Reading → ℕ) (u w : ℕ) (e : Filed) (b : Bool) → (e.row == w) ≡ b
    → cond b (cond (e.place == u) (f (record { place = e.row; weight = e.weight })) 0) 0 ≡ cond b (cond (e.place == u) (f (record { place = w; weight = e.weight })) 0) 0
row_term f u w e true h = ap (λ k. cond (e.place == u) (f (record { place = k; weight = e.weight })) 0) (eqb-true e.row w h)
row_term f u w e false h = refl

pub one_reader : (f : Reading → ℕ) (w : ℕ) (r : Read) (b : Bool) → cond b (f (record { place = w; weight = r.weight })) 0 ≡ sum_by f (cond b (record { place = w; weight = r.weight } ∷ []) [])
one_reader f w r true = sum_one f (record { place = w; weight = r.weight })
one_reader f w r false = refl

-- the sum over the readers of u, vertex by vertex
pub readers-by_vertex : (g : Digraph) (q : Query) (u : ℕ) (f : Reading → ℕ)
    → sum_by f (readers_at g q u) ≡ sum_by (λ w. sum_by (λ (r : Read). cond (r.vertex == u) (f (record { place = w; weight = r.weight })) 0) (reads_of g q w)) (range_with_len 0 (count_of g))
readers-by_vertex g q u f =
    let inner : ℕ → Read → List Reading = λ w r. cond (r.vertex == u) (record { place = w; weight = r.weight } ∷ []) [] in
    sum-flat_map f (λ w. flat_map (inner w) (reads_of g q w)) (range_with_len 0 (count_of g))
    ∙ sum-same _ _ (range_with_len 0 (count_of g)) (λ w c. sum-flat_map f (inner w) (reads_of g q w) ∙ sum-same _ _ (reads_of g q w) (λ r d. sym (one_reader f w r (r.vertex == u))))

module _ (g : Digraph) (q : Query) (is : IsGraph g) where
  abbrev filed_all : List Filed
  filed_all = flat_map (filed_by q) g.edges

  pub turned-sums : (u : ℕ) → SameSums (filed_under (map turned filed_all) u) (readers_at g q u)
  turned-sums u f =
      let term : Filed → ℕ = λ e. cond (e.place == u) (f (record { place = e.row; weight = e.weight })) 0 in
      let at : ℕ → Reading → ℕ = λ w r. cond (r.place == u) (f (record { place = w; weight = r.weight })) 0 in
      sum_under f u (map turned filed_all)
      ∙ sum-map (λ e. cond (e.row == u) (f (reading_of e)) 0) turned filed_all
      ∙ sym (sum_by_rows (count_of g) term filed_all (edges_filed_inside g q is))
      ∙ sum-same _ _ (range_with_len 0 (count_of g)) (λ w c.
      sum-same _ (λ e. cond (e.row == w) (at w (reading_of e)) 0) filed_all (λ e d. row_term f u w e (e.row == w) refl)
      ∙ sym (sum_under (at w) w filed_all)
      ∙ ap (sum_by (at w)) (edges-files q g.edges w)
      ∙ sum-map (at w) reading_at (reads_of g q w))
      ∙ sym (readers-by_vertex g q u f)

  pub readers_table_is : table (map turned filed_all) (count_of g) ≡ readers_table g q
  readers_table_is =
      map_same (λ u. sorted_readings (filed_under (map turned filed_all) u)) (λ u. sorted_readings (readers_at g q u)) (λ u. sorted_same (filed_under (map turned filed_all) u) (readers_at g q u) (turned-sums u)) (range_with_len 0 (count_of g))
