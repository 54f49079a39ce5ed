-- The labels of vertices are those that the lines give.
use Rattle.std.proofs.Common.{◌≡◌, ℕ, Bool, true, false, cond, ◌==◌, List, [], ◌∷◌, map, Option, Some, None, refl, sym, ◌∙◌, ap, subst}
use Rattle.std.specs.Prelude.{filter_map, unwrap_or, All}
use Rattle.std.specs.List.{AllByRecursion}
use Rattle.std.specs.Map.{lookup}
use Rattle.std.specs.Option.{option_or}
use Rattle.std.proofs.lemmas.List.Elements.{All-from_recursion}
use Rattle.line_statements.specs.declared.statement.Statement.{Statement}
use Rattle.line_statements.specs.declared.statement.Statement.TheVariants.{Vertex}
use Rattle.text_lines.specs.NumberSets.{is_among}
use Rattle.text_lines.specs.Labels.{labelled}
use Rattle.text_lines.proofs.Rising.{any-insert_new}
use Rattle.graph_text.specs.Input.{numbers_with, vertex_numbers, first_of, label_in, label_of, vertices_of}
use Rattle.graph_text.specs.Gathering.{vertex_in}
use Rattle.graph_text.proofs.Jobs.{any-with_kept}

found_step : (c : Bool) (l : ℕ) (o p : Option ℕ) → o ≡ p → cond c (Some l) o ≡ option_or (cond c (Some l) None) p
found_step true l o p e = refl
found_step false l o p e = e

label_found : (ss : List Statement) (n : ℕ) → lookup (λ m. m == n) (filter_map vertex_in ss) ≡ first_of (label_in n) ss
label_found [] n = refl
label_found (Vertex m l ∷ ss) n = found_step (m == n) l (lookup (λ k. k == n) (filter_map vertex_in ss)) (first_of (label_in n) ss) (label_found ss n)
label_found (s ∷ ss) n = label_found ss n

all_labelled : (ss : List Statement) (ns : List ℕ) → labelled (filter_map vertex_in ss) ns ≡ map (λ n. (n, label_of ss n)) ns
all_labelled ss [] = refl
all_labelled ss (n ∷ ns) = ap (λ o. (n, unwrap_or o 0) ∷ labelled (filter_map vertex_in ss) ns) (label_found ss n) ∙ ap (λ vs. (n, label_of ss n) ∷ vs) (all_labelled ss ns)

-- the vertices are the numbers with the labels of the lines
pub labelled_vertices : (ss : List Statement) (numbers : List ℕ) (labels : List (ℕ × ℕ)) → numbers ≡ vertex_numbers ss → labels ≡ filter_map vertex_in ss → labelled labels numbers ≡ vertices_of ss
labelled_vertices ss numbers labels e h = ap (λ ls. labelled ls numbers) h ∙ ap (labelled (filter_map vertex_in ss)) e ∙ all_labelled ss (vertex_numbers ss)

among_with : (s : Statement) (ns : List ℕ) (labels : List (ℕ × ℕ)) → AllByRecursion (λ v. is_among v.0 ns ≡ true) labels → AllByRecursion (λ v. is_among v.0 (numbers_with s ns) ≡ true) labels
among_with s ns [] h = tt
among_with s ns (v ∷ labels) h = (any-with_kept v.0 s ns h.0, among_with s ns labels h.1)

are_among : (ss : List Statement) → AllByRecursion (λ v. is_among v.0 (vertex_numbers ss) ≡ true) (filter_map vertex_in ss)
are_among [] = tt
are_among (Vertex m l ∷ ss) = (any-insert_new m (vertex_numbers ss), among_with (Vertex m l) (vertex_numbers ss) (filter_map vertex_in ss) (are_among ss))
are_among (s ∷ ss) = among_with s (vertex_numbers ss) (filter_map vertex_in ss) (are_among ss)

-- each number with a label is among the vertices
pub labels_among : (ss : List Statement) (numbers : List ℕ) (labels : List (ℕ × ℕ)) → numbers ≡ vertex_numbers ss → labels ≡ filter_map vertex_in ss → All (λ v. is_among v.0 numbers ≡ true) labels
labels_among ss numbers labels e h =
    subst (λ ns. All (λ v. is_among v.0 ns ≡ true) labels) (sym e)
    (subst (λ ls. All (λ v. is_among v.0 (vertex_numbers ss) ≡ true) ls) (sym h) (All-from_recursion (λ v. is_among v.0 (vertex_numbers ss) ≡ true) (filter_map vertex_in ss) (are_among ss)))
