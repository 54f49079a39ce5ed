-- The totals of rows, with one more.
use Rattle.std.proofs.Common.{◌≡◌, ℕ, ◌+◌, Bool, true, false, cond, List, [], ◌∷◌, ◌++◌, length, map, filter, take, get_or, ◌<◌, refl, ◌∙◌, ap, arith, length-append}
use Rattle.std.specs.Prelude.{◌≢◌, ◌==◌, not, max}
use Rattle.std.proofs.lemmas.Bool.Decides.{nat_tests}
use Rattle.graph_core.specs.declared.TheConstants.{FAR}
use Rattle.std.specs.List.{sum}
use Rattle.std.proofs.lemmas.List.{take_more}
use Rattle.std.proofs.lemmas.List.Elements.{filter-append}
use Rattle.std.proofs.lemmas.List.Sums.{sum_by_push}
use Rattle.answer_text.specs.declared.answer.AnswerRow.{AnswerRow}
use Rattle.answer_text.specs.Summary.{is_reached, distances_in, greatest_of}

map-append : (xs ys : List AnswerRow) → map (λ (r : AnswerRow). r.value) (xs ++ ys) ≡ map (λ (r : AnswerRow). r.value) xs ++ map (λ (r : AnswerRow). r.value) ys
map-append [] ys = refl
map-append (x ∷ xs) ys = ap (λ (t : List ℕ). x.value ∷ t) (map-append xs ys)

distances_more : (rows : List AnswerRow) (row : AnswerRow) → distances_in (rows ++ row ∷ []) ≡ distances_in rows ++ distances_in (row ∷ [])
distances_more rows row = ap (map (λ (r : AnswerRow). r.value)) (filter-append is_reached rows (row ∷ [])) ∙ map-append (filter is_reached rows) (filter is_reached (row ∷ []))

one_step : (b : Bool) (row : AnswerRow) → b ≡ true → map (λ (r : AnswerRow). r.value) (cond b (row ∷ []) []) ≡ row.value ∷ []
one_step true row h = refl
one_step false row h = absurd (let x : false ≡ true = h in cc)

none_step : (b : Bool) (row : AnswerRow) → b ≡ false → map (λ (r : AnswerRow). r.value) (cond b (row ∷ []) []) ≡ []
none_step true row h = absurd (let x : true ≡ false = h in cc)
none_step false row h = refl

append-none : (xs : List ℕ) → xs ++ [] ≡ xs
append-none [] = refl
append-none (x ∷ xs) = ap (λ (t : List ℕ). x ∷ t) (append-none xs)

-- the distances of one row more
module _ (rows : List AnswerRow) (i : ℕ) (row : AnswerRow) (there : i < length rows) where
  so_far : take (i + 1) rows ≡ take i rows ++ get_or rows i row ∷ []
  so_far = take_more rows i row there

  pub with_reached : is_reached (get_or rows i row) ≡ true → distances_in (take (i + 1) rows) ≡ distances_in (take i rows) ++ (get_or rows i row).value ∷ []
  with_reached h = ap distances_in so_far ∙ distances_more (take i rows) (get_or rows i row) ∙ ap (λ (t : List ℕ). distances_in (take i rows) ++ t) (one_step (is_reached (get_or rows i row)) (get_or rows i row) h)

  pub with_far : is_reached (get_or rows i row) ≡ false → distances_in (take (i + 1) rows) ≡ distances_in (take i rows)
  with_far h = ap distances_in so_far ∙ distances_more (take i rows) (get_or rows i row) ∙ ap (λ (t : List ℕ). distances_in (take i rows) ++ t) (none_step (is_reached (get_or rows i row)) (get_or rows i row) h) ∙ append-none (distances_in (take i rows))

pub length_more : (ns : List ℕ) (n : ℕ) → length (ns ++ n ∷ []) ≡ length ns + 1
length_more ns n = length-append ns (n ∷ [])

pub sum_more : (ns : List ℕ) (n : ℕ) → sum (ns ++ n ∷ []) ≡ sum ns + n
sum_more ns n = sum_by_push (λ (x : ℕ). x) ns n

max_three : (a b c : ℕ) → max a (max b c) ≡ max (max a b) c
max_three a b c = omega arith

max_none : (n : ℕ) → max n 0 ≡ max 0 n
max_none n = omega arith

pub greatest_more : (ns : List ℕ) (n : ℕ) → greatest_of (ns ++ n ∷ []) ≡ max (greatest_of ns) n
greatest_more [] n = max_none n
greatest_more (m ∷ ns) n = ap (max m) (greatest_more ns n) ∙ max_three m (greatest_of ns) n

pub reached_test : (n : ℕ) → n ≢ FAR → not (n == FAR) ≡ true
reached_test n h = grind (arith, nat_tests)

pub far_test : (n : ℕ) → n ≡ FAR → not (n == FAR) ≡ false
far_test n h = grind (arith, nat_tests)
