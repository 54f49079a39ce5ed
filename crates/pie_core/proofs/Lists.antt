-- Lists, place by place.
use Rattle.std.proofs.Common.{◌≡◌, ℕ, ◌+◌, ◌≤◌, refl, sym, ◌∙◌, arith, List, [], ◌∷◌, length, drop, slice_index}
use Rattle.std.proofs.lemmas.List.{length-drop, get_or-drop}
use Rattle.std.proofs.lemmas.Grind.{same_number_lists}
use Rattle.value_order.specs.declared.order.Order.{Order}
use Rattle.value_order.proofs.Orders.{Below-refl, Below-antisym, Below-trans}
use Rattle.pie_core.specs.Solutions.{AllBelow}

pub AllBelow-refl : (o : Order) (xs : List ℕ) → AllBelow o xs xs
AllBelow-refl o [] = tt
AllBelow-refl o (x ∷ xs) = (Below-refl o x, AllBelow-refl o xs)

pub AllBelow-antisym : (o : Order) (xs ys : List ℕ) → AllBelow o xs ys → AllBelow o ys xs → xs ≡ ys
AllBelow-antisym o [] [] h k = refl
AllBelow-antisym o [] (y ∷ ys) h k = absurd h
AllBelow-antisym o (x ∷ xs) [] h k = absurd h
AllBelow-antisym o (x ∷ xs) (y ∷ ys) h k = λ i. Below-antisym o x y h.0 k.0 i ∷ AllBelow-antisym o xs ys h.1 k.1 i

pub AllBelow-trans : (o : Order) (xs ys zs : List ℕ) → AllBelow o xs ys → AllBelow o ys zs → AllBelow o xs zs
AllBelow-trans o [] [] [] h k = tt
AllBelow-trans o [] [] (z ∷ zs) h k = absurd k
AllBelow-trans o [] (y ∷ ys) zs h k = absurd h
AllBelow-trans o (x ∷ xs) [] zs h k = absurd h
AllBelow-trans o (x ∷ xs) (y ∷ ys) [] h k = absurd k
AllBelow-trans o (x ∷ xs) (y ∷ ys) (z ∷ zs) h k = (Below-trans o x y z h.0 k.0, AllBelow-trans o xs ys zs h.1 k.1)

-- two lists that are alike from place n on
pub drop-same : (n : ℕ) (xs ys : List ℕ) → length xs ≡ length ys → ((q : ℕ) → n ≤ q → slice_index xs q ≡ slice_index ys q) → drop n xs ≡ drop n ys
drop-same n xs ys e h =
    same_number_lists (drop n xs) (drop n ys) (omega (arith, e, length-drop n xs, length-drop n ys)) (λ k l. get_or-drop n xs k 0 ∙ (h (n + k) (omega arith) ∙ sym (get_or-drop n ys k 0)))
