-- What a growing of a vector, and then a write into what has grown, lead to.
use Rattle.std.proofs.Common.{◌≡◌, ℕ, ◌+◌, ◌-◌, max, List, ◌++◌, length, take, drop, replicate, rules, arith, sym, ◌∙◌, ap, subst, append-nil}
use Rattle.std.proofs.lemmas.List.{places, same_lists, take_all, drop_all}
use borrow.Rule.Slice.PartMut.{put_mid}
use Rattle.grape_disk.specs.Placed.{placed, length-placed}

module _ {A : Type 0} (fill : A) where
  abbrev pub grown : ℕ → List A → List A
  grown m file = take m file ++ replicate (m - length file) fill

  overwritten : (at m : ℕ) (xs file : List A) → m ≡ max (length file) (at + length xs) → put_mid at (length xs) (grown m file) xs ≡ placed fill at xs file
  overwritten at m xs file is = same_lists _ _ (search (rules, places)) (λ k d h. grind (arith, places))

  whole : (n : ℕ) (xs ys : List A) → length xs ≡ n → length ys ≡ n → take n (xs ++ drop (length xs) ys) ≡ xs
  whole n xs ys one two = rw (drop_all (length xs) ys (omega arith)) (rw (append-nil xs) (take_all n xs (omega arith)))

  -- n is the new length, v the old one, and j that of the write
  pub put_in : (at j k m n v : ℕ) (xs ys file seen items : List A) → m ≡ n → v ≡ length file → n ≡ max v (at + j)
      → items ≡ take n file ++ replicate (n - v) fill → seen ≡ items → ys ≡ xs → k ≡ j → length xs ≡ j
      → take m (put_mid at k seen ys ++ drop (length (put_mid at k seen ys)) items) ≡ take at file ++ replicate (at - length file) fill ++ xs ++ drop (at + j) file
  put_in at j k m n v xs ys file seen items mn old is g s y same count =
      let grew : items ≡ grown n file = g ∙ ap (λ o. take n file ++ replicate (n - o) fill) old
      in let long : n ≡ max (length file) (at + length xs) = omega arith
      in rw (mn, ← count)
      (subst (λ its. take n (put_mid at k seen ys ++ drop (length (put_mid at k seen ys)) its) ≡ placed fill at xs file) (sym grew)
      (subst (λ see. take n (put_mid at k see ys ++ drop (length (put_mid at k see ys)) (grown n file)) ≡ placed fill at xs file) (sym (s ∙ grew))
      (subst (λ w. take n (put_mid at k (grown n file) w ++ drop (length (put_mid at k (grown n file) w)) (grown n file)) ≡ placed fill at xs file) (sym y)
      (subst (λ i. take n (put_mid at i (grown n file) xs ++ drop (length (put_mid at i (grown n file) xs)) (grown n file)) ≡ placed fill at xs file) (count ∙ sym same)
      (subst (λ p. take n (p ++ drop (length p) (grown n file)) ≡ placed fill at xs file) (sym (overwritten at n xs file long))
      (whole n (placed fill at xs file) (grown n file) (omega (arith, length-placed fill at xs file)) (search (rules, places))))))))
