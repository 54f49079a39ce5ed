-- Sums over lists, and over sorted readings.
use Rattle.std.proofs.Common.{◌≡◌, ◌≢◌, ℕ, zero, suc, ◌+◌, ◌<◌, ◌≤◌, Bool, true, false, cond, List, [], ◌∷◌, length, map, flat_map, slice_index, Contains, refl, ◌∙◌, sym, ap, inl, inr, arith}
use Rattle.std.specs.Prelude.{sum_by}
use Rattle.std.specs.List.{range_with_len}
use Rattle.std.proofs.lemmas.Bool.{cases_eq}
use Rattle.std.proofs.lemmas.List.FromFn.{fill_by_all}
use Rattle.std.proofs.lemmas.List.Sums.{sum_by-cons, sum_by-append}
use Rattle.std.proofs.lemmas.List.Folds.{fold-map}
use Rattle.graph_core.specs.declared.fragment.Reading.{Reading}
use Rattle.graph_core.specs.Fragments.{numbers_below, comes_before, insert_reading, sorted_readings}
use Rattle.graph_core.proofs.Lists.{contains_here, contains_later}

module _ {X Y : Type 0} where
  pub sum-map : (g : Y → ℕ) (h : X → Y) (xs : List X) → sum_by g (map h xs) ≡ sum_by (λ x. g (h x)) xs
  sum-map g h xs = fold-map (λ a y. a + g y) h 0 xs

  pub sum-flat_map : (g : Y → ℕ) (h : X → List Y) (xs : List X) → sum_by g (flat_map h xs) ≡ sum_by (λ x. sum_by g (h x)) xs
  sum-flat_map g h [] = refl
  sum-flat_map g h (x ∷ xs) = omega (arith, sum_by-append g (h x) (flat_map h xs), sum-flat_map g h xs, sum_by-cons (λ y. sum_by g (h y)) x xs)

module _ {X : Type 0} where
  pub sum-same : (f g : X → ℕ) (xs : List X) → ((x : X) → Contains xs x → f x ≡ g x) → sum_by f xs ≡ sum_by g xs
  sum-same f g [] h = refl
  sum-same f g (x ∷ xs) h = omega (arith, sum_by-cons f x xs, sum_by-cons g x xs, h x (contains_here x xs), sum-same f g xs (λ y c. h y (contains_later x xs y c)))

  pub sum-zero : (f : X → ℕ) (xs : List X) → ((x : X) → f x ≡ 0) → sum_by f xs ≡ 0
  sum-zero f [] h = refl
  sum-zero f (x ∷ xs) h = omega (arith, sum_by-cons f x xs, h x, sum-zero f xs h)

pub sum_one : {X : Type 0} (f : X → ℕ) (x : X) → f x ≡ sum_by f (x ∷ [])
sum_one f x = let e = sum_by-cons f x [] in omega (arith, e)

pub sum_range_same : (f g : ℕ → ℕ) (a n : ℕ) → ((k : ℕ) → a ≤ k → k < a + n → f k ≡ g k) → sum_by f (range_with_len a n) ≡ sum_by g (range_with_len a n)
sum_range_same f g a zero h = refl
sum_range_same f g a (suc n) h = omega (arith, sum_by-cons f a (range_with_len (a + 1) n), sum_by-cons g a (range_with_len (a + 1) n), h a (omega arith) (omega arith), sum_range_same f g (a + 1) n (λ k l m. h k (omega (arith, l)) (omega (arith, m))))

sum_range_none : (f : ℕ → ℕ) (p a n : ℕ) → ((k : ℕ) → k ≢ p → f k ≡ 0) → p < a → sum_by f (range_with_len a n) ≡ 0
sum_range_none f p a zero h l = refl
sum_range_none f p a (suc n) h l = omega (arith, sum_by-cons f a (range_with_len (a + 1) n), h a (omega arith), sum_range_none f p (a + 1) n h (omega (arith, l)))

-- a sum with one term
pub sum_range_one : (f : ℕ → ℕ) (p a n : ℕ) → ((k : ℕ) → k ≢ p → f k ≡ 0) → a ≤ p → p < a + n → sum_by f (range_with_len a n) ≡ f p
sum_range_one f p a zero h l m = absurd (omega (arith, l, m))
sum_range_one f p a (suc n) h l m = elim (cases_eq a p) [
  | inl e ↦ omega (arith, sum_by-cons f a (range_with_len (a + 1) n), ap f e, sum_range_none f p (a + 1) n h (omega (arith, e)))
  | inr d ↦ omega (arith, sum_by-cons f a (range_with_len (a + 1) n), h a d, sum_range_one f p (a + 1) n h (omega (arith, l, d)) (omega (arith, m)))
]

-- a list by its places
pub by_places : (xs : List ℕ) → map (slice_index xs) (numbers_below (length xs)) ≡ xs
by_places xs = sym (fill_by_all (slice_index xs) xs (length xs) 0 refl (λ k h. refl))

pub sum_by_places : (f : ℕ → ℕ) (xs : List ℕ) → sum_by (λ p. f (slice_index xs p)) (numbers_below (length xs)) ≡ sum_by f xs
sum_by_places f xs = sym (sum-map f (slice_index xs) (numbers_below (length xs))) ∙ ap (sum_by f) (by_places xs)

-- sorting keeps each sum
sum_step : (f : Reading → ℕ) (c : Bool) (a b : Reading) (bs : List Reading) → sum_by f (insert_reading a bs) ≡ f a + sum_by f bs → sum_by f (cond c (b ∷ insert_reading a bs) (a ∷ b ∷ bs)) ≡ f a + sum_by f (b ∷ bs)
sum_step f true a b bs h = omega (arith, h, sum_by-cons f b (insert_reading a bs), sum_by-cons f b bs)
sum_step f false a b bs h = sum_by-cons f a (b ∷ bs)

sum_by-insert_reading : (f : Reading → ℕ) (a : Reading) (bs : List Reading) → sum_by f (insert_reading a bs) ≡ f a + sum_by f bs
sum_by-insert_reading f a [] = sum_by-cons f a []
sum_by-insert_reading f a (b ∷ bs) = sum_step f (comes_before b a) a b bs (sum_by-insert_reading f a bs)

pub sum_by-sorted_readings : (f : Reading → ℕ) (bs : List Reading) → sum_by f (sorted_readings bs) ≡ sum_by f bs
sum_by-sorted_readings f [] = refl
sum_by-sorted_readings f (a ∷ bs) = omega (arith, sum_by-insert_reading f a (sorted_readings bs), sum_by-sorted_readings f bs, sum_by-cons f a bs)
