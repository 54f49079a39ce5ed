-- Counters, and what they count.
use Rattle.std.proofs.Common.{◌≡◌, ◌≢◌, ℕ, zero, suc, ◌+◌, ◌*◌, ◌<◌, ◌≤◌, inl, inr, Bool, true, false, cond, ◌==◌, ◌&&◌, refl, sym, ◌∙◌, ap, arith, mul-le-mul_right, List, [], ◌∷◌, length, slice_index, slice_index_or, Contains}
use Rattle.std.specs.Prelude.{slice_set, sum_by, count_by}
use Rattle.std.specs.List.{list_any, range_with_len}
use Rattle.std.proofs.lemmas.Bool.{cases_eq, cases_lt, eq-eqb, ne_eqb, or_cases, or_left, or_right}
use Rattle.std.proofs.lemmas.List.{get_or-set_same, get_or-set_other}
use Rattle.std.proofs.lemmas.List.Sums.{sum_by-cons}
use Rattle.graph_core.specs.declared.fragment.Reading.{Reading}
use Rattle.graph_core.specs.Parts.{FragmentLists, place_count}
use Rattle.graph_core.specs.Queries.{has_bit}
use Rattle.graph_core.specs.Theorems.{times_in, ReadersAreTurnedReadings}
use Rattle.graph_core.proofs.Lists.{contains_here, contains_later}
use Rattle.graph_core.proofs.Sums.{sum_range_one}
use Rattle.pie_sim.specs.Counting.{times_read, times_placed, counter_at}

abbrev one_or_none : Bool → ℕ
one_or_none b = cond b 1 0

-- ---- where a counter stands

pub in_room : (k n p c : ℕ) → p < k → c < n → p * n + c < k * n
in_room k n p c h l = let m : suc p * n ≤ k * n = mul-le-mul_right n (omega (arith, h)) in omega (arith, m, l)

rows_apart : (n p q c d : ℕ) → c < n → p < q → p * n + c ≢ q * n + d
rows_apart n p q c d l h e = let m : suc p * n ≤ q * n = mul-le-mul_right n (omega (arith, h)) in absurd (omega (arith, m, l, e))

pub places_apart : (n p q c d : ℕ) → c < n → d < n → p ≢ q → p * n + c ≢ q * n + d
places_apart n p q c d l m apart e = elim (cases_lt p q) [
  | inl h ↦ rows_apart n p q c d l h e
  | inr h ↦ rows_apart n q p d c m (omega (arith, h, apart)) (sym e)
]

module _ (width : ℕ) (counters : List ℕ) (q d value : ℕ) where
  abbrev set_there : List ℕ
  set_there = slice_set counters (q * width + d) value

  pub set_same : q * width + d < length counters → counter_at width set_there q d ≡ value
  set_same inside = get_or-set_same counters (q * width + d) value 0 inside

  pub set_place : (p c : ℕ) → c < width → d < width → p ≢ q → counter_at width set_there p c ≡ counter_at width counters p c
  set_place p c l m apart = get_or-set_other counters (q * width + d) (p * width + c) value 0 (places_apart width p q c d l m apart)

  pub set_column : (p c : ℕ) → c < width → d < width → c ≢ d → counter_at width set_there p c ≡ counter_at width counters p c
  set_column p c l m apart = get_or-set_other counters (q * width + d) (p * width + c) value 0 (λ e. elim (cases_eq p q) [
    | inl same ↦ let here = ap (λ i. i * width + c) same in absurd (omega (arith, e, here, apart))
    | inr other ↦ places_apart width p q c d l m other e
  ])

-- ---- a count that isn't 0

module _ {X : Type 0} (test : X → Bool) where
  abbrev one_if : X → ℕ
  one_if x = cond (test x) 1 0

  pub some-count : (xs : List X) → list_any test xs ≡ true → 1 ≤ count_by test xs
  some-count [] e = absurd (let x : false ≡ true = e in cc)
  some-count (x ∷ xs) e = elim (or_cases (test x) (list_any test xs) e) [
    | inl t ↦ let one = ap one_or_none t in omega (arith, sum_by-cons one_if x xs, one)
    | inr t ↦ omega (arith, sum_by-cons one_if x xs, some-count xs t)
  ]

  pub count-some : (xs : List X) → 1 ≤ count_by test xs → list_any test xs ≡ true
  count-some [] h = absurd (omega (arith, h))
  count-some (x ∷ xs) h = go (test x) refl (λ l. count-some xs l)
    where
      go : (b : Bool) → test x ≡ b → (1 ≤ count_by test xs → list_any test xs ≡ true) → list_any test (x ∷ xs) ≡ true
      go true e again = or_left (test x) (list_any test xs) e
      go false e again = let none = ap one_or_none e in or_right (test x) (list_any test xs) (again (omega (arith, sum_by-cons one_if x xs, none, h)))

-- ---- what is read of a place, whatever the weight

sum_range_add : (f g h : ℕ → ℕ) (a n : ℕ) → ((k : ℕ) → f k ≡ g k + h k) → sum_by f (range_with_len a n) ≡ sum_by g (range_with_len a n) + sum_by h (range_with_len a n)
sum_range_add f g h a zero e = refl
sum_range_add f g h a (suc n) e =
    omega (arith, sum_by-cons f a (range_with_len (a + 1) n), sum_by-cons g a (range_with_len (a + 1) n), sum_by-cons h a (range_with_len (a + 1) n), e a, sum_range_add f g h (a + 1) n e)

sum_range_zero : (f : ℕ → ℕ) (a n : ℕ) → ((k : ℕ) → f k ≡ 0) → sum_by f (range_with_len a n) ≡ 0
sum_range_zero f a zero e = refl
sum_range_zero f a (suc n) e = omega (arith, sum_by-cons f a (range_with_len (a + 1) n), e a, sum_range_zero f (a + 1) n e)

module _ (place : ℕ) where
  abbrev here : Reading → ℕ → ℕ
  here r weight = cond ((r.place == place) && (r.weight == weight)) 1 0

  here_other : (r : Reading) (weight : ℕ) → weight ≢ r.weight → here r weight ≡ 0
  here_other r weight d = ap (λ b. one_or_none ((r.place == place) && b)) (ne_eqb r.weight weight (λ e. d (sym e))) ∙ none (r.place == place)
    where
      none : (b : Bool) → one_or_none (b && false) ≡ 0
      none true = refl
      none false = refl

  here_same : (r : Reading) → here r r.weight ≡ one_or_none (r.place == place)
  here_same r = ap (λ b. one_or_none ((r.place == place) && b)) (eq-eqb r.weight r.weight refl) ∙ same (r.place == place)
    where
      same : (b : Bool) → one_or_none (b && true) ≡ one_or_none b
      same true = refl
      same false = refl

  all_weights : (row : List Reading) (n : ℕ) → ((r : Reading) → Contains row r → r.weight < n) → sum_by (times_in row place) (range_with_len 0 n) ≡ times_placed row place
  all_weights [] n small = sum_range_zero (times_in [] place) 0 n (λ k. refl)
  all_weights (r ∷ row) n small =
      let cons = λ (weight : ℕ). sum_by-cons (λ (x : Reading). here x weight) r row in
      let split = sum_range_add (times_in (r ∷ row) place) (here r) (times_in row place) 0 n cons in
      let first = sum_range_one (here r) r.weight 0 n (here_other r) (omega arith) (let l = small r (contains_here r row) in omega (arith, l)) in
      let rest = all_weights row n (λ x c. small x (contains_later r row x c)) in
      omega (arith, split, first, here_same r, rest, sum_by-cons (λ (x : Reading). cond (x.place == place) 1 0) r row)

-- a number above all weights of a row
weights_above : List Reading → ℕ
weights_above row = sum_by (λ r. suc r.weight) row

below_above : (row : List Reading) (r : Reading) → Contains row r → r.weight < weights_above row
unfolding weights_above
below_above row r c = le_sum row c.0 c.1 c.2
  where
    le_sum : (row : List Reading) (k : ℕ) → k < length row → slice_index_or row k r ≡ r → r.weight < sum_by (λ (x : Reading). suc x.weight) row
    le_sum [] k l e = absurd (omega (arith, l))
    le_sum (x ∷ xs) zero l e = omega (arith, sum_by-cons (λ (y : Reading). suc y.weight) x xs, ap (λ (y : Reading). y.weight) e)
    le_sum (x ∷ xs) (suc k) l e = omega (arith, sum_by-cons (λ (y : Reading). suc y.weight) x xs, le_sum xs k (omega (arith, l)) e)

sum_same : (f g : ℕ → ℕ) (xs : List ℕ) → ((k : ℕ) → f k ≡ g k) → sum_by f xs ≡ sum_by g xs
sum_same f g [] h = refl
sum_same f g (x ∷ xs) h = omega (arith, sum_by-cons f x xs, sum_by-cons g x xs, h x, sum_same f g xs h)

-- a place stands among the readers of another as often as it reads it
pub placed-turned : (part : FragmentLists) → ReadersAreTurnedReadings part → (p q : ℕ) → p < length part.owned → q < place_count part → times_placed (slice_index_or part.readers q []) p ≡ times_placed (slice_index_or part.readings p []) q
placed-turned part turned p q owned placed =
    let a = slice_index_or part.readers q [] in
    let b = slice_index_or part.readings p [] in
    let n = weights_above a + weights_above b in
    let of_a = all_weights p a n (λ r c. let h = below_above a r c in omega (arith, h)) in
    let of_b = all_weights q b n (λ r c. let h = below_above b r c in omega (arith, h)) in
    sym of_a ∙ sum_same (times_in a p) (times_in b q) (range_with_len 0 n) (λ weight. turned p q weight owned placed) ∙ of_b

-- ---- what is read after a value fell

module _ (xs : List ℕ) (place value m : ℕ) (inside : place < length xs) where
  abbrev after : List ℕ
  after = slice_set xs place value

  abbrev bit_if : List ℕ → Reading → ℕ
  bit_if ys r = cond (has_bit (slice_index ys r.place) m) 1 0

  there : (r : Reading) → r.place ≡ place → has_bit (slice_index after r.place) m ≡ has_bit value m
  there r e = ap (λ i. has_bit (slice_index after i) m) e ∙ ap (λ n. has_bit n m) (get_or-set_same xs place value 0 inside)

  elsewhere : (r : Reading) → r.place ≢ place → has_bit (slice_index after r.place) m ≡ has_bit (slice_index xs r.place) m
  elsewhere r d = ap (λ n. has_bit n m) (get_or-set_other xs place r.place value 0 d)

  pub times-fell : has_bit (slice_index xs place) m ≡ true → has_bit value m ≡ false → (row : List Reading) → times_read row after m + times_placed row place ≡ times_read row xs m
  times-fell had lost [] = refl
  times-fell had lost (r ∷ row) =
      let count_after = sum_by-cons (bit_if after) r row in
      let count_before = sum_by-cons (bit_if xs) r row in
      let count_placed = sum_by-cons (λ (x : Reading). cond (x.place == place) 1 0) r row in
      let again = times-fell had lost row in
      elim (cases_eq r.place place) [
        | inl e ↦
            let now = ap one_or_none (there r e ∙ lost) in
            let before = ap one_or_none (ap (λ i. has_bit (slice_index xs i) m) e ∙ had) in
            let one = ap one_or_none (eq-eqb r.place place e) in
            omega (arith, count_after, count_before, count_placed, again, now, before, one)
        | inr d ↦
            let same = ap one_or_none (elsewhere r d) in
            let none = ap one_or_none (ne_eqb r.place place d) in
            omega (arith, count_after, count_before, count_placed, again, same, none)
      ]

  pub times-same : has_bit value m ≡ has_bit (slice_index xs place) m → (row : List Reading) → times_read row after m ≡ times_read row xs m
  times-same kept [] = refl
  times-same kept (r ∷ row) =
      let count_after = sum_by-cons (bit_if after) r row in
      let count_before = sum_by-cons (bit_if xs) r row in
      let again = times-same kept row in
      elim (cases_eq r.place place) [
        | inl e ↦ let same = ap one_or_none (there r e ∙ kept ∙ sym (ap (λ i. has_bit (slice_index xs i) m) e)) in omega (arith, count_after, count_before, again, same)
        | inr d ↦ let same = ap one_or_none (elsewhere r d) in omega (arith, count_after, count_before, again, same)
      ]
