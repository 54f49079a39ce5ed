-- The places that fell, where one more falls, where none did, and where the list of them is sorted.
use Rattle.std.proofs.Common.{◌≡◌, ◌≢◌, ℕ, zero, suc, ◌+◌, ◌<◌, ◌≤◌, ◌⊎◌, inl, inr, Bool, true, false, not, cond, ◌==◌, List, [], ◌∷◌, ◌++◌, length, take, replicate, slice_index, refl, sym, ◌∙◌, ap, subst, arith, Contains, All}
use Rattle.std.specs.List.{filter, range_with_len}
use Rattle.std.specs.List.Sorted.{IsPermutation, IsNonDecreasingBy}
use Rattle.std.proofs.Math.ListN.{set}
use Rattle.std.proofs.lemmas.Bool.{cases_eq, cases_lt}
use Rattle.std.proofs.lemmas.Bool.Decides.{nat_tests}
use Rattle.std.proofs.lemmas.List.{get_or-replicate, get_or_past, length-replicate, take-append-le, take-take, get_or-set_same, get_or-set_other, length-set, length-take, get_or-take, get_or_default}
use Rattle.std.proofs.lemmas.Grind.{same_number_lists}
use Rattle.std.proofs.lemmas.List.Elements.{All-filter, All-nil, All-cons}
use Rattle.std.proofs.lemmas.List.Sorted.{IsPermutation-refl, IsPermutation-sym, IsPermutation-trans, IsPermutation-cons, IsPermutation-push_more, Contains-permutation, All-permutation, sum_by-IsPermutation}
use Rattle.graph_core.proofs.Lists.{contains_here, contains_later}
use Rattle.pie_core.specs.FallenPlaces.{has_fallen, fallen_since, none_fallen, FallenList, ListsFallen}
use Rattle.pie_core.proofs.Rising.{rising_same, rises_when_sorted, range_rises}

-- ---- numbers of a range that pass a test

-- a test that none passes
nothing_step : (t : ℕ → Bool) (c : Bool) (a : ℕ) (xs : List ℕ) → c ≡ false → xs ≡ [] → cond c (a ∷ xs) xs ≡ []
nothing_step t true a xs e h = absurd (let x : true ≡ false = e in cc)
nothing_step t false a xs e h = h

pub none_pass : (t : ℕ → Bool) (a n : ℕ) → ((p : ℕ) → p < a + n → t p ≡ false) → filter t (range_with_len a n) ≡ []
none_pass t a zero h = refl
none_pass t a (suc n) h = nothing_step t (t a) a (filter t (range_with_len (a + 1) n)) (h a (omega arith)) (none_pass t (a + 1) n (λ p l. h p (omega (arith, l))))

-- one that passes is among them
passes_step : (t : ℕ → Bool) (c : Bool) (a p : ℕ) (xs : List ℕ) → (a ≡ p → c ≡ true) → (a ≢ p → Contains xs p) → Contains (cond c (a ∷ xs) xs) p
passes_step t true a p xs h k = elim (cases_eq a p) [
  | inl e ↦ subst (λ n. Contains (n ∷ xs) p) (sym e) (contains_here p xs)
  | inr d ↦ contains_later a xs p (k d)
]
passes_step t false a p xs h k = elim (cases_eq a p) [
  | inl e ↦ absurd (let x : false ≡ true = h e in cc)
  | inr d ↦ k d
]

pub passes_there : (t : ℕ → Bool) (a n p : ℕ) → a ≤ p → p < a + n → t p ≡ true → Contains (filter t (range_with_len a n)) p
passes_there t a zero p l m e = absurd (omega (arith, l, m))
passes_there t a (suc n) p l m e =
    passes_step t (t a) a p (filter t (range_with_len (a + 1) n)) (λ s. ap t s ∙ e) (λ d. passes_there t (a + 1) n p (omega (arith, l, d)) (omega (arith, m)) e)

all_in : (a n : ℕ) → All (λ p. p < a + n) (range_with_len a n)
all_in a zero = All-nil (λ p. p < a + 0)
all_in a (suc n) =
    All-cons (λ p. p < a + suc n) a (range_with_len (a + 1) n) (omega arith) (subst (λ m. All (λ p. p < m) (range_with_len (a + 1) n)) (omega arith) (all_in (a + 1) n))

-- tests that agree on the range
alike_step : (a : ℕ) (xs ys : List ℕ) (b c : Bool) → b ≡ c → xs ≡ ys → cond b (a ∷ xs) xs ≡ cond c (a ∷ ys) ys
alike_step a xs ys b c e h = ap (λ t. cond t (a ∷ xs) xs) e ∙ ap (λ l. cond c (a ∷ l) l) h

pub pass_alike : (t u : ℕ → Bool) (a n : ℕ) → ((p : ℕ) → p < a + n → t p ≡ u p) → filter t (range_with_len a n) ≡ filter u (range_with_len a n)
pass_alike t u a zero h = refl
pass_alike t u a (suc n) h =
    alike_step a (filter t (range_with_len (a + 1) n)) (filter u (range_with_len (a + 1) n)) (t a) (u a) (h a (omega arith)) (pass_alike t u (a + 1) n (λ p l. h p (omega (arith, l))))

-- ---- two tests that differ at one number

module _ (t u : ℕ → Bool) (p : ℕ) (agree : (q : ℕ) → q ≢ p → t q ≡ u q) where
  beyond : (a n : ℕ) → p < a → filter t (range_with_len a n) ≡ filter u (range_with_len a n)
  beyond a zero l = refl
  beyond a (suc n) l = alike_step a (filter t (range_with_len (a + 1) n)) (filter u (range_with_len (a + 1) n)) (t a) (u a) (agree a (λ e. absurd (omega (arith, l, e)))) (beyond (a + 1) n (omega (arith, l)))

  module _ (out : t p ≡ false) (into : u p ≡ true) where
    here : (xs ys : List ℕ) → xs ≡ ys → IsPermutation (p ∷ cond (t p) (p ∷ xs) xs) (cond (u p) (p ∷ ys) ys)
    here xs ys h =
        subst (λ c. IsPermutation (p ∷ cond c (p ∷ xs) xs) (cond (u p) (p ∷ ys) ys)) (sym out)
        (subst (λ c. IsPermutation (p ∷ xs) (cond c (p ∷ ys) ys)) (sym into) (subst (λ l. IsPermutation (p ∷ xs) (p ∷ l)) h (IsPermutation-refl (p ∷ xs))))

    there : (c : Bool) (a : ℕ) (xs ys : List ℕ) → IsPermutation (p ∷ xs) ys → IsPermutation (p ∷ cond c (a ∷ xs) xs) (cond c (a ∷ ys) ys)
    there true a xs ys h =
        IsPermutation-trans (p ∷ a ∷ xs) (a ∷ p ∷ xs) (a ∷ ys) (record { moves = (0, 1) ∷ []; below = (omega arith, omega arith, tt); is = refl }) (IsPermutation-cons a (p ∷ xs) ys h)
    there false a xs ys h = h

    pub one_more_passes : (a n : ℕ) → a ≤ p → p < a + n → IsPermutation (p ∷ filter t (range_with_len a n)) (filter u (range_with_len a n))
    one_more_passes a zero l m = absurd (omega (arith, l, m))
    one_more_passes a (suc n) l m = elim (cases_eq a p) [
      | inl e ↦ subst (λ b. IsPermutation (p ∷ filter t (range_with_len b (suc n))) (filter u (range_with_len b (suc n)))) (sym e) (here (filter t (range_with_len (p + 1) n)) (filter u (range_with_len (p + 1) n)) (beyond (p + 1) n (omega arith)))
      | inr d ↦ subst (λ c. IsPermutation (p ∷ filter t (range_with_len a (suc n))) (cond c (a ∷ filter u (range_with_len (a + 1) n)) (filter u (range_with_len (a + 1) n)))) (agree a d)
          (there (t a) a (filter t (range_with_len (a + 1) n)) (filter u (range_with_len (a + 1) n)) (one_more_passes (a + 1) n (omega (arith, l, d)) (omega (arith, m))))
    ]

-- ---- the list that is kept

eq_self : (a : ℕ) → not (a == a) ≡ false
eq_self a = grind (arith, nat_tests)

same_value : (a b : ℕ) → a ≡ b → not (a == b) ≡ false
same_value a b e = grind (arith, nat_tests, e)

other_value : (a b : ℕ) → a ≢ b → not (a == b) ≡ true
other_value a b d = grind (arith, nat_tests, d)

module _ (before values : List ℕ) where
  pub lists_none : ((p : ℕ) → p < length before → slice_index before p ≡ slice_index values p) → ListsFallen before values none_fallen
  lists_none h = record {
    kept = λ k. subst (λ l. IsPermutation l []) (sym (none_pass (has_fallen before values) 0 (length before) (λ p l. same_value (slice_index before p) (slice_index values p) (h p (omega (arith, l)))))) (IsPermutation-refl []);
    sorted = λ s. absurd (let x : false ≡ true = s in cc);
  }

  pub lists_given_up : (list : FallenList) → list.is_kept ≡ false → list.is_sorted ≡ false → ListsFallen before values list
  lists_given_up list k s = record { kept = λ e. absurd (let x : true ≡ false = sym e ∙ k in cc); sorted = λ e. absurd (let x : true ≡ false = sym e ∙ s in cc) }

  -- a sorted list of the places that fell
  pub sorted_is : (places : List ℕ) → IsPermutation (fallen_since before values) places → IsNonDecreasingBy (λ n. n) places → places ≡ fallen_since before values
  sorted_is places p s =
      rising_same 0 places (fallen_since before values) (rises_when_sorted places s) (range_rises (has_fallen before values) 0 0 (length before) (omega arith)) (λ f. sum_by-IsPermutation f (fallen_since before values) places p)

  pub all_owned : All (λ p. p < length before) (fallen_since before values)
  all_owned = All-filter (has_fallen before values) (λ p. p < length before) (range_with_len 0 (length before))
      (let none : 0 + length before ≡ length before = omega arith in subst (λ n. All (λ p. p < n) (range_with_len 0 (length before))) none (all_in 0 (length before)))

  pub listed_owned : (places : List ℕ) → IsPermutation (fallen_since before values) places → All (λ p. p < length before) places
  listed_owned places h = All-permutation (λ p. p < length before) (fallen_since before values) places h all_owned

  pub fallen_listed : (places : List ℕ) → IsPermutation (fallen_since before values) places → (p : ℕ) → p < length before → slice_index before p ≢ slice_index values p → Contains places p
  fallen_listed places h p l d =
      Contains-permutation (fallen_since before values) places p h
      (passes_there (has_fallen before values) 0 (length before) p (omega arith) (omega (arith, l)) (other_value (slice_index before p) (slice_index values p) d))

  pub lists_sorted : (list : FallenList) → ListsFallen before values list → (new : FallenList) → new.is_kept ≡ list.is_kept → new.is_sorted ≡ list.is_kept → IsPermutation list.places new.places
      → (list.is_kept ≡ true → IsNonDecreasingBy (λ n. n) new.places) → ListsFallen before values new
  lists_sorted list listed new k s same rises =
      let kept : new.is_kept ≡ true → IsPermutation (fallen_since before values) new.places
      = λ e. IsPermutation-trans (fallen_since before values) list.places new.places (listed.kept (sym k ∙ e)) same
      in record { kept = kept; sorted = λ e. sorted_is new.places (kept (k ∙ (sym s ∙ e))) (rises (sym s ∙ e)) }

  -- the value of a place becomes another one
  module _ (place value : ℕ) (list : FallenList) (listed : ListsFallen before values list) where
    tests_elsewhere : (q : ℕ) → q ≢ place → has_fallen before values q ≡ has_fallen before (set values place value) q
    tests_elsewhere q d = ap (λ n. not (slice_index before q == n)) (sym (get_or-set_other values place q value 0 d))

    pub lists_same : (place < length before → has_fallen before values place ≡ has_fallen before (set values place value) place) → ListsFallen before (set values place value) list
    lists_same h =
        let tests : (q : ℕ) → q < 0 + length before → has_fallen before values q ≡ has_fallen before (set values place value) q
        = λ q l. elim (cases_eq q place) [
          | inl e ↦ subst (λ n. has_fallen before values n ≡ has_fallen before (set values place value) n) (sym e) (h (omega (arith, l, e)))
          | inr d ↦ tests_elsewhere q d
        ]
        in let same : fallen_since before values ≡ fallen_since before (set values place value)
        = pass_alike (has_fallen before values) (has_fallen before (set values place value)) 0 (length before) tests
        in record { kept = λ k. subst (λ l. IsPermutation l list.places) same (listed.kept k); sorted = λ s. listed.sorted s ∙ same }

    pub lists_added : (new : FallenList) → place < length before → has_fallen before values place ≡ false → has_fallen before (set values place value) place ≡ true
        → (new.is_kept ≡ true → (list.is_kept ≡ true) × (new.places ≡ list.places ++ place ∷ [])) → new.is_sorted ≡ false → ListsFallen before (set values place value) new
    lists_added new l out into k s =
        let more : IsPermutation (place ∷ fallen_since before values) (fallen_since before (set values place value))
        = one_more_passes (has_fallen before values) (has_fallen before (set values place value)) place tests_elsewhere out into 0 (length before) (omega arith) (omega (arith, l))
        in record {
          kept = λ e.
              let a = k e
              in let old = listed.kept a.0
              in subst (IsPermutation (fallen_since before (set values place value))) (sym a.1)
              (IsPermutation-sym (list.places ++ place ∷ []) (fallen_since before (set values place value))
              (IsPermutation-push_more list.places (fallen_since before values) (fallen_since before (set values place value)) place (IsPermutation-sym (fallen_since before values) list.places old) more));
          sorted = λ e. absurd (let x : true ≡ false = sym e ∙ s in cc);
        }

    -- the same by what is tested
    at_place : place < length values → slice_index (set values place value) place ≡ value
    at_place l = get_or-set_same values place value 0 l

    pub note_beyond : length before ≤ place → ListsFallen before (set values place value) list
    note_beyond l = lists_same (λ m. absurd (omega (arith, l, m)))

    pub note_added : (new : FallenList) → place < length values → place < length before → slice_index values place ≡ slice_index before place → value ≢ slice_index before place
        → (new.is_kept ≡ true → (list.is_kept ≡ true) × (new.places ≡ list.places ++ place ∷ [])) → new.is_sorted ≡ false → ListsFallen before (set values place value) new
    note_added new m l was is =
        lists_added new l (same_value (slice_index before place) (slice_index values place) (sym was)) (other_value (slice_index before place) (slice_index (set values place value) place) (λ e. is (sym (e ∙ at_place m))))

-- no place fell where all values are 0
zero_at : (n p : ℕ) → slice_index (replicate n 0) p ≡ 0
zero_at n p = elim (cases_lt p n) [
  | inl l ↦ get_or-replicate n p 0 0 l
  | inr l ↦ get_or_past (replicate n 0) p 0 (omega (arith, l, length-replicate {A = ℕ} n 0))
]

pub lists_zeros : (before values : List ℕ) (m n : ℕ) (list : FallenList) → before ≡ replicate m 0 → values ≡ replicate n 0 → list ≡ none_fallen → ListsFallen before values list
lists_zeros before values m n list b v l =
    subst (λ x. ListsFallen x values list) (sym b)
    (subst (λ x. ListsFallen (replicate m 0) x list) (sym v) (subst (ListsFallen (replicate m 0) (replicate n 0)) (sym l) (lists_none (replicate m 0) (replicate n 0) (λ p h. zero_at m p ∙ sym (zero_at n p)))))

-- and none where the values of before are the present ones
lists_settled : (n : ℕ) (values : List ℕ) → n ≤ length values → ListsFallen (take n values) values none_fallen
lists_settled n values l = lists_none (take n values) values (λ p h. get_or-take n values p 0 (omega (arith, h, length-take n values)))

pub lists_copied : (before values new rest : List ℕ) (n : ℕ) (list : FallenList) → list ≡ none_fallen → new ≡ take (length before) values → n ≡ length before → n ≤ length values → ListsFallen (take n (new ++ rest)) values list
lists_copied before values new rest n list l e m long =
    let same : new ≡ take n values = e ∙ ap (λ k. take k values) (sym m)
    in let here : take n (new ++ rest) ≡ take n values
    = take-append-le n new rest (omega (arith, ap (λ (x : List ℕ). length x) same, length-take n values, long)) ∙ (ap (take n) same ∙ take-take n n values (omega arith))
    in subst (λ x. ListsFallen x values list) (sym here) (subst (ListsFallen (take n values) values) (sym l) (lists_settled n values long))

-- ---- the values of listed places are copied

pub record AreCopied (before values places : List ℕ) (n : ℕ) (now : List ℕ) : Type 0 where
  pub long : length now ≡ length before
  pub each : (q : ℕ) → (slice_index now q ≡ slice_index before q) ⊎ (slice_index now q ≡ slice_index values q)
  pub so_far : (k : ℕ) → k < n → slice_index now (slice_index places k) ≡ slice_index values (slice_index places k)

module _ (before values places : List ℕ) where
  pub copied_none : AreCopied before values places 0 before
  copied_none = record { long = refl; each = λ q. inl refl; so_far = λ k l. absurd (omega (arith, l)) }

  pub copied_more : (n : ℕ) (now : List ℕ) (p : ℕ) → slice_index places n ≡ p → p < length before → AreCopied before values places n now → AreCopied before values places (n + 1) (set now p (slice_index values p))
  copied_more n now p e l h =
      let x : ℕ = slice_index values p
      in let inside : p < length now = omega (arith, l, h.long)
      in let at : (q : ℕ) → q ≡ p → slice_index (set now p x) q ≡ slice_index values q
      = λ q f. subst (λ m. slice_index (set now p x) m ≡ slice_index values m) (sym f) (get_or-set_same now p x 0 inside)
      in record {
        long = length-set now p x ∙ h.long;
        each = λ q. elim (cases_eq q p) [
          | inl f ↦ inr (at q f)
          | inr d ↦ elim (h.each q) [ inl g ↦ inl (get_or-set_other now p q x 0 d ∙ g) | inr g ↦ inr (get_or-set_other now p q x 0 d ∙ g) ]
        ];
        so_far = λ k m. elim (cases_eq (slice_index places k) p) [
          | inl f ↦ at (slice_index places k) f
          | inr d ↦ elim (cases_eq k n) [
            | inl g ↦ absurd (d (ap (slice_index places) g ∙ e))
            | inr g ↦ get_or-set_other now p (slice_index places k) x 0 d ∙ h.so_far k (omega (arith, m, g))
          ]
        ];
      }

  pub copied_all : (now : List ℕ) → length before ≤ length values → ((p : ℕ) → p < length before → slice_index before p ≢ slice_index values p → Contains places p) → AreCopied before values places (length places) now
      → now ≡ take (length before) values
  copied_all now l listed h =
      same_number_lists now (take (length before) values) (omega (arith, h.long, length-take (length before) values, l))
      (λ q m. here q (omega (arith, m, h.long)) ∙ sym (get_or-take (length before) values q 0 (omega (arith, m, h.long))))
    where
      here : (q : ℕ) → q < length before → slice_index now q ≡ slice_index values q
      here q m = elim (h.each q) [
        | inl e ↦ elim (cases_eq (slice_index before q) (slice_index values q)) [
          | inl f ↦ e ∙ f
          | inr d ↦
              let c = listed q m d
              in let at : slice_index places c.0 ≡ q = get_or_default places c.0 0 q c.1 ∙ c.2
              in subst (λ n. slice_index now n ≡ slice_index values n) at (h.so_far c.0 c.1)
        ]
        | inr e ↦ e
      ]
