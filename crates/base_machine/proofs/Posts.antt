-- Facts of each pending post, through what a Take takes and what a Give adds.
use Rattle.std.proofs.Common.{◌≡◌, ℕ, zero, suc, ◌<◌, Bool, true, false, cond, ◌==◌, nat_le, nat_lt, refl, arith, List, [], ◌∷◌, ◌++◌, length, map, filter, flat_map, slice_index_or, slice_set, replicate}
use Rattle.std.specs.List.{AllByRecursion}
use Rattle.std.proofs.lemmas.Bool.{eqb-true, eqb-false, leb-false, lt-ltb}
use Rattle.value_order.specs.declared.order.Order.{Order}
use Rattle.value_order.specs.Order.{Below}
use Rattle.base_machine.specs.Machine.{Post, Batch, posts_in, values_for, taken_batches, left_batches}

module _ {X : Type 0} (P : X → Type 0) where
  pub all_append : (xs ys : List X) → AllByRecursion P xs → AllByRecursion P ys → AllByRecursion P (xs ++ ys)
  all_append [] ys h k = k
  all_append (x ∷ xs) ys h k = (h.0, all_append xs ys h.1 k)

  pub all_left : (xs ys : List X) → AllByRecursion P (xs ++ ys) → AllByRecursion P xs
  all_left [] ys h = tt
  all_left (x ∷ xs) ys h = (h.0, all_left xs ys h.1)

  pub all_right : (xs ys : List X) → AllByRecursion P (xs ++ ys) → AllByRecursion P ys
  all_right [] ys h = h
  all_right (x ∷ xs) ys h = all_right xs ys h.1

pub all_since : {X : Type 0} (P Q : X → Type 0) → ((x : X) → P x → Q x) → (xs : List X) → AllByRecursion P xs → AllByRecursion Q xs
all_since P Q f [] h = tt
all_since P Q f (x ∷ xs) h = (f x h.0, all_since P Q f xs h.1)

-- ---- what is taken and what is left

module _ (Q : Post → Type 0) where
  filtered : (test : Batch → Bool) (bs : List Batch) → AllByRecursion Q (posts_in bs) → AllByRecursion Q (posts_in (filter test bs))
  filtered test [] h = tt
  filtered test (b ∷ bs) h = go (filtered test bs (all_right Q b.posts (posts_in bs) h)) (test b)
    where
      go : AllByRecursion Q (posts_in (filter test bs)) → (t : Bool) → AllByRecursion Q (posts_in (cond t (b ∷ filter test bs) (filter test bs)))
      go again true = all_append Q b.posts (posts_in (filter test bs)) (all_left Q b.posts (posts_in bs) h) again
      go again false = again

  -- each batch is numbered at most u or above u
  joined : (u : ℕ) (bs : List Batch) → AllByRecursion Q (posts_in (filter (λ b. nat_le b.number u) bs)) → AllByRecursion Q (posts_in (filter (λ b. nat_lt u b.number) bs)) → AllByRecursion Q (posts_in bs)
  joined u [] h k = tt
  joined u (b ∷ bs) h k = go (λ h' k'. joined u bs h' k') (nat_le b.number u) refl (nat_lt u b.number) refl h k
    where
      low : List Batch
      low = filter (λ b. nat_le b.number u) bs

      high : List Batch
      high = filter (λ b. nat_lt u b.number) bs

      go : (AllByRecursion Q (posts_in (filter (λ b. nat_le b.number u) bs)) → AllByRecursion Q (posts_in (filter (λ b. nat_lt u b.number) bs)) → AllByRecursion Q (posts_in bs)) →
          (s : Bool) → nat_le b.number u ≡ s → (t : Bool) → nat_lt u b.number ≡ t →
          AllByRecursion Q (posts_in (cond s (b ∷ filter (λ b. nat_le b.number u) bs) (filter (λ b. nat_le b.number u) bs))) →
          AllByRecursion Q (posts_in (cond t (b ∷ filter (λ b. nat_lt u b.number) bs) (filter (λ b. nat_lt u b.number) bs))) →
          AllByRecursion Q (posts_in (b ∷ bs))
      go again true es true et h k = all_append Q b.posts (posts_in bs) (all_left Q b.posts _ h) (again (all_right Q b.posts _ h) (all_right Q b.posts _ k))
      go again true es false et h k = all_append Q b.posts (posts_in bs) (all_left Q b.posts _ h) (again (all_right Q b.posts _ h) k)
      go again false es true et h k = all_append Q b.posts (posts_in bs) (all_left Q b.posts _ k) (again h (all_right Q b.posts _ k))
      go again false es false et h k = let m = leb-false b.number u es in let n = lt-ltb u b.number (omega (arith, m)) in absurd (both n et)
        where
          both : {c : Bool} → c ≡ true → c ≡ false → ⊥
          both p q = cc

  in_both : (xs ys : List Batch) → AllByRecursion Q (posts_in xs) → AllByRecursion Q (posts_in ys) → AllByRecursion Q (posts_in (xs ++ ys))
  in_both [] ys h k = k
  in_both (b ∷ xs) ys h k = all_append Q b.posts _ (all_left Q b.posts _ h) (in_both xs ys (all_right Q b.posts _ h) k)

  in_first : (xs ys : List Batch) → AllByRecursion Q (posts_in (xs ++ ys)) → AllByRecursion Q (posts_in xs)
  in_first [] ys h = tt
  in_first (b ∷ xs) ys h = all_append Q b.posts _ (all_left Q b.posts _ h) (in_first xs ys (all_right Q b.posts _ h))

  in_second : (xs ys : List Batch) → AllByRecursion Q (posts_in (xs ++ ys)) → AllByRecursion Q (posts_in ys)
  in_second [] ys h = h
  in_second (b ∷ xs) ys h = in_second xs ys (all_right Q b.posts _ h)

  pub of_taken : (upto : List ℕ) (mail : List (List Batch)) → AllByRecursion Q (flat_map posts_in mail) → AllByRecursion Q (posts_in (taken_batches upto mail))
  of_taken [] mail h = tt
  of_taken (u ∷ upto) [] h = tt
  of_taken (u ∷ upto) (bs ∷ mail) h =
      in_both (filter (λ b. nat_le b.number u) bs) (taken_batches upto mail) (filtered (λ b. nat_le b.number u) bs (all_left Q (posts_in bs) _ h)) (of_taken upto mail (all_right Q (posts_in bs) _ h))

  pub of_left : (upto : List ℕ) (mail : List (List Batch)) → AllByRecursion Q (flat_map posts_in mail) → AllByRecursion Q (flat_map posts_in (left_batches upto mail))
  of_left [] mail h = h
  of_left (u ∷ upto) [] h = tt
  of_left (u ∷ upto) (bs ∷ mail) h =
      all_append Q _ _ (filtered (λ b. nat_lt u b.number) bs (all_left Q (posts_in bs) _ h)) (of_left upto mail (all_right Q (posts_in bs) _ h))

  pub of_both : (upto : List ℕ) (mail : List (List Batch)) → AllByRecursion Q (posts_in (taken_batches upto mail)) → AllByRecursion Q (flat_map posts_in (left_batches upto mail)) → AllByRecursion Q (flat_map posts_in mail)
  of_both [] mail h k = k
  of_both (u ∷ upto) [] h k = tt
  of_both (u ∷ upto) (bs ∷ mail) h k =
      all_append Q (posts_in bs) _
      (joined u bs (in_first (filter (λ b. nat_le b.number u) bs) (taken_batches upto mail) h) (all_left Q (posts_in (filter (λ b. nat_lt u b.number) bs)) _ k))
      (of_both upto mail (in_second (filter (λ b. nat_le b.number u) bs) (taken_batches upto mail) h) (all_right Q (posts_in (filter (λ b. nat_lt u b.number) bs)) _ k))

  -- mail that got one more batch
  pub of_added : (mail : List (List Batch)) (j number : ℕ) (posts : List Post) → AllByRecursion Q (flat_map posts_in mail) → AllByRecursion Q posts →
      AllByRecursion Q (flat_map posts_in (slice_set mail j (slice_index_or mail j [] ++ record { number = number; posts = posts } ∷ [])))
  of_added [] j number posts h k = tt
  of_added (bs ∷ mail) zero number posts h k =
      all_append Q _ _ (in_both bs _ (all_left Q (posts_in bs) _ h) (all_append Q posts [] k tt)) (all_right Q (posts_in bs) _ h)
  of_added (bs ∷ mail) (suc j) number posts h k = all_append Q (posts_in bs) _ (all_left Q (posts_in bs) _ h) (of_added mail j number posts (all_right Q (posts_in bs) _ h) k)

  pub added_old : (mail : List (List Batch)) (j number : ℕ) (posts : List Post) → j < length mail →
      AllByRecursion Q (flat_map posts_in (slice_set mail j (slice_index_or mail j [] ++ record { number = number; posts = posts } ∷ []))) → AllByRecursion Q (flat_map posts_in mail)
  added_old [] j number posts l h = tt
  added_old (bs ∷ mail) zero number posts l h =
      all_append Q (posts_in bs) _ (in_first bs (record { number = number; posts = posts } ∷ []) (all_left Q (posts_in (bs ++ record { number = number; posts = posts } ∷ [])) _ h)) (all_right Q (posts_in (bs ++ record { number = number; posts = posts } ∷ [])) _ h)
  added_old (bs ∷ mail) (suc j) number posts l h =
      all_append Q (posts_in bs) _ (all_left Q (posts_in bs) _ h) (added_old mail j number posts (omega (arith, l)) (all_right Q (posts_in bs) _ h))

  pub added_new : (mail : List (List Batch)) (j number : ℕ) (posts : List Post) → j < length mail →
      AllByRecursion Q (flat_map posts_in (slice_set mail j (slice_index_or mail j [] ++ record { number = number; posts = posts } ∷ []))) → AllByRecursion Q posts
  added_new [] j number posts l h = absurd (omega (arith, l))
  added_new (bs ∷ mail) zero number posts l h =
      all_left Q posts [] (in_second bs (record { number = number; posts = posts } ∷ []) (all_left Q (posts_in (bs ++ record { number = number; posts = posts } ∷ [])) _ h))
  added_new (bs ∷ mail) (suc j) number posts l h = added_new mail j number posts (omega (arith, l)) (all_right Q (posts_in bs) _ h)

-- ---- lower bounds of what is posted to a mirror

abbrev pub IsPostedAbove : Order → ℕ → ℕ → Post → Type 0
IsPostedAbove o m c p = p.mirror ≡ m → Below o c p.value

pub all_values_of : (R : ℕ → Type 0) (m : ℕ) (posts : List Post) → AllByRecursion (λ p. p.mirror ≡ m → R p.value) posts → AllByRecursion R (values_for m posts)
all_values_of R m [] h = tt
all_values_of R m (p ∷ posts) h = go (all_values_of R m posts h.1) (p.mirror == m) refl
  where
    go : AllByRecursion R (values_for m posts) → (t : Bool) → (p.mirror == m) ≡ t →
        AllByRecursion R (map (λ q. q.value) (cond t (p ∷ filter (λ q. q.mirror == m) posts) (filter (λ q. q.mirror == m) posts)))
    go again true e = (h.0 (eqb-true p.mirror m e), again)
    go again false e = again

pub all_values : (o : Order) (m c : ℕ) (posts : List Post) → AllByRecursion (IsPostedAbove o m c) posts → AllByRecursion (Below o c) (values_for m posts)
all_values o m c posts h = all_values_of (Below o c) m posts h

pub values_all : (o : Order) (m c : ℕ) (posts : List Post) → AllByRecursion (Below o c) (values_for m posts) → AllByRecursion (IsPostedAbove o m c) posts
values_all o m c [] h = tt
values_all o m c (p ∷ posts) h = go (λ k. values_all o m c posts k) (p.mirror == m) refl h
  where
    go : (AllByRecursion (Below o c) (values_for m posts) → AllByRecursion (IsPostedAbove o m c) posts) → (t : Bool) → (p.mirror == m) ≡ t →
        AllByRecursion (Below o c) (map (λ q. q.value) (cond t (p ∷ filter (λ q. q.mirror == m) posts) (filter (λ q. q.mirror == m) posts))) → AllByRecursion (IsPostedAbove o m c) (p ∷ posts)
    go again true e k = ((λ _. k.0), again k.1)
    go again false e k = ((λ r. absurd (eqb-false p.mirror m e r)), again k)

-- ---- queues

pub no_queued : (n : ℕ) → flat_map posts_in (replicate n []) ≡ []
no_queued zero = refl
no_queued (suc n) = no_queued n

pub filtered_all : (P : Batch → Type 0) (test : Batch → Bool) (bs : List Batch) → AllByRecursion P bs → AllByRecursion P (filter test bs)
filtered_all P test [] h = tt
filtered_all P test (b ∷ bs) h = go (filtered_all P test bs h.1) (test b)
  where
    go : AllByRecursion P (filter test bs) → (t : Bool) → AllByRecursion P (cond t (b ∷ filter test bs) (filter test bs))
    go again true = (h.0, again)
    go again false = again

pub left_all : (P : Batch → Type 0) (upto : List ℕ) (mail : List (List Batch)) (j : ℕ) → AllByRecursion P (slice_index_or mail j []) → AllByRecursion P (slice_index_or (left_batches upto mail) j [])
left_all P [] mail j h = h
left_all P (u ∷ upto) [] j h = h
left_all P (u ∷ upto) (bs ∷ mail) zero h = filtered_all P (λ b. nat_lt u b.number) bs h
left_all P (u ∷ upto) (bs ∷ mail) (suc j) h = left_all P upto mail j h
