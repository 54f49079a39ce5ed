-- A Give keeps fit the workers that it sends to.
use Rattle.std.proofs.Common.{◌≡◌, ◌≢◌, ℕ, zero, suc, ◌<◌, ◌≤◌, Bool, true, false, cond, ◌==◌, if◌then◌else◌, refl, subst, arith, List, [], ◌∷◌, length, map, filter, flat_map, slice_index, slice_index_or, Contains}
use Rattle.std.specs.List.{AllByRecursion}
use Rattle.std.proofs.lemmas.Bool.{eqb-true, eqb-false, ne_eqb}
use Rattle.graph_core.specs.declared.fragment.Route.{Route}
use Rattle.base_machine.specs.Machine.{Worker, Post, pending_posts, posts_in, posts_to, after_receiving}
use Rattle.base_machine.proofs.Posts.{all_append, all_left, all_right, of_added, added_old, added_new}

-- ---- what a Give posts

each_contained : {X : Type 0} (P : X → Type 0) (xs : List X) → ((x : X) → Contains xs x → P x) → AllByRecursion P xs
each_contained P [] h = tt
each_contained P (x ∷ xs) h = (h x (0, omega arith, refl), each_contained P xs (λ y k. h y (suc k.0, (let l = k.1 in omega (arith, l)), k.2)))

at_contained : {X : Type 0} (P : X → Type 0) (xs : List X) → AllByRecursion P xs → (x : X) → Contains xs x → P x
at_contained {X} P xs h x c = go xs h c.0 c.1 c.2
  where
    go : (xs : List X) → AllByRecursion P xs → (k : ℕ) → k < length xs → slice_index_or xs k x ≡ x → P x
    go [] h k l e = absurd (omega (arith, l))
    go (y ∷ ys) h zero l e = subst P e h.0
    go (y ∷ ys) h (suc k) l e = go ys h.1 k (omega (arith, l)) e

module _ (Q : Post → Type 0) (k : ℕ) where
  -- along the routes of one value
  along : (b : ℕ) (rs : List Route) → ((t : Route) → Contains rs t → t.fragment ≡ k → Q (record { mirror = t.mirror; value = b })) →
      AllByRecursion Q (map (λ t. record { mirror = t.mirror; value = b }) (filter (λ t. t.fragment == k) rs))
  along b [] h = tt
  along b (r ∷ rs) h = go (along b rs (λ t c. h t (suc c.0, (let l = c.1 in omega (arith, l)), c.2))) (r.fragment == k) refl
    where
      go : AllByRecursion Q (map (λ t. record { mirror = t.mirror; value = b }) (filter (λ t. t.fragment == k) rs)) → (s : Bool) → (r.fragment == k) ≡ s →
          AllByRecursion Q (map (λ t. record { mirror = t.mirror; value = b }) (cond s (r ∷ filter (λ t. t.fragment == k) rs) (filter (λ t. t.fragment == k) rs)))
      go again true e = (h r (0, omega arith, refl) (eqb-true r.fragment k e), again)
      go again false e = again

  was_along : (b : ℕ) (rs : List Route) → AllByRecursion Q (map (λ t. record { mirror = t.mirror; value = b }) (filter (λ t. t.fragment == k) rs)) →
      AllByRecursion (λ t. t.fragment ≡ k → Q (record { mirror = t.mirror; value = b })) rs
  was_along b [] h = tt
  was_along b (r ∷ rs) h = go (λ m. was_along b rs m) (r.fragment == k) refl h
    where
      go : (AllByRecursion Q (map (λ t. record { mirror = t.mirror; value = b }) (filter (λ t. t.fragment == k) rs)) → AllByRecursion (λ t. t.fragment ≡ k → Q (record { mirror = t.mirror; value = b })) rs) →
          (s : Bool) → (r.fragment == k) ≡ s →
          AllByRecursion Q (map (λ t. record { mirror = t.mirror; value = b }) (cond s (r ∷ filter (λ t. t.fragment == k) rs) (filter (λ t. t.fragment == k) rs))) →
          AllByRecursion (λ t. t.fragment ≡ k → Q (record { mirror = t.mirror; value = b })) (r ∷ rs)
      go again true e m = ((λ _. m.0), again m.1)
      go again false e m = ((λ f. absurd (eqb-false r.fragment k e f)), again m)

  -- each post is of an owned value that changed, along one of its routes
  pub posts_from_changes : (old new : List ℕ) (routes : List (List Route)) →
      ((p : ℕ) (t : Route) → p < length routes → Contains (slice_index_or routes p []) t → t.fragment ≡ k → Q (record { mirror = t.mirror; value = slice_index new p })) →
      AllByRecursion Q (posts_to k old new routes)
  posts_from_changes old new [] h = tt
  posts_from_changes [] new (r ∷ routes) h = tt
  posts_from_changes (a ∷ old) [] (r ∷ routes) h = tt
  posts_from_changes (a ∷ old) (b ∷ new) (r ∷ routes) h =
      all_append Q (if a == b then [] else map (λ t. record { mirror = t.mirror; value = b }) (filter (λ t. t.fragment == k) r)) (posts_to k old new routes)
      (go (a == b) (along b r (λ t c e. h 0 t (omega arith) c e)))
      (posts_from_changes old new routes (λ p t l c e. h (suc p) t (omega (arith, l)) c e))
    where
      go : (s : Bool) → AllByRecursion Q (map (λ t. record { mirror = t.mirror; value = b }) (filter (λ t. t.fragment == k) r)) →
          AllByRecursion Q (if s then [] else map (λ t. record { mirror = t.mirror; value = b }) (filter (λ t. t.fragment == k) r))
      go true m = tt
      go false m = m

  -- an owned value that changed is posted along each of its routes
  pub changes_are_posted : (old new : List ℕ) (routes : List (List Route)) → length routes ≤ length old → length routes ≤ length new → AllByRecursion Q (posts_to k old new routes) →
      (p : ℕ) (t : Route) → p < length routes → Contains (slice_index_or routes p []) t → t.fragment ≡ k → slice_index old p ≢ slice_index new p → Q (record { mirror = t.mirror; value = slice_index new p })
  changes_are_posted old new [] la lb h p t l c e n = absurd (omega (arith, l))
  changes_are_posted [] new (r ∷ routes) la lb h p t l c e n = absurd (omega (arith, la))
  changes_are_posted (a ∷ old) [] (r ∷ routes) la lb h p t l c e n = absurd (omega (arith, lb))
  changes_are_posted (a ∷ old) (b ∷ new) (r ∷ routes) la lb h zero t l c e n =
      at_contained (λ t. t.fragment ≡ k → Q (record { mirror = t.mirror; value = b })) r
      (was_along b r (go (a == b) (ne_eqb a b n) (all_left Q (if a == b then [] else map (λ t. record { mirror = t.mirror; value = b }) (filter (λ t. t.fragment == k) r)) (posts_to k old new routes) h))) t c e
    where
      go : (s : Bool) → s ≡ false → AllByRecursion Q (if s then [] else map (λ t. record { mirror = t.mirror; value = b }) (filter (λ t. t.fragment == k) r)) →
          AllByRecursion Q (map (λ t. record { mirror = t.mirror; value = b }) (filter (λ t. t.fragment == k) r))
      go true f m = cc
      go false f m = m
  changes_are_posted (a ∷ old) (b ∷ new) (r ∷ routes) la lb h (suc p) t l c e n =
      changes_are_posted old new routes (omega (arith, la)) (omega (arith, lb))
      (all_right Q (if a == b then [] else map (λ t. record { mirror = t.mirror; value = b }) (filter (λ t. t.fragment == k) r)) (posts_to k old new routes) h) p t (omega (arith, l)) c e n

-- ---- the receiver

module _ (Q : Post → Type 0) (j number : ℕ) where
  pub of_received : (posts : List Post) (w : Worker) → AllByRecursion Q (pending_posts w) → AllByRecursion Q posts → AllByRecursion Q (pending_posts (after_receiving j number posts w))
  of_received [] w h k = h
  of_received (p ∷ posts) w h k =
      all_append Q w.start_posts _ (all_left Q w.start_posts (flat_map posts_in w.mail) h) (of_added Q w.mail j number (p ∷ posts) (all_right Q w.start_posts (flat_map posts_in w.mail) h) k)

  pub received_old : (posts : List Post) (w : Worker) → j < length w.mail → AllByRecursion Q (pending_posts (after_receiving j number posts w)) → AllByRecursion Q (pending_posts w)
  received_old [] w l h = h
  received_old (p ∷ posts) w l h =
      all_append Q w.start_posts (flat_map posts_in w.mail) (all_left Q w.start_posts _ h) (added_old Q w.mail j number (p ∷ posts) l (all_right Q w.start_posts _ h))

  pub received_new : (posts : List Post) (w : Worker) → j < length w.mail → AllByRecursion Q (pending_posts (after_receiving j number posts w)) → AllByRecursion Q posts
  received_new [] w l h = tt
  received_new (p ∷ posts) w l h = added_new Q w.mail j number (p ∷ posts) l (all_right Q w.start_posts _ h)
