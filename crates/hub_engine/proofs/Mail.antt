-- A Take takes all mail that waits, and leaves none.
use Rattle.std.proofs.Common.{◌≡◌, ℕ, zero, suc, ◌+◌, ◌<◌, ◌≤◌, nat_lt, nat_le, cond, refl, sym, ◌∙◌, ap, subst, arith, List, [], ◌∷◌, ◌++◌, length, map, filter, flat_map, slice_index, slice_index_or, replicate, sum_by}
use Rattle.std.specs.List.{AllByRecursion, range_with_len}
use Rattle.std.proofs.lemmas.Bool.{le-leb, le-ltb}
use Rattle.std.proofs.lemmas.List.Sums.{sum_by-cons}
use Rattle.value_order.specs.declared.order.Order.{Order}
use Rattle.value_order.specs.declared.TheConstants.{NOTHING}
use Rattle.graph_core.specs.Fragments.{Piece, numbers_below}
use Rattle.grape_event.specs.declared.event.Event.{Event}
use Rattle.base_machine.specs.Machine.{System, Worker, Batch, posts_in, met_posts, pending_posts, taken_batches, left_batches, after_taking, batches_waiting}
use Rattle.legal_journal.specs.Past.{gives_of_each}
use Rattle.legal_journal.proofs.Journals.{IsCounted, counts-length, counts-at}
use Rattle.legal_journal.proofs.Recording.{posts_append}

-- ---- batches up to a number

keeps_all : (u : ℕ) (bs : List Batch) → AllByRecursion (λ (b : Batch). b.number ≤ u) bs → filter (λ b. nat_le b.number u) bs ≡ bs
keeps_all u [] h = refl
keeps_all u (b ∷ bs) h =
    ap (λ t. cond t (b ∷ filter (λ c. nat_le c.number u) bs) (filter (λ c. nat_le c.number u) bs)) (le-leb b.number u h.0) ∙ ap (λ l. b ∷ l) (keeps_all u bs h.1)

keeps_none : (u : ℕ) (bs : List Batch) → AllByRecursion (λ (b : Batch). b.number ≤ u) bs → filter (λ b. nat_lt u b.number) bs ≡ []
keeps_none u [] h = refl
keeps_none u (b ∷ bs) h =
    ap (λ t. cond t (b ∷ filter (λ c. nat_lt u c.number) bs) (filter (λ c. nat_lt u c.number) bs)) (le-ltb u b.number h.0) ∙ keeps_none u bs h.1

-- each queue has numbers up to what upto says
abbrev AreUpTo : List ℕ → List (List Batch) → Type 0
AreUpTo upto mail = (k : ℕ) → k < length mail → AllByRecursion (λ (b : Batch). b.number ≤ slice_index upto k) (slice_index_or mail k [])

taken_all : (upto : List ℕ) (mail : List (List Batch)) → length mail ≡ length upto → AreUpTo upto mail → posts_in (taken_batches upto mail) ≡ flat_map posts_in mail
taken_all [] [] e h = refl
taken_all [] (m ∷ mail) e h = absurd (omega (arith, e))
taken_all (u ∷ upto) [] e h = absurd (omega (arith, e))
taken_all (u ∷ upto) (m ∷ mail) e h =
    ap (λ l. posts_in (l ++ taken_batches upto mail)) (keeps_all u m (h 0 (omega arith)))
    ∙ (posts_append m (taken_batches upto mail) ∙ ap (λ l. posts_in m ++ l) (taken_all upto mail (omega (arith, e)) (λ k q. h (suc k) (omega (arith, q)))))

left_none : (upto : List ℕ) (mail : List (List Batch)) → length mail ≡ length upto → AreUpTo upto mail → sum_by length (left_batches upto mail) ≡ 0
left_none [] [] e h = refl
left_none [] (m ∷ mail) e h = absurd (omega (arith, e))
left_none (u ∷ upto) [] e h = absurd (omega (arith, e))
left_none (u ∷ upto) (m ∷ mail) e h =
    let s = sum_by-cons {X = List Batch} length (filter (λ b. nat_lt u b.number) m) (left_batches upto mail) in
    let z = ap {B = ℕ} (λ (l : List Batch). length l) (keeps_none u m (h 0 (omega arith))) in
    let r = left_none upto mail (omega (arith, e)) (λ k q. h (suc k) (omega (arith, q))) in
    omega (arith, s, z, r)

-- ---- a worker's Take up to all Gives so far

module _ (sys : System) (piece : Piece) (n : ℕ) (past : List Event) (w : Worker) (c : IsCounted n past w) where
  upto : List ℕ
  upto = gives_of_each (numbers_below n) past

  same_length : length w.mail ≡ length (gives_of_each (numbers_below n) past)
  same_length = let l = counts-length n past in let s = c.senders in omega (arith, l, s)

  up_to : AreUpTo (gives_of_each (numbers_below n) past) w.mail
  up_to k h =
      let s = c.senders in
      let q : k < n = omega (arith, h, s) in
      subst (λ m. AllByRecursion (λ (b : Batch). b.number ≤ m) (slice_index_or w.mail k [])) (sym (counts-at n past k q)) (c.numbers k q)

  -- what is in hand is all that was pending
  pub hand_is_pending : w.start_posts ++ posts_in (taken_batches (gives_of_each (numbers_below n) past) w.mail) ≡ pending_posts w
  hand_is_pending = ap (λ l. w.start_posts ++ l) (taken_all (gives_of_each (numbers_below n) past) w.mail same_length up_to)

  pub none_waiting : batches_waiting (after_taking sys piece (gives_of_each (numbers_below n) past) w) ≡ 0
  none_waiting = let z = left_none (gives_of_each (numbers_below n) past) w.mail same_length up_to in omega (arith, z)

-- ---- meets of nothing

replicated : (x a n : ℕ) → map (λ (m : ℕ). x) (range_with_len a n) ≡ replicate n x
replicated x a zero = refl
replicated x a (suc n) = ap (λ l. x ∷ l) (replicated x (a + 1) n)

-- no posts are met in NOTHING
pub no_posts_met : (o : Order) (n : ℕ) → met_posts o n [] ≡ replicate n NOTHING
no_posts_met o n = replicated NOTHING 0 n
