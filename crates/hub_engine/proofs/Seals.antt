-- A Seal takes the tokens off all mail, and keeps the hub's tables fitting the state.
use Rattle.std.proofs.Common.{◌≡◌, ℕ, zero, suc, ◌+◌, Bool, true, false, not, cond, if◌then◌else◌, refl, sym, ◌∙◌, ap, subst, arith, List, [], ◌∷◌, ◌++◌, length, length-append, map, filter, flat_map, replicate, slice_get, slice_index_or, Option, Some, None}
use Rattle.std.specs.List.{AllByRecursion, range_with_len}
use Rattle.std.proofs.lemmas.Bool.{false≢true}
use Rattle.std.proofs.lemmas.List.{length-map}
use Rattle.std.proofs.lemmas.List.FromFn.{length-range_with_len}
use Rattle.value_order.specs.declared.order.Order.{Order}
use Rattle.value_order.specs.declared.TheConstants.{NOTHING}
use Rattle.value_order.specs.Order.{meet_of, meet_all}
use Rattle.graph_core.specs.Fragments.{piece_at, numbers_below}
use Rattle.grape_event.specs.declared.event.Event.TheVariants.{Seal}
use Rattle.token_cut.specs.Recording.{after_seal}
use Rattle.message_buffer.specs.BufferValues.{BufferValues}
use Rattle.message_buffer.specs.Buffers.{folded, meets_of}
use Rattle.base_machine.specs.Machine.{System, Batch, Post, worker_at, is_empty, posts_in, values_for, met_posts}
use Rattle.base_machine.proofs.Posts.{all_append, all_left, all_right, filtered_all, IsPostedAbove, all_values, values_all}
use Rattle.base_machine.proofs.Meets.{meet_all-lower, meet_all-greatest, meet_all-same}
use Rattle.legal_journal.specs.Past.{is_tagged}
use Rattle.legal_journal.specs.Legal.{State, state_after}
use Rattle.legal_journal.proofs.Ledger.{takes-more}
use Rattle.legal_journal.proofs.Choosing.{some-none}
use Rattle.hub_engine.specs.declared.desk.Desk.{Desk}
use Rattle.hub_engine.specs.Desks.{DeskFits, Tables, TablesFit, buffer_of, waiting_in_class, folded_desk}
use Rattle.hub_engine.proofs.Mail.{no_posts_met}
use Rattle.hub_engine.proofs.Classes.{both_classes}
use Rattle.hub_engine.proofs.Steps.{same_seat, probe_fits, no_take}

-- ---- batches of both classes

module _ (P : Batch → Type 0) where
  both_all : (test : Batch → Bool) (bs : List Batch) → AllByRecursion P (filter (λ b. not (test b)) bs) → AllByRecursion P (filter test bs) → AllByRecursion P bs
  both_all test [] h k = tt
  both_all test (b ∷ bs) h k = go (test b) (λ h' k'. both_all test bs h' k') h k
    where
      go : (c : Bool) → (AllByRecursion P (filter (λ b. not (test b)) bs) → AllByRecursion P (filter test bs) → AllByRecursion P bs) →
          AllByRecursion P (cond (not c) (b ∷ filter (λ b. not (test b)) bs) (filter (λ b. not (test b)) bs)) → AllByRecursion P (cond c (b ∷ filter test bs) (filter test bs)) → AllByRecursion P (b ∷ bs)
      go true again h k = (k.0, again h k.1)
      go false again h k = (h.0, again h.1 k)

  each_flat : (f g : ℕ → List Batch) → ((j : ℕ) → AllByRecursion P (f j) → AllByRecursion P (g j)) → (js : List ℕ) → AllByRecursion P (flat_map f js) → AllByRecursion P (flat_map g js)
  each_flat f g h [] k = tt
  each_flat f g h (j ∷ js) k =
      all_append P (g j) (flat_map g js) (h j (all_left P (f j) (flat_map f js) k)) (each_flat f g h js (all_right P (f j) (flat_map f js) k))

  both_flat : (f g e : ℕ → List Batch) → ((j : ℕ) → AllByRecursion P (f j) → AllByRecursion P (g j) → AllByRecursion P (e j)) → (js : List ℕ) → AllByRecursion P (flat_map f js) → AllByRecursion P (flat_map g js) → AllByRecursion P (flat_map e js)
  both_flat f g e h [] k l = tt
  both_flat f g e h (j ∷ js) k l =
      all_append P (e j) (flat_map e js) (h j (all_left P (f j) (flat_map f js) k) (all_left P (g j) (flat_map g js) l))
      (both_flat f g e h js (all_right P (f j) (flat_map f js) k) (all_right P (g j) (flat_map g js) l))

-- a fact of each post of some batches
module _ (Q : Post → Type 0) where
  by_batch : (bs : List Batch) → AllByRecursion Q (posts_in bs) → AllByRecursion (λ (b : Batch). AllByRecursion Q b.posts) bs
  by_batch [] h = tt
  by_batch (b ∷ bs) h = (all_left Q b.posts (posts_in bs) h, by_batch bs (all_right Q b.posts (posts_in bs) h))

  by_post : (bs : List Batch) → AllByRecursion (λ (b : Batch). AllByRecursion Q b.posts) bs → AllByRecursion Q (posts_in bs)
  by_post [] h = tt
  by_post (b ∷ bs) h = all_append Q b.posts (posts_in bs) h.0 (by_post bs h.1)

lengths_flat : (test : ℕ → Batch → Bool) (q : ℕ → List Batch) (js : List ℕ) →
    length (flat_map (λ j. filter (λ b. not (test j b)) (q j)) js) + length (flat_map (λ j. filter (test j) (q j)) js) ≡ length (flat_map q js)
lengths_flat test q [] = refl
lengths_flat test q (j ∷ js) =
    let one = both_classes (test j) (q j) in
    let rest = lengths_flat test q js in
    let a = length-append (filter (λ b. not (test j b)) (q j)) (flat_map (λ i. filter (λ b. not (test i b)) (q i)) js) in
    let b = length-append (filter (test j) (q j)) (flat_map (λ i. filter (test i) (q i)) js) in
    let c = length-append (q j) (flat_map q js) in
    omega (arith, one, rest, a, b, c)

keeps_each : (bs : List Batch) → filter (λ b. true) bs ≡ bs
keeps_each [] = refl
keeps_each (b ∷ bs) = ap (λ l. b ∷ l) (keeps_each bs)

keeps_no : (bs : List Batch) → filter (λ b. false) bs ≡ []
keeps_no [] = refl
keeps_no (b ∷ bs) = keeps_no bs

no_flat : (f : ℕ → List Batch) → ((j : ℕ) → f j ≡ []) → (js : List ℕ) → flat_map f js ≡ []
no_flat f h [] = refl
no_flat f h (j ∷ js) = ap (λ l. l ++ flat_map f js) (h j) ∙ no_flat f h js

-- ---- the meet of both classes

meets_map : (o : Order) (f g : ℕ → ℕ) (a n : ℕ) → meets_of o (map f (range_with_len a n)) (map g (range_with_len a n)) ≡ map (λ m. meet_of o (f m) (g m)) (range_with_len a n)
meets_map o f g a zero = refl
meets_map o f g a (suc n) = ap (λ l. meet_of o (f a) (g a) ∷ l) (meets_map o f g (a + 1) n)

module _ (o : Order) (begun : List Post) (test : ℕ → Batch → Bool) (q : ℕ → List Batch) (js : List ℕ) where
  both_met : (m : ℕ) →
      meet_of o (meet_all o NOTHING (values_for m (begun ++ posts_in (flat_map (λ j. filter (λ b. not (test j b)) (q j)) js)))) (meet_all o NOTHING (values_for m (posts_in (flat_map (λ j. filter (test j) (q j)) js))))
      ≡ meet_all o NOTHING (values_for m (begun ++ posts_in (flat_map q js)))
  both_met m =
      let f : ℕ → List Batch = λ j. filter (λ b. not (test j b)) (q j) in
      let g : ℕ → List Batch = λ j. filter (test j) (q j) in
      let plain = begun ++ posts_in (flat_map f js) in
      let tagged = posts_in (flat_map g js) in
      let all = begun ++ posts_in (flat_map q js) in
      let x = meet_all o NOTHING (values_for m plain) in
      let y = meet_all o NOTHING (values_for m tagged) in
      meet_all-same o x (y ∷ []) NOTHING (values_for m all)
      (λ c k.
      let Q = IsPostedAbove o m c in
      let P : Batch → Type 0 = λ b. AllByRecursion Q b.posts in
      let low = meet_all-lower o c NOTHING (values_for m plain) k.0 in
      let in_plain = values_all o m c plain low.1 in
      let in_tagged = values_all o m c tagged (meet_all-lower o c NOTHING (values_for m tagged) k.1.0).1 in
      let rest = both_flat P f g q (λ j h h'. both_all P (test j) (q j) h h') js (by_batch Q (flat_map f js) (all_right Q begun (posts_in (flat_map f js)) in_plain)) (by_batch Q (flat_map g js) in_tagged) in
      (low.0, all_values o m c all (all_append Q begun (posts_in (flat_map q js)) (all_left Q begun (posts_in (flat_map f js)) in_plain) (by_post Q (flat_map q js) rest))))
      (λ c k.
      let Q = IsPostedAbove o m c in
      let P : Batch → Type 0 = λ b. AllByRecursion Q b.posts in
      let each = values_all o m c all k.1 in
      let waiting = by_batch Q (flat_map q js) (all_right Q begun (posts_in (flat_map q js)) each) in
      let in_plain = by_post Q (flat_map f js) (each_flat P q f (λ j h. filtered_all P (λ b. not (test j b)) (q j) h) js waiting) in
      let in_tagged = by_post Q (flat_map g js) (each_flat P q g (λ j h. filtered_all P (test j) (q j) h) js waiting) in (
        meet_all-greatest o c NOTHING (values_for m plain) (k.0, all_values o m c plain (all_append Q begun (posts_in (flat_map f js)) (all_left Q begun (posts_in (flat_map q js)) each) in_plain)),
        (meet_all-greatest o c NOTHING (values_for m tagged) (k.0, all_values o m c tagged in_tagged), tt),
      ))

  met_both : (n : ℕ) → meets_of o (met_posts o n (begun ++ posts_in (flat_map (λ j. filter (λ b. not (test j b)) (q j)) js))) (met_posts o n (posts_in (flat_map (λ j. filter (test j) (q j)) js))) ≡ met_posts o n (begun ++ posts_in (flat_map q js))
  met_both n =
      meets_map o (λ m. meet_all o NOTHING (values_for m (begun ++ posts_in (flat_map (λ j. filter (λ b. not (test j b)) (q j)) js)))) (λ m. meet_all o NOTHING (values_for m (posts_in (flat_map (λ j. filter (test j) (q j)) js)))) 0 n
      ∙ λ t. map (λ m. both_met m t) (numbers_below n)

-- ---- a buffer whose tokens are taken off

module _ (sys : System) (s : State) (epoch i : ℕ) where
  all_untagged : flat_map (λ j. slice_index_or (worker_at s.workers i).mail j []) (numbers_below (length s.workers)) ≡ waiting_in_class false (state_after sys s (Seal epoch)) i
  all_untagged = λ t. flat_map (λ j. sym (keeps_each (slice_index_or (worker_at s.workers i).mail j [])) t) (numbers_below (length s.workers))

  none_tagged : [] ≡ waiting_in_class true (state_after sys s (Seal epoch)) i
  none_tagged = sym (no_flat (λ j. filter (λ b. false) (slice_index_or (worker_at s.workers i).mail j [])) (λ j. keeps_no (slice_index_or (worker_at s.workers i).mail j [])) (numbers_below (length s.workers)))

  pub folded_is : folded (buffer_of sys s i) ≡ buffer_of sys (state_after sys s (Seal epoch)) i
  folded_is =
      let o = sys.equations.order in
      let n = length (piece_at sys.pieces i).mirrors in
      let begun = (worker_at s.workers i).start_posts in
      let test : ℕ → Batch → Bool = λ j b. is_tagged j b.number s.past in
      let q : ℕ → List Batch = λ j. slice_index_or (worker_at s.workers i).mail j [] in
      let js = numbers_below (length s.workers) in
      let first : ℕ = if is_empty begun then 0 else 1 in
      let a = waiting_in_class false s i in
      let b = waiting_in_class true s i in
      let all = all_untagged in
      let none = none_tagged in
      let plain : meets_of o (met_posts o n (begun ++ posts_in a)) (met_posts o n (posts_in b)) ≡ met_posts o n (begun ++ posts_in (waiting_in_class false (state_after sys s (Seal epoch)) i)) =
      met_both o begun test q js n ∙ ap (λ (l : List Batch). met_posts o n (begun ++ posts_in l)) all in
      let tagged : replicate (length (met_posts o n (begun ++ posts_in a))) NOTHING ≡ met_posts o n (posts_in (waiting_in_class true (state_after sys s (Seal epoch)) i)) =
      ap (λ m. replicate m NOTHING) (length-map (numbers_below n) _ ∙ length-range_with_len 0 n) ∙ (sym (no_posts_met o n) ∙ ap (λ (l : List Batch). met_posts o n (posts_in l)) none) in
      let count : first + length a + length b ≡ first + length (waiting_in_class false (state_after sys s (Seal epoch)) i) =
      (let k = lengths_flat test q js in let l = ap {B = ℕ} (λ (l : List Batch). length l) all in omega (arith, k, l)) in
      let empty : 0 ≡ length (waiting_in_class true (state_after sys s (Seal epoch)) i) = ap {B = ℕ} (λ (l : List Batch). length l) none in
      λ t. record { order = o; plain = plain t; tagged = tagged t; plain_batches = count t; tagged_batches = empty t }

-- ---- the tables

-- the tables in which the recording is sealed
abbrev pub sealed_in : ℕ → Tables → Tables
sealed_in epoch t =
    record { routes = t.routes; desks = map folded_desk t.desks; probe = t.probe; cut = after_seal t.cut; counts = record { epoch = t.counts.epoch; takes = t.counts.takes; sealed = Some epoch }; turn = t.turn }

-- an element of a list is that of the list before each was changed
pub got_mapped : {X : Type 0} (f : X → X) (xs : List X) (i : ℕ) (y : X) → slice_get (map f xs) i ≡ Some y → (x : X) × (slice_get xs i ≡ Some x) × (y ≡ f x)
got_mapped f [] i y h = absurd (some-none (slice_get (map f []) i) y h refl)
got_mapped {X = X} f (x ∷ xs) zero y h = (x, refl, ap (λ (o : Option X). elim o as (λ _. X) [ None ↦ y | Some z ↦ z ]) (sym h))
got_mapped f (x ∷ xs) (suc i) y h = got_mapped f xs i y h

module _ (sys : System) (s : State) (counters : ℕ) (t : Tables) (epoch : ℕ) (fits : TablesFit sys s counters t) where
  desk_folded : (i : ℕ) (d : Desk) → DeskFits sys s counters i d → DeskFits sys (state_after sys s (Seal epoch)) counters i (folded_desk d)
  desk_folded i d f = record {
    seat = same_seat sys s (state_after sys s (Seal epoch)) counters i d.seat refl refl refl f.seat;
    delay = f.delay;
    round = f.round;
    pulse = f.pulse;
    buffer = ap (λ (b : BufferValues). folded b) f.buffer ∙ folded_is sys s epoch i;
    begun = f.begun;
  }

  pub seal_fits : TablesFit sys (state_after sys s (Seal epoch)) counters (sealed_in epoch t)
  seal_fits = record {
    are_routes = fits.are_routes;
    count = length-map t.desks folded_desk ∙ fits.count;
    is_probe = probe_fits sys s (Seal epoch) t.probe fits.is_probe;
    is_cut = record {
      order = fits.is_cut.order;
      sizes = fits.is_cut.sizes;
      asked = λ on. absurd (false≢true on);
      recording = refl;
      epoch = λ on. absurd (false≢true on);
      marks = λ on. absurd (false≢true on);
      marked = λ on i l. absurd (false≢true on);
      parts = λ on i l m. absurd (false≢true on);
    };
    are_counts = record { epoch = fits.are_counts.epoch; takes = fits.are_counts.takes ∙ sym (no_take (takes-more (Seal epoch) s.past)); sealed = refl };
    is_turn = fits.is_turn;
    fit = λ i d here.
        let g = got_mapped folded_desk t.desks i d here in
        let P : Desk → Type 0 = DeskFits sys (state_after sys s (Seal epoch)) counters i in
        subst P (sym g.2) (desk_folded i g.0 (fits.fit i g.0 g.1));
  }
