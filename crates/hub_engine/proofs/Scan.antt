-- What the hub finds at its desks is the first event in the order of choice that is admitted.
use Rattle.std.proofs.Common.{◌≡◌, ℕ, ◌+◌, ◌-◌, ◌^◌, ◌<◌, ◌≤◌, ◌⊎◌, inl, inr, Bool, true, false, not, ◌&&◌, ◌||◌, ◌==◌, nat_lt, nat_le, if◌then◌else◌, refl, sym, ◌∙◌, ap, arith, List, [], ◌∷◌, ◌++◌, length, map, slice_get, slice_index, Option, Some, None}
use Rattle.std.specs.List.{range_with_len}
use Rattle.std.specs.Option.{is_some}
use Rattle.std.proofs.lemmas.Bool.{lt-ltb, le-ltb, le-leb, lt-leb, ne_eqb, or_left, or_right, or_from, not_from_true, not_from_false, false_from_ne_true, cases_lt, false≢true}
use Rattle.std.proofs.lemmas.Option.{none-some, same_Some, slice_get_within}
use Rattle.graph_core.specs.declared.settings.Policy.{Policy}
use Rattle.graph_core.specs.declared.settings.Policy.TheVariants.{Bsp, Ap, Ssp, Aap}
use Rattle.graph_core.specs.Fragments.{numbers_below}
use Rattle.grape_event.specs.declared.event.Event.{Event}
use Rattle.grape_event.specs.declared.event.Event.TheVariants.{Flag, Ack, Nack}
use Rattle.message_buffer.specs.BufferValues.{BufferValues}
use Rattle.message_buffer.specs.Buffers.{batches_in}
use Rattle.base_machine.specs.Machine.{System, Worker, Standing, worker_at, is_fresh, is_running, rests, batch_waits, batches_waiting}
use Rattle.base_machine.specs.Machine.Standing.{Fresh, Running, Rest}
use Rattle.legal_journal.specs.Past.{has_ended, stretch_of, recording_is_open, takes_since_begin}
use Rattle.legal_journal.specs.Past.{is_marked as was_marked}
use Rattle.legal_journal.specs.Delays.{stretch_is_over, has_enough, delay_is_over, is_busy, is_within, is_fresh_enough}
use Rattle.legal_journal.specs.Legal.{State, worker_count, has_work_out, rests_with_mail, rests_without_mail, is_stretched, stretch_from, snapshot_is_due, is_unmarked, tagged_batch_waits, may_take, may_stretch, may_hold, may_flag, may_ack, may_nack, may_mark, is_worker, is_admitted, row_admits}
use Rattle.legal_journal.specs.Choices.{first_admitted, in_turn, first_in_turn, next_choice}
use Rattle.legal_journal.proofs.Choosing.{first-append_none, first-append_some}
use Rattle.legal_journal.proofs.Walks.{all_below, all_from_each}
use Rattle.legal_journal.proofs.Probes.{both}
use Rattle.legal_journal.proofs.Journals.{AreCounted}
use Rattle.token_cut.specs.CutValues.{CutValues}
use Rattle.token_cut.specs.Recording.{is_marked}
use Rattle.stop_probe.specs.Probe.{may_flag as probe_may_flag, may_answer, took_since_ask}
use Rattle.stop_probe.specs.Journals.{probe_at}
use Rattle.stop_probe.proofs.Following.{meets_the_table}
use Rattle.hub_engine.specs.declared.desk.Delay.{Delay}
use Rattle.hub_engine.specs.declared.desk.Desk.{Desk}
use Rattle.hub_engine.specs.declared.desk.Seat.{Seat}
use Rattle.hub_engine.specs.declared.desk.Seat.TheVariants.{Here, Out}
use Rattle.hub_engine.specs.declared.kind.Kind.{Kind}
use Rattle.hub_engine.specs.declared.kind.Kind.TheVariants as kind
use Rattle.hub_engine.specs.declared.sight.Sight.{Sight}
use Rattle.hub_engine.specs.Choices.{event_of, event_if, IsChoice}
use Rattle.hub_engine.specs.declared.counts.Counts.{Counts}
use Rattle.hub_engine.specs.Desks.{DeskFits, SeatFits, CutFits, CountsFit, Tables, TablesFit, turns_and_place, is_fresh_at, rests_at, is_out, has_mail, is_busy_at}
use Rattle.hub_engine.specs.Kinds.{is_unmarked as is_unmarked_in}
use Rattle.hub_engine.specs.Kinds.{IsLeastRound, is_near, is_near_enough, turns_are_over, is_over, is_due, admits, holds_at, first_where, first_desk, kinds, found_or, first_of_kinds}
use Rattle.hub_engine.proofs.Classes.{batches_by_class}
use Rattle.hub_engine.proofs.Tagged.{tagged_are}
use Rattle.hub_engine.proofs.Searching.{holds_in, holds_past, desk_there}

-- ---- a desk

-- a worker that isn't running is Fresh or rests
standing_here : (w : Worker) → is_running w ≡ false → rests w ≡ not (is_fresh w)
standing_here w h = go w.standing h
  where
    go : (st : Standing) → elim st [ Fresh ↦ false | Running hand ↦ true | Rest ↦ false ] ≡ false → elim st [ Fresh ↦ false | Running hand ↦ false | Rest ↦ true ] ≡ not (elim st [ Fresh ↦ true | Running hand ↦ false | Rest ↦ false ])
    go Fresh h = refl
    go (Running hand) h = absurd (false≢true (sym h))
    go Rest h = refl

running_is : (w : Worker) → is_running w ≡ true → (is_fresh w ≡ false) × (rests w ≡ false)
running_is w h = go w.standing h
  where
    go : (st : Standing) → elim st [ Fresh ↦ false | Running hand ↦ true | Rest ↦ false ] ≡ true → (elim st [ Fresh ↦ true | Running hand ↦ false | Rest ↦ false ] ≡ false) × (elim st [ Fresh ↦ false | Running hand ↦ false | Rest ↦ true ] ≡ false)
    go Fresh h = absurd (false≢true h)
    go (Running hand) h = (refl, refl)
    go Rest h = absurd (false≢true h)

turns_over : (turns place clock : ℕ) → nat_lt turns (clock - place) ≡ nat_le (place + 1 + turns) clock
turns_over turns place clock = elim (cases_lt turns (clock - place)) [
  | inl l ↦ lt-ltb turns (clock - place) l ∙ sym (le-leb (place + 1 + turns) clock (omega (arith, l)))
  | inr g ↦ le-ltb turns (clock - place) g ∙ sym (lt-leb (place + 1 + turns) clock (omega (arith, g)))
]

delays_agree : (o : Option Delay) (clock : ℕ) → turns_are_over o clock ≡ stretch_is_over (turns_and_place o) clock
delays_agree None clock = refl
delays_agree (Some delay) clock = turns_over delay.turns delay.place clock

delay_or_none : (o : Option Delay) → is_some o ≡ is_some (turns_and_place o)
delay_or_none None = refl
delay_or_none (Some delay) = refl

module _ (sys : System) (s : State) (counted : AreCounted (worker_count s) s) (counters i : ℕ) (below : i < worker_count s) (d : Desk) (fits : DeskFits sys s counters i d) where
  pub fresh_is : is_fresh_at d ≡ is_fresh (worker_at s.workers i)
  fresh_is = go d.seat fits.seat
    where
      go : (seat : Seat) → SeatFits sys s counters i seat → elim seat [ Here fresh local hand ↦ fresh | Out lane place ↦ false ] ≡ is_fresh (worker_at s.workers i)
      go (Here fresh local hand) k = k.1
      go (Out lane place) k = sym (running_is (worker_at s.workers i) k.0).0

  pub rests_is : rests_at d ≡ rests (worker_at s.workers i)
  rests_is = go d.seat fits.seat
    where
      go : (seat : Seat) → SeatFits sys s counters i seat → elim seat [ Here fresh local hand ↦ not fresh | Out lane place ↦ false ] ≡ rests (worker_at s.workers i)
      go (Here fresh local hand) k = ap not k.1 ∙ sym (standing_here (worker_at s.workers i) k.0)
      go (Out lane place) k = sym (running_is (worker_at s.workers i) k.0).1

  pub out_is : is_out d ≡ is_running (worker_at s.workers i)
  out_is = go d.seat fits.seat
    where
      go : (seat : Seat) → SeatFits sys s counters i seat → elim seat [ Here fresh local hand ↦ false | Out lane place ↦ true ] ≡ is_running (worker_at s.workers i)
      go (Here fresh local hand) k = sym k.0
      go (Out lane place) k = sym k.0

  batches_are : batches_in d.buffer ≡ batches_waiting (worker_at s.workers i)
  batches_are = ap (λ (b : BufferValues). batches_in b) fits.buffer ∙ batches_by_class sys s i counted below

  tagged_is : nat_lt 0 d.buffer.tagged_batches ≡ tagged_batch_waits s i
  tagged_is = ap (λ (b : BufferValues). nat_lt 0 b.tagged_batches) fits.buffer ∙ tagged_are s i

  pub mail_is : has_mail d ≡ batch_waits (worker_at s.workers i)
  mail_is = ap (λ n. nat_lt 0 n) batches_are

  pub busy_is : is_busy_at d ≡ is_busy (worker_at s.workers i)
  busy_is = ap (λ x. (x || is_out d) || has_mail d) fresh_is ∙ (ap (λ x. (is_fresh (worker_at s.workers i) || x) || has_mail d) out_is ∙ ap (λ x. (is_fresh (worker_at s.workers i) || is_running (worker_at s.workers i)) || x) mail_is)

  rests_with : (rests_at d && has_mail d) ≡ rests_with_mail s i
  rests_with = ap (λ x. x && has_mail d) rests_is ∙ ap (λ x. rests (worker_at s.workers i) && x) mail_is

  rests_without : (rests_at d && not (has_mail d)) ≡ rests_without_mail s i
  rests_without = ap (λ x. x && not (has_mail d)) rests_is ∙ ap (λ x. rests (worker_at s.workers i) && not x) mail_is

  stretched_is : is_some d.delay ≡ is_stretched s i
  stretched_is = delay_or_none d.delay ∙ ap (λ (o : Option (ℕ × ℕ)). is_some o) (sym fits.delay)

  over_is : (sight : Sight) → sight.policy ≡ sys.settings.policy → sight.clock ≡ length s.past → is_over sight d ≡ delay_is_over sys.settings.policy s.workers s.past i
  over_is sight p c =
      ap (λ x. x || has_enough sight.policy (batches_in d.buffer)) (ap (turns_are_over d.delay) c ∙ (delays_agree d.delay (length s.past) ∙ ap (λ o. stretch_is_over o (length s.past)) (sym fits.delay)))
      ∙ (ap (λ q. stretch_is_over (stretch_of i s.past) (length s.past) || has_enough q (batches_in d.buffer)) p
      ∙ ap (λ n. stretch_is_over (stretch_of i s.past) (length s.past) || has_enough sys.settings.policy n) batches_are)

-- ---- conditions that hold

and_true : (x : Bool) → (x && true) ≡ x
and_true true = refl
and_true false = refl

take_parts : (a b c d e f : Bool) → a ≡ true → b ≡ true → (((((a && b) && c) && d) && e) && f) ≡ (((c && d) && e) && f)
take_parts a b c d e f ha hb = ap (λ x. ((((x && b) && c) && d) && e) && f) ha ∙ ap (λ x. (((x && c) && d) && e) && f) hb

four_same : (a a' b b' c c' d d' : Bool) → a ≡ a' → b ≡ b' → c ≡ c' → d ≡ d' → (((a && b) && not c) && not d) ≡ (((a' && b') && not c') && not d')
four_same a a' b b' c c' d d' ea eb ec ed = ap (λ x. ((x && b) && not c) && not d) ea ∙ (ap (λ x. ((a' && x) && not c) && not d) eb ∙ (ap (λ x. ((a' && b') && not x) && not d) ec ∙ ap (λ x. ((a' && b') && not c') && not x) ed))

stretch_parts : (a b c d : Bool) → c ≡ true → d ≡ true → (((a && b) && c) && d) ≡ (a && b)
stretch_parts a b c d hc hd = ap (λ x. ((a && b) && x) && d) hc ∙ (ap (λ x. ((a && b) && true) && x) hd ∙ (and_true ((a && b) && true) ∙ and_true (a && b)))

-- ---- all desks

-- the first event of a kind that is admitted, where a test says of each number whether it is
abbrev mapped_option : (ℕ → Event) → Option ℕ → Option Event
mapped_option f None = None
mapped_option f (Some i) = Some (f i)

first_of_kind : (sys : System) (s : State) (f : ℕ → Event) (test : ℕ → Bool) → ((i : ℕ) → is_admitted sys s (f i) ≡ test i) → (is : List ℕ) → first_admitted sys s (map f is) ≡ mapped_option f (first_where test is)
first_of_kind sys s f test h [] = refl
first_of_kind sys s f test h (i ∷ is) = go (is_admitted sys s (f i)) (test i) (h i) (first_of_kind sys s f test h is)
  where
    go : (a b : Bool) → a ≡ b → first_admitted sys s (map f is) ≡ mapped_option f (first_where test is) →
        (if a then Some (f i) else first_admitted sys s (map f is)) ≡ mapped_option f (if b then Some i else first_where test is)
    go true true e again = refl
    go true false e again = absurd (false≢true (sym e))
    go false true e again = absurd (false≢true e)
    go false false e again = again

-- ---- the recording and the counts

unmarked_is : (sys : System) (s : State) (cut : CutValues) → CutFits sys s cut → (i : ℕ) → i < worker_count s → is_unmarked_in i cut ≡ is_unmarked s i
unmarked_is sys s cut fits i l = go cut.recording refl
  where
    go : (b : Bool) → cut.recording ≡ b → (cut.recording && not (is_marked i cut)) ≡ (recording_is_open s.past && not (was_marked i s.past))
    go true e = ap (λ x. x && not (is_marked i cut)) fits.recording ∙ ap (λ x. recording_is_open s.past && not x) (fits.marked e i l)
    go false e = ap (λ x. x && not (is_marked i cut)) e ∙ sym (ap (λ x. x && not (was_marked i s.past)) (sym fits.recording ∙ e))

pub due_is : (sys : System) (s : State) (counts : Counts) → CountsFit s counts → is_due sys.settings.snapshot counts ≡ snapshot_is_due sys s
due_is sys s counts fits =
    ap (λ n. (nat_lt 0 sys.settings.snapshot && nat_le sys.settings.snapshot n) && nat_lt counts.epoch (2 ^ 62 - 1)) fits.takes
    ∙ ap (λ n. (nat_lt 0 sys.settings.snapshot && nat_le sys.settings.snapshot (takes_since_begin s.past)) && nat_lt n (2 ^ 62 - 1)) fits.epoch

-- what the desks say of a state that the hub's tables fit
module _ (sys : System) (s : State) (counted : AreCounted (worker_count s) s) (counters : ℕ) (tables : Tables) (fits : TablesFit sys s counters tables) where
  -- a worker's desk
  desk_of : (i : ℕ) → i < worker_count s → (d : Desk) × (slice_get tables.desks i ≡ Some d)
  desk_of i l = elim (desk_there tables.desks i) [ inl k ↦ k | inr g ↦ let c = fits.count in absurd (omega (arith, l, g, c)) ]

  within : (i : ℕ) (d : Desk) → slice_get tables.desks i ≡ Some d → i < worker_count s
  within i d g = let c = fits.count in let l = slice_get_within tables.desks i d g in omega (arith, c, l)

  -- ---- the policy

  within_all : (c i : ℕ) → ((j : ℕ) → j < worker_count s → is_busy (worker_at s.workers j) ≡ true → slice_index s.rounds i ≤ slice_index s.rounds j + c) → is_within c s.workers s.rounds i ≡ true
  within_all c i h = all_from_each (λ j. j == i || not (is_busy (worker_at s.workers j)) || nat_le (slice_index s.rounds i) (slice_index s.rounds j + c)) (worker_count s) (λ j l. go j l (is_busy (worker_at s.workers j)) refl)
    where
      go : (j : ℕ) → j < worker_count s → (b : Bool) → is_busy (worker_at s.workers j) ≡ b → (j == i || not (is_busy (worker_at s.workers j)) || nat_le (slice_index s.rounds i) (slice_index s.rounds j + c)) ≡ true
      go j l true e = or_right (j == i || not (is_busy (worker_at s.workers j))) (nat_le (slice_index s.rounds i) (slice_index s.rounds j + c)) (le-leb (slice_index s.rounds i) (slice_index s.rounds j + c) (h j l e))
      go j l false e = or_left (j == i || not (is_busy (worker_at s.workers j))) (nat_le (slice_index s.rounds i) (slice_index s.rounds j + c)) (or_right (j == i) (not (is_busy (worker_at s.workers j))) (not_from_false (is_busy (worker_at s.workers j)) e))

  within_none : (c i j : ℕ) → j < worker_count s → is_busy (worker_at s.workers j) ≡ true → slice_index s.rounds j + c < slice_index s.rounds i → is_within c s.workers s.rounds i ≡ false
  within_none c i j l b far = false_from_ne_true (is_within c s.workers s.rounds i) (λ h. both
      (all_below (λ j. j == i || not (is_busy (worker_at s.workers j)) || nat_le (slice_index s.rounds i) (slice_index s.rounds j + c)) (worker_count s) h j l)
      (or_from (j == i || not (is_busy (worker_at s.workers j))) (nat_le (slice_index s.rounds i) (slice_index s.rounds j + c))
      (or_from (j == i) (not (is_busy (worker_at s.workers j))) (ne_eqb j i (λ e. let r = ap (λ n. slice_index s.rounds n) e in absurd (omega (arith, r, far)))) (not_from_true (is_busy (worker_at s.workers j)) b))
      (lt-leb (slice_index s.rounds i) (slice_index s.rounds j + c) far)))

  -- a busy worker's desk is busy
  desk_busy : (j : ℕ) → j < worker_count s → is_busy (worker_at s.workers j) ≡ true → (d : Desk) × (slice_get tables.desks j ≡ Some d) × (is_busy_at d ≡ true) × (d.round ≡ slice_index s.rounds j)
  desk_busy j l b =
      let k = desk_of j l in
      let f = fits.fit j k.0 k.1 in
      (k.0, k.1, busy_is sys s counted counters j l k.0 f ∙ b, f.round)

  near_is : (c : ℕ) (least : Option ℕ) (i : ℕ) → IsLeastRound tables.desks least → is_near c least (slice_index s.rounds i) ≡ is_within c s.workers s.rounds i
  near_is c None i k = sym (within_all c i (λ j l b. let d = desk_busy j l b in let f = k.below j d.0 d.1 d.2 in absurd (none-some f.0 f.1)))
  near_is c (Some least) i k = go (cases_lt least (slice_index s.rounds i - c))
    where
      go : (least < slice_index s.rounds i - c) ⊎ (slice_index s.rounds i - c ≤ least) → nat_le (slice_index s.rounds i - c) least ≡ is_within c s.workers s.rounds i
      go (inl far) =
          let f = k.there least refl in
          let fit = fits.fit f.0 f.1 f.2 in
          let count = fits.count in
          let here = slice_get_within tables.desks f.0 f.1 f.2 in
          let r = fit.round in
          let q = f.4 in
          lt-leb (slice_index s.rounds i - c) least far
          ∙ sym (within_none c i f.0 (omega (arith, count, here)) (sym (busy_is sys s counted counters f.0 (omega (arith, count, here)) f.1 fit) ∙ f.3) (omega (arith, r, q, far)))
      go (inr near) =
          le-leb (slice_index s.rounds i - c) least near
          ∙ sym (within_all c i (λ j l b. let d = desk_busy j l b in let f = k.below j d.0 d.1 d.2 in let e = same_Some least f.0 f.1 in let m = f.2 in let r = d.3 in omega (arith, near, e, m, r)))

  near_enough_is : (policy : Policy) (least : Option ℕ) (i : ℕ) → IsLeastRound tables.desks least → is_near_enough policy least (slice_index s.rounds i) ≡ is_fresh_enough policy s.workers s.rounds i
  near_enough_is Bsp least i k = near_is 0 least i k
  near_enough_is Ap least i k = refl
  near_enough_is (Ssp c) least i k = near_is c least i k
  near_enough_is (Aap c l) least i k = near_is c least i k

  -- ---- a row of the table for a worker is what its desk says

  at_desks : (row : ℕ → Bool) (test : ℕ → Desk → Bool) → ((i : ℕ) (d : Desk) → slice_get tables.desks i ≡ Some d → test i d ≡ (is_worker s i && row i)) → (i : ℕ) → (is_worker s i && row i) ≡ holds_at test tables.desks i
  at_desks row test h i = elim (desk_there tables.desks i) [
    | inl k ↦ sym (h i k.0 k.1) ∙ sym (holds_in test tables.desks i k.0 k.1)
    | inr l ↦ let c = fits.count in ap (λ b. b && row i) (le-ltb i (worker_count s) (omega (arith, l, c))) ∙ sym (holds_past test tables.desks i l)
  ]

  in_range : (i : ℕ) (d : Desk) (row : Bool) → slice_get tables.desks i ≡ Some d → row ≡ (is_worker s i && row)
  in_range i d row g = let c = fits.count in let l = slice_get_within tables.desks i d g in sym (ap (λ b. b && row) (lt-ltb i (worker_count s) (omega (arith, c, l))))

  module _ (going : has_ended s.past ≡ false) (sight : Sight) (policy : sight.policy ≡ sys.settings.policy) (clock : sight.clock ≡ length s.past) (least : IsLeastRound tables.desks sight.least) (due : sight.due ≡ snapshot_is_due sys s) where
    admitted_is : (b : Bool) → (not (has_ended s.past) && b) ≡ b
    admitted_is b = ap (λ q. not q && b) going

    desk_marks : (i : ℕ) (d : Desk) → slice_get tables.desks i ≡ Some d → admits kind.Mark sight tables.probe tables.cut i d ≡ may_mark s i
    desk_marks i d g =
        ap (λ x. x && not (is_out d)) (unmarked_is sys s tables.cut fits.is_cut i (within i d g)) ∙ ap (λ x. is_unmarked s i && not x) (out_is sys s counted counters i (within i d g) d (fits.fit i d g))

    desk_takes : (lane : ℕ) → lane < sys.settings.lanes → has_work_out s lane ≡ false → (i : ℕ) (d : Desk) → slice_get tables.desks i ≡ Some d → admits kind.Take sight tables.probe tables.cut i d ≡ may_take sys s i lane
    desk_takes lane l w i d g =
        let f = fits.fit i d g in
        let worker = worker_at s.workers i in
        let first : (is_fresh_at d || ((rests_at d && has_mail d) && is_over sight d)) ≡ (is_fresh worker || (rests_with_mail s i && delay_is_over sys.settings.policy s.workers s.past i)) =
        ap (λ x. x || ((rests_at d && has_mail d) && is_over sight d)) (fresh_is sys s counted counters i (within i d g) d f)
        ∙ (ap (λ x. is_fresh worker || (x && is_over sight d)) (rests_with sys s counted counters i (within i d g) d f)
        ∙ ap (λ x. is_fresh worker || (rests_with_mail s i && x)) (over_is sys s counted counters i (within i d g) d f sight policy clock)) in
        let near : is_near_enough sight.policy sight.least d.round ≡ is_fresh_enough sys.settings.policy s.workers s.rounds i =
        ap (λ r. is_near_enough sight.policy sight.least r) f.round ∙ (near_enough_is sight.policy sight.least i least ∙ ap (λ q. is_fresh_enough q s.workers s.rounds i) policy) in
        let tagged : (is_unmarked_in i tables.cut && nat_lt 0 d.buffer.tagged_batches) ≡ (is_unmarked s i && tagged_batch_waits s i) =
        ap (λ x. x && nat_lt 0 d.buffer.tagged_batches) (unmarked_is sys s tables.cut fits.is_cut i (within i d g))
        ∙ ap (λ x. is_unmarked s i && x) (tagged_is sys s counted counters i (within i d g) d f) in
        four_same (is_fresh_at d || ((rests_at d && has_mail d) && is_over sight d)) (is_fresh worker || (rests_with_mail s i && delay_is_over sys.settings.policy s.workers s.past i))
        (is_near_enough sight.policy sight.least d.round) (is_fresh_enough sys.settings.policy s.workers s.rounds i) sight.due (snapshot_is_due sys s)
        (is_unmarked_in i tables.cut && nat_lt 0 d.buffer.tagged_batches) (is_unmarked s i && tagged_batch_waits s i) first near due tagged
        ∙ sym (take_parts (nat_lt lane sys.settings.lanes) (not (has_work_out s lane)) (is_fresh worker || (rests_with_mail s i && delay_is_over sys.settings.policy s.workers s.past i)) (is_fresh_enough sys.settings.policy s.workers s.rounds i)
        (not (snapshot_is_due sys s)) (not (is_unmarked s i && tagged_batch_waits s i)) (lt-ltb lane sys.settings.lanes l) (not_from_false (has_work_out s lane) w))

    desk_stretches : (extra i : ℕ) (d : Desk) → extra ≤ 64 → slice_get tables.desks i ≡ Some d → admits kind.Stretch sight tables.probe tables.cut i d ≡ may_stretch sys s i (stretch_from sys s i + extra)
    desk_stretches extra i d small g =
        let f = fits.fit i d g in
        let t = stretch_from sys s i + extra in
        ap (λ x. x && not (is_some d.delay)) (rests_with sys s counted counters i (within i d g) d f)
        ∙ (ap (λ x. rests_with_mail s i && not x) (stretched_is sys s counted counters i (within i d g) d f)
        ∙ sym (stretch_parts (rests_with_mail s i) (not (is_stretched s i)) (nat_le (stretch_from sys s i) t) (nat_le t (stretch_from sys s i + 64)) (le-leb (stretch_from sys s i) t (omega arith)) (le-leb t (stretch_from sys s i + 64) (omega (arith, small)))))

    desk_holds : (i : ℕ) (d : Desk) → slice_get tables.desks i ≡ Some d → admits kind.Hold sight tables.probe tables.cut i d ≡ may_hold sys s i
    desk_holds i d g =
        let f = fits.fit i d g in
        ap (λ x. x && not (is_over sight d)) (stretched_is sys s counted counters i (within i d g) d f) ∙ ap (λ x. is_stretched s i && not x) (over_is sys s counted counters i (within i d g) d f sight policy clock)

    desk_flags : (i : ℕ) (d : Desk) → slice_get tables.desks i ≡ Some d → admits kind.Flag sight tables.probe tables.cut i d ≡ row_admits sys s (Flag i)
    desk_flags i d g =
        ap (λ q. probe_may_flag i q && (rests_at d && not (has_mail d))) fits.is_probe
        ∙ (ap (λ x. probe_may_flag i (probe_at s) && x) (rests_without sys s counted counters i (within i d g) d (fits.fit i d g)) ∙ sym ((meets_the_table sys s).flag i))

    desk_acks : (i : ℕ) (d : Desk) → slice_get tables.desks i ≡ Some d → admits kind.Ack sight tables.probe tables.cut i d ≡ row_admits sys s (Ack i)
    desk_acks i d g =
        ap (λ q. (may_answer i q && (rests_at d && not (has_mail d))) && not (took_since_ask i q)) fits.is_probe
        ∙ (ap (λ x. (may_answer i (probe_at s) && x) && not (took_since_ask i (probe_at s))) (rests_without sys s counted counters i (within i d g) d (fits.fit i d g)) ∙ sym ((meets_the_table sys s).ack i))

    desk_nacks : (i : ℕ) (d : Desk) → slice_get tables.desks i ≡ Some d → admits kind.Nack sight tables.probe tables.cut i d ≡ row_admits sys s (Nack i)
    desk_nacks i d g =
        let f = fits.fit i d g in
        ap (λ q. (may_answer i q && rests_at d) && (has_mail d || took_since_ask i q)) fits.is_probe
        ∙ (ap (λ x. (may_answer i (probe_at s) && x) && (has_mail d || took_since_ask i (probe_at s))) (rests_is sys s counted counters i (within i d g) d f)
        ∙ (ap (λ x. (may_answer i (probe_at s) && rests (worker_at s.workers i)) && (x || took_since_ask i (probe_at s))) (mail_is sys s counted counters i (within i d g) d f) ∙ sym ((meets_the_table sys s).nack i)))

    module _ (lane : ℕ) (below : lane < sys.settings.lanes) (free : has_work_out s lane ≡ false) (extra : ℕ → ℕ) (small : (i : ℕ) → extra i ≤ 64) where
      -- an event of a worker is admitted exactly where its desk says so
      pub kind_at : (k : Kind) (i : ℕ) → is_admitted sys s (event_of sys s lane extra k i) ≡ holds_at (admits k sight tables.probe tables.cut) tables.desks i
      kind_at kind.Mark i =
          admitted_is (is_worker s i && may_mark s i) ∙ at_desks (λ i. may_mark s i) (admits kind.Mark sight tables.probe tables.cut) (λ i d g. desk_marks i d g ∙ in_range i d (may_mark s i) g) i
      kind_at kind.Take i =
          admitted_is (is_worker s i && may_take sys s i lane)
          ∙ at_desks (λ i. may_take sys s i lane) (admits kind.Take sight tables.probe tables.cut) (λ i d g. desk_takes lane below free i d g ∙ in_range i d (may_take sys s i lane) g) i
      kind_at kind.Stretch i =
          admitted_is (is_worker s i && may_stretch sys s i (stretch_from sys s i + extra i))
          ∙ at_desks (λ i. may_stretch sys s i (stretch_from sys s i + extra i)) (admits kind.Stretch sight tables.probe tables.cut) (λ i d g. desk_stretches (extra i) i d (small i) g ∙ in_range i d (may_stretch sys s i (stretch_from sys s i + extra i)) g) i
      kind_at kind.Ack i = admitted_is (is_worker s i && may_ack s i) ∙ at_desks (λ i. may_ack s i) (admits kind.Ack sight tables.probe tables.cut) desk_acks i
      kind_at kind.Nack i = admitted_is (is_worker s i && may_nack s i) ∙ at_desks (λ i. may_nack s i) (admits kind.Nack sight tables.probe tables.cut) desk_nacks i
      kind_at kind.Flag i = admitted_is (is_worker s i && may_flag s i) ∙ at_desks (λ i. may_flag s i) (admits kind.Flag sight tables.probe tables.cut) desk_flags i
      kind_at kind.Hold i =
          admitted_is (is_worker s i && may_hold sys s i) ∙ at_desks (λ i. may_hold sys s i) (admits kind.Hold sight tables.probe tables.cut) (λ i d g. desk_holds i d g ∙ in_range i d (may_hold sys s i) g) i

      turn_is : (test : ℕ → Bool) → first_where test (in_turn (worker_count s) s.past) ≡ first_where test (range_with_len tables.turn (length tables.desks - tables.turn) ++ numbers_below tables.turn)
      turn_is test =
          ap (λ n. first_where test (range_with_len (first_in_turn (worker_count s) s.past) (n - first_in_turn (worker_count s) s.past) ++ numbers_below (first_in_turn (worker_count s) s.past))) (sym fits.count)
          ∙ ap (λ t. first_where test (range_with_len t (length tables.desks - t) ++ numbers_below t)) (sym fits.is_turn)

      -- the events of these kinds
      abbrev events_of : List Kind → List Event
      events_of [] = []
      events_of (k ∷ ks) = map (event_of sys s lane extra k) (in_turn (worker_count s) s.past) ++ events_of ks

      first_is : (k : Kind) → first_admitted sys s (map (event_of sys s lane extra k) (in_turn (worker_count s) s.past)) ≡ mapped_option (event_of sys s lane extra k) (first_desk (admits k sight tables.probe tables.cut) tables.desks tables.turn)
      first_is k =
          first_of_kind sys s (event_of sys s lane extra k) (holds_at (admits k sight tables.probe tables.cut) tables.desks) (kind_at k) (in_turn (worker_count s) s.past)
          ∙ ap (mapped_option (event_of sys s lane extra k)) (turn_is (holds_at (admits k sight tables.probe tables.cut) tables.desks))

      found_is : (ks : List Kind) → first_admitted sys s (events_of ks) ≡ event_if sys s lane extra (first_of_kinds sight tables.probe tables.cut tables.desks tables.turn ks)
      found_is [] = refl
      found_is (k ∷ ks) = go (first_desk (admits k sight tables.probe tables.cut) tables.desks tables.turn) (first_is k) (found_is ks)
        where
          go : (o : Option ℕ) → first_admitted sys s (map (event_of sys s lane extra k) (in_turn (worker_count s) s.past)) ≡ mapped_option (event_of sys s lane extra k) o →
              first_admitted sys s (events_of ks) ≡ event_if sys s lane extra (first_of_kinds sight tables.probe tables.cut tables.desks tables.turn ks) →
              first_admitted sys s (map (event_of sys s lane extra k) (in_turn (worker_count s) s.past) ++ events_of ks) ≡ event_if sys s lane extra (found_or k o (first_of_kinds sight tables.probe tables.cut tables.desks tables.turn ks))
          go None h again = first-append_none sys s (map (event_of sys s lane extra k) (in_turn (worker_count s) s.past)) (events_of ks) h ∙ again
          go (Some i) h again = first-append_some sys s (map (event_of sys s lane extra k) (in_turn (worker_count s) s.past)) (events_of ks) (event_of sys s lane extra k i) h

      choice_is : next_choice sys s lane extra ≡ event_if sys s lane extra (first_of_kinds sight tables.probe tables.cut tables.desks tables.turn kinds)
      choice_is = found_is kinds

    -- what the hub finds is the lane's choice, whatever the pacers add
    pub is_choice : (lane : ℕ) → lane < sys.settings.lanes → has_work_out s lane ≡ false → IsChoice sys s lane (first_of_kinds sight tables.probe tables.cut tables.desks tables.turn kinds)
    is_choice lane below free extra small = choice_is lane below free extra small
