-- Somebody can always go on, and choices are exact.
use Rattle.std.proofs.Common.{◌≡◌, ℕ, zero, suc, ◌+◌, ◌-◌, ◌<◌, ◌≤◌, ◌⊎◌, inl, inr, Bool, true, false, not, ◌&&◌, ◌||◌, ◌==◌, nat_le, if◌then◌else◌, IsTrue, refl, sym, ◌∙◌, ap, subst, arith, List, [], ◌∷◌, ◌++◌, length, map, reverse, append-nil, Option, Some, None, slice_index}
use Rattle.std.specs.List.{list_all, list_any, range_with_len, AllByRecursion}
use Rattle.std.proofs.lemmas.Bool.{and_parts, and_from, and_left, or_cases, or_left, or_right, or_from, or_parts, eqb-true, eq-eqb, cases_eq, cases_lt, cases_Bool, ltb-true, lt-ltb, le-leb, false≢true, not_from_false, false_from_ne_true}
use Rattle.graph_core.specs.declared.settings.Policy.{Policy}
use Rattle.graph_core.specs.declared.settings.Policy.TheVariants.{Bsp, Ap, Ssp, Aap}
use Rattle.graph_core.specs.Fragments.{numbers_below}
use Rattle.grape_event.specs.declared.event.Event.{Event}
use Rattle.grape_event.specs.declared.event.Event.TheVariants.{Take, Give, Stretch, Hold, Flag, Ask, Ack, Nack, Begin, Mark, Seal, Kept, End, Stop}
use Rattle.grape_event.specs.Events.{is_stop}
use Rattle.token_cut.specs.Parts.{SnapshotParts}
use Rattle.base_machine.specs.Machine.{System, BaseState, Worker, Fresh, Running, Rest, worker_at, is_fresh, is_running, rests, batch_waits}
use Rattle.base_machine.proofs.Posts.{all_append, all_left, all_right}
use Rattle.legal_journal.specs.Past.{has_ended, flag_is_up, was_asked, nack_since_ask, has_answered, took_since_ask, all_have_answered, last_epoch, recording_is_open, is_marked, was_kept, was_sealed, all_kept_in, all_begun_are_kept}
use Rattle.legal_journal.specs.Delays.{is_busy, is_within, is_fresh_enough, delay_is_over}
use Rattle.legal_journal.specs.Legal.{State, start_state, state_after, is_admitted, row_admits, worker_count, is_worker, has_work_out, snapshot_is_due, is_unmarked, rests_without_mail, rests_with_mail, is_stretched, stretch_from, may_stretch, IsLegal, state_at_end}
use Rattle.legal_journal.specs.Choices.{first_admitted, first_in_turn, in_turn, is_of_lane, lane_events, is_duty, duties, sealed_epochs, run_events}
use Rattle.legal_journal.specs.Theorems.{LaneChoicesAreExact, DutiesAreExact, OneLaneGoesOn, RunsGoOn}
use Rattle.legal_journal.proofs.Walks.{kept_along, past_after, all_or_not, all_from_each}
use Rattle.legal_journal.proofs.Probes.{both, count_after}

-- ---- what is begun is sealed, or is being recorded

abbrev pub is_begin_of : ℕ → Event → Bool
is_begin_of e (Begin d) = e == d
is_begin_of e _ = false

abbrev pub was_begun : ℕ → List Event → Bool
was_begun e past = list_any (is_begin_of e) past

pub record IsInOrder (s : State) : Type 0 where
  pub kept : (e : ℕ) → was_kept e s.past ≡ true → was_sealed e s.past ≡ true
  pub begun : (e : ℕ) → was_begun e s.past ≡ true → (was_sealed e s.past ≡ true) ⊎ ((recording_is_open s.past ≡ true) × (e ≡ last_epoch s.start.epoch s.past))

pub kept_of_all : (past begun : List Event) (e : ℕ) → all_kept_in past begun ≡ true → was_begun e begun ≡ true → was_kept e past ≡ true
kept_of_all past [] e h b = absurd (false≢true b)
kept_of_all past (Begin d ∷ begun) e h b =
    let parts = and_parts (was_kept d past) _ h in
    elim (or_cases (e == d) _ b) [ inl q ↦ subst (λ x. was_kept x past ≡ true) (sym (eqb-true e d q)) parts.0 | inr q ↦ kept_of_all past begun e parts.1 q ]
kept_of_all past (Take i k ∷ begun) e h b = kept_of_all past begun e h b
kept_of_all past (Give i ∷ begun) e h b = kept_of_all past begun e h b
kept_of_all past (Stretch i t ∷ begun) e h b = kept_of_all past begun e h b
kept_of_all past (Hold i ∷ begun) e h b = kept_of_all past begun e h b
kept_of_all past (Flag i ∷ begun) e h b = kept_of_all past begun e h b
kept_of_all past (Ask ∷ begun) e h b = kept_of_all past begun e h b
kept_of_all past (Ack i ∷ begun) e h b = kept_of_all past begun e h b
kept_of_all past (Nack i ∷ begun) e h b = kept_of_all past begun e h b
kept_of_all past (Mark i ∷ begun) e h b = kept_of_all past begun e h b
kept_of_all past (Seal d ∷ begun) e h b = kept_of_all past begun e h b
kept_of_all past (Kept d ∷ begun) e h b = kept_of_all past begun e h b
kept_of_all past (End ∷ begun) e h b = kept_of_all past begun e h b
kept_of_all past (Stop c ∷ begun) e h b = kept_of_all past begun e h b

pub all_of_kept : (past begun : List Event) → ((e : ℕ) → was_begun e begun ≡ true → was_kept e past ≡ true) → all_kept_in past begun ≡ true
all_of_kept past [] h = refl
all_of_kept past (Begin d ∷ begun) h =
    and_from (was_kept d past) _ (h d (or_left (d == d) _ (eq-eqb d d refl))) (all_of_kept past begun (λ e b. h e (or_right (e == d) _ b)))
all_of_kept past (Take i k ∷ begun) h = all_of_kept past begun h
all_of_kept past (Give i ∷ begun) h = all_of_kept past begun h
all_of_kept past (Stretch i t ∷ begun) h = all_of_kept past begun h
all_of_kept past (Hold i ∷ begun) h = all_of_kept past begun h
all_of_kept past (Flag i ∷ begun) h = all_of_kept past begun h
all_of_kept past (Ask ∷ begun) h = all_of_kept past begun h
all_of_kept past (Ack i ∷ begun) h = all_of_kept past begun h
all_of_kept past (Nack i ∷ begun) h = all_of_kept past begun h
all_of_kept past (Mark i ∷ begun) h = all_of_kept past begun h
all_of_kept past (Seal d ∷ begun) h = all_of_kept past begun h
all_of_kept past (Kept d ∷ begun) h = all_of_kept past begun h
all_of_kept past (End ∷ begun) h = all_of_kept past begun h
all_of_kept past (Stop c ∷ begun) h = all_of_kept past begun h

pub order_kept : (sys : System) (s : State) (e : Event) → IsTrue (row_admits sys s e) → IsInOrder s → IsInOrder (state_after sys s e)
order_kept sys s (Begin d) h p =
    let kept = (and_parts (snapshot_is_due sys s) _ (and_parts (snapshot_is_due sys s && all_begun_are_kept s.past) _ h).0).1 in
    record {
      kept = p.kept;
      begun = λ e b. elim (or_cases (e == d) _ b) [ inl q ↦ inr (refl, eqb-true e d q) | inr q ↦ inl (p.kept e (kept_of_all s.past s.past e kept q)) ];
    }
order_kept sys s (Seal d) h p =
    let last = eqb-true d _ (and_parts _ (d == last_epoch s.start.epoch s.past) h).1 in
    record {
      kept = λ e k. or_right (e == d) _ (p.kept e k);
      begun = λ e b. elim (p.begun e b) [ inl q ↦ inl (or_right (e == d) _ q) | inr q ↦ inl (or_left (e == d) _ (eq-eqb e d (q.1 ∙ sym last))) ];
    }
order_kept sys s (Kept d) h p =
    let sealed = (and_parts (was_sealed d s.past) _ h).0 in
    record {
      kept = λ e k. elim (or_cases (e == d) _ k) [ inl q ↦ subst (λ x. was_sealed x s.past ≡ true) (sym (eqb-true e d q)) sealed | inr q ↦ p.kept e q ];
      begun = p.begun;
    }
order_kept sys s (Take i k) h p = record { kept = p.kept; begun = p.begun }
order_kept sys s (Give i) h p = record { kept = p.kept; begun = p.begun }
order_kept sys s (Stretch i t) h p = record { kept = p.kept; begun = p.begun }
order_kept sys s (Hold i) h p = record { kept = p.kept; begun = p.begun }
order_kept sys s (Flag i) h p = record { kept = p.kept; begun = p.begun }
order_kept sys s Ask h p = record { kept = p.kept; begun = p.begun }
order_kept sys s (Ack i) h p = record { kept = p.kept; begun = p.begun }
order_kept sys s (Nack i) h p = record { kept = p.kept; begun = p.begun }
order_kept sys s (Mark i) h p = record { kept = p.kept; begun = p.begun }
order_kept sys s End h p = record { kept = p.kept; begun = p.begun }
order_kept sys s (Stop c) h p = record { kept = p.kept; begun = p.begun }

-- ---- a number that passes and is least by a measure

abbrev pub IsLeast : (ℕ → Bool) → (ℕ → ℕ) → ℕ → ℕ → Type 0
IsLeast test r n i = (i < n) × (test i ≡ true) × ((j : ℕ) → j < n → test j ≡ true → r i ≤ r j)

pub least_or_none : (test : ℕ → Bool) (r : ℕ → ℕ) (n : ℕ) → ((i : ℕ) → i < n → test i ≡ false) ⊎ ((i : ℕ) × IsLeast test r n i)
least_or_none test r zero = inl (λ i l. absurd (omega (arith, l)))
least_or_none test r (suc n) = go (test n) refl (least_or_none test r n)
  where
    below : (j : ℕ) → j < suc n → (j ≡ n) ⊎ (j < n)
    below j l = elim (cases_eq j n) [ inl e ↦ inl e | inr d ↦ inr (omega (arith, l, d)) ]

    go : (t : Bool) → test n ≡ t → ((i : ℕ) → i < n → test i ≡ false) ⊎ ((i : ℕ) × IsLeast test r n i) → ((i : ℕ) → i < suc n → test i ≡ false) ⊎ ((i : ℕ) × IsLeast test r (suc n) i)
    go false e (inl none) = inl (λ i l. elim (below i l) [ inl q ↦ subst (λ x. test x ≡ false) (sym q) e | inr q ↦ none i q ])
    go true e (inl none) =
        inr (n, (omega arith, e, λ j l t. elim (below j l) [ inl q ↦ subst (λ x. r n ≤ r x) (sym q) (omega arith) | inr q ↦ absurd (both t (none j q)) ]))
    go false e (inr k) =
        let l = k.1.0 in
        inr (k.0, (omega (arith, l), k.1.1, λ j l t. elim (below j l) [ inl q ↦ absurd (both t (subst (λ x. test x ≡ false) (sym q) e)) | inr q ↦ k.1.2 j q t ]))
    go true e (inr k) = elim (cases_lt (r n) (r k.0)) [
      | inl lt ↦ inr (n, (omega arith, e, λ j l t. elim (below j l) [ inl q ↦ subst (λ x. r n ≤ r x) (sym q) (omega arith) | inr q ↦ let m = k.1.2 j q t in omega (arith, m, lt) ]))
      | inr ge ↦ let l = k.1.0 in inr (k.0, (omega (arith, l), k.1.1, λ j l t. elim (below j l) [ inl q ↦ subst (λ x. r k.0 ≤ r x) (sym q) ge | inr q ↦ k.1.2 j q t ]))
    ]

any_none_from : (test : ℕ → Bool) (a n : ℕ) → ((i : ℕ) → i < n → test (a + i) ≡ false) → list_any test (range_with_len a n) ≡ false
any_none_from test a zero h = refl
any_none_from test a (suc n) h =
    let z : a + 0 ≡ a = omega arith in
    or_from (test a) _ (subst (λ q. test q ≡ false) z (h 0 (omega arith)))
    (any_none_from test (a + 1) n (λ i l. let e : a + suc i ≡ a + 1 + i = omega arith in subst (λ q. test q ≡ false) e (h (suc i) (omega (arith, l)))))

pub any_none : (test : ℕ → Bool) (n : ℕ) → ((i : ℕ) → i < n → test i ≡ false) → list_any test (numbers_below n) ≡ false
any_none test n h = any_none_from test 0 n (λ i l. let e : i ≡ 0 + i = omega arith in subst (λ q. test q ≡ false) e (h i l))

-- ---- somebody can go on

pub fresh_or_rests : (w : Worker) → is_running w ≡ false → (is_fresh w ≡ true) ⊎ (rests w ≡ true)
fresh_or_rests w h =
    elim w.standing as (λ x. elim x as (λ _. Bool) [ Fresh ↦ false | Running hand ↦ true | Rest ↦ false ] ≡ false →
    (elim x as (λ _. Bool) [ Fresh ↦ true | Running hand ↦ false | Rest ↦ false ] ≡ true) ⊎ (elim x as (λ _. Bool) [ Fresh ↦ false | Running hand ↦ false | Rest ↦ true ] ≡ true)) [
      | Fresh ↦ λ a. inl refl
      | Running hand ↦ λ a. absurd (false≢true (sym a))
      | Rest ↦ λ a. inr refl
    ] h

least_is_within : (c : ℕ) (ws : BaseState) (rounds : List ℕ) (i : ℕ) → IsLeast (λ j. is_busy (worker_at ws j)) (slice_index rounds) (length ws) i → is_within c ws rounds i ≡ true
least_is_within c ws rounds i h = all_from_each (λ j. j == i || not (is_busy (worker_at ws j)) || nat_le (slice_index rounds i) (slice_index rounds j + c)) (length ws) (λ j l. go j l (is_busy (worker_at ws j)) refl)
  where
    go : (j : ℕ) → j < length ws → (b : Bool) → is_busy (worker_at ws j) ≡ b → (j == i || not (is_busy (worker_at ws j)) || nat_le (slice_index rounds i) (slice_index rounds j + c)) ≡ true
    go j l true e =
        let m = h.2 j l e in
        or_right (j == i || not (is_busy (worker_at ws j))) (nat_le (slice_index rounds i) (slice_index rounds j + c)) (le-leb (slice_index rounds i) (slice_index rounds j + c) (omega (arith, m)))
    go j l false e = or_left (j == i || not (is_busy (worker_at ws j))) (nat_le (slice_index rounds i) (slice_index rounds j + c)) (or_right (j == i) (not (is_busy (worker_at ws j))) (not_from_false (is_busy (worker_at ws j)) e))

pub least_is_fresh_enough : (p : Policy) (ws : BaseState) (rounds : List ℕ) (i : ℕ) → IsLeast (λ j. is_busy (worker_at ws j)) (slice_index rounds) (length ws) i → is_fresh_enough p ws rounds i ≡ true
least_is_fresh_enough Bsp ws rounds i h = least_is_within 0 ws rounds i h
least_is_fresh_enough Ap ws rounds i h = refl
least_is_fresh_enough (Ssp c) ws rounds i h = least_is_within c ws rounds i h
least_is_fresh_enough (Aap c l) ws rounds i h = least_is_within c ws rounds i h

-- A lane has nothing to do where nobody runs: no event that concerns it is admitted by its row. No recording is open, and no snapshot is due.
pub record IsIdle (sys : System) (s : State) (lane : ℕ) : Type 0 where
  pub lane_in_range : lane < sys.settings.lanes
  pub calm : (i : ℕ) → i < worker_count s → is_running (worker_at s.workers i) ≡ false
  pub closed : recording_is_open s.past ≡ false
  pub not_due : snapshot_is_due sys s ≡ false
  pub refuses : (e : Event) → is_of_lane lane e ≡ true → row_admits sys s e ≡ true → ⊥

module _ (sys : System) (s : State) (lane : ℕ) (t : IsIdle sys s lane) where
  free : has_work_out s lane ≡ false
  free = any_none _ (worker_count s) (λ i l. and_left _ _ (t.calm i l))

  no_take : (i : ℕ) → IsLeast (λ j. is_busy (worker_at s.workers j)) (slice_index s.rounds) (worker_count s) i →
      (is_fresh (worker_at s.workers i) || (rests_with_mail s i && delay_is_over sys.settings.policy s.workers s.past i)) ≡ true → ⊥
  no_take i least ready =
      t.refuses (Take i lane) (eq-eqb lane lane refl)
      (and_from _ _ (lt-ltb i (worker_count s) least.0)
      (and_from _ _
      (and_from _ _
      (and_from _ _
      (and_from _ _ (and_from _ _ (lt-ltb lane sys.settings.lanes t.lane_in_range) (not_from_false _ free)) ready)
      (least_is_fresh_enough sys.settings.policy s.workers s.rounds i least))
      (not_from_false _ t.not_due))
      (not_from_false _ (and_left (is_unmarked s i) _ (and_left (recording_is_open s.past) _ t.closed)))))

  no_busy : (i : ℕ) → IsLeast (λ j. is_busy (worker_at s.workers j)) (slice_index s.rounds) (worker_count s) i → ⊥
  no_busy i least = elim (fresh_or_rests (worker_at s.workers i) (t.calm i least.0)) [
    | inl f ↦ no_take i least (or_left (is_fresh (worker_at s.workers i)) _ f)
    | inr r ↦ elim (cases_Bool (is_fresh (worker_at s.workers i))) [
      | inl f ↦ no_take i least (or_left (is_fresh (worker_at s.workers i)) _ f)
      | inr nf ↦
          let mail : rests_with_mail s i ≡ true =
          and_from (rests (worker_at s.workers i)) (batch_waits (worker_at s.workers i)) r
          (elim (or_cases (is_fresh (worker_at s.workers i) || is_running (worker_at s.workers i)) (batch_waits (worker_at s.workers i)) least.1) [
            | inl q ↦ absurd (both q (or_from _ _ nf (t.calm i least.0)))
            | inr q ↦ q
          ]) in
          elim (cases_Bool (delay_is_over sys.settings.policy s.workers s.past i)) [
            | inl over ↦ no_take i least (or_right (is_fresh (worker_at s.workers i)) _ (and_from (rests_with_mail s i) _ mail over))
            | inr on ↦ elim (cases_Bool (is_stretched s i)) [
              | inl st ↦ t.refuses (Hold i) refl (and_from _ _ (lt-ltb i (worker_count s) least.0) (and_from _ _ st (not_from_false _ on)))
              | inr ns ↦
                  t.refuses (Stretch i (stretch_from sys s i)) refl
                  (and_from _ _ (lt-ltb i (worker_count s) least.0)
                  (and_from _ _ (and_from _ _ (and_from _ _ mail (not_from_false _ ns)) (le-leb (stretch_from sys s i) (stretch_from sys s i) (omega arith))) (le-leb (stretch_from sys s i) (stretch_from sys s i + 64) (omega arith))))
            ]
          ]
    ]
  ]

  -- a busy worker of least round could go on
  nobody_is_busy : (i : ℕ) → i < worker_count s → is_busy (worker_at s.workers i) ≡ false
  nobody_is_busy = elim (least_or_none (λ j. is_busy (worker_at s.workers j)) (slice_index s.rounds) (worker_count s)) [
    | inl idle ↦ idle
    | inr k ↦ absurd (no_busy k.0 k.1)
  ]

  pub all_rest : (i : ℕ) → i < worker_count s → rests_without_mail s i ≡ true
  all_rest i l =
      let parts = or_parts (is_fresh (worker_at s.workers i) || is_running (worker_at s.workers i)) (batch_waits (worker_at s.workers i)) (nobody_is_busy i l) in
      let f = or_parts (is_fresh (worker_at s.workers i)) (is_running (worker_at s.workers i)) parts.0 in
      and_from _ _ (elim (fresh_or_rests (worker_at s.workers i) f.1) [ inl q ↦ absurd (both q f.0) | inr r ↦ r ]) (not_from_false _ parts.1)

-- no event of a lane and no duty is admitted by its row
record IsStuck (sys : System) (s : State) (lane : ℕ) : Type 0 where
  lane_in_range : lane < sys.settings.lanes
  calm : (i : ℕ) → i < worker_count s → is_running (worker_at s.workers i) ≡ false
  sealed_kept : (e : ℕ) → was_sealed e s.past ≡ true → was_kept e s.past ≡ true
  order : IsInOrder s
  stuck : (e : Event) → (is_of_lane lane e || is_duty e) ≡ true → row_admits sys s e ≡ true → ⊥

module _ (sys : System) (s : State) (lane : ℕ) (t : IsStuck sys s lane) where
  worker : (i : ℕ) → i < worker_count s → is_worker s i ≡ true
  worker i l = lt-ltb i (worker_count s) l

  not_open : recording_is_open s.past ≡ true → ⊥
  not_open opened = elim (all_or_not (λ i. is_marked i s.past) (worker_count s)) [
    | inl all ↦
        t.stuck (Seal (last_epoch s.start.epoch s.past)) refl
        (and_from _ _ (and_from _ _ opened all) (eq-eqb (last_epoch s.start.epoch s.past) (last_epoch s.start.epoch s.past) refl))
    | inr k ↦ t.stuck (Mark k.0) refl (and_from _ _ (worker k.0 k.1) (and_from _ _ (and_from _ _ opened (not_from_false _ k.2)) (not_from_false _ (t.calm k.0 k.1))))
  ]

  begun_kept : all_begun_are_kept s.past ≡ true
  begun_kept = all_of_kept s.past s.past (λ e b. elim (t.order.begun e b) [ inl q ↦ t.sealed_kept e q | inr q ↦ absurd (not_open q.0) ])

  not_due : snapshot_is_due sys s ≡ false
  not_due =
      false_from_ne_true (snapshot_is_due sys s)
      (λ due. t.stuck (Begin (last_epoch s.start.epoch s.past + 1)) refl (and_from _ _ (and_from _ _ due begun_kept) (eq-eqb (last_epoch s.start.epoch s.past + 1) (last_epoch s.start.epoch s.past + 1) refl)))

  no_mail : (i : ℕ) → i < worker_count s → rests_without_mail s i ≡ true
  no_mail =
      all_rest sys s lane
      (record {
        lane_in_range = t.lane_in_range;
        calm = t.calm;
        closed = false_from_ne_true (recording_is_open s.past) not_open;
        not_due = not_due;
        refuses = λ e h row. t.stuck e (or_left (is_of_lane lane e) (is_duty e) h) row;
      })

  all_up : list_all (λ i. flag_is_up i s.past) (numbers_below (worker_count s)) ≡ true
  all_up = elim (all_or_not (λ i. flag_is_up i s.past) (worker_count s)) [
    | inl h ↦ h
    | inr k ↦ absurd (t.stuck (Flag k.0) refl (and_from _ _ (worker k.0 k.1) (and_from _ _ (no_mail k.0 k.1) (not_from_false _ k.2))))
  ]

  asked : was_asked s.past ≡ true
  asked = elim (cases_Bool (was_asked s.past)) [ inl h ↦ h | inr h ↦ absurd (t.stuck Ask refl (and_from _ _ all_up (or_left (not (was_asked s.past)) _ (not_from_false _ h)))) ]

  no_nack : nack_since_ask s.past ≡ false
  no_nack = false_from_ne_true (nack_since_ask s.past) (λ h. t.stuck Ask refl (and_from _ _ all_up (or_right (not (was_asked s.past)) _ h)))

  not_all : all_have_answered (worker_count s) s.past ≡ false
  not_all = false_from_ne_true (all_have_answered (worker_count s) s.past) (λ h. t.stuck End refl (and_from _ _ h begun_kept))

  never_stuck : ⊥
  never_stuck = elim (all_or_not (λ i. has_answered i s.past) (worker_count s)) [
    | inl h ↦ both (and_from _ _ asked h) not_all
    | inr k ↦
        let opened = and_from _ _ (and_from _ _ asked (not_from_false _ no_nack)) (not_from_false _ not_all) in
        let may = and_from _ _ opened (not_from_false _ k.2) in
        let idle_here = no_mail k.0 k.1 in
        elim (cases_Bool (took_since_ask k.0 s.past)) [
          | inl took ↦
              t.stuck (Nack k.0) refl
              (and_from _ _ (worker k.0 k.1) (and_from _ _ (and_from _ _ may (and_parts (rests (worker_at s.workers k.0)) _ idle_here).0) (or_right (batch_waits (worker_at s.workers k.0)) _ took)))
          | inr not_took ↦ t.stuck (Ack k.0) refl (and_from _ _ (worker k.0 k.1) (and_from _ _ (and_from _ _ may idle_here) (not_from_false _ not_took)))
        ]
  ]

-- ---- the first that is admitted

abbrev pub AreRefused : System → State → List Event → Type 0
AreRefused sys s = AllByRecursion (λ e. is_admitted sys s e ≡ false)

first_or_none : (sys : System) (s : State) (es : List Event) → ((e : Event) × (first_admitted sys s es ≡ Some e)) ⊎ ((first_admitted sys s es ≡ None) × AreRefused sys s es)
first_or_none sys s [] = inr (refl, tt)
first_or_none sys s (e ∷ es) = go (is_admitted sys s e) refl (first_or_none sys s es)
  where
    go : (b : Bool) → is_admitted sys s e ≡ b → ((x : Event) × (first_admitted sys s es ≡ Some x)) ⊎ ((first_admitted sys s es ≡ None) × AreRefused sys s es) →
        ((x : Event) × ((if is_admitted sys s e then Some e else first_admitted sys s es) ≡ Some x)) ⊎ (((if is_admitted sys s e then Some e else first_admitted sys s es) ≡ None) × ((is_admitted sys s e ≡ false) × AreRefused sys s es))
    go true h k = inl (e, ap (λ b. if b then Some e else first_admitted sys s es) h)
    go false h (inl k) = inl (k.0, ap (λ b. if b then Some e else first_admitted sys s es) h ∙ k.1)
    go false h (inr k) = inr (ap (λ b. if b then Some e else first_admitted sys s es) h ∙ k.0, (h, k.1))

pub some-none : {X : Type 0} (o : Option X) (x : X) → o ≡ Some x → o ≡ None → ⊥
some-none o x h k = false≢true (ap (λ q. elim q as (λ _. Bool) [ None ↦ false | Some y ↦ true ]) (sym k ∙ h))

some-some : (a b : Event) → Some a ≡ Some b → a ≡ b
some-some a b h = ap (λ (o : Option Event). elim o as (λ _. Event) [ None ↦ a | Some x ↦ x ]) h

pub refused : (sys : System) (s : State) (es : List Event) → first_admitted sys s es ≡ None → AreRefused sys s es
refused sys s es h = elim (first_or_none sys s es) [ inl k ↦ absurd (some-none _ k.0 k.1 h) | inr k ↦ k.1 ]

-- what is found is admitted, and has what all of the list have
pub found : (sys : System) (s : State) (P : Event → Type 0) (es : List Event) (e : Event) → AllByRecursion P es → first_admitted sys s es ≡ Some e → (is_admitted sys s e ≡ true) × P e
found sys s P [] e all h = absurd (some-none None e h refl)
found sys s P (x ∷ es) e all h = go (is_admitted sys s x) refl (found sys s P es e all.1)
  where
    go : (b : Bool) → is_admitted sys s x ≡ b → (first_admitted sys s es ≡ Some e → (is_admitted sys s e ≡ true) × P e) → (is_admitted sys s e ≡ true) × P e
    go true q again =
        let same : x ≡ e = some-some x e (sym (ap (λ b. if b then Some x else first_admitted sys s es) q) ∙ h) in
        (subst (λ y. is_admitted sys s y ≡ true) same q, subst P same all.0)
    go false q again = again (sym (ap (λ b. if b then Some x else first_admitted sys s es) q) ∙ h)

-- lists joined: the first of the second, where the first has none
pub first-append_none : (sys : System) (s : State) (xs ys : List Event) → first_admitted sys s xs ≡ None → first_admitted sys s (xs ++ ys) ≡ first_admitted sys s ys
first-append_none sys s [] ys h = refl
first-append_none sys s (x ∷ xs) ys h = go (is_admitted sys s x) refl (first-append_none sys s xs ys)
  where
    go : (b : Bool) → is_admitted sys s x ≡ b → (first_admitted sys s xs ≡ None → first_admitted sys s (xs ++ ys) ≡ first_admitted sys s ys) → (if is_admitted sys s x then Some x else first_admitted sys s (xs ++ ys)) ≡ first_admitted sys s ys
    go true e again = absurd (some-none (first_admitted sys s (x ∷ xs)) x (ap (λ b. if b then Some x else first_admitted sys s xs) e) h)
    go false e again = ap (λ b. if b then Some x else first_admitted sys s (xs ++ ys)) e ∙ again (sym (ap (λ b. if b then Some x else first_admitted sys s xs) e) ∙ h)

pub first-append_some : (sys : System) (s : State) (xs ys : List Event) (e : Event) → first_admitted sys s xs ≡ Some e → first_admitted sys s (xs ++ ys) ≡ Some e
first-append_some sys s [] ys e h = absurd (some-none None e h refl)
first-append_some sys s (x ∷ xs) ys e h = go (is_admitted sys s x) refl (first-append_some sys s xs ys e)
  where
    go : (b : Bool) → is_admitted sys s x ≡ b → (first_admitted sys s xs ≡ Some e → first_admitted sys s (xs ++ ys) ≡ Some e) → (if is_admitted sys s x then Some x else first_admitted sys s (xs ++ ys)) ≡ Some e
    go true q again = ap (λ b. if b then Some x else first_admitted sys s (xs ++ ys)) q ∙ (sym (ap (λ b. if b then Some x else first_admitted sys s xs) q) ∙ h)
    go false q again = ap (λ b. if b then Some x else first_admitted sys s (xs ++ ys)) q ∙ again (sym (ap (λ b. if b then Some x else first_admitted sys s xs) q) ∙ h)

-- ---- all of a list of numbers

mapped_at : (P : Event → Type 0) (f : ℕ → Event) (a n : ℕ) → AllByRecursion P (map f (range_with_len a n)) → (i : ℕ) → i < n → P (f (a + i))
mapped_at P f a zero h i l = absurd (omega (arith, l))
mapped_at P f a (suc n) h zero l = let e : a + 0 ≡ a = omega arith in subst (λ k. P (f k)) (sym e) h.0
mapped_at P f a (suc n) h (suc i) l = let e : a + 1 + i ≡ a + suc i = omega arith in subst (λ k. P (f k)) e (mapped_at P f (a + 1) n h.1 i (omega (arith, l)))

map_append : (f : ℕ → Event) (xs ys : List ℕ) → map f (xs ++ ys) ≡ map f xs ++ map f ys
map_append f [] ys = refl
map_append f (x ∷ xs) ys = ap (λ l. f x ∷ l) (map_append f xs ys)

pub turn_at : (P : Event → Type 0) (f : ℕ → Event) (n : ℕ) (past : List Event) → AllByRecursion P (map f (in_turn n past)) → (i : ℕ) → i < n → P (f i)
turn_at P f n past h i l =
    let c = first_in_turn n past in
    let h' : AllByRecursion P (map f (range_with_len c (n - c)) ++ map f (numbers_below c)) = subst (AllByRecursion P) (map_append f (range_with_len c (n - c)) (numbers_below c)) h in
    elim (cases_lt i c) [
      | inl lt ↦ let e : 0 + i ≡ i = omega arith in subst (λ k. P (f k)) e (mapped_at P f 0 c (all_right P (map f (range_with_len c (n - c))) _ h') i lt)
      | inr ge ↦ let e : c + (i - c) ≡ i = omega (arith, ge) in subst (λ k. P (f k)) e (mapped_at P f c (n - c) (all_left P (map f (range_with_len c (n - c))) _ h') (i - c) (omega (arith, ge, l)))
    ]

all_mapped : (P : Event → Type 0) (f : ℕ → Event) (is : List ℕ) → ((i : ℕ) → P (f i)) → AllByRecursion P (map f is)
all_mapped P f [] h = tt
all_mapped P f (i ∷ is) h = (h i, all_mapped P f is h)

-- ---- a lane's choices

of_lane : (sys : System) (s : State) (lane : ℕ) (extra : ℕ → ℕ) → AllByRecursion (λ e. is_of_lane lane e ≡ true) (lane_events sys s lane extra)
of_lane sys s lane extra =
    let P : Event → Type 0 = λ e. is_of_lane lane e ≡ true in
    let is = in_turn (worker_count s) s.past in
    all_append P _ _ (all_mapped P (λ i. Mark i) is (λ i. refl))
    (all_append P _ _ (all_mapped P (λ i. Take i lane) is (λ i. eq-eqb lane lane refl))
    (all_append P _ _ (all_mapped P (λ i. Stretch i (stretch_from sys s i + extra i)) is (λ i. refl))
    (all_append P _ _ (all_mapped P (λ i. Ack i) is (λ i. refl))
    (all_append P _ _ (all_mapped P (λ i. Nack i) is (λ i. refl)) (all_append P _ _ (all_mapped P (λ i. Flag i) is (λ i. refl)) (all_append P _ _ (all_mapped P (λ i. Hold i) is (λ i. refl)) tt))))))

record AreLaneRefused (sys : System) (s : State) (lane : ℕ) (extra : ℕ → ℕ) : Type 0 where
  mark : (i : ℕ) → i < worker_count s → is_admitted sys s (Mark i) ≡ false
  take : (i : ℕ) → i < worker_count s → is_admitted sys s (Take i lane) ≡ false
  stretch : (i : ℕ) → i < worker_count s → is_admitted sys s (Stretch i (stretch_from sys s i + extra i)) ≡ false
  ack : (i : ℕ) → i < worker_count s → is_admitted sys s (Ack i) ≡ false
  nack : (i : ℕ) → i < worker_count s → is_admitted sys s (Nack i) ≡ false
  flag : (i : ℕ) → i < worker_count s → is_admitted sys s (Flag i) ≡ false
  hold : (i : ℕ) → i < worker_count s → is_admitted sys s (Hold i) ≡ false

lane_refused : (sys : System) (s : State) (lane : ℕ) (extra : ℕ → ℕ) → AreRefused sys s (lane_events sys s lane extra) → AreLaneRefused sys s lane extra
lane_refused sys s lane extra h =
    let P : Event → Type 0 = λ e. is_admitted sys s e ≡ false in
    let n = worker_count s in
    let is = in_turn n s.past in
    let t1 = all_right P (map (λ i. Mark i) is) _ h in
    let t2 = all_right P (map (λ i. Take i lane) is) _ t1 in
    let t3 = all_right P (map (λ i. Stretch i (stretch_from sys s i + extra i)) is) _ t2 in
    let t4 = all_right P (map (λ i. Ack i) is) _ t3 in
    let t5 = all_right P (map (λ i. Nack i) is) _ t4 in
    let t6 = all_right P (map (λ i. Flag i) is) _ t5 in
    record {
      mark = turn_at P (λ i. Mark i) n s.past (all_left P (map (λ i. Mark i) is) _ h);
      take = turn_at P (λ i. Take i lane) n s.past (all_left P (map (λ i. Take i lane) is) _ t1);
      stretch = turn_at P (λ i. Stretch i (stretch_from sys s i + extra i)) n s.past (all_left P (map (λ i. Stretch i (stretch_from sys s i + extra i)) is) _ t2);
      ack = turn_at P (λ i. Ack i) n s.past (all_left P (map (λ i. Ack i) is) _ t3);
      nack = turn_at P (λ i. Nack i) n s.past (all_left P (map (λ i. Nack i) is) _ t4);
      flag = turn_at P (λ i. Flag i) n s.past (all_left P (map (λ i. Flag i) is) _ t5);
      hold = turn_at P (λ i. Hold i) n s.past (all_left P (map (λ i. Hold i) is) _ t6);
    }

module _ (sys : System) (s : State) (lane : ℕ) (extra : ℕ → ℕ) (small : (i : ℕ) → extra i ≤ 64) (r : AreLaneRefused sys s lane extra) where
  past_range : (e : Event) (i : ℕ) (b : Bool) → row_admits sys s e ≡ (is_worker s i && b) → (i < worker_count s → is_admitted sys s e ≡ false) → is_admitted sys s e ≡ false
  past_range e i b q h = elim (cases_lt i (worker_count s)) [
    | inl l ↦ h l
    | inr ge ↦ false_from_ne_true (is_admitted sys s e)
        (λ a. let l = ltb-true i (worker_count s) (and_parts (is_worker s i) b (sym q ∙ (and_parts (not (has_ended s.past)) (row_admits sys s e) a).1)).0 in absurd (omega (arith, l, ge)))
  ]

  lane_none : (e : Event) → is_of_lane lane e ≡ true → is_admitted sys s e ≡ false
  lane_none (Take i k) h = subst (λ q. is_admitted sys s (Take i q) ≡ false) (sym (eqb-true k lane h)) (past_range (Take i lane) i _ refl (r.take i))
  lane_none (Stretch i turns) h =
      past_range (Stretch i turns) i _ refl
      (λ l. false_from_ne_true (is_admitted sys s (Stretch i turns))
      (λ a.
      let parts = and_parts (not (has_ended s.past)) (row_admits sys s (Stretch i turns)) a in
      let row = and_parts (is_worker s i) (may_stretch sys s i turns) parts.1 in
      let ready = (and_parts (rests_with_mail s i && not (is_stretched s i)) _ (and_parts (rests_with_mail s i && not (is_stretched s i) && nat_le (stretch_from sys s i) turns) _ row.1).0).0 in
      let t = stretch_from sys s i + extra i in
      let m = small i in
      both
      (and_from _ _ parts.0
      (and_from _ _ row.0 (and_from _ _ (and_from _ _ ready (le-leb (stretch_from sys s i) t (omega arith))) (le-leb t (stretch_from sys s i + 64) (omega (arith, m))))))
      (r.stretch i l)))
  lane_none (Hold i) h = past_range (Hold i) i _ refl (r.hold i)
  lane_none (Flag i) h = past_range (Flag i) i _ refl (r.flag i)
  lane_none (Ack i) h = past_range (Ack i) i _ refl (r.ack i)
  lane_none (Nack i) h = past_range (Nack i) i _ refl (r.nack i)
  lane_none (Mark i) h = past_range (Mark i) i _ refl (r.mark i)
  lane_none (Give i) h = absurd (false≢true h)
  lane_none Ask h = absurd (false≢true h)
  lane_none (Begin e) h = absurd (false≢true h)
  lane_none (Seal e) h = absurd (false≢true h)
  lane_none (Kept e) h = absurd (false≢true h)
  lane_none End h = absurd (false≢true h)
  lane_none (Stop c) h = absurd (false≢true h)

pub lane_choices_are_exact : LaneChoicesAreExact
lane_choices_are_exact sys s lane extra small = (
  λ e h. found sys s (λ e. is_of_lane lane e ≡ true) (lane_events sys s lane extra) e (of_lane sys s lane extra) h,
  λ h e k. lane_none sys s lane extra small (lane_refused sys s lane extra (refused sys s (lane_events sys s lane extra) h)) e k,
)

-- ---- duties

duty_none : (sys : System) (s : State) → AreRefused sys s (duties s) → (e : Event) → is_duty e ≡ true → is_admitted sys s e ≡ false
duty_none sys s r Ask h = r.1.1.1.0
duty_none sys s r (Begin d) h =
    false_from_ne_true (is_admitted sys s (Begin d))
    (λ a. let q = eqb-true d _ (and_parts _ (d == last_epoch s.start.epoch s.past + 1) (and_parts (not (has_ended s.past)) (row_admits sys s (Begin d)) a).1).1 in
    both (subst (λ x. is_admitted sys s (Begin x) ≡ true) q a) r.1.1.0)
duty_none sys s r (Seal d) h =
    false_from_ne_true (is_admitted sys s (Seal d))
    (λ a. let q = eqb-true d _ (and_parts _ (d == last_epoch s.start.epoch s.past) (and_parts (not (has_ended s.past)) (row_admits sys s (Seal d)) a).1).1 in
    both (subst (λ x. is_admitted sys s (Seal x) ≡ true) q a) r.0)
duty_none sys s r End h = r.1.0
duty_none sys s r (Take i k) h = absurd (false≢true h)
duty_none sys s r (Give i) h = absurd (false≢true h)
duty_none sys s r (Stretch i t) h = absurd (false≢true h)
duty_none sys s r (Hold i) h = absurd (false≢true h)
duty_none sys s r (Flag i) h = absurd (false≢true h)
duty_none sys s r (Ack i) h = absurd (false≢true h)
duty_none sys s r (Nack i) h = absurd (false≢true h)
duty_none sys s r (Mark i) h = absurd (false≢true h)
duty_none sys s r (Kept d) h = absurd (false≢true h)
duty_none sys s r (Stop c) h = absurd (false≢true h)

pub duties_are_exact : DutiesAreExact
duties_are_exact sys s = (
  λ e h. found sys s (λ e. is_duty e ≡ true) (duties s) e (refl, (refl, (refl, (refl, tt)))) h,
  λ h e k. duty_none sys s (refused sys s (duties s) h) e k,
)

-- ---- runs go on

order_at_end : (sys : System) (start : SnapshotParts) (journal : List Event) → IsLegal sys start journal → IsInOrder (state_at_end sys start journal)
order_at_end sys start journal legal =
    kept_along sys IsInOrder (λ s e h p. order_kept sys s e (and_parts _ (row_admits sys s e) h).1 p) journal (start_state start) legal
    (record { kept = λ e k. absurd (false≢true k); begun = λ e k. absurd (false≢true k) })

pub past_is : (sys : System) (start : SnapshotParts) (journal : List Event) → (state_at_end sys start journal).past ≡ reverse journal
past_is sys start journal = past_after sys journal (start_state start) ∙ append-nil (reverse journal)

-- where nothing is admitted, nobody is stuck
not_refused : (sys : System) (s : State) (lane : ℕ) (extra : ℕ → ℕ) → lane < sys.settings.lanes → ((i : ℕ) → extra i ≤ 64) → IsInOrder s → has_ended s.past ≡ false →
    ((i : ℕ) → i < worker_count s → is_running (worker_at s.workers i) ≡ false) → ((e : ℕ) → was_sealed e s.past ≡ true → was_kept e s.past ≡ true) →
    AreRefused sys s (duties s) → AreRefused sys s (lane_events sys s lane extra) → ⊥
not_refused sys s lane extra lane_in small order live calm kept d l =
    never_stuck sys s lane
    (record {
      lane_in_range = lane_in;
      calm = calm;
      sealed_kept = kept;
      order = order;
      stuck = λ e h row.
          let admitted = and_from (not (has_ended s.past)) (row_admits sys s e) (not_from_false _ live) row in
          elim (or_cases (is_of_lane lane e) (is_duty e) h) [
            | inl q ↦ both admitted (lane_none sys s lane extra small (lane_refused sys s lane extra l) e q)
            | inr q ↦ both admitted (duty_none sys s d e q)
          ];
    })

pub one_lane_goes_on : OneLaneGoesOn
one_lane_goes_on sys start journal lane extra lane_in small legal live calm kept none =
    let s = state_at_end sys start journal in
    let p = past_is sys start journal in
    let n = count_after sys start journal legal in
    elim (first_or_none sys s (lane_events sys s lane extra)) [
      | inl k ↦ k
      | inr k ↦
          absurd
          (not_refused sys s lane extra lane_in small (order_at_end sys start journal legal) (ap has_ended p ∙ live) (λ i l. calm i (omega (arith, l, n)))
          (λ e h. ap (was_kept e) p ∙ kept e (sym (ap (was_sealed e) p) ∙ h)) (refused sys s (duties s) none) k.1)
    ]

sealed_at : (P : Event → Type 0) (past : List Event) → AllByRecursion P (map (λ e. Kept e) (sealed_epochs past)) → (e : ℕ) → was_sealed e past ≡ true → P (Kept e)
sealed_at P [] h e k = absurd (false≢true k)
sealed_at P (Seal d ∷ past) h e k = elim (or_cases (e == d) _ k) [ inl q ↦ subst (λ x. P (Kept x)) (sym (eqb-true e d q)) h.0 | inr q ↦ sealed_at P past h.1 e q ]
sealed_at P (Take i l ∷ past) h e k = sealed_at P past h e k
sealed_at P (Give i ∷ past) h e k = sealed_at P past h e k
sealed_at P (Stretch i t ∷ past) h e k = sealed_at P past h e k
sealed_at P (Hold i ∷ past) h e k = sealed_at P past h e k
sealed_at P (Flag i ∷ past) h e k = sealed_at P past h e k
sealed_at P (Ask ∷ past) h e k = sealed_at P past h e k
sealed_at P (Ack i ∷ past) h e k = sealed_at P past h e k
sealed_at P (Nack i ∷ past) h e k = sealed_at P past h e k
sealed_at P (Begin d ∷ past) h e k = sealed_at P past h e k
sealed_at P (Mark i ∷ past) h e k = sealed_at P past h e k
sealed_at P (Kept d ∷ past) h e k = sealed_at P past h e k
sealed_at P (End ∷ past) h e k = sealed_at P past h e k
sealed_at P (Stop c ∷ past) h e k = sealed_at P past h e k

no_stops : (sys : System) (s : State) (lane : ℕ) (extra : ℕ → ℕ) → AllByRecursion (λ e. is_stop e ≡ false) (run_events sys s lane extra)
no_stops sys s lane extra =
    let P : Event → Type 0 = λ e. is_stop e ≡ false in
    let is = in_turn (worker_count s) s.past in
    let lanes : AllByRecursion P (lane_events sys s lane extra) =
    all_append P _ _ (all_mapped P (λ i. Mark i) is (λ i. refl))
    (all_append P _ _ (all_mapped P (λ i. Take i lane) is (λ i. refl))
    (all_append P _ _ (all_mapped P (λ i. Stretch i (stretch_from sys s i + extra i)) is (λ i. refl))
    (all_append P _ _ (all_mapped P (λ i. Ack i) is (λ i. refl))
    (all_append P _ _ (all_mapped P (λ i. Nack i) is (λ i. refl)) (all_append P _ _ (all_mapped P (λ i. Flag i) is (λ i. refl)) (all_append P _ _ (all_mapped P (λ i. Hold i) is (λ i. refl)) tt)))))) in
    let rest : AllByRecursion P (duties s ++ lane_events sys s lane extra) = (refl, (refl, (refl, (refl, lanes)))) in
    all_append P (map (λ i. Give i) (numbers_below (worker_count s))) _ (all_mapped P (λ i. Give i) (numbers_below (worker_count s)) (λ i. refl))
    (all_append P (map (λ e. Kept e) (sealed_epochs s.past)) (duties s ++ lane_events sys s lane extra) (all_mapped P (λ e. Kept e) (sealed_epochs s.past) (λ e. refl)) rest)

pub runs_go_on : RunsGoOn
runs_go_on sys start journal lane extra lane_in small legal live =
    let s = state_at_end sys start journal in
    let p = past_is sys start journal in
    let alive : has_ended s.past ≡ false = ap has_ended p ∙ live in
    let P : Event → Type 0 = λ e. is_admitted sys s e ≡ false in
    elim (first_or_none sys s (run_events sys s lane extra)) [
      | inl k ↦
          let f = found sys s (λ e. is_stop e ≡ false) (run_events sys s lane extra) k.0 (no_stops sys s lane extra) k.1 in
          (k.0, k.1, f.0, f.1)
      | inr k ↦
          let gives = all_left P (map (λ i. Give i) (numbers_below (worker_count s))) _ k.1 in
          let t1 = all_right P (map (λ i. Give i) (numbers_below (worker_count s))) _ k.1 in
          let kepts = all_left P (map (λ e. Kept e) (sealed_epochs s.past)) _ t1 in
          let t2 = all_right P (map (λ e. Kept e) (sealed_epochs s.past)) _ t1 in
          let calm : (i : ℕ) → i < worker_count s → is_running (worker_at s.workers i) ≡ false =
          λ i l. false_from_ne_true _ (λ r.
          let e : 0 + i ≡ i = omega arith in
          both (and_from _ _ (not_from_false _ alive) (and_from _ _ (lt-ltb i (worker_count s) l) r)) (subst (λ q. is_admitted sys s (Give q) ≡ false) e (mapped_at P (λ i. Give i) 0 (worker_count s) gives i l))) in
          let kept : (e : ℕ) → was_sealed e s.past ≡ true → was_kept e s.past ≡ true =
          λ e h. elim (cases_Bool (was_kept e s.past)) [
            | inl q ↦ q
            | inr q ↦ absurd (both (and_from _ _ (not_from_false _ alive) (and_from _ _ h (not_from_false _ q))) (sealed_at P s.past kepts e h))
          ] in
          absurd (not_refused sys s lane extra lane_in small (order_at_end sys start journal legal) alive calm kept (t2.0, (t2.1.0, (t2.1.1.0, (t2.1.1.1.0, tt)))) t2.1.1.1.1)
    ]
