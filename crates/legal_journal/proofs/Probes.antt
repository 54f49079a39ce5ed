-- After an End every worker rests without mail, and no worker took since the last Ask.
use Rattle.std.proofs.Common.{◌≡◌, ℕ, suc, ◌+◌, ◌<◌, ◌⊎◌, inl, inr, Bool, true, false, not, ◌&&◌, ◌||◌, ◌==◌, nat_lt, cond, if◌then◌else◌, IsTrue, refl, sym, ◌∙◌, ap, subst, arith, List, [], ◌∷◌, length, reverse, append-nil}
use Rattle.std.specs.List.{list_any}
use Rattle.std.proofs.lemmas.Bool.{and_parts, and_from, or_cases, or_left, or_right, or_from, eqb-true, eq-eqb, ne_eqb, ltb-true, false≢true, not-true, not_from_false}
use Rattle.std.proofs.lemmas.List.Sums.{take_while-cons}
use Rattle.std.proofs.lemmas.List.{length-map}
use Rattle.graph_core.specs.Fragments.{piece_at, numbers_below}
use Rattle.grape_event.specs.declared.event.Event.{Event}
use Rattle.grape_event.specs.declared.event.Event.TheVariants.{Take, Give, Stretch, Hold, Flag, Ask, Ack, Nack, Begin, Mark, Seal, Kept, End, Stop}
use Rattle.grape_event.specs.Events.{is_take_of}
use Rattle.token_cut.specs.Parts.{SnapshotParts}
use Rattle.base_machine.specs.Machine.{System, BaseState, BaseTake, BaseGive, Worker, Post, worker_at, Fresh, Running, Rest, is_fresh, is_running, rests, batch_waits, after_taking, after_giving, after_receiving, sent_to, worker_of}
use Rattle.base_machine.specs.Fitness.{is_quiet}
use Rattle.base_machine.proofs.Swapping.{after-length, after-at}
use Rattle.legal_journal.specs.Past.{flag_is_up, is_ask, is_ack_of, was_asked, since_ask, has_answered, took_since_ask, gives_of_each}
use Rattle.legal_journal.specs.Legal.{State, start_state, state_after, is_admitted, row_admits, workers_after, worker_count, rests_without_mail, rests_with_mail, is_worker, may_answer, IsLegal, state_at_end}
use Rattle.legal_journal.specs.Delays.{delay_is_over}
use Rattle.legal_journal.specs.Theorems.{EndIsQuiet}
use Rattle.legal_journal.proofs.Walks.{kept_along, admitted_parts, past_after, all_below}

-- ---- words since the last Ask

pub since-more : (test : Event → Bool) (e : Event) (past : List Event) → list_any test (since_ask (e ∷ past)) ≡ cond (not (is_ask e)) (test e || list_any test (since_ask past)) false
since-more test e past = ap (list_any test) (take_while-cons (λ x. not (is_ask x)) e past) ∙ go (not (is_ask e))
  where
    go : (b : Bool) → list_any test (cond b (e ∷ since_ask past) []) ≡ cond b (test e || list_any test (since_ask past)) false
    go true = refl
    go false = refl

-- ---- one worker of three standings

pub not_running : (w : Worker) → rests w ≡ true → is_running w ≡ true → ⊥
not_running w h k =
    elim w.standing as (λ x. elim x as (λ _. Bool) [ Fresh ↦ false | Running hand ↦ false | Rest ↦ true ] ≡ true → elim x as (λ _. Bool) [ Fresh ↦ false | Running hand ↦ true | Rest ↦ false ] ≡ true → ⊥) [
      | Fresh ↦ λ a b. false≢true a
      | Running hand ↦ λ a b. false≢true a
      | Rest ↦ λ a b. false≢true b
    ] h k

not_fresh : (w : Worker) → rests w ≡ true → is_fresh w ≡ true → ⊥
not_fresh w h k =
    elim w.standing as (λ x. elim x as (λ _. Bool) [ Fresh ↦ false | Running hand ↦ false | Rest ↦ true ] ≡ true → elim x as (λ _. Bool) [ Fresh ↦ true | Running hand ↦ false | Rest ↦ false ] ≡ true → ⊥) [
      | Fresh ↦ λ a b. false≢true a
      | Running hand ↦ λ a b. false≢true a
      | Rest ↦ λ a b. false≢true b
    ] h k

pub both : {t : Bool} → t ≡ true → t ≡ false → ⊥
both h k = false≢true (sym k ∙ h)

pub in_range_of : (i n : ℕ) (b : Bool) → (nat_lt i n && b) ≡ true → i < n
in_range_of i n b h = ltb-true i n (and_parts (nat_lt i n) b h).0

-- ---- the invariant

-- no worker took since the Ask: all rest, and those that answered have no mail
pub record IsCalm (s : State) : Type 0 where
  pub none_took : (i : ℕ) → i < worker_count s → took_since_ask i s.past ≡ false
  pub rest : (i : ℕ) → i < worker_count s → rests (worker_at s.workers i) ≡ true
  pub answered : (i : ℕ) → i < worker_count s → has_answered i s.past ≡ true → batch_waits (worker_at s.workers i) ≡ false

-- some worker took since the Ask before it answered, so that it can't any more
pub record IsSpoiled (s : State) : Type 0 where
  pub who : ℕ
  pub in_range : who < worker_count s
  pub took : took_since_ask who s.past ≡ true
  pub silent : has_answered who s.past ≡ false

pub record IsProbed (n : ℕ) (s : State) : Type 0 where
  pub count : worker_count s ≡ n
  pub flags : (i : ℕ) → i < worker_count s → flag_is_up i s.past ≡ true → rests (worker_at s.workers i) ≡ true
  pub probe : was_asked s.past ≡ true → IsCalm s ⊎ IsSpoiled s

-- ---- events that change no worker and no word of the probe but perhaps lower flags

record IsInert (sys : System) (s : State) (e : Event) : Type 0 where
  workers : workers_after sys s e ≡ s.workers
  flags : (i : ℕ) → flag_is_up i (e ∷ s.past) ≡ true → flag_is_up i s.past ≡ true
  asked : was_asked (e ∷ s.past) ≡ was_asked s.past
  took : (i : ℕ) → took_since_ask i (e ∷ s.past) ≡ took_since_ask i s.past
  answered : (i : ℕ) → has_answered i (e ∷ s.past) ≡ has_answered i s.past

inert_keeps : (n : ℕ) (sys : System) (s : State) (e : Event) → IsInert sys s e → IsProbed n s → IsProbed n (state_after sys s e)
inert_keeps n sys s e t p =
    record {
      count = counts ∙ p.count;
      flags = λ i h f. subst (λ (ws : BaseState). rests (worker_at ws i) ≡ true) (sym t.workers) (p.flags i (in_old i h) (t.flags i f));
      probe = λ a. elim (p.probe (sym t.asked ∙ a)) [
        | inl c ↦ inl (record {
          none_took = λ i h. t.took i ∙ c.none_took i (in_old i h);
          rest = λ i h. subst (λ (ws : BaseState). rests (worker_at ws i) ≡ true) (sym t.workers) (c.rest i (in_old i h));
          answered = λ i h f. subst (λ (ws : BaseState). batch_waits (worker_at ws i) ≡ false) (sym t.workers) (c.answered i (in_old i h) (sym (t.answered i) ∙ f));
        })
        | inr c ↦ let l = c.in_range in inr (record { who = c.who; in_range = omega (arith, l, counts); took = t.took c.who ∙ c.took; silent = t.answered c.who ∙ c.silent })
      ];
    }
  where
    counts : worker_count (state_after sys s e) ≡ worker_count s
    counts = ap (λ (ws : BaseState). length ws) t.workers

    in_old : (i : ℕ) → i < worker_count (state_after sys s e) → i < worker_count s
    in_old i h = let c = counts in omega (arith, h, c)

-- ---- the other events

pub ready_to_take : (sys : System) (s : State) (i k : ℕ) → IsTrue (row_admits sys s (Take i k)) → (is_fresh (worker_at s.workers i) || (rests_with_mail s i && delay_is_over sys.settings.policy s.workers s.past i)) ≡ true
ready_to_take sys s i k h = (and_parts _ _ (and_parts _ _ (and_parts _ _ (and_parts _ _ (and_parts _ _ h).1).0).0).0).1

take_keeps : (n : ℕ) (sys : System) (s : State) (i k : ℕ) → IsTrue (row_admits sys s (Take i k)) → IsProbed n s → IsProbed n (state_after sys s (Take i k))
take_keeps n sys s i k h p =
    record {
      count = counts ∙ p.count;
      flags = λ j l f.
          let parts = and_parts (not (j == i)) _ f in
          subst (λ (w : Worker). rests w ≡ true) (sym (other j (in_old j l) (not-true _ parts.0))) (p.flags j (in_old j l) parts.1);
      probe = λ a. inr (spoiled (p.probe a));
    }
  where
    upto : List ℕ
    upto = gives_of_each (numbers_below (worker_count s)) s.past

    counts : worker_count (state_after sys s (Take i k)) ≡ worker_count s
    counts = after-length sys s.workers (BaseTake i (gives_of_each (numbers_below (worker_count s)) s.past))

    in_old : (j : ℕ) → j < worker_count (state_after sys s (Take i k)) → j < worker_count s
    in_old j l = let c = counts in omega (arith, l, c)

    other : (j : ℕ) → j < worker_count s → (j == i) ≡ false → worker_at (state_after sys s (Take i k)).workers j ≡ worker_at s.workers j
    other j l e =
        after-at sys s.workers (BaseTake i (gives_of_each (numbers_below (worker_count s)) s.past)) j l
        ∙ ap (λ b. if b then after_taking sys (piece_at sys.pieces i) (gives_of_each (numbers_below (worker_count s)) s.past) (worker_at s.workers j) else worker_at s.workers j) e

    here : i < worker_count s
    here = in_range_of i (worker_count s) _ h

    ready : (is_fresh (worker_at s.workers i) || (rests_with_mail s i && delay_is_over sys.settings.policy s.workers s.past i)) ≡ true
    ready = ready_to_take sys s i k h

    has_mail : rests (worker_at s.workers i) ≡ true → batch_waits (worker_at s.workers i) ≡ true
    has_mail r = elim (or_cases (is_fresh (worker_at s.workers i)) (rests_with_mail s i && delay_is_over sys.settings.policy s.workers s.past i) ready) [
      | inl f ↦ absurd (not_fresh (worker_at s.workers i) r f)
      | inr q ↦ (and_parts (rests (worker_at s.workers i)) (batch_waits (worker_at s.workers i)) (and_parts (rests_with_mail s i) (delay_is_over sys.settings.policy s.workers s.past i) q).0).1
    ]

    took-now : (j : ℕ) → took_since_ask j (Take i k ∷ s.past) ≡ ((j == i) || took_since_ask j s.past)
    took-now j = since-more (is_take_of j) (Take i k) s.past

    answered-now : (j : ℕ) → has_answered j (Take i k ∷ s.past) ≡ has_answered j s.past
    answered-now j = since-more (is_ack_of j) (Take i k) s.past

    spoiled : IsCalm s ⊎ IsSpoiled s → IsSpoiled (state_after sys s (Take i k))
    spoiled (inl c) = go (has_answered i s.past) refl
      where
        go : (b : Bool) → has_answered i s.past ≡ b → IsSpoiled (state_after sys s (Take i k))
        go true e = absurd (both (has_mail (c.rest i here)) (c.answered i here e))
        go false e =
            let l = here in
            let m = counts in
            record { who = i; in_range = omega (arith, l, m); took = took-now i ∙ or_left (i == i) _ (eq-eqb i i refl); silent = answered-now i ∙ e }
    spoiled (inr c) =
        let l = c.in_range in
        let m = counts in
        record { who = c.who; in_range = omega (arith, l, m); took = took-now c.who ∙ or_right (c.who == i) _ c.took; silent = answered-now c.who ∙ c.silent }

rests_received : (j number : ℕ) (posts : List Post) (w : Worker) → rests w ≡ true → rests (after_receiving j number posts w) ≡ true
rests_received j number [] w h = h
rests_received j number (p ∷ posts) w h = h

give_keeps : (n : ℕ) (sys : System) (s : State) (i : ℕ) → IsTrue (row_admits sys s (Give i)) → IsProbed n s → IsProbed n (state_after sys s (Give i))
give_keeps n sys s i h p =
    record {
      count = counts ∙ p.count;
      flags = λ j l f. subst (λ (w : Worker). rests w ≡ true) (sym (after-at sys s.workers (BaseGive i) j (in_old j l))) (still (j == i) j (p.flags j (in_old j l) f));
      probe = λ a. elim (p.probe a) [
        | inl c ↦ absurd (not_running (worker_at s.workers i) (c.rest i here) (and_parts _ _ h).1)
        | inr c ↦
            let l = c.in_range in
            inr (record { who = c.who; in_range = omega (arith, l, counts); took = since-more (is_take_of c.who) (Give i) s.past ∙ c.took; silent = since-more (is_ack_of c.who) (Give i) s.past ∙ c.silent })
      ];
    }
  where
    counts : worker_count (state_after sys s (Give i)) ≡ worker_count s
    counts = after-length sys s.workers (BaseGive i)

    in_old : (j : ℕ) → j < worker_count (state_after sys s (Give i)) → j < worker_count s
    in_old j l = let c = counts in omega (arith, l, c)

    here : i < worker_count s
    here = in_range_of i (worker_count s) _ h

    still : (b : Bool) (j : ℕ) → rests (worker_at s.workers j) ≡ true →
        rests (if b then after_giving sys (piece_at sys.pieces i) (worker_at s.workers j) else after_receiving i ((worker_at s.workers i).gives + 1) (sent_to sys (piece_at sys.pieces i) (worker_at s.workers i) j) (worker_at s.workers j)) ≡ true
    still true j r = refl
    still false j r = rests_received i ((worker_at s.workers i).gives + 1) (sent_to sys (piece_at sys.pieces i) (worker_at s.workers i) j) (worker_at s.workers j) r

flag_keeps : (n : ℕ) (sys : System) (s : State) (i : ℕ) → IsTrue (row_admits sys s (Flag i)) → IsProbed n s → IsProbed n (state_after sys s (Flag i))
flag_keeps n sys s i h p =
    record {
      count = p.count;
      flags = λ j l f. elim (or_cases (j == i) _ f) [
        | inl e ↦
            let r = (and_parts (rests (worker_at s.workers i)) _ (and_parts (rests_without_mail s i) _ (and_parts _ _ h).1).0).0 in
            subst (λ q. rests (worker_at s.workers q) ≡ true) (sym (eqb-true j i e)) r
        | inr k ↦ p.flags j l k
      ];
      probe = λ a. elim (p.probe a) [
        | inl c ↦ inl (record {
          none_took = λ j l. since-more (is_take_of j) (Flag i) s.past ∙ c.none_took j l;
          rest = c.rest;
          answered = λ j l f. c.answered j l (sym (since-more (is_ack_of j) (Flag i) s.past) ∙ f);
        })
        | inr c ↦ inr (record { who = c.who; in_range = c.in_range; took = since-more (is_take_of c.who) (Flag i) s.past ∙ c.took; silent = since-more (is_ack_of c.who) (Flag i) s.past ∙ c.silent })
      ];
    }

ask_keeps : (n : ℕ) (sys : System) (s : State) → IsTrue (row_admits sys s Ask) → IsProbed n s → IsProbed n (state_after sys s Ask)
ask_keeps n sys s h p =
    record {
      count = p.count;
      flags = p.flags;
      probe = λ a. inl (record {
        none_took = λ j l. since-more (is_take_of j) Ask s.past;
        rest = λ j l. p.flags j l (all_below (λ q. flag_is_up q s.past) (worker_count s) (and_parts _ _ h).0 j l);
        answered = λ j l f. absurd (both f (since-more (is_ack_of j) Ask s.past));
      });
    }

ack_keeps : (n : ℕ) (sys : System) (s : State) (i : ℕ) → IsTrue (row_admits sys s (Ack i)) → IsProbed n s → IsProbed n (state_after sys s (Ack i))
ack_keeps n sys s i h p =
    record {
      count = p.count;
      flags = p.flags;
      probe = λ a. elim (p.probe a) [
        | inl c ↦ inl (record {
          none_took = λ j l. since-more (is_take_of j) (Ack i) s.past ∙ c.none_took j l;
          rest = c.rest;
          answered = λ j l f. elim (or_cases (j == i) _ (sym (since-more (is_ack_of j) (Ack i) s.past) ∙ f)) [
            | inl e ↦ subst (λ q. batch_waits (worker_at s.workers q) ≡ false) (sym (eqb-true j i e)) (not-true _ (and_parts (rests (worker_at s.workers i)) _ idle).1)
            | inr k ↦ c.answered j l k
          ];
        })
        | inr c ↦ inr (record {
          who = c.who;
          in_range = c.in_range;
          took = since-more (is_take_of c.who) (Ack i) s.past ∙ c.took;
          silent = since-more (is_ack_of c.who) (Ack i) s.past ∙ or_from (c.who == i) _ (ne_eqb c.who i (λ e. both (subst (λ q. took_since_ask q s.past ≡ true) e c.took) not_took)) c.silent;
        })
      ];
    }
  where
    row : ((may_answer s i && rests_without_mail s i) && not (took_since_ask i s.past)) ≡ true
    row = (and_parts (is_worker s i) ((may_answer s i && rests_without_mail s i) && not (took_since_ask i s.past)) h).1

    idle : rests_without_mail s i ≡ true
    idle = (and_parts (may_answer s i) (rests_without_mail s i) (and_parts (may_answer s i && rests_without_mail s i) (not (took_since_ask i s.past)) row).0).1

    not_took : took_since_ask i s.past ≡ false
    not_took = not-true (took_since_ask i s.past) (and_parts (may_answer s i && rests_without_mail s i) (not (took_since_ask i s.past)) row).1

inert : (sys : System) (s : State) (e : Event) → workers_after sys s e ≡ s.workers → ((i : ℕ) → flag_is_up i (e ∷ s.past) ≡ true → flag_is_up i s.past ≡ true) → is_ask e ≡ false → ((i : ℕ) → is_take_of i e ≡ false) → ((i : ℕ) → is_ack_of i e ≡ false) →
    IsInert sys s e
inert sys s e w f a t k =
    record {
      workers = w;
      flags = f;
      asked = ap (λ b. b || was_asked s.past) a;
      took = λ i. since-more (is_take_of i) e s.past ∙ (ap (λ b. cond (not b) (is_take_of i e || took_since_ask i s.past) false) a ∙ ap (λ b. b || took_since_ask i s.past) (t i));
      answered = λ i. since-more (is_ack_of i) e s.past ∙ (ap (λ b. cond (not b) (is_ack_of i e || has_answered i s.past) false) a ∙ ap (λ b. b || has_answered i s.past) (k i));
    }

pub probe_kept : (n : ℕ) (sys : System) (s : State) (e : Event) → IsTrue (row_admits sys s e) → IsProbed n s → IsProbed n (state_after sys s e)
probe_kept n sys s (Take i k) h p = take_keeps n sys s i k h p
probe_kept n sys s (Give i) h p = give_keeps n sys s i h p
probe_kept n sys s (Stretch i t) h p = inert_keeps n sys s (Stretch i t) (inert sys s (Stretch i t) refl (λ j f. f) refl (λ j. refl) (λ j. refl)) p
probe_kept n sys s (Hold i) h p = inert_keeps n sys s (Hold i) (inert sys s (Hold i) refl (λ j f. f) refl (λ j. refl) (λ j. refl)) p
probe_kept n sys s (Flag i) h p = flag_keeps n sys s i h p
probe_kept n sys s Ask h p = ask_keeps n sys s h p
probe_kept n sys s (Ack i) h p = ack_keeps n sys s i h p
probe_kept n sys s (Nack i) h p = inert_keeps n sys s (Nack i) (inert sys s (Nack i) refl (λ j f. (and_parts (not (j == i)) _ f).1) refl (λ j. refl) (λ j. refl)) p
probe_kept n sys s (Begin d) h p = inert_keeps n sys s (Begin d) (inert sys s (Begin d) refl (λ j f. f) refl (λ j. refl) (λ j. refl)) p
probe_kept n sys s (Mark i) h p = inert_keeps n sys s (Mark i) (inert sys s (Mark i) refl (λ j f. f) refl (λ j. refl) (λ j. refl)) p
probe_kept n sys s (Seal d) h p = inert_keeps n sys s (Seal d) (inert sys s (Seal d) refl (λ j f. f) refl (λ j. refl) (λ j. refl)) p
probe_kept n sys s (Kept d) h p = inert_keeps n sys s (Kept d) (inert sys s (Kept d) refl (λ j f. f) refl (λ j. refl) (λ j. refl)) p
probe_kept n sys s End h p = inert_keeps n sys s End (inert sys s End refl (λ j f. f) refl (λ j. refl) (λ j. refl)) p
probe_kept n sys s (Stop c) h p = inert_keeps n sys s (Stop c) (inert sys s (Stop c) refl (λ j f. f) refl (λ j. refl) (λ j. refl)) p

-- ---- the end

pub quiet_from : (ws : BaseState) → ((i : ℕ) → i < length ws → (rests (worker_at ws i) && not (batch_waits (worker_at ws i))) ≡ true) → is_quiet ws ≡ true
quiet_from [] h = refl
quiet_from (w ∷ ws) h = and_from _ _ (h 0 (omega arith)) (quiet_from ws (λ i l. h (suc i) (omega (arith, l))))

pub start_length : (start : SnapshotParts) → worker_count (start_state start) ≡ length start.parts
start_length start = length-map start.parts (worker_of (length start.parts))

-- an event leaves the number of workers
pub same_count : (sys : System) (s : State) (e : Event) → worker_count (state_after sys s e) ≡ worker_count s
same_count sys s (Take i k) = after-length sys s.workers (BaseTake i (gives_of_each (numbers_below (worker_count s)) s.past))
same_count sys s (Give i) = after-length sys s.workers (BaseGive i)
same_count sys s (Stretch i t) = refl
same_count sys s (Hold i) = refl
same_count sys s (Flag i) = refl
same_count sys s Ask = refl
same_count sys s (Ack i) = refl
same_count sys s (Nack i) = refl
same_count sys s (Begin e) = refl
same_count sys s (Mark i) = refl
same_count sys s (Seal e) = refl
same_count sys s (Kept e) = refl
same_count sys s End = refl
same_count sys s (Stop c) = refl

pub count_after : (sys : System) (start : SnapshotParts) (journal : List Event) → IsLegal sys start journal → worker_count (state_at_end sys start journal) ≡ length start.parts
count_after sys start journal legal =
    kept_along sys (λ s. worker_count s ≡ length start.parts) (λ s e h p. same_count sys s e ∙ p) journal (start_state start) legal (start_length start)

pub end_is_quiet : EndIsQuiet
end_is_quiet sys start journal legal =
    let parts = admitted_parts sys journal (End ∷ []) (start_state start) legal in
    let s = state_at_end sys start journal in
    let n = length start.parts in
    let p : IsProbed n s =
    kept_along sys (IsProbed n) (λ s e h p. probe_kept n sys s e (and_parts _ (row_admits sys s e) h).1 p) journal (start_state start) parts.0
    (record { count = start_length start; flags = λ i l f. absurd (false≢true f); probe = λ a. absurd (false≢true a) }) in
    let row = (and_parts _ (row_admits sys s End) (and_parts (is_admitted sys s End) true parts.1).0).1 in
    let all = (and_parts _ _ row).0 in
    let asked = (and_parts (was_asked s.past) _ all).0 in
    let answered = all_below (λ i. has_answered i s.past) (worker_count s) (and_parts (was_asked s.past) _ all).1 in
    let past : s.past ≡ reverse journal = past_after sys journal (start_state start) ∙ append-nil (reverse journal) in
    let c : IsCalm s = elim (p.probe asked) [
      | inl c ↦ c
      | inr t ↦ absurd (both (answered t.who t.in_range) t.silent)
    ] in (
      quiet_from s.workers (λ i l. and_from _ _ (c.rest i l) (not_from_false _ (c.answered i l (answered i l)))),
      λ i l. let e = p.count in subst (λ (h : List Event). took_since_ask i h ≡ false) past (c.none_took i (omega (arith, l, e))),
    )
