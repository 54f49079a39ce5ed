-- The events of a legal journal are paid for by its Takes.
use Rattle.std.proofs.Common.{◌≡◌, ◌≢◌, ℕ, zero, suc, ◌+◌, ◌-◌, ◌*◌, ◌<◌, ◌≤◌, inl, inr, Bool, true, false, not, ◌&&◌, ◌||◌, ◌==◌, nat_lt, nat_le, min, cond, if◌then◌else◌, IsTrue, refl, sym, ◌∙◌, ap, subst, arith, List, [], ◌∷◌, length, Option, Some, None, count_by}
use Rattle.std.specs.List.{list_any, list_all, take_while}
use Rattle.std.specs.Option.{is_some}
use Rattle.std.proofs.lemmas.Bool.{and_parts, and_from, and_right, or_cases, or_left, or_right, or_from, or_parts, eq-eqb, ne_eqb, cases_eq, ltb-true, lt-ltb, leb-true, leb-false, false≢true, not-true}
use Rattle.std.proofs.lemmas.List.Sums.{take_while-cons, sum_by-cons}
use native.Mathlib.Nat.{mul-le-mul_left}
use Rattle.graph_core.specs.declared.settings.Policy.{Policy}
use Rattle.graph_core.specs.declared.settings.Policy.TheVariants.{Bsp, Ap, Ssp, Aap}
use Rattle.graph_core.specs.Fragments.{piece_at, numbers_below}
use Rattle.grape_event.specs.declared.event.Event.{Event}
use Rattle.grape_event.specs.declared.event.Event.TheVariants.{Take, Give, Stretch, Hold, Flag, Ask, Ack, Nack, Begin, Mark, Seal, Kept, End, Stop}
use Rattle.grape_event.specs.Events.{is_take, is_take_of}
use Rattle.token_cut.specs.Parts.{SnapshotParts}
use Rattle.base_machine.specs.Machine.{System, BaseState, BaseEvent, BaseTake, BaseGive, worker_at, is_running, rests, batch_waits, batches_waiting, after_giving, after_receiving, sent_to}
use Rattle.base_machine.proofs.Swapping.{after-at, as_before}
use Rattle.base_machine.proofs.Bounded.{start_lengths}
use Rattle.legal_journal.specs.Past.{has_ended, gives_of_each, stretch_of, flag_is_up, is_ask, is_ack_of, is_nack, was_asked, since_ask, has_answered, took_since_ask, nack_since_ask, all_have_answered, probe_is_open, is_begin, takes_since_begin, recording_is_open, is_marked, was_kept, was_sealed, last_epoch, all_begun_are_kept}
use Rattle.legal_journal.specs.Delays.{stretch_turns, stretch_is_over, delay_is_over, window, mean_gap}
use Rattle.legal_journal.specs.Legal.{State, start_state, state_after, state_after_all, is_admitted, are_admitted, row_admits, worker_count, is_worker, snapshot_is_due, rests_without_mail, rests_with_mail, is_stretched, stretch_from, may_stretch, may_hold, may_flag, may_answer, may_ack, may_nack, may_mark, is_unmarked}
use Rattle.legal_journal.specs.Choices.{sealed_epochs}
use Rattle.legal_journal.specs.Theorems.{EventsFollowTakes, EventsAreBounded}
use Rattle.base_machine.specs.Bounds.{bound_of}
use Rattle.legal_journal.proofs.Walks.{all_below}
use Rattle.legal_journal.proofs.Probes.{both, since-more, IsProbed, probe_kept, not_running, in_range_of, same_count, start_length}
use Rattle.legal_journal.proofs.Cutting.{running_same, row_of, rest_of}
use Rattle.legal_journal.proofs.Bounded.{takes_are_bounded}

-- ---- sums over numbers

abbrev sum_below : ℕ → (ℕ → ℕ) → ℕ
sum_below zero f = 0
sum_below (suc n) f = sum_below n f + f n

sum_le : (n : ℕ) (f g : ℕ → ℕ) → ((i : ℕ) → i < n → f i ≤ g i) → sum_below n f ≤ sum_below n g
sum_le zero f g h = omega arith
sum_le (suc n) f g h =
    let a = sum_le n f g (λ i l. h i (omega (arith, l))) in
    let b = h n (omega arith) in
    omega (arith, a, b)

-- one number may gain or pay
sum_one : (n j : ℕ) (f g : ℕ → ℕ) (a b : ℕ) → j < n → ((i : ℕ) → i < n → i ≢ j → f i ≤ g i) → f j + a ≤ g j + b → sum_below n f + a ≤ sum_below n g + b
sum_one zero j f g a b l h k = absurd (omega (arith, l))
sum_one (suc n) j f g a b l h k = elim (cases_eq j n) [
  | inl e ↦
      let P : ℕ → Type 0 = λ q. f q + a ≤ g q + b in
      let here : f n + a ≤ g n + b = subst P e k in
      let rest = sum_le n f g (λ i m. h i (omega (arith, m)) (λ q. absurd (omega (arith, q, e, m)))) in
      omega (arith, here, rest)
  | inr d ↦
      let again = sum_one n j f g a b (omega (arith, l, d)) (λ i m. h i (omega (arith, m))) k in
      let last = h n (omega arith) (λ q. d (sym q)) in
      omega (arith, again, last)
]

sum_const : (n c : ℕ) (f : ℕ → ℕ) → ((i : ℕ) → i < n → f i ≤ c) → sum_below n f ≤ c * n
sum_const zero c f h = omega arith
sum_const (suc n) c f h =
    let a = sum_const n c f (λ i l. h i (omega (arith, l))) in
    let b = h n (omega arith) in
    let e : c * suc n ≡ c * n + c = omega arith in
    omega (arith, a, b, e)

abbrev one : Bool → ℕ
one true = 1
one false = 0

one_le : (b : Bool) → one b ≤ 1
one_le true = omega arith
one_le false = omega arith

one_false : (b : Bool) → b ≡ false → one b ≡ 0
one_false b h = ap one h

one_true : (b : Bool) → b ≡ true → one b ≡ 1
one_true b h = ap one h

one_same : (b c : Bool) → b ≡ c → one b ≤ one c
one_same b c h = let e = ap one h in omega (arith, e)

-- ---- what each word still owes

-- a Give for each worker that runs
abbrev gives_left : ℕ → BaseState → ℕ
gives_left n ws = sum_below n (λ i. one (is_running (worker_at ws i)))

-- a Stretch and 128 Holds, and after the Stretch its turns
abbrev turns_left : Option (ℕ × ℕ) → ℕ → ℕ
turns_left None clock = 129
turns_left (Some p) clock = p.1 + 1 + p.0 - clock

abbrev stretches_left : ℕ → List Event → ℕ
stretches_left n past = sum_below n (λ i. turns_left (stretch_of i past) (length past))

abbrev flags_left : ℕ → List Event → ℕ
flags_left n past = sum_below n (λ i. one (not (flag_is_up i past)))

abbrev some_took : List Event → Bool
some_took past = list_any is_take (since_ask past)

-- an Ask with its answers, where one may come, and a Nack with the flag that it lowers
abbrev stage_of : ℕ → Bool → Bool → Bool → ℕ
stage_of n false nack took = n + 3
stage_of n true nack took = cond nack 0 2 + cond took (n + 3) 0

abbrev probe_left : ℕ → Bool → Bool → Bool → (ℕ → Bool) → ℕ
probe_left n asked nack took answered = stage_of n asked nack took + sum_below n (λ i. one (asked && not (answered i)))

abbrev probes_left : ℕ → List Event → ℕ
probes_left n past = probe_left n (was_asked past) (nack_since_ask past) (some_took past) (λ i. has_answered i past)

-- a Begin with its Marks, its Seal and its Kept, where a Take was since the last
abbrev begin_left : ℕ → ℕ → ℕ
begin_left n takes = cond (nat_lt 0 takes) (n + 3) 0

abbrev open_left : ℕ → Bool → (ℕ → Bool) → ℕ
open_left n opened marked = cond opened (2 + sum_below n (λ i. one (not (marked i)))) 0

abbrev unkept : (ℕ → Bool) → List ℕ → ℕ
unkept kept [] = 0
unkept kept (e ∷ es) = one (not (kept e)) + unkept kept es

abbrev snapshots_left : ℕ → List Event → ℕ
snapshots_left n past = begin_left n (takes_since_begin past) + open_left n (recording_is_open past) (λ i. is_marked i past) + unkept (λ e. was_kept e past) (sealed_epochs past)

abbrev end_left : List Event → ℕ
end_left past = one (not (has_ended past))

-- ---- Gives

abbrev pays_give : Event → ℕ
pays_give (Give i) = 1
pays_give _ = 0

abbrev gets_give : Event → ℕ
gets_give (Take i k) = 1
gets_give _ = 0

gives_step : (sys : System) (s : State) (e : Event) → IsTrue (row_admits sys s e) → gives_left (worker_count s) (state_after sys s e).workers + pays_give e ≤ gives_left (worker_count s) s.workers + gets_give e
gives_step sys s (Take i k) h =
    let n = worker_count s in
    let b : BaseEvent = BaseTake i (gives_of_each (numbers_below n) s.past) in
    let ws = (state_after sys s (Take i k)).workers in
    let top = one_le (is_running (worker_at ws i)) in
    sum_one n i (λ q. one (is_running (worker_at ws q))) (λ q. one (is_running (worker_at s.workers q))) 0 1 (in_range_of i n _ h)
    (λ q l d. one_same _ _ (running_same (worker_at s.workers q) (worker_at ws q) (as_before sys s.workers b q l d).standing)) (omega (arith, top))
gives_step sys s (Give i) h =
    let n = worker_count s in
    let b : BaseEvent = BaseGive i in
    let ws = (state_after sys s (Give i)).workers in
    let here = in_range_of i n _ h in
    let was = one_true _ (and_parts (is_worker s i) (is_running (worker_at s.workers i)) h).1 in
    let now : is_running (worker_at ws i) ≡ false =
    ap is_running (after-at sys s.workers b i here)
    ∙ ap (λ t. is_running (if t then after_giving sys (piece_at sys.pieces i) (worker_at s.workers i) else after_receiving i ((worker_at s.workers i).gives + 1) (sent_to sys (piece_at sys.pieces i) (worker_at s.workers i) i) (worker_at s.workers i))) (eq-eqb i i refl) in
    let is = one_false _ now in
    sum_one n i (λ q. one (is_running (worker_at ws q))) (λ q. one (is_running (worker_at s.workers q))) 1 0 here
    (λ q l d. one_same _ _ (running_same (worker_at s.workers q) (worker_at ws q) (as_before sys s.workers b q l d).standing)) (omega (arith, was, is))
gives_step sys s (Stretch i t) h = omega arith
gives_step sys s (Hold i) h = omega arith
gives_step sys s (Flag i) h = omega arith
gives_step sys s Ask h = omega arith
gives_step sys s (Ack i) h = omega arith
gives_step sys s (Nack i) h = omega arith
gives_step sys s (Begin d) h = omega arith
gives_step sys s (Mark i) h = omega arith
gives_step sys s (Seal d) h = omega arith
gives_step sys s (Kept d) h = omega arith
gives_step sys s End h = omega arith
gives_step sys s (Stop c) h = omega arith

-- ---- Stretches and Holds

abbrev pays_stretch : Event → ℕ
pays_stretch (Stretch i t) = 1
pays_stretch (Hold i) = 1
pays_stretch _ = 0

abbrev gets_stretch : Event → ℕ
gets_stretch (Take i k) = 129
gets_stretch _ = 0

ticks : (o : Option (ℕ × ℕ)) (clock : ℕ) → turns_left o (suc clock) ≤ turns_left o clock
ticks None clock = omega arith
ticks (Some p) clock = omega arith

ticks_sum : (n : ℕ) (past : List Event) → sum_below n (λ i. turns_left (stretch_of i past) (suc (length past))) ≤ stretches_left n past
ticks_sum n past = sum_le n (λ i. turns_left (stretch_of i past) (suc (length past))) (λ i. turns_left (stretch_of i past) (length past)) (λ i l. ticks (stretch_of i past) (length past))

none_of : (o : Option (ℕ × ℕ)) → is_some o ≡ false → o ≡ None
none_of None h = refl
none_of (Some p) h = absurd (false≢true (sym h))

min_le : (a : ℕ) → min 64 a ≤ 64
min_le a = omega arith

turns_le : (p : Policy) (b : ℕ) (arrivals : List ℕ) → stretch_turns p b arrivals ≤ 64
turns_le Bsp b arrivals = omega arith
turns_le Ap b arrivals = omega arith
turns_le (Ssp c) b arrivals = omega arith
turns_le (Aap c l) b arrivals = go (nat_lt (length (window arrivals)) 2 || nat_le l b)
  where
    go : (t : Bool) → (if t then 0 else min 64 ((l - b) * mean_gap (window arrivals))) ≤ 64
    go true = omega arith
    go false = min_le ((l - b) * mean_gap (window arrivals))

-- a delay that is not over has a turn left
turn_left : (o : Option (ℕ × ℕ)) (clock : ℕ) → is_some o ≡ true → stretch_is_over o clock ≡ false → turns_left o (suc clock) + 1 ≤ turns_left o clock
turn_left None clock h k = absurd (false≢true h)
turn_left (Some p) clock h k = let l = leb-false (p.1 + 1 + p.0) clock k in omega (arith, l)

stretch_step : (sys : System) (s : State) (e : Event) → IsTrue (row_admits sys s e) → stretches_left (worker_count s) (e ∷ s.past) + pays_stretch e ≤ stretches_left (worker_count s) s.past + gets_stretch e
stretch_step sys s (Take i k) h =
    let n = worker_count s in
    let c = length s.past in
    let now : turns_left (stretch_of i (Take i k ∷ s.past)) (suc c) ≡ 129 = ap (λ t. turns_left (if t then None else stretch_of i s.past) (suc c)) (eq-eqb i i refl) in
    sum_one n i (λ q. turns_left (stretch_of q (Take i k ∷ s.past)) (suc c)) (λ q. turns_left (stretch_of q s.past) c) 0 129 (in_range_of i n _ h)
    (λ q l d.
    let e = ap (λ t. turns_left (if t then None else stretch_of q s.past) (suc c)) (ne_eqb q i d) in
    let m = ticks (stretch_of q s.past) c in
    omega (arith, e, m))
    (omega (arith, now))
stretch_step sys s (Stretch i t) h =
    let n = worker_count s in
    let c = length s.past in
    let row = (and_parts (is_worker s i) (may_stretch sys s i t) h).1 in
    let first = and_parts (rests_with_mail s i && not (is_stretched s i) && nat_le (stretch_from sys s i) t) (nat_le t (stretch_from sys s i + 64)) row in
    let fresh = not-true (is_stretched s i) (and_parts (rests_with_mail s i) (not (is_stretched s i)) (and_parts (rests_with_mail s i && not (is_stretched s i)) (nat_le (stretch_from sys s i) t) first.0).0).1 in
    let was : turns_left (stretch_of i s.past) c ≡ 129 = ap (λ o. turns_left o c) (none_of (stretch_of i s.past) fresh) in
    let small = leb-true t (stretch_from sys s i + 64) first.1 in
    let base : stretch_from sys s i ≤ 64 = turns_le sys.settings.policy (batches_waiting (worker_at s.workers i)) _ in
    let now : turns_left (stretch_of i (Stretch i t ∷ s.past)) (suc c) ≡ c + 1 + t - suc c = ap (λ b. turns_left (if b then Some (t, c) else stretch_of i s.past) (suc c)) (eq-eqb i i refl) in
    sum_one n i (λ q. turns_left (stretch_of q (Stretch i t ∷ s.past)) (suc c)) (λ q. turns_left (stretch_of q s.past) c) 1 0 (in_range_of i n _ h)
    (λ q l d.
    let e = ap (λ b. turns_left (if b then Some (t, c) else stretch_of q s.past) (suc c)) (ne_eqb q i d) in
    let m = ticks (stretch_of q s.past) c in
    omega (arith, e, m))
    (omega (arith, was, now, small, base))
stretch_step sys s (Hold i) h =
    let n = worker_count s in
    let c = length s.past in
    let row = and_parts (is_stretched s i) (not (delay_is_over sys.settings.policy s.workers s.past i)) (and_parts (is_worker s i) (may_hold sys s i) h).1 in
    let on = (or_parts (stretch_is_over (stretch_of i s.past) (length s.past)) _ (not-true _ row.1)).0 in
    let pays = turn_left (stretch_of i s.past) c row.0 on in
    sum_one n i (λ q. turns_left (stretch_of q s.past) (suc c)) (λ q. turns_left (stretch_of q s.past) c) 1 0 (in_range_of i n _ h) (λ q l d. ticks (stretch_of q s.past) c) (omega (arith, pays))
stretch_step sys s (Give i) h = let k = ticks_sum (worker_count s) s.past in omega (arith, k)
stretch_step sys s (Flag i) h = let k = ticks_sum (worker_count s) s.past in omega (arith, k)
stretch_step sys s Ask h = let k = ticks_sum (worker_count s) s.past in omega (arith, k)
stretch_step sys s (Ack i) h = let k = ticks_sum (worker_count s) s.past in omega (arith, k)
stretch_step sys s (Nack i) h = let k = ticks_sum (worker_count s) s.past in omega (arith, k)
stretch_step sys s (Begin d) h = let k = ticks_sum (worker_count s) s.past in omega (arith, k)
stretch_step sys s (Mark i) h = let k = ticks_sum (worker_count s) s.past in omega (arith, k)
stretch_step sys s (Seal d) h = let k = ticks_sum (worker_count s) s.past in omega (arith, k)
stretch_step sys s (Kept d) h = let k = ticks_sum (worker_count s) s.past in omega (arith, k)
stretch_step sys s End h = let k = ticks_sum (worker_count s) s.past in omega (arith, k)
stretch_step sys s (Stop c) h = let k = ticks_sum (worker_count s) s.past in omega (arith, k)

-- ---- flags

abbrev pays_flag : Event → ℕ
pays_flag (Flag i) = 1
pays_flag _ = 0

abbrev gets_flag : Event → ℕ
gets_flag (Take i k) = 1
gets_flag (Nack i) = 1
gets_flag _ = 0

flag_falls : (n i : ℕ) (past : List Event) → i < n → sum_below n (λ q. one (not (not (q == i) && flag_is_up q past))) + 0 ≤ flags_left n past + 1
flag_falls n i past l =
    let top = one_le (not (not (i == i) && flag_is_up i past)) in
    sum_one n i (λ q. one (not (not (q == i) && flag_is_up q past))) (λ q. one (not (flag_is_up q past))) 0 1 l (λ q m d. one_same _ _ (ap (λ b. not (not b && flag_is_up q past)) (ne_eqb q i d))) (omega (arith, top))

flag_step : (sys : System) (s : State) (e : Event) → IsTrue (row_admits sys s e) → flags_left (worker_count s) (e ∷ s.past) + pays_flag e ≤ flags_left (worker_count s) s.past + gets_flag e
flag_step sys s (Take i k) h = flag_falls (worker_count s) i s.past (in_range_of i (worker_count s) _ h)
flag_step sys s (Nack i) h = flag_falls (worker_count s) i s.past (in_range_of i (worker_count s) _ h)
flag_step sys s (Flag i) h =
    let n = worker_count s in
    let down = (and_parts (rests_without_mail s i) (not (flag_is_up i s.past)) (and_parts (is_worker s i) (may_flag s i) h).1).1 in
    let was = one_true _ down in
    let now = one_false (not (i == i || flag_is_up i s.past)) (ap (λ b. not (b || flag_is_up i s.past)) (eq-eqb i i refl)) in
    sum_one n i (λ q. one (not (q == i || flag_is_up q s.past))) (λ q. one (not (flag_is_up q s.past))) 1 0 (in_range_of i n _ h) (λ q m d. one_same _ _ (ap (λ b. not (b || flag_is_up q s.past)) (ne_eqb q i d))) (omega (arith, was, now))
flag_step sys s (Give i) h = omega arith
flag_step sys s (Stretch i t) h = omega arith
flag_step sys s (Hold i) h = omega arith
flag_step sys s Ask h = omega arith
flag_step sys s (Ack i) h = omega arith
flag_step sys s (Begin d) h = omega arith
flag_step sys s (Mark i) h = omega arith
flag_step sys s (Seal d) h = omega arith
flag_step sys s (Kept d) h = omega arith
flag_step sys s End h = omega arith
flag_step sys s (Stop c) h = omega arith

-- ---- the probe

-- where a Nack was and nobody took since the Ask, a worker has mail and its flag is down
record IsHeard (s : State) (past : List Event) (workers : BaseState) : Type 0 where
  heard : was_asked past ≡ true → nack_since_ask past ≡ true → some_took past ≡ false → (i : ℕ) × (i < worker_count s) × (flag_is_up i past ≡ false) × (batch_waits (worker_at workers i) ≡ true)

-- who took is among those that did
some_take : (i : ℕ) (past : List Event) → list_any (is_take_of i) past ≡ true → list_any is_take past ≡ true
some_take i [] h = absurd (false≢true h)
some_take i (e ∷ past) h = elim (or_cases (is_take_of i e) (list_any (is_take_of i) past) h) [
  | inl k ↦ or_left (is_take e) _ (go e k)
  | inr k ↦ or_right (is_take e) _ (some_take i past k)
]
  where
    go : (e : Event) → is_take_of i e ≡ true → is_take e ≡ true
    go (Take j l) k = refl
    go (Give j) k = absurd (false≢true k)
    go (Stretch j t) k = absurd (false≢true k)
    go (Hold j) k = absurd (false≢true k)
    go (Flag j) k = absurd (false≢true k)
    go Ask k = absurd (false≢true k)
    go (Ack j) k = absurd (false≢true k)
    go (Nack j) k = absurd (false≢true k)
    go (Begin d) k = absurd (false≢true k)
    go (Mark j) k = absurd (false≢true k)
    go (Seal d) k = absurd (false≢true k)
    go (Kept d) k = absurd (false≢true k)
    go End k = absurd (false≢true k)
    go (Stop c) k = absurd (false≢true k)

abbrev IsHeardAt : State → Type 0
IsHeardAt s = IsHeard s s.past s.workers

-- an event that changes no worker, no flag and nothing that a probe asks for
heard_same : (s : State) (e : Event) → is_ask e ≡ false → is_nack e ≡ false → is_take e ≡ false → ((i : ℕ) → flag_is_up i s.past ≡ false → batch_waits (worker_at s.workers i) ≡ true → flag_is_up i (e ∷ s.past) ≡ false) → IsHeardAt s → IsHeard s (e ∷ s.past) s.workers
heard_same s e a b t f p =
    record {
      heard = λ asked nack took.
          let same = λ (test : Event → Bool) (q : test e ≡ false). since-more test e s.past ∙ (ap (λ x. cond (not x) (test e || list_any test (since_ask s.past)) false) a ∙ ap (λ x. x || list_any test (since_ask s.past)) q) in
          let k = p.heard (sym (ap (λ x. x || was_asked s.past) a) ∙ asked) (sym (same is_nack b) ∙ nack) (sym (same is_take t) ∙ took) in
          (k.0, k.1, f k.0 k.2 k.3, k.3);
    }

heard_kept : (sys : System) (n : ℕ) (s : State) (e : Event) → IsTrue (row_admits sys s e) → IsProbed n s → IsHeardAt s → IsHeard s (e ∷ s.past) (state_after sys s e).workers
heard_kept sys n s (Take i k) h p q = record { heard = λ asked nack took. absurd (both (since-more is_take (Take i k) s.past) took) }
heard_kept sys n s Ask h p q = record { heard = λ asked nack took. absurd (both nack (since-more is_nack Ask s.past)) }
heard_kept sys n s (Give i) h p q =
    record {
      heard = λ asked nack took.
          elim (p.probe asked) [
            | inl c ↦ absurd (not_running (worker_at s.workers i) (c.rest i (in_range_of i (worker_count s) _ h)) (and_parts (is_worker s i) (is_running (worker_at s.workers i)) h).1)
            | inr c ↦ absurd (both (since-more is_take (Give i) s.past ∙ some_take c.who (since_ask s.past) c.took) took)
          ];
    }
heard_kept sys n s (Nack i) h p q =
    record {
      heard = λ asked nack took.
          let row = and_parts (may_answer s i && rests (worker_at s.workers i)) (batch_waits (worker_at s.workers i) || took_since_ask i s.past) (and_parts (is_worker s i) (may_nack s i) h).1 in
          let none : some_took s.past ≡ false = sym (since-more is_take (Nack i) s.past) ∙ took in (
            i,
            in_range_of i (worker_count s) _ h,
            ap (λ b. not b && flag_is_up i s.past) (eq-eqb i i refl),
            elim (or_cases (batch_waits (worker_at s.workers i)) (took_since_ask i s.past) row.1) [ inl m ↦ m | inr t ↦ absurd (both (some_take i (since_ask s.past) t) none) ],
          );
    }
heard_kept sys n s (Flag i) h p q =
    let row = (and_parts (rests_without_mail s i) (not (flag_is_up i s.past)) (and_parts (is_worker s i) (may_flag s i) h).1).0 in
    let none = not-true (batch_waits (worker_at s.workers i)) (and_parts (rests (worker_at s.workers i)) (not (batch_waits (worker_at s.workers i))) row).1 in
    heard_same s (Flag i) refl refl refl (λ j down mail. or_from (j == i) (flag_is_up j s.past) (ne_eqb j i (λ e. both (subst (λ x. batch_waits (worker_at s.workers x) ≡ true) e mail) none)) down) q
heard_kept sys n s (Stretch i t) h p q = heard_same s (Stretch i t) refl refl refl (λ j down mail. down) q
heard_kept sys n s (Hold i) h p q = heard_same s (Hold i) refl refl refl (λ j down mail. down) q
heard_kept sys n s (Ack i) h p q = heard_same s (Ack i) refl refl refl (λ j down mail. down) q
heard_kept sys n s (Begin d) h p q = heard_same s (Begin d) refl refl refl (λ j down mail. down) q
heard_kept sys n s (Mark i) h p q = heard_same s (Mark i) refl refl refl (λ j down mail. down) q
heard_kept sys n s (Seal d) h p q = heard_same s (Seal d) refl refl refl (λ j down mail. down) q
heard_kept sys n s (Kept d) h p q = heard_same s (Kept d) refl refl refl (λ j down mail. down) q
heard_kept sys n s End h p q = heard_same s End refl refl refl (λ j down mail. down) q
heard_kept sys n s (Stop c) h p q = heard_same s (Stop c) refl refl refl (λ j down mail. down) q

abbrev pays_probe : Event → ℕ
pays_probe Ask = 1
pays_probe (Ack i) = 1
pays_probe (Nack i) = 2
pays_probe _ = 0

abbrev gets_probe : ℕ → Event → ℕ
gets_probe n (Take i k) = n + 3
gets_probe n _ = 0

probe_same : (n : ℕ) (asked nack nack' took took' : Bool) (answered answered' : ℕ → Bool) → nack' ≡ nack → took' ≡ took → ((i : ℕ) → answered' i ≡ answered i) → probe_left n asked nack' took' answered' ≤ probe_left n asked nack took answered
probe_same n asked nack nack' took took' answered answered' a b c =
    let e : stage_of n asked nack' took' ≡ stage_of n asked nack took = λ t. stage_of n asked (a t) (b t) in
    let l = sum_le n (λ i. one (asked && not (answered' i))) (λ i. one (asked && not (answered i))) (λ i m. one_same _ _ (ap (λ x. asked && not x) (c i))) in
    omega (arith, e, l)

-- a Take gives the next Ask
probe_taken : (n : ℕ) (asked nack nack' took took' : Bool) (answered answered' : ℕ → Bool) → nack' ≡ nack → took' ≡ true → ((i : ℕ) → answered' i ≡ answered i) → probe_left n asked nack' took' answered' ≤ probe_left n asked nack took answered + (n + 3)
probe_taken n asked nack nack' took took' answered answered' a b c =
    let e : stage_of n asked nack' took' ≡ stage_of n asked nack true = λ t. stage_of n asked (a t) (b t) in
    let l = sum_le n (λ i. one (asked && not (answered' i))) (λ i. one (asked && not (answered i))) (λ i m. one_same _ _ (ap (λ x. asked && not x) (c i))) in
    let k = go asked took in
    omega (arith, e, l, k)
  where
    go : (asked took : Bool) → stage_of n asked nack true ≤ stage_of n asked nack took + (n + 3)
    go false took = omega arith
    go true true = omega arith
    go true false = omega arith

probe_asked : (n : ℕ) (asked nack took : Bool) (answered : ℕ → Bool) (nack' took' : Bool) (answered' : ℕ → Bool) → nack' ≡ false → took' ≡ false → (not asked || nack) ≡ true → (asked ≡ true → nack ≡ true → took ≡ false → ⊥) →
    probe_left n true nack' took' answered' + 1 ≤ probe_left n asked nack took answered
probe_asked n asked nack took answered nack' took' answered' a b may bad =
    let e : stage_of n true nack' took' ≡ 2 = λ t. stage_of n true (a t) (b t) in
    let l = sum_const n 1 (λ i. one (true && not (answered' i))) (λ i m. one_le (true && not (answered' i))) in
    let k = go asked nack took may bad in
    omega (arith, e, l, k)
  where
    go : (asked nack took : Bool) → (not asked || nack) ≡ true → (asked ≡ true → nack ≡ true → took ≡ false → ⊥) → n + 3 ≤ stage_of n asked nack took
    go false nack took m w = omega arith
    go true false took m w = absurd (false≢true m)
    go true true true m w = omega arith
    go true true false m w = absurd (w refl refl refl)

probe_step : (sys : System) (s : State) (e : Event) → IsTrue (row_admits sys s e) → IsHeardAt s → probes_left (worker_count s) (e ∷ s.past) + pays_probe e ≤ probes_left (worker_count s) s.past + gets_probe (worker_count s) e
probe_step sys s (Take i k) h p =
    let e : Event = Take i k in
    let a = probe_taken (worker_count s) (was_asked s.past) (nack_since_ask s.past) (nack_since_ask (e ∷ s.past)) (some_took s.past) (some_took (e ∷ s.past)) (λ q. has_answered q s.past) (λ q. has_answered q (e ∷ s.past))
    (since-more is_nack e s.past) (since-more is_take e s.past) (λ q. since-more (is_ack_of q) e s.past) in
    omega (arith, a)
probe_step sys s Ask h p =
    let n = worker_count s in
    let row = and_parts (list_all (λ i. flag_is_up i s.past) (numbers_below n)) (not (was_asked s.past) || nack_since_ask s.past) h in
    let a = probe_asked n (was_asked s.past) (nack_since_ask s.past) (some_took s.past) (λ q. has_answered q s.past) (nack_since_ask (Ask ∷ s.past)) (some_took (Ask ∷ s.past)) (λ q. has_answered q (Ask ∷ s.past))
    (since-more is_nack Ask s.past) (since-more is_take Ask s.past) row.1 (λ asked nack took. let k = p.heard asked nack took in both (all_below (λ i. flag_is_up i s.past) n row.0 k.0 k.1) k.2) in
    omega (arith, a)
probe_step sys s (Ack i) h p =
    let n = worker_count s in
    let e : Event = Ack i in
    let may = and_parts (probe_is_open n s.past) (not (has_answered i s.past)) (and_parts (may_answer s i) (rests_without_mail s i) (and_parts (may_answer s i && rests_without_mail s i) (not (took_since_ask i s.past)) (and_parts (is_worker s i) (may_ack s i) h).1).0).0 in
    let asked = (and_parts (was_asked s.past) (not (nack_since_ask s.past)) (and_parts (was_asked s.past && not (nack_since_ask s.past)) (not (all_have_answered n s.past)) may.0).0).0 in
    let was = one_true (was_asked s.past && not (has_answered i s.past)) (and_from (was_asked s.past) (not (has_answered i s.past)) asked may.1) in
    let now = one_false (was_asked s.past && not (has_answered i (e ∷ s.past)))
    (and_right (was_asked s.past) (not (has_answered i (e ∷ s.past))) (ap not (since-more (is_ack_of i) e s.past) ∙ ap (λ b. not (b || has_answered i s.past)) (eq-eqb i i refl))) in
    let acks = sum_one n i (λ q. one (was_asked s.past && not (has_answered q (e ∷ s.past)))) (λ q. one (was_asked s.past && not (has_answered q s.past))) 1 0 (in_range_of i n _ h)
    (λ q l d. one_same _ _ (ap (λ b. was_asked s.past && not b) (since-more (is_ack_of q) e s.past ∙ ap (λ b. b || has_answered q s.past) (ne_eqb q i d)))) (omega (arith, was, now)) in
    let nack = since-more is_nack e s.past in
    let took = since-more is_take e s.past in
    let stage : stage_of n (was_asked s.past) (nack_since_ask (e ∷ s.past)) (some_took (e ∷ s.past)) ≡ stage_of n (was_asked s.past) (nack_since_ask s.past) (some_took s.past) = λ t. stage_of n (was_asked s.past) (nack t) (took t) in
    omega (arith, acks, stage)
probe_step sys s (Nack i) h p =
    let n = worker_count s in
    let e : Event = Nack i in
    let may = and_parts (probe_is_open n s.past) (not (has_answered i s.past)) (and_parts (may_answer s i) (rests (worker_at s.workers i)) (and_parts (may_answer s i && rests (worker_at s.workers i)) (batch_waits (worker_at s.workers i) || took_since_ask i s.past) (and_parts (is_worker s i) (may_nack s i) h).1).0).0 in
    let open_probe = and_parts (was_asked s.past) (not (nack_since_ask s.past)) (and_parts (was_asked s.past && not (nack_since_ask s.past)) (not (all_have_answered n s.past)) may.0).0 in
    let asked = open_probe.0 in
    let before = not-true (nack_since_ask s.past) open_probe.1 in
    let nack = since-more is_nack e s.past in
    let took = since-more is_take e s.past in
    let now : stage_of n (was_asked s.past) (nack_since_ask (e ∷ s.past)) (some_took (e ∷ s.past)) ≡ cond (some_took s.past) (n + 3) 0 = (λ t. stage_of n (asked t) (nack t) (took t)) ∙ omega arith in
    let was : stage_of n (was_asked s.past) (nack_since_ask s.past) (some_took s.past) ≡ 2 + cond (some_took s.past) (n + 3) 0 = λ t. stage_of n (asked t) (before t) (some_took s.past) in
    let acks = sum_le n (λ q. one (was_asked s.past && not (has_answered q (e ∷ s.past)))) (λ q. one (was_asked s.past && not (has_answered q s.past)))
    (λ q l. one_same _ _ (ap (λ b. was_asked s.past && not b) (since-more (is_ack_of q) e s.past))) in
    omega (arith, now, was, acks)
probe_step sys s (Give i) h p =
    let a = probe_same (worker_count s) (was_asked s.past) (nack_since_ask s.past) (nack_since_ask (Give i ∷ s.past)) (some_took s.past) (some_took (Give i ∷ s.past)) (λ q. has_answered q s.past) (λ q. has_answered q (Give i ∷ s.past))
    (since-more is_nack (Give i) s.past) (since-more is_take (Give i) s.past) (λ q. since-more (is_ack_of q) (Give i) s.past) in
    omega (arith, a)
probe_step sys s (Stretch i t) h p =
    let a = probe_same (worker_count s) (was_asked s.past) (nack_since_ask s.past) (nack_since_ask (Stretch i t ∷ s.past)) (some_took s.past) (some_took (Stretch i t ∷ s.past)) (λ q. has_answered q s.past) (λ q. has_answered q (Stretch i t ∷ s.past))
    (since-more is_nack (Stretch i t) s.past) (since-more is_take (Stretch i t) s.past) (λ q. since-more (is_ack_of q) (Stretch i t) s.past) in
    omega (arith, a)
probe_step sys s (Hold i) h p =
    let a = probe_same (worker_count s) (was_asked s.past) (nack_since_ask s.past) (nack_since_ask (Hold i ∷ s.past)) (some_took s.past) (some_took (Hold i ∷ s.past)) (λ q. has_answered q s.past) (λ q. has_answered q (Hold i ∷ s.past))
    (since-more is_nack (Hold i) s.past) (since-more is_take (Hold i) s.past) (λ q. since-more (is_ack_of q) (Hold i) s.past) in
    omega (arith, a)
probe_step sys s (Flag i) h p =
    let a = probe_same (worker_count s) (was_asked s.past) (nack_since_ask s.past) (nack_since_ask (Flag i ∷ s.past)) (some_took s.past) (some_took (Flag i ∷ s.past)) (λ q. has_answered q s.past) (λ q. has_answered q (Flag i ∷ s.past))
    (since-more is_nack (Flag i) s.past) (since-more is_take (Flag i) s.past) (λ q. since-more (is_ack_of q) (Flag i) s.past) in
    omega (arith, a)
probe_step sys s (Begin d) h p =
    let a = probe_same (worker_count s) (was_asked s.past) (nack_since_ask s.past) (nack_since_ask (Begin d ∷ s.past)) (some_took s.past) (some_took (Begin d ∷ s.past)) (λ q. has_answered q s.past) (λ q. has_answered q (Begin d ∷ s.past))
    (since-more is_nack (Begin d) s.past) (since-more is_take (Begin d) s.past) (λ q. since-more (is_ack_of q) (Begin d) s.past) in
    omega (arith, a)
probe_step sys s (Mark i) h p =
    let a = probe_same (worker_count s) (was_asked s.past) (nack_since_ask s.past) (nack_since_ask (Mark i ∷ s.past)) (some_took s.past) (some_took (Mark i ∷ s.past)) (λ q. has_answered q s.past) (λ q. has_answered q (Mark i ∷ s.past))
    (since-more is_nack (Mark i) s.past) (since-more is_take (Mark i) s.past) (λ q. since-more (is_ack_of q) (Mark i) s.past) in
    omega (arith, a)
probe_step sys s (Seal d) h p =
    let a = probe_same (worker_count s) (was_asked s.past) (nack_since_ask s.past) (nack_since_ask (Seal d ∷ s.past)) (some_took s.past) (some_took (Seal d ∷ s.past)) (λ q. has_answered q s.past) (λ q. has_answered q (Seal d ∷ s.past))
    (since-more is_nack (Seal d) s.past) (since-more is_take (Seal d) s.past) (λ q. since-more (is_ack_of q) (Seal d) s.past) in
    omega (arith, a)
probe_step sys s (Kept d) h p =
    let a = probe_same (worker_count s) (was_asked s.past) (nack_since_ask s.past) (nack_since_ask (Kept d ∷ s.past)) (some_took s.past) (some_took (Kept d ∷ s.past)) (λ q. has_answered q s.past) (λ q. has_answered q (Kept d ∷ s.past))
    (since-more is_nack (Kept d) s.past) (since-more is_take (Kept d) s.past) (λ q. since-more (is_ack_of q) (Kept d) s.past) in
    omega (arith, a)
probe_step sys s End h p =
    let a = probe_same (worker_count s) (was_asked s.past) (nack_since_ask s.past) (nack_since_ask (End ∷ s.past)) (some_took s.past) (some_took (End ∷ s.past)) (λ q. has_answered q s.past) (λ q. has_answered q (End ∷ s.past))
    (since-more is_nack End s.past) (since-more is_take End s.past) (λ q. since-more (is_ack_of q) End s.past) in
    omega (arith, a)
probe_step sys s (Stop c) h p =
    let a = probe_same (worker_count s) (was_asked s.past) (nack_since_ask s.past) (nack_since_ask (Stop c ∷ s.past)) (some_took s.past) (some_took (Stop c ∷ s.past)) (λ q. has_answered q s.past) (λ q. has_answered q (Stop c ∷ s.past))
    (since-more is_nack (Stop c) s.past) (since-more is_take (Stop c) s.past) (λ q. since-more (is_ack_of q) (Stop c) s.past) in
    omega (arith, a)

-- ---- snapshots

abbrev pays_snapshot : Event → ℕ
pays_snapshot (Begin d) = 1
pays_snapshot (Mark i) = 1
pays_snapshot (Seal d) = 1
pays_snapshot (Kept d) = 1
pays_snapshot _ = 0

pub takes-more : (e : Event) (past : List Event) → takes_since_begin (e ∷ past) ≡ cond (not (is_begin e)) (cond (is_take e) 1 0 + takes_since_begin past) 0
takes-more e past = ap (count_by is_take) (take_while-cons (λ x. not (is_begin x)) e past) ∙ go (not (is_begin e))
  where
    go : (b : Bool) → count_by is_take (cond b (e ∷ take_while (λ x. not (is_begin x)) past) []) ≡ cond b (cond (is_take e) 1 0 + takes_since_begin past) 0
    go true = sum_by-cons (λ x. cond (is_take x) 1 0) e (take_while (λ x. not (is_begin x)) past)
    go false = refl

begin_same : (n t u : ℕ) → u ≡ t → begin_left n u ≡ begin_left n t
begin_same n t u h = ap {B = ℕ} (begin_left n) h

begin_le : (n t : ℕ) → begin_left n t ≤ n + 3
begin_le n t = go (nat_lt 0 t)
  where
    go : (b : Bool) → cond b (n + 3) 0 ≤ n + 3
    go true = omega arith
    go false = omega arith

unkept_le : (f g : ℕ → Bool) (es : List ℕ) → ((e : ℕ) → g e ≡ true → f e ≡ true) → unkept f es ≤ unkept g es
unkept_le f g [] h = omega arith
unkept_le f g (e ∷ es) h = let a = unkept_le f g es h in let b = go (g e) refl (f e) refl in omega (arith, a, b)
  where
    go : (b : Bool) → g e ≡ b → (c : Bool) → f e ≡ c → one (not (f e)) ≤ one (not (g e))
    go true p c q = one_same (not (f e)) (not (g e)) (ap not (h e p) ∙ sym (ap not p))
    go false p c q = let l = one_le (not (f e)) in let m = one_true (not (g e)) (ap not p) in omega (arith, l, m)

-- what is kept now was sealed and not yet kept
kept_pays : (d : ℕ) (f : ℕ → Bool) (past : List Event) → was_sealed d past ≡ true → f d ≡ false → unkept (λ e. e == d || f e) (sealed_epochs past) + 1 ≤ unkept f (sealed_epochs past)
kept_pays d f [] h k = absurd (false≢true h)
kept_pays d f (Seal b ∷ past) h k = elim (cases_eq d b) [
  | inl e ↦
      let rest = unkept_le (λ x. x == d || f x) f (sealed_epochs past) (λ x q. or_right (x == d) (f x) q) in
      let now = one_false (not (b == d || f b)) (ap (λ t. not (t || f b)) (eq-eqb b d (sym e))) in
      let was = one_true (not (f b)) (ap not (subst (λ x. f x ≡ false) e k)) in
      omega (arith, rest, now, was)
  | inr ne ↦
      let again = kept_pays d f past (sym (ap (λ t. t || was_sealed d past) (ne_eqb d b ne)) ∙ h) k in
      let same = ap one (ap (λ t. not (t || f b)) (ne_eqb b d (λ q. ne (sym q)))) in
      omega (arith, again, same)
]
kept_pays d f (Take i l ∷ past) h k = kept_pays d f past h k
kept_pays d f (Give i ∷ past) h k = kept_pays d f past h k
kept_pays d f (Stretch i t ∷ past) h k = kept_pays d f past h k
kept_pays d f (Hold i ∷ past) h k = kept_pays d f past h k
kept_pays d f (Flag i ∷ past) h k = kept_pays d f past h k
kept_pays d f (Ask ∷ past) h k = kept_pays d f past h k
kept_pays d f (Ack i ∷ past) h k = kept_pays d f past h k
kept_pays d f (Nack i ∷ past) h k = kept_pays d f past h k
kept_pays d f (Begin b ∷ past) h k = kept_pays d f past h k
kept_pays d f (Mark i ∷ past) h k = kept_pays d f past h k
kept_pays d f (Kept b ∷ past) h k = kept_pays d f past h k
kept_pays d f (End ∷ past) h k = kept_pays d f past h k
kept_pays d f (Stop c ∷ past) h k = kept_pays d f past h k

open_le : (n : ℕ) (opened : Bool) (marked : ℕ → Bool) → opened ≡ true → open_left n opened marked ≡ 2 + sum_below n (λ i. one (not (marked i)))
open_le n opened marked h = ap (λ b. cond b (2 + sum_below n (λ i. one (not (marked i)))) 0) h

snapshot_step : (sys : System) (s : State) (e : Event) → IsTrue (row_admits sys s e) → snapshots_left (worker_count s) (e ∷ s.past) + pays_snapshot e ≤ snapshots_left (worker_count s) s.past + gets_probe (worker_count s) e
snapshot_step sys s (Take i k) h =
    let a = begin_le (worker_count s) (takes_since_begin (Take i k ∷ s.past)) in
    omega (arith, a)
snapshot_step sys s (Begin d) h =
    let n = worker_count s in
    let due = (and_parts (snapshot_is_due sys s) (all_begun_are_kept s.past) (and_parts (snapshot_is_due sys s && all_begun_are_kept s.past) (d == last_epoch s.start.epoch s.past + 1) h).0).0 in
    let parts = and_parts (nat_lt 0 sys.settings.snapshot) (nat_le sys.settings.snapshot (takes_since_begin s.past)) (and_parts (nat_lt 0 sys.settings.snapshot && nat_le sys.settings.snapshot (takes_since_begin s.past)) _ due).0 in
    let some = ltb-true 0 sys.settings.snapshot parts.0 in
    let enough = leb-true sys.settings.snapshot (takes_since_begin s.past) parts.1 in
    let was : begin_left n (takes_since_begin s.past) ≡ n + 3 = ap (λ b. cond b (n + 3) 0) (lt-ltb 0 (takes_since_begin s.past) (omega (arith, some, enough))) in
    let now : begin_left n (takes_since_begin (Begin d ∷ s.past)) ≡ 0 = begin_same n 0 (takes_since_begin (Begin d ∷ s.past)) (takes-more (Begin d) s.past) in
    let marks = sum_const n 1 (λ i. one (not (is_marked i (Begin d ∷ s.past)))) (λ i l. one_le (not (is_marked i (Begin d ∷ s.past)))) in
    omega (arith, was, now, marks)
snapshot_step sys s (Mark i) h =
    let n = worker_count s in
    let free = and_parts (recording_is_open s.past) (not (is_marked i s.past)) (and_parts (is_unmarked s i) (not (is_running (worker_at s.workers i))) (and_parts (is_worker s i) (may_mark s i) h).1).0 in
    let was = one_true (not (is_marked i s.past)) free.1 in
    let now = one_false (not (i == i || is_marked i s.past)) (ap (λ b. not (b || is_marked i s.past)) (eq-eqb i i refl)) in
    let marks = sum_one n i (λ q. one (not (q == i || is_marked q s.past))) (λ q. one (not (is_marked q s.past))) 1 0 (in_range_of i n _ h) (λ q l d. one_same _ _ (ap (λ b. not (b || is_marked q s.past)) (ne_eqb q i d))) (omega (arith, was, now)) in
    let old = open_le n (recording_is_open s.past) (λ q. is_marked q s.past) free.0 in
    let new = open_le n (recording_is_open s.past) (λ q. q == i || is_marked q s.past) free.0 in
    let takes = takes-more (Mark i) s.past in
    let begin = begin_same n (takes_since_begin s.past) (takes_since_begin (Mark i ∷ s.past)) (omega (arith, takes)) in
    omega (arith, marks, old, new, begin)
snapshot_step sys s (Seal d) h =
    let n = worker_count s in
    let opened = (and_parts (recording_is_open s.past) _ (and_parts _ (d == last_epoch s.start.epoch s.past) h).0).0 in
    let old = open_le n (recording_is_open s.past) (λ q. is_marked q s.past) opened in
    let top = one_le (not (was_kept d s.past)) in
    let takes = takes-more (Seal d) s.past in
    let begin = begin_same n (takes_since_begin s.past) (takes_since_begin (Seal d ∷ s.past)) (omega (arith, takes)) in
    omega (arith, old, top, begin)
snapshot_step sys s (Kept d) h =
    let n = worker_count s in
    let row = and_parts (was_sealed d s.past) (not (was_kept d s.past)) h in
    let pays = kept_pays d (λ e. was_kept e s.past) s.past row.0 (not-true (was_kept d s.past) row.1) in
    let takes = takes-more (Kept d) s.past in
    let begin = begin_same n (takes_since_begin s.past) (takes_since_begin (Kept d ∷ s.past)) (omega (arith, takes)) in
    omega (arith, pays, begin)
snapshot_step sys s (Give i) h =
    let takes = takes-more (Give i) s.past in
    let begin = begin_same (worker_count s) (takes_since_begin s.past) (takes_since_begin (Give i ∷ s.past)) (omega (arith, takes)) in
    omega (arith, begin)
snapshot_step sys s (Stretch i t) h =
    let takes = takes-more (Stretch i t) s.past in
    let begin = begin_same (worker_count s) (takes_since_begin s.past) (takes_since_begin (Stretch i t ∷ s.past)) (omega (arith, takes)) in
    omega (arith, begin)
snapshot_step sys s (Hold i) h =
    let takes = takes-more (Hold i) s.past in
    let begin = begin_same (worker_count s) (takes_since_begin s.past) (takes_since_begin (Hold i ∷ s.past)) (omega (arith, takes)) in
    omega (arith, begin)
snapshot_step sys s (Flag i) h =
    let takes = takes-more (Flag i) s.past in
    let begin = begin_same (worker_count s) (takes_since_begin s.past) (takes_since_begin (Flag i ∷ s.past)) (omega (arith, takes)) in
    omega (arith, begin)
snapshot_step sys s Ask h =
    let takes = takes-more Ask s.past in
    let begin = begin_same (worker_count s) (takes_since_begin s.past) (takes_since_begin (Ask ∷ s.past)) (omega (arith, takes)) in
    omega (arith, begin)
snapshot_step sys s (Ack i) h =
    let takes = takes-more (Ack i) s.past in
    let begin = begin_same (worker_count s) (takes_since_begin s.past) (takes_since_begin (Ack i ∷ s.past)) (omega (arith, takes)) in
    omega (arith, begin)
snapshot_step sys s (Nack i) h =
    let takes = takes-more (Nack i) s.past in
    let begin = begin_same (worker_count s) (takes_since_begin s.past) (takes_since_begin (Nack i ∷ s.past)) (omega (arith, takes)) in
    omega (arith, begin)
snapshot_step sys s End h =
    let takes = takes-more End s.past in
    let begin = begin_same (worker_count s) (takes_since_begin s.past) (takes_since_begin (End ∷ s.past)) (omega (arith, takes)) in
    omega (arith, begin)
snapshot_step sys s (Stop c) h =
    let takes = takes-more (Stop c) s.past in
    let begin = begin_same (worker_count s) (takes_since_begin s.past) (takes_since_begin (Stop c ∷ s.past)) (omega (arith, takes)) in
    omega (arith, begin)

-- ---- all together

abbrev owed : ℕ → State → ℕ
owed n s = gives_left n s.workers + stretches_left n s.past + flags_left n s.past + probes_left n s.past + snapshots_left n s.past + end_left s.past

event_owes : (sys : System) (s : State) (e : Event) → IsTrue (is_admitted sys s e) → IsHeardAt s → owed (worker_count s) (state_after sys s e) + 1 ≤ owed (worker_count s) s + cond (is_take e) (138 + 2 * worker_count s) 0
event_owes sys s (Take i k) h p =
    let row = (and_parts (not (has_ended s.past)) (row_admits sys s (Take i k)) h).1 in
    let live = one_true (not (has_ended s.past)) (and_parts (not (has_ended s.past)) (row_admits sys s (Take i k)) h).0 in
    let a = gives_step sys s (Take i k) row in
    let b = stretch_step sys s (Take i k) row in
    let c = flag_step sys s (Take i k) row in
    let x = probe_step sys s (Take i k) row p in
    let y = snapshot_step sys s (Take i k) row in
    omega (arith, live, a, b, c, x, y)
event_owes sys s (Give i) h p =
    let row = (and_parts (not (has_ended s.past)) (row_admits sys s (Give i)) h).1 in
    let live = one_true (not (has_ended s.past)) (and_parts (not (has_ended s.past)) (row_admits sys s (Give i)) h).0 in
    let a = gives_step sys s (Give i) row in
    let b = stretch_step sys s (Give i) row in
    let c = flag_step sys s (Give i) row in
    let x = probe_step sys s (Give i) row p in
    let y = snapshot_step sys s (Give i) row in
    omega (arith, live, a, b, c, x, y)
event_owes sys s (Stretch i t) h p =
    let row = (and_parts (not (has_ended s.past)) (row_admits sys s (Stretch i t)) h).1 in
    let live = one_true (not (has_ended s.past)) (and_parts (not (has_ended s.past)) (row_admits sys s (Stretch i t)) h).0 in
    let a = gives_step sys s (Stretch i t) row in
    let b = stretch_step sys s (Stretch i t) row in
    let c = flag_step sys s (Stretch i t) row in
    let x = probe_step sys s (Stretch i t) row p in
    let y = snapshot_step sys s (Stretch i t) row in
    omega (arith, live, a, b, c, x, y)
event_owes sys s (Hold i) h p =
    let row = (and_parts (not (has_ended s.past)) (row_admits sys s (Hold i)) h).1 in
    let live = one_true (not (has_ended s.past)) (and_parts (not (has_ended s.past)) (row_admits sys s (Hold i)) h).0 in
    let a = gives_step sys s (Hold i) row in
    let b = stretch_step sys s (Hold i) row in
    let c = flag_step sys s (Hold i) row in
    let x = probe_step sys s (Hold i) row p in
    let y = snapshot_step sys s (Hold i) row in
    omega (arith, live, a, b, c, x, y)
event_owes sys s (Flag i) h p =
    let row = (and_parts (not (has_ended s.past)) (row_admits sys s (Flag i)) h).1 in
    let live = one_true (not (has_ended s.past)) (and_parts (not (has_ended s.past)) (row_admits sys s (Flag i)) h).0 in
    let a = gives_step sys s (Flag i) row in
    let b = stretch_step sys s (Flag i) row in
    let c = flag_step sys s (Flag i) row in
    let x = probe_step sys s (Flag i) row p in
    let y = snapshot_step sys s (Flag i) row in
    omega (arith, live, a, b, c, x, y)
event_owes sys s Ask h p =
    let row = (and_parts (not (has_ended s.past)) (row_admits sys s Ask) h).1 in
    let live = one_true (not (has_ended s.past)) (and_parts (not (has_ended s.past)) (row_admits sys s Ask) h).0 in
    let a = gives_step sys s Ask row in
    let b = stretch_step sys s Ask row in
    let c = flag_step sys s Ask row in
    let x = probe_step sys s Ask row p in
    let y = snapshot_step sys s Ask row in
    omega (arith, live, a, b, c, x, y)
event_owes sys s (Ack i) h p =
    let row = (and_parts (not (has_ended s.past)) (row_admits sys s (Ack i)) h).1 in
    let live = one_true (not (has_ended s.past)) (and_parts (not (has_ended s.past)) (row_admits sys s (Ack i)) h).0 in
    let a = gives_step sys s (Ack i) row in
    let b = stretch_step sys s (Ack i) row in
    let c = flag_step sys s (Ack i) row in
    let x = probe_step sys s (Ack i) row p in
    let y = snapshot_step sys s (Ack i) row in
    omega (arith, live, a, b, c, x, y)
event_owes sys s (Nack i) h p =
    let row = (and_parts (not (has_ended s.past)) (row_admits sys s (Nack i)) h).1 in
    let live = one_true (not (has_ended s.past)) (and_parts (not (has_ended s.past)) (row_admits sys s (Nack i)) h).0 in
    let a = gives_step sys s (Nack i) row in
    let b = stretch_step sys s (Nack i) row in
    let c = flag_step sys s (Nack i) row in
    let x = probe_step sys s (Nack i) row p in
    let y = snapshot_step sys s (Nack i) row in
    omega (arith, live, a, b, c, x, y)
event_owes sys s (Begin d) h p =
    let row = (and_parts (not (has_ended s.past)) (row_admits sys s (Begin d)) h).1 in
    let live = one_true (not (has_ended s.past)) (and_parts (not (has_ended s.past)) (row_admits sys s (Begin d)) h).0 in
    let a = gives_step sys s (Begin d) row in
    let b = stretch_step sys s (Begin d) row in
    let c = flag_step sys s (Begin d) row in
    let x = probe_step sys s (Begin d) row p in
    let y = snapshot_step sys s (Begin d) row in
    omega (arith, live, a, b, c, x, y)
event_owes sys s (Mark i) h p =
    let row = (and_parts (not (has_ended s.past)) (row_admits sys s (Mark i)) h).1 in
    let live = one_true (not (has_ended s.past)) (and_parts (not (has_ended s.past)) (row_admits sys s (Mark i)) h).0 in
    let a = gives_step sys s (Mark i) row in
    let b = stretch_step sys s (Mark i) row in
    let c = flag_step sys s (Mark i) row in
    let x = probe_step sys s (Mark i) row p in
    let y = snapshot_step sys s (Mark i) row in
    omega (arith, live, a, b, c, x, y)
event_owes sys s (Seal d) h p =
    let row = (and_parts (not (has_ended s.past)) (row_admits sys s (Seal d)) h).1 in
    let live = one_true (not (has_ended s.past)) (and_parts (not (has_ended s.past)) (row_admits sys s (Seal d)) h).0 in
    let a = gives_step sys s (Seal d) row in
    let b = stretch_step sys s (Seal d) row in
    let c = flag_step sys s (Seal d) row in
    let x = probe_step sys s (Seal d) row p in
    let y = snapshot_step sys s (Seal d) row in
    omega (arith, live, a, b, c, x, y)
event_owes sys s (Kept d) h p =
    let row = (and_parts (not (has_ended s.past)) (row_admits sys s (Kept d)) h).1 in
    let live = one_true (not (has_ended s.past)) (and_parts (not (has_ended s.past)) (row_admits sys s (Kept d)) h).0 in
    let a = gives_step sys s (Kept d) row in
    let b = stretch_step sys s (Kept d) row in
    let c = flag_step sys s (Kept d) row in
    let x = probe_step sys s (Kept d) row p in
    let y = snapshot_step sys s (Kept d) row in
    omega (arith, live, a, b, c, x, y)
event_owes sys s End h p =
    let row = (and_parts (not (has_ended s.past)) (row_admits sys s End) h).1 in
    let live = one_true (not (has_ended s.past)) (and_parts (not (has_ended s.past)) (row_admits sys s End) h).0 in
    let a = gives_step sys s End row in
    let b = stretch_step sys s End row in
    let c = flag_step sys s End row in
    let x = probe_step sys s End row p in
    let y = snapshot_step sys s End row in
    omega (arith, live, a, b, c, x, y)
event_owes sys s (Stop z) h p =
    let row = (and_parts (not (has_ended s.past)) (row_admits sys s (Stop z)) h).1 in
    let live = one_true (not (has_ended s.past)) (and_parts (not (has_ended s.past)) (row_admits sys s (Stop z)) h).0 in
    let a = gives_step sys s (Stop z) row in
    let b = stretch_step sys s (Stop z) row in
    let c = flag_step sys s (Stop z) row in
    let x = probe_step sys s (Stop z) row p in
    let y = snapshot_step sys s (Stop z) row in
    omega (arith, live, a, b, c, x, y)

record IsPaid (n : ℕ) (s : State) : Type 0 where
  probed : IsProbed n s
  heard : IsHeardAt s

journal_owes : (sys : System) (n : ℕ) (journal : List Event) (s : State) → IsPaid n s → IsTrue (are_admitted sys s journal) → length journal + owed n (state_after_all sys s journal) ≤ (138 + 2 * n) * count_by is_take journal + owed n s
journal_owes sys n [] s p h = let z : (138 + 2 * n) * 0 ≡ 0 = omega arith in omega (arith, z)
journal_owes sys n (e ∷ journal) s p h =
    let t = state_after sys s e in
    let admitted = (and_parts (is_admitted sys s e) _ h).0 in
    let row = row_of sys s e journal h in
    let count = p.probed.count in
    let same = same_count sys s e in
    let probed = probe_kept n sys s e row p.probed in
    let heard = heard_kept sys n s e row p.probed p.heard in
    let again = journal_owes sys n journal t
    (record { probed = probed; heard = record { heard = λ a b c. let k = heard.heard a b c in (k.0, (let l = k.1 in omega (arith, l, same)), k.2, k.3) } })
    (rest_of sys s e journal h) in
    let P : ℕ → Type 0 = λ m. owed m t + 1 ≤ owed m s + cond (is_take e) (138 + 2 * m) 0 in
    let here : P n = subst P count (event_owes sys s e admitted p.heard) in
    let counts = sum_by-cons (λ x. cond (is_take x) 1 0) e journal in
    let c = 138 + 2 * n in
    let product : c * count_by is_take (e ∷ journal) ≡ cond (is_take e) c 0 + c * count_by is_take journal = ap (λ m. c * m) counts ∙ go c (is_take e) (count_by is_take journal) in
    omega (arith, again, here, product)
  where
    go : (c : ℕ) (b : Bool) (m : ℕ) → c * (cond b 1 0 + m) ≡ cond b c 0 + c * m
    go c true m = omega arith
    go c false m = omega arith

-- what is owed at the start
start_owes : (start : SnapshotParts) → owed (length start.parts) (start_state start) ≤ 132 * length start.parts + 4
start_owes start =
    let n = length start.parts in
    let s = start_state start in
    let a = sum_const n 1 (λ i. one (is_running (worker_at s.workers i))) (λ i l. one_le (is_running (worker_at s.workers i))) in
    let b = sum_const n 129 (λ i. turns_left (stretch_of i []) 0) (λ i l. omega arith) in
    let c = sum_const n 1 (λ i. one (not (flag_is_up i []))) (λ i l. omega arith) in
    let d = sum_const n 0 (λ i. one (was_asked [] && not (has_answered i []))) (λ i l. omega arith) in
    omega (arith, a, b, c, d)

pub events_follow_takes : EventsFollowTakes
events_follow_takes sys start journal legal =
    let n = length start.parts in
    let s = start_state start in
    let a = journal_owes sys n journal s
    (record { probed = record { count = start_length start; flags = λ i l f. absurd (false≢true f); probe = λ q. absurd (false≢true q) }; heard = record { heard = λ q r t. absurd (false≢true q) } }) legal in
    let b = start_owes start in
    omega (arith, a, b)

pub events_are_bounded : EventsAreBounded
events_are_bounded sys start journal sound form some legal =
    let f = length sys.pieces in
    let n = length start.parts in
    let same : f ≡ n = start_lengths sys sys.pieces start.parts form.parts in
    let P : ℕ → Type 0 = λ m. length journal ≤ (138 + 2 * m) * count_by is_take journal + 132 * m + 4 in
    let a : P f = subst P (sym same) (events_follow_takes sys start journal legal) in
    let t = takes_are_bounded sys start journal sound form legal in
    let B = bound_of sys in
    let b = mul-le-mul_left (138 + 2 * f) t in
    last f B (count_by is_take journal) (length journal) some (omega arith) a b
  where
    last : (f B T L : ℕ) → 1 ≤ f → 2 * f ≤ B → L ≤ (138 + 2 * f) * T + 132 * f + 4 → (138 + 2 * f) * T ≤ (138 + 2 * f) * B → L ≤ (140 + 2 * f) * (B + f)
    last f B T L one two a b =
        let e : (140 + 2 * f) * (B + f) ≡ (138 + 2 * f) * B + 2 * B + 140 * f + 2 * (f * f) = omega arith in
        omega (arith, one, two, a, b, e)
