-- The probe of a journal follows it, and says what the table says.
use Rattle.std.proofs.Common.{◌≡◌, ℕ, ◌<◌, Bool, true, false, not, ◌&&◌, ◌||◌, ◌==◌, nat_lt, cond, refl, sym, ◌∙◌, ap, subst, arith, List, [], ◌∷◌, ◌++◌, map, length, get_or, set, replicate, get_or-set_same, get_or-set_other, ext_get_or}
use Rattle.std.specs.List.{list_any, list_all}
use Rattle.std.proofs.lemmas.Bool.{and_parts, not-true, or_left, eqb-true, eq-eqb, ltb-true, false≢true}
use Rattle.std.proofs.lemmas.List.Sums.{take_while-cons}
use Rattle.std.proofs.lemmas.List.Folds.{list_all-map}
use Rattle.std.proofs.lemmas.List.FromFn.{get_or-map-range_with_len, length-range_with_len}
use Rattle.std.proofs.lemmas.List.{length-map, length-set}
use Rattle.graph_core.specs.Fragments.{numbers_below}
use Rattle.grape_event.specs.declared.event.Event.{Event}
use Rattle.grape_event.specs.declared.event.Event.TheVariants.{Take, Give, Stretch, Hold, Flag, Ask, Ack, Nack, Begin, Mark, Seal, Kept, End, Stop}
use Rattle.grape_event.specs.Events.{is_take_of}
use Rattle.base_machine.specs.Machine.{System, worker_at, rests, batch_waits}
use Rattle.legal_journal.specs.Past
use Rattle.legal_journal.specs.Legal.{State, worker_count, rests_without_mail, is_worker, may_answer, may_ack}
use Rattle.stop_probe.specs.ProbeValues.{ProbeValues}
use Rattle.stop_probe.specs.Probe.{is_open, all_of, took_since_ask, has_answered, new_probe, after_flag, after_ask, after_ack, after_nack, after_take}
use Rattle.stop_probe.specs.Journals.{probe_of, probe_at, after_event, FollowsEvents, MeetsTheTable, TakesAreSeen, AcksFollowNoTake}

-- ---- a list of bits, one a worker

alike : (f g : ℕ → Bool) → ((j : ℕ) → g j ≡ f j) → (xs : List ℕ) → map g xs ≡ map f xs
alike f g h [] = refl
alike f g h (x ∷ xs) = ap (λ b. b ∷ map g xs) (h x) ∙ ap (λ bs. f x ∷ bs) (alike f g h xs)

all_false : (g : ℕ → Bool) → ((j : ℕ) → g j ≡ false) → (xs : List ℕ) → map g xs ≡ replicate (length xs) false
all_false g h [] = refl
all_false g h (x ∷ xs) = ap (λ b. b ∷ map g xs) (h x) ∙ ap (λ bs. false ∷ bs) (all_false g h xs)

cleared : (g : ℕ → Bool) (n : ℕ) → ((j : ℕ) → g j ≡ false) → map g (numbers_below n) ≡ replicate n false
cleared g n h = all_false g h (numbers_below n) ∙ ap (λ m. replicate m false) (length-range_with_len 0 n)

bit_at : (f : ℕ → Bool) (i n : ℕ) → i < n → get_or (map f (numbers_below n)) i false ≡ f i
bit_at f i n h = get_or-map-range_with_len f 0 n i i false h (omega arith)

bit_count : (f : ℕ → Bool) (n : ℕ) → length (map f (numbers_below n)) ≡ n
bit_count f n = length-map (numbers_below n) f ∙ length-range_with_len 0 n

-- one bit differs
one_set : (f g : ℕ → Bool) (i n : ℕ) (v : Bool) → g i ≡ v → ((j : ℕ) → (j == i) ≡ false → g j ≡ f j) → map g (numbers_below n) ≡ set (map f (numbers_below n)) i v
one_set f g i n v here there = ext_get_or false (map g (numbers_below n)) (set (map f (numbers_below n)) i v) lengths (λ j l. at j (in_range j l) (j == i) refl)
  where
    lengths : length (map g (numbers_below n)) ≡ length (set (map f (numbers_below n)) i v)
    lengths = bit_count g n ∙ sym (length-set (map f (numbers_below n)) i v ∙ bit_count f n)

    in_range : (j : ℕ) → j < length (map g (numbers_below n)) → j < n
    in_range j l = subst (λ m. j < m) (bit_count g n) l

    at : (j : ℕ) → j < n → (b : Bool) → (j == i) ≡ b → get_or (map g (numbers_below n)) j false ≡ get_or (set (map f (numbers_below n)) i v) j false
    at j l true e =
        let same = eqb-true j i e in
        bit_at g j n l ∙ (ap g same ∙ here)
        ∙ sym (ap (λ q. get_or (set (map f (numbers_below n)) i v) q false) same ∙ get_or-set_same (map f (numbers_below n)) i v false (subst (λ q. q < length (map f (numbers_below n))) same (subst (λ m. j < m) (sym (bit_count f n)) l)))
    at j l false e =
        bit_at g j n l ∙ there j e
        ∙ sym (get_or-set_other (map f (numbers_below n)) i j v false (λ same. false≢true (sym e ∙ eq-eqb j i same)) ∙ bit_at f j n l)

-- ---- one more event

since : (test : Event → Bool) (e : Event) (past : List Event) → list_any test (Past.since_ask (e ∷ past)) ≡ cond (not (Past.is_ask e)) (test e || list_any test (Past.since_ask past)) false
since test e past = ap (list_any test) (take_while-cons (λ x. not (Past.is_ask x)) e past) ∙ go (not (Past.is_ask e))
  where
    go : (b : Bool) → list_any test (cond b (e ∷ Past.since_ask past) []) ≡ cond b (test e || list_any test (Past.since_ask past)) false
    go true = refl
    go false = refl

-- an event but Ask leaves what the test does not see
since_other : (test : Event → Bool) (e : Event) (past : List Event) → Past.is_ask e ≡ false → test e ≡ false → list_any test (Past.since_ask (e ∷ past)) ≡ list_any test (Past.since_ask past)
since_other test e past a t = since test e past ∙ (ap (λ b. cond (not b) (test e || list_any test (Past.since_ask past)) false) a ∙ ap (λ b. b || list_any test (Past.since_ask past)) t)

abbrev values : ℕ → List Bool → Bool → Bool → List Bool → List Bool → ProbeValues
values n f a k s t = record { workers = n; flags = f; asked = a; nacked = k; answered = s; took = t }

same : (n : ℕ) (f f2 : List Bool) (a a2 k k2 : Bool) (s s2 t t2 : List Bool) → f ≡ f2 → a ≡ a2 → k ≡ k2 → s ≡ s2 → t ≡ t2 →
    values n f a k s t ≡ values n f2 a2 k2 s2 t2
same n f f2 a a2 k k2 s s2 t t2 ef ea ek es et = cc

answers_stay : (n : ℕ) (e : Event) (past : List Event) → Past.is_ask e ≡ false → ((j : ℕ) → Past.is_ack_of j e ≡ false) → map (λ j. Past.has_answered j (e ∷ past)) (numbers_below n) ≡ map (λ j. Past.has_answered j past) (numbers_below n)
answers_stay n e past a h = alike (λ j. Past.has_answered j past) (λ j. Past.has_answered j (e ∷ past)) (λ j. since_other (Past.is_ack_of j) e past a (h j)) (numbers_below n)

takes_stay : (n : ℕ) (e : Event) (past : List Event) → Past.is_ask e ≡ false → ((j : ℕ) → is_take_of j e ≡ false) → map (λ j. Past.took_since_ask j (e ∷ past)) (numbers_below n) ≡ map (λ j. Past.took_since_ask j past) (numbers_below n)
takes_stay n e past a h = alike (λ j. Past.took_since_ask j past) (λ j. Past.took_since_ask j (e ∷ past)) (λ j. since_other (is_take_of j) e past a (h j)) (numbers_below n)

flag_follows : (n i : ℕ) (past : List Event) → probe_of n (Flag i ∷ past) ≡ after_flag i (probe_of n past)
flag_follows n i past =
    same n _ _ _ _ _ _ _ _ _ _
    (one_set (λ j. Past.flag_is_up j past) (λ j. Past.flag_is_up j (Flag i ∷ past)) i n true (or_left (i == i) _ (eq-eqb i i refl)) (λ j e. ap (λ b. b || Past.flag_is_up j past) e))
    refl
    (since_other Past.is_nack (Flag i) past refl refl)
    (answers_stay n (Flag i) past refl (λ j. refl))
    (takes_stay n (Flag i) past refl (λ j. refl))

ask_follows : (n : ℕ) (past : List Event) → probe_of n (Ask ∷ past) ≡ after_ask (probe_of n past)
ask_follows n past =
    same n _ _ _ _ _ _ _ _ _ _
    refl
    refl
    (since Past.is_nack Ask past)
    (cleared (λ j. Past.has_answered j (Ask ∷ past)) n (λ j. since (Past.is_ack_of j) Ask past))
    (cleared (λ j. Past.took_since_ask j (Ask ∷ past)) n (λ j. since (is_take_of j) Ask past))

ack_follows : (n i : ℕ) (past : List Event) → probe_of n (Ack i ∷ past) ≡ after_ack i (probe_of n past)
ack_follows n i past =
    same n _ _ _ _ _ _ _ _ _ _
    refl
    refl
    (since_other Past.is_nack (Ack i) past refl refl)
    (one_set (λ j. Past.has_answered j past) (λ j. Past.has_answered j (Ack i ∷ past)) i n true
    (since (Past.is_ack_of i) (Ack i) past ∙ or_left (i == i) _ (eq-eqb i i refl))
    (λ j e. since_other (Past.is_ack_of j) (Ack i) past refl e))
    (takes_stay n (Ack i) past refl (λ j. refl))

falls : (i j : ℕ) (past : List Event) → (j == i) ≡ false → (not (j == i) && Past.flag_is_up j past) ≡ Past.flag_is_up j past
falls i j past e = ap (λ b. not b && Past.flag_is_up j past) e

is_down : (i : ℕ) (past : List Event) → (not (i == i) && Past.flag_is_up i past) ≡ false
is_down i past = ap (λ b. not b && Past.flag_is_up i past) (eq-eqb i i refl)

nack_follows : (n i : ℕ) (past : List Event) → probe_of n (Nack i ∷ past) ≡ after_nack i (probe_of n past)
nack_follows n i past =
    same n _ _ _ _ _ _ _ _ _ _
    (one_set (λ j. Past.flag_is_up j past) (λ j. Past.flag_is_up j (Nack i ∷ past)) i n false (is_down i past) (λ j e. falls i j past e))
    refl
    (since Past.is_nack (Nack i) past)
    (answers_stay n (Nack i) past refl (λ j. refl))
    (takes_stay n (Nack i) past refl (λ j. refl))

take_follows : (n i k : ℕ) (past : List Event) → probe_of n (Take i k ∷ past) ≡ after_take i (probe_of n past)
take_follows n i k past =
    same n _ _ _ _ _ _ _ _ _ _
    (one_set (λ j. Past.flag_is_up j past) (λ j. Past.flag_is_up j (Take i k ∷ past)) i n false (is_down i past) (λ j e. falls i j past e))
    refl
    (since_other Past.is_nack (Take i k) past refl refl)
    (answers_stay n (Take i k) past refl (λ j. refl))
    (one_set (λ j. Past.took_since_ask j past) (λ j. Past.took_since_ask j (Take i k ∷ past)) i n true
    (since (is_take_of i) (Take i k) past ∙ or_left (i == i) _ (eq-eqb i i refl))
    (λ j e. since_other (is_take_of j) (Take i k) past refl e))

other_follows : (n : ℕ) (e : Event) (past : List Event) → ((j : ℕ) → Past.flag_is_up j (e ∷ past) ≡ Past.flag_is_up j past) → Past.is_ask e ≡ false → Past.is_nack e ≡ false → ((j : ℕ) → Past.is_ack_of j e ≡ false) → ((j : ℕ) → is_take_of j e ≡ false) →
    probe_of n (e ∷ past) ≡ probe_of n past
other_follows n e past f a k s t =
    same n _ _ _ _ _ _ _ _ _ _
    (alike (λ j. Past.flag_is_up j past) (λ j. Past.flag_is_up j (e ∷ past)) f (numbers_below n))
    (ap (λ b. b || Past.was_asked past) a)
    (since_other Past.is_nack e past a k)
    (answers_stay n e past a s)
    (takes_stay n e past a t)

event_follows : (n : ℕ) (past : List Event) (e : Event) → probe_of n (e ∷ past) ≡ after_event e (probe_of n past)
event_follows n past (Take i k) = take_follows n i k past
event_follows n past (Give i) = other_follows n (Give i) past (λ j. refl) refl refl (λ j. refl) (λ j. refl)
event_follows n past (Stretch i t) = other_follows n (Stretch i t) past (λ j. refl) refl refl (λ j. refl) (λ j. refl)
event_follows n past (Hold i) = other_follows n (Hold i) past (λ j. refl) refl refl (λ j. refl) (λ j. refl)
event_follows n past (Flag i) = flag_follows n i past
event_follows n past Ask = ask_follows n past
event_follows n past (Ack i) = ack_follows n i past
event_follows n past (Nack i) = nack_follows n i past
event_follows n past (Begin e) = other_follows n (Begin e) past (λ j. refl) refl refl (λ j. refl) (λ j. refl)
event_follows n past (Mark i) = other_follows n (Mark i) past (λ j. refl) refl refl (λ j. refl) (λ j. refl)
event_follows n past (Seal e) = other_follows n (Seal e) past (λ j. refl) refl refl (λ j. refl) (λ j. refl)
event_follows n past (Kept e) = other_follows n (Kept e) past (λ j. refl) refl refl (λ j. refl) (λ j. refl)
event_follows n past End = other_follows n End past (λ j. refl) refl refl (λ j. refl) (λ j. refl)
event_follows n past (Stop c) = other_follows n (Stop c) past (λ j. refl) refl refl (λ j. refl) (λ j. refl)

begins : (n : ℕ) → probe_of n [] ≡ new_probe n
begins n =
    same n _ _ _ _ _ _ _ _ _ _
    (cleared (λ j. Past.flag_is_up j []) n (λ j. refl))
    refl
    refl
    (cleared (λ j. Past.has_answered j []) n (λ j. refl))
    (cleared (λ j. Past.took_since_ask j []) n (λ j. refl))

pub follows_events : FollowsEvents
follows_events n = (begins n, event_follows n)

-- ---- the table

all_bits : (f : ℕ → Bool) (n : ℕ) → list_all f (numbers_below n) ≡ all_of (map f (numbers_below n))
all_bits f n = sym (list_all-map (λ bit. bit) f (numbers_below n))

opens : (n : ℕ) (past : List Event) → Past.probe_is_open n past ≡ is_open (probe_of n past)
opens n past = ap (λ b. Past.was_asked past && not (Past.nack_since_ask past) && not (Past.was_asked past && b)) (all_bits (λ i. Past.has_answered i past) n)

-- the parts of a row in another order, where a bit is read in range alone
flag_row : (b r u v : Bool) → (b ≡ true → v ≡ u) → (b && (r && not u)) ≡ ((b && not v) && r)
flag_row false r u v h = refl
flag_row true r u v h = turn r u ∙ ap (λ x. not x && r) (sym (h refl))
  where
    turn : (r u : Bool) → (r && not u) ≡ (not u && r)
    turn true true = refl
    turn true false = refl
    turn false true = refl
    turn false false = refl

answer_row : (b o o2 a a2 r : Bool) (rest : Bool → Bool) (t t2 : Bool) → o ≡ o2 → (b ≡ true → a2 ≡ a) → (b ≡ true → t2 ≡ t) →
    (b && (((o && not a) && r) && rest t)) ≡ ((((b && o2) && not a2) && r) && rest t2)
answer_row false o o2 a a2 r rest t t2 e f g = refl
answer_row true o o2 a a2 r rest t t2 e f g =
    ap (λ x. ((x && not a) && r) && rest t) e ∙ (ap (λ x. ((o2 && not x) && r) && rest t) (sym (f refl)) ∙ ap (λ x. ((o2 && not a2) && r) && rest x) (sym (g refl)))

pub meets_the_table : (sys : System) (s : State) → MeetsTheTable sys s
meets_the_table sys s =
    record {
      flag = λ i. flag_row (nat_lt i n) (rests_without_mail s i) (Past.flag_is_up i s.past) _ (λ h. bit_at (λ j. Past.flag_is_up j s.past) i n (ltb-true i n h));
      ask = ap (λ b. b && (not (Past.was_asked s.past) || Past.nack_since_ask s.past)) (all_bits (λ i. Past.flag_is_up i s.past) n);
      ack = λ i. answer_row (nat_lt i n) _ _ _ _ (rests_without_mail s i) (λ t. not t) _ _ (opens n s.past) (answered i) (took i);
      nack = λ i. answer_row (nat_lt i n) _ _ _ _ (rests (worker_at s.workers i)) (λ t. batch_waits (worker_at s.workers i) || t) _ _ (opens n s.past) (answered i) (took i);
      end = ap (λ b. Past.was_asked s.past && b && Past.all_begun_are_kept s.past) (all_bits (λ i. Past.has_answered i s.past) n);
    }
  where
    n : ℕ
    n = worker_count s

    answered : (i : ℕ) → nat_lt i (worker_count s) ≡ true → has_answered i (probe_at s) ≡ Past.has_answered i s.past
    answered i h = bit_at (λ j. Past.has_answered j s.past) i (worker_count s) (ltb-true i (worker_count s) h)

    took : (i : ℕ) → nat_lt i (worker_count s) ≡ true → took_since_ask i (probe_at s) ≡ Past.took_since_ask i s.past
    took i h = bit_at (λ j. Past.took_since_ask j s.past) i (worker_count s) (ltb-true i (worker_count s) h)

-- ---- between the Ask and the Ack

since_the_ask : (test : Event → Bool) (after before : List Event) → list_any Past.is_ask after ≡ false → list_any test (Past.since_ask (after ++ Ask ∷ before)) ≡ list_any test after
since_the_ask test [] before h = since test Ask before
since_the_ask test (e ∷ after) before h = since test e (after ++ Ask ∷ before) ∙ go (since_the_ask test after before) (Past.is_ask e) h
  where
    go : (list_any Past.is_ask after ≡ false → list_any test (Past.since_ask (after ++ Ask ∷ before)) ≡ list_any test after) → (b : Bool) → (b || list_any Past.is_ask after) ≡ false →
        cond (not b) (test e || list_any test (Past.since_ask (after ++ Ask ∷ before))) false ≡ (test e || list_any test after)
    go rest true f = absurd (false≢true (sym f))
    go rest false f = ap (λ x. test e || x) (rest f)

pub takes_are_seen : TakesAreSeen
takes_are_seen n i after before l a =
    bit_at (λ j. Past.took_since_ask j (after ++ Ask ∷ before)) i n l ∙ since_the_ask (is_take_of i) after before a

-- the events after the last Ask, and those before it
abbrev AskAt : List Event → Type 0
AskAt past = (after : List Event) × (before : List Event) × (past ≡ after ++ Ask ∷ before) × (list_any Past.is_ask after ≡ false)

later : (e : Event) (past : List Event) → Past.is_ask e ≡ false → AskAt past → AskAt (e ∷ past)
later e past a h = (e ∷ h.0, h.1, ap (λ (p : List Event). e ∷ p) h.2, ap (λ b. b || list_any Past.is_ask h.0) a ∙ h.3)

last_ask : (past : List Event) → Past.was_asked past ≡ true → AskAt past
last_ask [] h = absurd (false≢true h)
last_ask (Ask ∷ past) h = ([], past, refl, refl)
last_ask (Take i k ∷ past) h = later (Take i k) past refl (last_ask past h)
last_ask (Give i ∷ past) h = later (Give i) past refl (last_ask past h)
last_ask (Stretch i t ∷ past) h = later (Stretch i t) past refl (last_ask past h)
last_ask (Hold i ∷ past) h = later (Hold i) past refl (last_ask past h)
last_ask (Flag i ∷ past) h = later (Flag i) past refl (last_ask past h)
last_ask (Ack i ∷ past) h = later (Ack i) past refl (last_ask past h)
last_ask (Nack i ∷ past) h = later (Nack i) past refl (last_ask past h)
last_ask (Begin e ∷ past) h = later (Begin e) past refl (last_ask past h)
last_ask (Mark i ∷ past) h = later (Mark i) past refl (last_ask past h)
last_ask (Seal e ∷ past) h = later (Seal e) past refl (last_ask past h)
last_ask (Kept e ∷ past) h = later (Kept e) past refl (last_ask past h)
last_ask (End ∷ past) h = later End past refl (last_ask past h)
last_ask (Stop c ∷ past) h = later (Stop c) past refl (last_ask past h)

pub acks_follow_no_take : AcksFollowNoTake
acks_follow_no_take sys s i h =
    let n = worker_count s in
    let row = (and_parts (is_worker s i) (may_ack s i) (and_parts (not (Past.has_ended s.past)) _ h).1).1 in
    let ack = and_parts (may_answer s i && rests_without_mail s i) (not (Past.took_since_ask i s.past)) row in
    let may = and_parts (Past.probe_is_open n s.past) (not (Past.has_answered i s.past)) (and_parts (may_answer s i) (rests_without_mail s i) ack.0).0 in
    let asked = (and_parts (Past.was_asked s.past) (not (Past.nack_since_ask s.past)) (and_parts (Past.was_asked s.past && not (Past.nack_since_ask s.past)) (not (Past.all_have_answered n s.past)) may.0).0).0 in
    let at = last_ask s.past asked in
    let idle : Past.took_since_ask i s.past ≡ false = not-true (Past.took_since_ask i s.past) ack.1 in
    (at.0, at.1, at.2, at.3, sym (since_the_ask (is_take_of i) at.0 at.1 at.3) ∙ (sym (ap (Past.took_since_ask i) at.2) ∙ idle))
