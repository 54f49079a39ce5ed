-- A sealed snapshot is of a cut, and the other events run on from there.
use Rattle.std.proofs.Common.{◌≡◌, ◌≢◌, ℕ, ◌+◌, ◌<◌, ◌≤◌, ◌⊎◌, inl, inr, Bool, true, false, not, ◌&&◌, ◌||◌, ◌==◌, nat_lt, if◌then◌else◌, IsTrue, refl, sym, ◌∙◌, ap, subst, arith, List, [], ◌∷◌, ◌++◌, length, slice_index_or, slice_set, length-set}
use Rattle.std.specs.List.{list_any, AllByRecursion}
use Rattle.std.proofs.lemmas.Bool.{and_parts, and_from, and_right, and_cases, or_cases, or_right, or_parts, eqb-true, ne_eqb, cases_eq, cases_Bool, ltb-false, not-true, not_from_false}
use Rattle.std.proofs.lemmas.List.{get_or-set_same, get_or-set_other}
use Rattle.std.proofs.lemmas.List.Folds.{list_any_at}
use Rattle.std.proofs.lemmas.List.FromFn.{length-range_with_len, get_or-range_with_len, length-map-range_with_len, get_or-map-range_with_len}
use Rattle.graph_core.specs.Fragments.{Piece, piece_at, numbers_below}
use Rattle.grape_event.specs.declared.event.Event.{Event}
use Rattle.grape_event.specs.declared.event.Event.TheVariants.{Take, Give, Stretch, Hold, Flag, Ask, Ack, Nack, Begin, Mark, Seal, Kept, End, Stop}
use Rattle.token_cut.specs.Parts.{PartValues}
use Rattle.base_machine.specs.Machine.{System, BaseState, BaseEvent, BaseTake, BaseGive, Worker, Batch, Post, Standing, worker_at, is_running, sent_to, after_receiving, after_giving, after_taking, base_after, is_allowed, part_of}
use Rattle.base_machine.specs.Runs.{Runs}
use Rattle.base_machine.proofs.Posts.{all_append, all_since}
use Rattle.base_machine.proofs.Swapping.{after-at, worker_of_event, as_before}
use Rattle.base_machine.proofs.Growing.{queue, IsGrown, run_grown, gives_mono, AreOfOthers, bubble, take_apart, give_apart, reach, IsNumbered, numbered_after}
use Rattle.legal_journal.specs.Past.{gives_of, gives_of_each, recording_is_open, is_marked, gives_before_mark, is_tagged}
use Rattle.legal_journal.specs.Legal.{State, state_after, is_admitted, are_admitted, row_admits, worker_count, recorded_after, is_unmarked, tagged_batch_from, tagged_batch_waits, is_late, no_part, recorded_with_late, part_at_mark, mail_with}
use Rattle.legal_journal.proofs.Probes.{both}
use Rattle.legal_journal.proofs.Journals.{AreCounted, event_counted, take_allowed, give_allowed, counted_here, counts-at}
use Rattle.legal_journal.proofs.Choosing.{IsInOrder, order_kept}
use Rattle.legal_journal.proofs.Recording.{part_received, part_marked}

-- ---- what holds in every state

pub record IsGrounded (n : ℕ) (s : State) : Type 0 where
  pub counted : AreCounted n s
  pub records : length s.recorded ≡ n
  pub order : IsInOrder s

pub recorded_length : (n : ℕ) (sys : System) (s : State) (e : Event) → worker_count s ≡ n → length s.recorded ≡ n → length (recorded_after sys s e) ≡ n
recorded_length n sys s (Give i) c h = length-map-range_with_len (recorded_with_late sys s i) 0 (worker_count s) ∙ c
recorded_length n sys s (Mark i) c h = length-set s.recorded i _ ∙ h
recorded_length n sys s (Take i k) c h = h
recorded_length n sys s (Stretch i t) c h = h
recorded_length n sys s (Hold i) c h = h
recorded_length n sys s (Flag i) c h = h
recorded_length n sys s Ask c h = h
recorded_length n sys s (Ack i) c h = h
recorded_length n sys s (Nack i) c h = h
recorded_length n sys s (Begin d) c h = h
recorded_length n sys s (Seal d) c h = h
recorded_length n sys s (Kept d) c h = h
recorded_length n sys s End c h = h
recorded_length n sys s (Stop d) c h = h

pub ground_kept : (n : ℕ) (sys : System) (s : State) (e : Event) → IsTrue (row_admits sys s e) → IsGrounded n s → IsGrounded n (state_after sys s e)
ground_kept n sys s e h g =
    record { counted = event_counted n sys s e h g.counted; records = recorded_length n sys s e g.counted.count g.records; order = order_kept sys s e h g.order }

pub row_of : (sys : System) (s : State) (e : Event) (rest : List Event) → IsTrue (are_admitted sys s (e ∷ rest)) → IsTrue (row_admits sys s e)
row_of sys s e rest h = (and_parts _ (row_admits sys s e) (and_parts (is_admitted sys s e) _ h).0).1

pub rest_of : (sys : System) (s : State) (e : Event) (rest : List Event) → IsTrue (are_admitted sys s (e ∷ rest)) → IsTrue (are_admitted sys (state_after sys s e) rest)
rest_of sys s e rest h = (and_parts (is_admitted sys s e) _ h).1

-- ---- while an epoch is recorded

-- S is the state of the cut so far, from which the events after marks lead to W
pub record IsCutting (sys : System) (n : ℕ) (S : BaseState) (bs : List BaseEvent) (W : BaseState) (recorded : List PartValues) (marked : ℕ → Bool) (before : ℕ → ℕ) : Type 0 where
  pub numbered : IsNumbered n S
  pub run : Runs sys S bs W
  pub of_marked : AllByRecursion (λ (x : BaseEvent). marked (worker_of_event x) ≡ true) bs
  pub reaches : (k : ℕ) → k < n → marked k ≡ false → AllByRecursion (λ (x : BaseEvent). reach x k ≤ (worker_at S k).gives) bs
  pub given : (j : ℕ) → j < n → marked j ≡ true → before j ≡ (worker_at S j).gives
  pub parts : (k : ℕ) → k < n → marked k ≡ true → slice_index_or recorded k no_part ≡ part_of sys (piece_at sys.pieces k) (worker_at S k)
  pub calm : (k : ℕ) → k < n → marked k ≡ true → is_running (worker_at S k) ≡ false

abbrev pub IsCuttingAt : System → ℕ → BaseState → List BaseEvent → State → Type 0
IsCuttingAt sys n S bs s = IsCutting sys n S bs s.workers s.recorded (λ i. is_marked i s.past) (λ i. gives_before_mark i s.past)

runs_snoc : (sys : System) (bs : List BaseEvent) (S W : BaseState) (b : BaseEvent) → Runs sys S bs W → IsTrue (is_allowed W b) → Runs sys S (bs ++ b ∷ []) (base_after sys W b)
runs_snoc sys [] S W b r h = (subst (λ (U : BaseState). IsTrue (is_allowed U b)) (sym r) h, ap (λ (U : BaseState). base_after sys U b) r)
runs_snoc sys (x ∷ bs) S W b r h = (r.0, runs_snoc sys bs (base_after sys S x) W b r.1 h)

others_of : (k : ℕ) (marked : ℕ → Bool) → marked k ≡ false → (bs : List BaseEvent) → AllByRecursion (λ (x : BaseEvent). marked (worker_of_event x) ≡ true) bs → AreOfOthers k bs
others_of k marked m [] h = tt
others_of k marked m (x ∷ bs) h = ((λ e. both h.0 (subst (λ q. marked q ≡ false) e m)), others_of k marked m bs h.1)

pub running_same : (w w' : Worker) → w'.standing ≡ w.standing → is_running w' ≡ is_running w
running_same w w' e = ap (λ (x : Standing). is_running (record w { standing = x })) e

-- what a Give sends, by the giver's standing and values
sent_same : (sys : System) (piece : Piece) (k : ℕ) (w w' : Worker) → w'.standing ≡ w.standing → w'.values ≡ w.values → sent_to sys piece w' k ≡ sent_to sys piece w k
sent_same sys piece k w w' e v = λ t. sent_to sys piece (record { standing = e t; values = v t; gives = w.gives; start_posts = w.start_posts; mail = w.mail }) k

any_below : (test : ℕ → Bool) (n q : ℕ) → q < n → test q ≡ true → list_any test (numbers_below n) ≡ true
any_below test n q l t =
    let len = length-range_with_len 0 n in
    list_any_at test (numbers_below n) q 0 (omega (arith, l, len)) (subst (λ x. test x ≡ true) (sym (get_or-range_with_len 0 n q 0 l ∙ omega arith)) t)

-- no tagged batch waits for an unmarked worker that takes
untagged_row : (sys : System) (s : State) (i k : ℕ) → IsTrue (row_admits sys s (Take i k)) → recording_is_open s.past ≡ true → is_marked i s.past ≡ false → tagged_batch_waits s i ≡ false
untagged_row sys s i k h o m =
    let not_both = not-true _ (and_parts _ (not (is_unmarked s i && tagged_batch_waits s i)) (and_parts _ _ h).1).1 in
    elim (and_cases (is_unmarked s i) (tagged_batch_waits s i) not_both) [
      | inl q ↦ absurd (both (and_from (recording_is_open s.past) (not (is_marked i s.past)) o (not_from_false (is_marked i s.past) m)) q)
      | inr q ↦ q
    ]

module _ (sys : System) (n : ℕ) (S : BaseState) (bs : List BaseEvent) (s : State) (g : IsGrounded n s) (opened : recording_is_open s.past ≡ true) (p : IsCuttingAt sys n S bs s) where
  count : worker_count s ≡ n
  count = g.counted.count

  grown : (k : ℕ) → k < n → is_marked k s.past ≡ false → IsGrown n S (worker_at S k) (worker_at s.workers k)
  grown k h m = run_grown sys n bs S s.workers k p.numbered.count h (p.numbered.senders k h) (others_of k (λ i. is_marked i s.past) m bs p.of_marked) p.run

  -- an unmarked worker's batches are numbered up to its Gives in the cut
  from_unmarked : (i j : ℕ) → i < n → j < n → is_marked j s.past ≡ false → AllByRecursion (λ (b : Batch). b.number ≤ (worker_at S j).gives) (queue (worker_at s.workers i) j)
  from_unmarked i j hi hj m =
      let e = g.counted.gives j hj in
      let f = (grown j hj m).gives in
      all_since (λ (b : Batch). b.number ≤ gives_of j s.past) (λ (b : Batch). b.number ≤ (worker_at S j).gives) (λ b le. omega (arith, le, e, f)) (queue (worker_at s.workers i) j) ((g.counted.mail i hi).numbers j hj)

  pub mark_cuts : (i : ℕ) → i < n → is_marked i s.past ≡ false → is_running (worker_at s.workers i) ≡ false → IsCuttingAt sys n S bs (state_after sys s (Mark i))
  mark_cuts i h m calm =
      let gr = grown i h m in
      record {
        numbered = p.numbered;
        run = p.run;
        of_marked = all_since (λ (x : BaseEvent). is_marked (worker_of_event x) s.past ≡ true) (λ (x : BaseEvent). (worker_of_event x == i || is_marked (worker_of_event x) s.past) ≡ true) (λ x q. or_right (worker_of_event x == i) _ q) bs p.of_marked;
        reaches = λ k l q. p.reaches k l (or_parts (k == i) _ q).1;
        given = λ j l q. before j l (j == i) refl q;
        parts = λ k l q. recorded k l (cases_eq k i) q;
        calm = λ k l q. elim (or_cases (k == i) _ q) [
          | inl e ↦ subst (λ x. is_running (worker_at S x) ≡ false) (sym (eqb-true k i e)) (sym (running_same (worker_at S i) (worker_at s.workers i) gr.standing) ∙ calm)
          | inr q ↦ p.calm k l q
        ];
      }
    where
      before : (j : ℕ) → j < n → (b : Bool) → (j == i) ≡ b → (j == i || is_marked j s.past) ≡ true → (if j == i then gives_of j s.past else gives_before_mark j s.past) ≡ (worker_at S j).gives
      before j l true e q =
          let c = eqb-true j i e in
          ap (λ b. if b then gives_of j s.past else gives_before_mark j s.past) e
          ∙ (sym (g.counted.gives j l) ∙ (grown j l (subst (λ x. is_marked x s.past ≡ false) (sym c) m)).gives)
      before j l false e q =
          ap (λ b. if b then gives_of j s.past else gives_before_mark j s.past) e
          ∙ elim (or_cases (j == i) (is_marked j s.past) q) [ inl t ↦ absurd (both t e) | inr t ↦ p.given j l t ]

      recorded : (k : ℕ) → k < n → (k ≡ i) ⊎ (k ≡ i → ⊥) → (k == i || is_marked k s.past) ≡ true →
          slice_index_or (slice_set s.recorded i (part_at_mark sys s i)) k no_part ≡ part_of sys (piece_at sys.pieces k) (worker_at S k)
      recorded k l (inl e) q =
          let r = g.records in
          let P : ℕ → Type 0 = λ x. slice_index_or (slice_set s.recorded i (part_at_mark sys s i)) x no_part ≡ part_of sys (piece_at sys.pieces x) (worker_at S x) in
          subst P (sym e)
          (get_or-set_same s.recorded i (part_at_mark sys s i) no_part (omega (arith, h, r))
          ∙ part_marked sys n S s i count h p.numbered (grown i h m) opened p.given (λ j hj mj. from_unmarked i j h hj mj))
      recorded k l (inr d) q =
          get_or-set_other s.recorded i k (part_at_mark sys s i) no_part d
          ∙ p.parts k l (elim (or_cases (k == i) (is_marked k s.past) q) [ inl t ↦ absurd (d (eqb-true k i t)) | inr t ↦ t ])

  -- ---- an event after its worker's Mark

  pub take_after : (i k : ℕ) → IsTrue (row_admits sys s (Take i k)) → is_marked i s.past ≡ true → IsCuttingAt sys n S (bs ++ BaseTake i (gives_of_each (numbers_below n) s.past) ∷ []) (state_after sys s (Take i k))
  take_after i k h m =
      let b : ℕ → BaseEvent = λ x. BaseTake i (gives_of_each (numbers_below x) s.past) in
      let R : ℕ → Type 0 = λ x. Runs sys S (bs ++ b x ∷ []) (base_after sys s.workers (b (worker_count s))) in
      record {
        numbered = p.numbered;
        run = subst R count (runs_snoc sys bs S s.workers (b (worker_count s)) p.run (take_allowed sys s i k (counted_here n s g.counted) h));
        of_marked = all_append (λ (x : BaseEvent). is_marked (worker_of_event x) s.past ≡ true) bs (b n ∷ []) p.of_marked (m, tt);
        reaches = λ q l mq.
            let e = counts-at n s.past q l in
            let f = g.counted.gives q l in
            let r = (grown q l mq).gives in
            all_append (λ (x : BaseEvent). reach x q ≤ (worker_at S q).gives) bs (b n ∷ []) (p.reaches q l mq) (omega (arith, e, f, r), tt);
        given = p.given;
        parts = p.parts;
        calm = p.calm;
      }

  -- a Give of a marked worker is not late for anybody
  recorded_same : (i k : ℕ) → k < n → is_late s i k ≡ false → slice_index_or (recorded_after sys s (Give i)) k no_part ≡ slice_index_or s.recorded k no_part
  recorded_same i k l late =
      let c = count in
      let part = slice_index_or s.recorded k no_part in
      get_or-map-range_with_len (recorded_with_late sys s i) 0 (worker_count s) k k no_part (omega (arith, l, c)) (omega arith)
      ∙ ap (λ b. if b then record part { mail = mail_with sys.equations.order 0 (sent_to sys (piece_at sys.pieces i) (worker_at s.workers i) k) part.mail } else part) (and_right (not (k == i)) (is_late s i k) late)

  pub give_after : (i : ℕ) → IsTrue (row_admits sys s (Give i)) → is_marked i s.past ≡ true → IsCuttingAt sys n S (bs ++ BaseGive i ∷ []) (state_after sys s (Give i))
  give_after i h m =
      record {
        numbered = p.numbered;
        run = runs_snoc sys bs S s.workers (BaseGive i) p.run (give_allowed sys s i h);
        of_marked = all_append (λ (x : BaseEvent). is_marked (worker_of_event x) s.past ≡ true) bs (BaseGive i ∷ []) p.of_marked (m, tt);
        reaches = λ q l mq. all_append (λ (x : BaseEvent). reach x q ≤ (worker_at S q).gives) bs (BaseGive i ∷ []) (p.reaches q l mq) (omega arith, tt);
        given = p.given;
        parts = λ k l mk. recorded_same i k l (and_right (recording_is_open s.past && is_marked k s.past) (not (is_marked i s.past)) (ap not m)) ∙ p.parts k l mk;
        calm = p.calm;
      }

  -- ---- an event before its worker's Mark

  -- what an event of an unmarked worker leaves of the cut
  module _ (b : BaseEvent) (here : worker_of_event b < n) (m : is_marked (worker_of_event b) s.past ≡ false) where
    apart : (k : ℕ) → is_marked k s.past ≡ true → k ≢ worker_of_event b
    apart k mk e = both (subst (λ x. is_marked x s.past ≡ true) e mk) m

    in_cut : (k : ℕ) → k < n → k < length S
    in_cut k l = let c = p.numbered.count in omega (arith, l, c)

    reaches_on : (k : ℕ) → k < n → is_marked k s.past ≡ false → AllByRecursion (λ (x : BaseEvent). reach x k ≤ (worker_at (base_after sys S b) k).gives) bs
    reaches_on k l mk =
        let up = gives_mono sys S b k (in_cut k l) in
        all_below_more bs (p.reaches k l mk) up
      where
        all_below_more : (xs : List BaseEvent) → AllByRecursion (λ (x : BaseEvent). reach x k ≤ (worker_at S k).gives) xs → (worker_at S k).gives ≤ (worker_at (base_after sys S b) k).gives →
            AllByRecursion (λ (x : BaseEvent). reach x k ≤ (worker_at (base_after sys S b) k).gives) xs
        all_below_more [] q up = tt
        all_below_more (x ∷ xs) q up = let a = q.0 in (omega (arith, a, up), all_below_more xs q.1 up)

    given_on : (j : ℕ) → j < n → is_marked j s.past ≡ true → gives_before_mark j s.past ≡ (worker_at (base_after sys S b) j).gives
    given_on j l mj = p.given j l mj ∙ sym (as_before sys S b j (in_cut j l) (apart j mj)).gives

    calm_on : (k : ℕ) → k < n → is_marked k s.past ≡ true → is_running (worker_at (base_after sys S b) k) ≡ false
    calm_on k l mk = running_same (worker_at S k) (worker_at (base_after sys S b) k) (as_before sys S b k (in_cut k l) (apart k mk)).standing ∙ p.calm k l mk

  -- an unmarked worker takes no batch of the run
  takes_before : (i k j : ℕ) → i < n → IsTrue (row_admits sys s (Take i k)) → is_marked i s.past ≡ false → j < n → AllByRecursion (λ (b : Batch). b.number ≤ (worker_at S j).gives) (queue (worker_at s.workers i) j)
  takes_before i k j hi h m hj = go (is_marked j s.past) refl
    where
      none_from : (test : ℕ → Bool) (c : ℕ) → list_any test (numbers_below c) ≡ false → (q : ℕ) → q < c → test q ≡ false
      none_from test c h q l = elim (cases_Bool (test q)) [
        | inl t ↦ absurd (both (any_below test c q l t) h)
        | inr f ↦ f
      ]

      no_tag : (bs : List Batch) (e : gives_before_mark j s.past ≡ (worker_at S j).gives) (mj : is_marked j s.past ≡ true) → list_any (λ b. is_tagged j b.number s.past) bs ≡ false → AllByRecursion (λ (b : Batch). b.number ≤ (worker_at S j).gives) bs
      no_tag [] e mj q = tt
      no_tag (b ∷ bs) e mj q =
          let parts = or_parts (is_tagged j b.number s.past) (list_any (λ b. is_tagged j b.number s.past) bs) q in
          let low : nat_lt (gives_before_mark j s.past) b.number ≡ false =
          elim (cases_Bool (nat_lt (gives_before_mark j s.past) b.number)) [
            | inl t ↦ absurd (both (and_from (recording_is_open s.past && is_marked j s.past) (nat_lt (gives_before_mark j s.past) b.number) (and_from (recording_is_open s.past) (is_marked j s.past) opened mj) t) parts.0)
            | inr f ↦ f
          ] in
          let le = ltb-false (gives_before_mark j s.past) b.number low in
          (omega (arith, le, e), no_tag bs e mj parts.1)

      go : (t : Bool) → is_marked j s.past ≡ t → AllByRecursion (λ (b : Batch). b.number ≤ (worker_at S j).gives) (queue (worker_at s.workers i) j)
      go false mj = from_unmarked i j hi hj mj
      go true mj =
          let c = count in
          no_tag (queue (worker_at s.workers i) j) (p.given j hj mj) mj (none_from (tagged_batch_from s i) (worker_count s) (untagged_row sys s i k h opened m) j (omega (arith, hj, c)))

  pub take_before : (i k : ℕ) → i < n → IsTrue (row_admits sys s (Take i k)) → is_marked i s.past ≡ false →
      IsTrue (is_allowed S (BaseTake i (gives_of_each (numbers_below n) s.past))) × IsCuttingAt sys n (base_after sys S (BaseTake i (gives_of_each (numbers_below n) s.past))) bs (state_after sys s (Take i k))
  take_before i k hi h m =
      let e : ℕ → BaseEvent = λ x. BaseTake i (gives_of_each (numbers_below x) s.past) in
      let b = e n in
      let A : ℕ → Type 0 = λ x. IsTrue (is_allowed s.workers (e x)) in
      let allowed : IsTrue (is_allowed s.workers b) = subst A count (take_allowed sys s i k (counted_here n s g.counted) h) in
      let over = bubble sys bs S s.workers b p.run allowed
      (take_apart sys n bs S s.workers i (gives_of_each (numbers_below n) s.past) p.numbered.count hi (p.numbered.senders i hi) (others_of i (λ q. is_marked q s.past) m bs p.of_marked) p.run (λ j hj. takes_before i k j hi h m hj)) in
      let R : ℕ → Type 0 = λ x. Runs sys (base_after sys S b) bs (base_after sys s.workers (e x)) in (
        over.0,
        record {
          numbered = numbered_after sys n S b over.0 p.numbered;
          run = subst R (sym count) over.1;
          of_marked = p.of_marked;
          reaches = reaches_on b hi m;
          given = given_on b hi m;
          parts = λ q l mq.
              p.parts q l mq
              ∙ sym (ap (part_of sys (piece_at sys.pieces q)) (after-at sys S b q (in_cut b hi m q l)
              ∙ ap (λ t. if t then after_taking sys (piece_at sys.pieces i) (gives_of_each (numbers_below n) s.past) (worker_at S q) else worker_at S q) (ne_eqb q i (apart b hi m q mq))));
          calm = calm_on b hi m;
        },
      )

  pub give_before : (i : ℕ) → i < n → IsTrue (row_admits sys s (Give i)) → is_marked i s.past ≡ false →
      IsTrue (is_allowed S (BaseGive i)) × IsCuttingAt sys n (base_after sys S (BaseGive i)) bs (state_after sys s (Give i))
  give_before i hi h m =
      let b : BaseEvent = BaseGive i in
      let over = bubble sys bs S s.workers b p.run (give_allowed sys s i h)
      (give_apart sys bs S s.workers i (in_cut b hi m i hi) (others_of i (λ q. is_marked q s.past) m bs p.of_marked) (p.reaches i hi m) p.run) in (
        over.0,
        record {
          numbered = numbered_after sys n S b over.0 p.numbered;
          run = over.1;
          of_marked = p.of_marked;
          reaches = reaches_on b hi m;
          given = given_on b hi m;
          parts = λ k l mk. late k l mk;
          calm = calm_on b hi m;
        },
      )
    where
      late : (k : ℕ) → k < n → is_marked k s.past ≡ true → slice_index_or (recorded_after sys s (Give i)) k no_part ≡ part_of sys (piece_at sys.pieces k) (worker_at (base_after sys S (BaseGive i)) k)
      late k l mk =
          let b : BaseEvent = BaseGive i in
          let c = count in
          let piece = piece_at sys.pieces i in
          let o = sys.equations.order in
          let d = apart b hi m k mk in
          let w = worker_at S k in
          let len = p.numbered.senders k l in
          let part = slice_index_or s.recorded k no_part in
          let gi = grown i hi m in
          let test : (not (k == i) && is_late s i k) ≡ true =
          and_from (not (k == i)) (is_late s i k) (not_from_false (k == i) (ne_eqb k i d)) (and_from (recording_is_open s.past && is_marked k s.past) (not (is_marked i s.past)) (and_from (recording_is_open s.past) (is_marked k s.past) opened mk) (not_from_false (is_marked i s.past) m)) in
          let first : slice_index_or (recorded_after sys s (Give i)) k no_part ≡ record part { mail = mail_with o 0 (sent_to sys piece (worker_at s.workers i) k) part.mail } =
          get_or-map-range_with_len (recorded_with_late sys s i) 0 (worker_count s) k k no_part (omega (arith, l, c)) (omega arith)
          ∙ ap (λ t. if t then record part { mail = mail_with o 0 (sent_to sys piece (worker_at s.workers i) k) part.mail } else part) test in
          let second = λ (t : PartValues). record t { mail = mail_with o 0 (sent_to sys piece (worker_at s.workers i) k) t.mail } in
          let third = λ (posts : List Post). record (part_of sys (piece_at sys.pieces k) w) { mail = mail_with o 0 posts (part_of sys (piece_at sys.pieces k) w).mail } in
          let received : worker_at (base_after sys S b) k ≡ after_receiving i ((worker_at S i).gives + 1) (sent_to sys piece (worker_at S i) k) w =
          after-at sys S b k (in_cut b hi m k l)
          ∙ ap (λ t. if t then after_giving sys piece w else after_receiving i ((worker_at S i).gives + 1) (sent_to sys piece (worker_at S i) k) w) (ne_eqb k i d) in
          first
          ∙ (ap second (p.parts k l mk)
          ∙ (ap third (sent_same sys piece k (worker_at S i) (worker_at s.workers i) gi.standing gi.values)
          ∙ (part_received sys (piece_at sys.pieces k) i ((worker_at S i).gives + 1) (sent_to sys piece (worker_at S i) k) w (omega (arith, hi, len))
          ∙ sym (ap (part_of sys (piece_at sys.pieces k)) received))))
