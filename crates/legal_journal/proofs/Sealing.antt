-- A walk over a journal that finds the cut of a sealed epoch.
use Rattle.std.proofs.Common.{◌≡◌, ℕ, ◌+◌, ◌-◌, ◌^◌, ◌<◌, ◌≤◌, inl, inr, Bool, true, false, not, ◌&&◌, ◌||◌, ◌==◌, nat_lt, if◌then◌else◌, IsTrue, refl, sym, ◌∙◌, ap, subst, arith, List, [], ◌∷◌, ◌++◌, length, append_assoc, Option, Some, None, Contains}
use Rattle.std.specs.List.{list_any, AllByRecursion}
use Rattle.std.proofs.lemmas.Bool.{and_parts, and_right, or_cases, or_left, or_right, or_from, eqb-true, eq-eqb, ne_eqb, cases_eq, cases_Bool, ltb-true, false≢true, not-true}
use Rattle.std.proofs.lemmas.List.Folds.{list_any_at}
use Rattle.graph_core.specs.Fragments.{piece_at, numbers_below}
use Rattle.grape_event.specs.declared.event.Event.{Event}
use Rattle.grape_event.specs.declared.event.Event.TheVariants.{Take, Give, Stretch, Hold, Flag, Ask, Ack, Nack, Begin, Mark, Seal, Kept, End, Stop}
use Rattle.token_cut.specs.Parts.{PartValues, SnapshotParts}
use Rattle.base_machine.specs.Machine.{System, BaseState, BaseEvent, BaseTake, BaseGive, Batch, worker_at, is_running, base_after, is_allowed, base_state_of, part_of, parts_from, snapshot_of}
use Rattle.base_machine.specs.Runs.{Runs}
use Rattle.base_machine.specs.Fitness.{IsFit, IsInForm}
use Rattle.base_machine.proofs.Forming.{form_is_kept}
use Rattle.base_machine.proofs.Resuming.{snapshot_is_fit}
use Rattle.base_machine.proofs.Swapping.{after-length}
use Rattle.base_machine.proofs.Kept.{fit_is_kept}
use Rattle.base_machine.proofs.Quiet.{fit_after}
use Rattle.base_machine.proofs.Growing.{queue}
use Rattle.legal_journal.specs.Past.{gives_of_each, last_epoch, recording_is_open, is_marked, was_sealed, is_seal_of, all_are_marked, all_begun_are_kept}
use Rattle.legal_journal.specs.BaseEvents.{base_event, base_events_where}
use Rattle.legal_journal.specs.Legal.{State, start_state, state_after, state_after_all, are_admitted, worker_count, is_worker, is_unmarked, snapshot_is_due}
use Rattle.legal_journal.specs.Cuts.{is_marked_in, is_after_mark, sealed_from, cut_of}
use Rattle.legal_journal.specs.Theorems.{CutsAreConsistent, EpochsAreInRange, SealedAreInForm, CutsAreFit, SealedAreFit}
use Rattle.legal_journal.proofs.Walks.{all_below}
use Rattle.legal_journal.proofs.Probes.{both}
use Rattle.legal_journal.proofs.Journals.{start_counted, take_allowed, give_allowed, counted_here, runs_from}
use Rattle.legal_journal.proofs.Choosing.{kept_of_all, was_begun}
use Rattle.legal_journal.proofs.Recording.{same_parts}
use Rattle.legal_journal.proofs.Cutting.{IsGrounded, ground_kept, row_of, rest_of, IsCuttingAt, mark_cuts, take_after, give_after, take_before, give_before}

-- ---- words before an epoch and while it is recorded

record IsBefore (epoch last : ℕ) (sealed : Bool) (marked_in : ℕ → Bool) : Type 0 where
  low : last < epoch
  unsealed : sealed ≡ false
  unmarked : (i : ℕ) → marked_in i ≡ false

abbrev IsBeforeAt : ℕ → State → Type 0
IsBeforeAt epoch s = IsBefore epoch (last_epoch s.start.epoch s.past) (was_sealed epoch s.past) (λ i. is_marked_in s.start.epoch epoch i s.past)

record IsRecording (epoch last : ℕ) (opened sealed begun : Bool) (marked_in marked : ℕ → Bool) : Type 0 where
  is_open : opened ≡ true
  at_epoch : last ≡ epoch
  unsealed : sealed ≡ false
  has_begun : begun ≡ true
  marks : (i : ℕ) → marked_in i ≡ marked i

abbrev IsRecordingAt : ℕ → State → Type 0
IsRecordingAt epoch s =
    IsRecording epoch (last_epoch s.start.epoch s.past) (recording_is_open s.past) (was_sealed epoch s.past) (was_begun epoch s.past) (λ i. is_marked_in s.start.epoch epoch i s.past) (λ i. is_marked i s.past)

-- ---- what a walk finds

abbrev cut_list : ℕ → ℕ → ℕ → List Event → List Event → List BaseEvent
cut_list n first epoch past journal = base_events_where (λ e past. not (is_after_mark first epoch e past)) n past journal

abbrev rest_list : ℕ → ℕ → ℕ → List Event → List Event → List BaseEvent
rest_list n first epoch past journal = base_events_where (is_after_mark first epoch) n past journal

abbrev has_seal : ℕ → List Event → Bool
has_seal epoch journal = list_any (is_seal_of epoch) journal

record IsFound (sys : System) (n epoch : ℕ) (S : BaseState) (bs cuts rests : List BaseEvent) (snapshot : Option SnapshotParts) (last : BaseState) : Type 0 where
  cut : BaseState
  before : Runs sys S cuts cut
  calm : (i : ℕ) → i < n → is_running (worker_at cut i) ≡ false
  sealed : snapshot ≡ Some (snapshot_of sys cut epoch)
  after : Runs sys cut (bs ++ rests) last

abbrev IsFoundAt : System → ℕ → ℕ → BaseState → List BaseEvent → State → List Event → Type 0
IsFoundAt sys n epoch S bs s journal =
    IsFound sys n epoch S bs (cut_list n s.start.epoch epoch s.past journal) (rest_list n s.start.epoch epoch s.past journal) (sealed_from sys s epoch journal) (state_after_all sys s journal).workers

found_after : (sys : System) (n epoch : ℕ) (S : BaseState) (bs : List BaseEvent) (s : State) (e : Event) (journal : List Event) (b : BaseEvent) → base_event n s.past e ≡ b ∷ [] → is_after_mark s.start.epoch epoch e s.past ≡ true →
    sealed_from sys s epoch (e ∷ journal) ≡ sealed_from sys (state_after sys s e) epoch journal → IsFoundAt sys n epoch S (bs ++ b ∷ []) (state_after sys s e) journal → IsFoundAt sys n epoch S bs s (e ∷ journal)
found_after sys n epoch S bs s e journal b is m same r =
    let cut' = cut_list n s.start.epoch epoch (e ∷ s.past) journal in
    let rest' = rest_list n s.start.epoch epoch (e ∷ s.past) journal in
    let end = (state_after_all sys (state_after sys s e) journal).workers in
    let P : Bool → Type 0 = λ t. Runs sys S ((if not t then base_event n s.past e else []) ++ cut') r.cut in
    let Q : Bool → Type 0 = λ t. Runs sys r.cut (bs ++ ((if t then base_event n s.past e else []) ++ rest')) end in
    let R : List BaseEvent → Type 0 = λ l. Runs sys r.cut (bs ++ (l ++ rest')) end in
    let A : List BaseEvent → Type 0 = λ l. Runs sys r.cut l end in
    record {
      cut = r.cut;
      before = subst P (sym m) r.before;
      calm = r.calm;
      sealed = same ∙ r.sealed;
      after = subst Q (sym m) (subst R (sym is) (subst A (append_assoc bs (b ∷ []) rest') r.after));
    }

found_before : (sys : System) (n epoch : ℕ) (S : BaseState) (bs : List BaseEvent) (s : State) (e : Event) (journal : List Event) (b : BaseEvent) → base_event n s.past e ≡ b ∷ [] → is_after_mark s.start.epoch epoch e s.past ≡ false →
    sealed_from sys s epoch (e ∷ journal) ≡ sealed_from sys (state_after sys s e) epoch journal → IsTrue (is_allowed S b) → IsFoundAt sys n epoch (base_after sys S b) bs (state_after sys s e) journal → IsFoundAt sys n epoch S bs s (e ∷ journal)
found_before sys n epoch S bs s e journal b is m same allowed r =
    let cut' = cut_list n s.start.epoch epoch (e ∷ s.past) journal in
    let rest' = rest_list n s.start.epoch epoch (e ∷ s.past) journal in
    let end = (state_after_all sys (state_after sys s e) journal).workers in
    let P : Bool → Type 0 = λ t. Runs sys S ((if not t then base_event n s.past e else []) ++ cut') r.cut in
    let L : List BaseEvent → Type 0 = λ l. Runs sys S (l ++ cut') r.cut in
    let Q : Bool → Type 0 = λ t. Runs sys r.cut (bs ++ ((if t then base_event n s.past e else []) ++ rest')) end in
    record {
      cut = r.cut;
      before = subst P (sym m) (subst L (sym is) (allowed, r.before));
      calm = r.calm;
      sealed = same ∙ r.sealed;
      after = subst Q (sym m) r.after;
    }

-- ---- after the Seal

runs_join : (sys : System) (xs ys : List BaseEvent) (S W V : BaseState) → Runs sys S xs W → Runs sys W ys V → Runs sys S (xs ++ ys) V
runs_join sys [] ys S W V r q = subst (λ (U : BaseState). Runs sys U ys V) (sym r) q
runs_join sys (x ∷ xs) ys S W V r q = (r.0, runs_join sys xs ys (base_after sys S x) W V r.1 q)

in_range : (sys : System) (n : ℕ) (s : State) (i : ℕ) (b : Bool) → worker_count s ≡ n → (is_worker s i && b) ≡ true → i < n
in_range sys n s i b c h = let l = ltb-true i (worker_count s) (and_parts (is_worker s i) b h).0 in omega (arith, l, c)

-- where all are marked, every event comes after the cut
all_after : (sys : System) (n epoch : ℕ) (journal : List Event) (s : State) → IsGrounded n s → ((i : ℕ) → i < n → is_marked_in s.start.epoch epoch i s.past ≡ true) → IsTrue (are_admitted sys s journal) →
    (cut_list n s.start.epoch epoch s.past journal ≡ []) × (rest_list n s.start.epoch epoch s.past journal ≡ base_events_where (λ e past. true) n s.past journal)
all_after sys n epoch [] s g m h = (refl, refl)
all_after sys n epoch (Take i k ∷ journal) s g m h =
    let row = row_of sys s (Take i k) journal h in
    let again = all_after sys n epoch journal (state_after sys s (Take i k)) (ground_kept n sys s (Take i k) row g) m (rest_of sys s (Take i k) journal h) in
    let mark = m i (in_range sys n s i _ g.counted.count row) in (
      ap (λ t. (if not t then base_event n s.past (Take i k) else []) ++ cut_list n s.start.epoch epoch (Take i k ∷ s.past) journal) mark ∙ again.0,
      ap (λ t. (if t then base_event n s.past (Take i k) else []) ++ rest_list n s.start.epoch epoch (Take i k ∷ s.past) journal) mark ∙ ap (λ l. base_event n s.past (Take i k) ++ l) again.1,
    )
all_after sys n epoch (Give i ∷ journal) s g m h =
    let row = row_of sys s (Give i) journal h in
    let again = all_after sys n epoch journal (state_after sys s (Give i)) (ground_kept n sys s (Give i) row g) m (rest_of sys s (Give i) journal h) in
    let mark = m i (in_range sys n s i _ g.counted.count row) in (
      ap (λ t. (if not t then base_event n s.past (Give i) else []) ++ cut_list n s.start.epoch epoch (Give i ∷ s.past) journal) mark ∙ again.0,
      ap (λ t. (if t then base_event n s.past (Give i) else []) ++ rest_list n s.start.epoch epoch (Give i ∷ s.past) journal) mark ∙ ap (λ l. base_event n s.past (Give i) ++ l) again.1,
    )
all_after sys n epoch (Mark i ∷ journal) s g m h =
    all_after sys n epoch journal (state_after sys s (Mark i)) (ground_kept n sys s (Mark i) (row_of sys s (Mark i) journal h) g) (λ j l. or_right (j == i && last_epoch s.start.epoch s.past == epoch) _ (m j l)) (rest_of sys s (Mark i) journal h)
all_after sys n epoch (Stretch i t ∷ journal) s g m h = all_after sys n epoch journal (state_after sys s (Stretch i t)) (ground_kept n sys s (Stretch i t) (row_of sys s (Stretch i t) journal h) g) m (rest_of sys s (Stretch i t) journal h)
all_after sys n epoch (Hold i ∷ journal) s g m h = all_after sys n epoch journal (state_after sys s (Hold i)) (ground_kept n sys s (Hold i) (row_of sys s (Hold i) journal h) g) m (rest_of sys s (Hold i) journal h)
all_after sys n epoch (Flag i ∷ journal) s g m h = all_after sys n epoch journal (state_after sys s (Flag i)) (ground_kept n sys s (Flag i) (row_of sys s (Flag i) journal h) g) m (rest_of sys s (Flag i) journal h)
all_after sys n epoch (Ask ∷ journal) s g m h = all_after sys n epoch journal (state_after sys s Ask) (ground_kept n sys s Ask (row_of sys s Ask journal h) g) m (rest_of sys s Ask journal h)
all_after sys n epoch (Ack i ∷ journal) s g m h = all_after sys n epoch journal (state_after sys s (Ack i)) (ground_kept n sys s (Ack i) (row_of sys s (Ack i) journal h) g) m (rest_of sys s (Ack i) journal h)
all_after sys n epoch (Nack i ∷ journal) s g m h = all_after sys n epoch journal (state_after sys s (Nack i)) (ground_kept n sys s (Nack i) (row_of sys s (Nack i) journal h) g) m (rest_of sys s (Nack i) journal h)
all_after sys n epoch (Begin d ∷ journal) s g m h = all_after sys n epoch journal (state_after sys s (Begin d)) (ground_kept n sys s (Begin d) (row_of sys s (Begin d) journal h) g) m (rest_of sys s (Begin d) journal h)
all_after sys n epoch (Seal d ∷ journal) s g m h = all_after sys n epoch journal (state_after sys s (Seal d)) (ground_kept n sys s (Seal d) (row_of sys s (Seal d) journal h) g) m (rest_of sys s (Seal d) journal h)
all_after sys n epoch (Kept d ∷ journal) s g m h = all_after sys n epoch journal (state_after sys s (Kept d)) (ground_kept n sys s (Kept d) (row_of sys s (Kept d) journal h) g) m (rest_of sys s (Kept d) journal h)
all_after sys n epoch (End ∷ journal) s g m h = all_after sys n epoch journal (state_after sys s End) (ground_kept n sys s End (row_of sys s End journal h) g) m (rest_of sys s End journal h)
all_after sys n epoch (Stop c ∷ journal) s g m h = all_after sys n epoch journal (state_after sys s (Stop c)) (ground_kept n sys s (Stop c) (row_of sys s (Stop c) journal h) g) m (rest_of sys s (Stop c) journal h)

seal_found : (sys : System) (n epoch d : ℕ) (journal : List Event) (s : State) (S : BaseState) (bs : List BaseEvent) → IsGrounded n s → IsRecordingAt epoch s → IsCuttingAt sys n S bs s → IsTrue (are_admitted sys s (Seal d ∷ journal)) →
    IsFoundAt sys n epoch S bs s (Seal d ∷ journal)
seal_found sys n epoch d journal s S bs g o p h =
    let row = row_of sys s (Seal d) journal h in
    let t = state_after sys s (Seal d) in
    let g' = ground_kept n sys s (Seal d) row g in
    let rest = rest_of sys s (Seal d) journal h in
    let c = g.counted.count in
    let all = (and_parts (recording_is_open s.past) (all_are_marked (worker_count s) s.past) (and_parts _ (d == last_epoch s.start.epoch s.past) row).0).1 in
    let marked : (i : ℕ) → i < n → is_marked i s.past ≡ true = λ i l. all_below (λ q. is_marked q s.past) (worker_count s) all i (omega (arith, l, c)) in
    let lists = all_after sys n epoch journal t g' (λ i l. o.marks i ∙ marked i l) rest in
    let same : (d == epoch) ≡ true = eq-eqb d epoch (eqb-true d (last_epoch s.start.epoch s.past) (and_parts _ (d == last_epoch s.start.epoch s.past) row).1 ∙ o.at_epoch) in
    let count = p.numbered.count in
    let records = g.records in
    let parts : s.recorded ≡ parts_from sys 0 S =
    same_parts sys 0 s.recorded S (omega (arith, records, count))
    (λ k l. let e : k ≡ 0 + k = omega arith in
    let k_in : k < n = omega (arith, l, count) in
    p.parts k k_in (marked k k_in) ∙ ap (λ q. part_of sys (piece_at sys.pieces q) (worker_at S k)) e) in
    let P : List BaseEvent → Type 0 = λ l. Runs sys S l S in
    let Q : List BaseEvent → Type 0 = λ l. Runs sys S (bs ++ l) (state_after_all sys t journal).workers in
    let none : P [] = refl in
    record {
      cut = S;
      before = subst P (sym lists.0) none;
      calm = λ i l. p.calm i l (marked i l);
      sealed =
          ap (λ b. if b then Some (record { epoch = epoch; parts = s.recorded }) else sealed_from sys t epoch journal) same
          ∙ ap (λ (l : List PartValues). let snapshot : SnapshotParts = record { epoch = epoch; parts = l } in Some snapshot) parts;
      after = subst Q (sym lists.1) (runs_join sys bs (base_events_where (λ e past. true) n t.past journal) S s.workers (state_after_all sys t journal).workers p.run (runs_from sys n journal t g'.counted rest));
    }

-- ---- while the epoch is recorded

mark_records : (epoch : ℕ) (sys : System) (s : State) (i : ℕ) → IsRecordingAt epoch s → IsRecordingAt epoch (state_after sys s (Mark i))
mark_records epoch sys s i o =
    record {
      is_open = o.is_open;
      at_epoch = o.at_epoch;
      unsealed = o.unsealed;
      has_begun = o.has_begun;
      marks = λ j.
          ap (λ b. (j == i && b) || is_marked_in s.start.epoch epoch j s.past) (eq-eqb (last_epoch s.start.epoch s.past) epoch o.at_epoch)
          ∙ (ap (λ b. b || is_marked_in s.start.epoch epoch j s.past) (and_true (j == i)) ∙ ap (λ b. j == i || b) (o.marks j));
    }
  where
    and_true : (b : Bool) → (b && true) ≡ b
    and_true true = refl
    and_true false = refl

during : (sys : System) (n epoch : ℕ) (journal : List Event) (s : State) (S : BaseState) (bs : List BaseEvent) → IsGrounded n s → IsRecordingAt epoch s → IsCuttingAt sys n S bs s → IsTrue (are_admitted sys s journal) → has_seal epoch journal ≡ true →
    IsFoundAt sys n epoch S bs s journal
during sys n epoch [] s S bs g o p h k = absurd (false≢true k)
during sys n epoch (Take i l ∷ journal) s S bs g o p h k =
    let e : Event = Take i l in
    let row = row_of sys s e journal h in
    let rest = rest_of sys s e journal h in
    let g' = ground_kept n sys s e row g in
    let b : BaseEvent = BaseTake i (gives_of_each (numbers_below n) s.past) in
    elim (cases_Bool (is_marked i s.past)) [
      | inl m ↦ found_after sys n epoch S bs s e journal b refl (o.marks i ∙ m) refl (during sys n epoch journal (state_after sys s e) S (bs ++ b ∷ []) g' o (take_after sys n S bs s g o.is_open p i l row m) rest k)
      | inr m ↦
          let t = take_before sys n S bs s g o.is_open p i l (in_range sys n s i _ g.counted.count row) row m in
          found_before sys n epoch S bs s e journal b refl (o.marks i ∙ m) refl t.0 (during sys n epoch journal (state_after sys s e) (base_after sys S b) bs g' o t.1 rest k)
    ]
during sys n epoch (Give i ∷ journal) s S bs g o p h k =
    let e : Event = Give i in
    let row = row_of sys s e journal h in
    let rest = rest_of sys s e journal h in
    let g' = ground_kept n sys s e row g in
    let b : BaseEvent = BaseGive i in
    elim (cases_Bool (is_marked i s.past)) [
      | inl m ↦ found_after sys n epoch S bs s e journal b refl (o.marks i ∙ m) refl (during sys n epoch journal (state_after sys s e) S (bs ++ b ∷ []) g' o (give_after sys n S bs s g o.is_open p i row m) rest k)
      | inr m ↦
          let t = give_before sys n S bs s g o.is_open p i (in_range sys n s i _ g.counted.count row) row m in
          found_before sys n epoch S bs s e journal b refl (o.marks i ∙ m) refl t.0 (during sys n epoch journal (state_after sys s e) (base_after sys S b) bs g' o t.1 rest k)
    ]
during sys n epoch (Mark i ∷ journal) s S bs g o p h k =
    let e : Event = Mark i in
    let row = row_of sys s e journal h in
    let both_parts = and_parts (is_unmarked s i) _ (and_parts (is_worker s i) _ row).1 in
    let m = not-true (is_marked i s.past) (and_parts (recording_is_open s.past) _ both_parts.0).1 in
    during sys n epoch journal (state_after sys s e) S bs (ground_kept n sys s e row g) (mark_records epoch sys s i o)
    (mark_cuts sys n S bs s g o.is_open p i (in_range sys n s i _ g.counted.count row) m (not-true _ both_parts.1)) (rest_of sys s e journal h) k
during sys n epoch (Seal d ∷ journal) s S bs g o p h k = seal_found sys n epoch d journal s S bs g o p h
during sys n epoch (Begin d ∷ journal) s S bs g o p h k =
    let row = row_of sys s (Begin d) journal h in
    let kept = (and_parts (snapshot_is_due sys s) (all_begun_are_kept s.past) (and_parts _ (d == last_epoch s.start.epoch s.past + 1) row).0).1 in
    absurd (both (g.order.kept epoch (kept_of_all s.past s.past epoch kept o.has_begun)) o.unsealed)
during sys n epoch (Stretch i t ∷ journal) s S bs g o p h k = during sys n epoch journal (state_after sys s (Stretch i t)) S bs (ground_kept n sys s (Stretch i t) (row_of sys s (Stretch i t) journal h) g) o p (rest_of sys s (Stretch i t) journal h) k
during sys n epoch (Hold i ∷ journal) s S bs g o p h k = during sys n epoch journal (state_after sys s (Hold i)) S bs (ground_kept n sys s (Hold i) (row_of sys s (Hold i) journal h) g) o p (rest_of sys s (Hold i) journal h) k
during sys n epoch (Flag i ∷ journal) s S bs g o p h k = during sys n epoch journal (state_after sys s (Flag i)) S bs (ground_kept n sys s (Flag i) (row_of sys s (Flag i) journal h) g) o p (rest_of sys s (Flag i) journal h) k
during sys n epoch (Ask ∷ journal) s S bs g o p h k = during sys n epoch journal (state_after sys s Ask) S bs (ground_kept n sys s Ask (row_of sys s Ask journal h) g) o p (rest_of sys s Ask journal h) k
during sys n epoch (Ack i ∷ journal) s S bs g o p h k = during sys n epoch journal (state_after sys s (Ack i)) S bs (ground_kept n sys s (Ack i) (row_of sys s (Ack i) journal h) g) o p (rest_of sys s (Ack i) journal h) k
during sys n epoch (Nack i ∷ journal) s S bs g o p h k = during sys n epoch journal (state_after sys s (Nack i)) S bs (ground_kept n sys s (Nack i) (row_of sys s (Nack i) journal h) g) o p (rest_of sys s (Nack i) journal h) k
during sys n epoch (Kept d ∷ journal) s S bs g o p h k = during sys n epoch journal (state_after sys s (Kept d)) S bs (ground_kept n sys s (Kept d) (row_of sys s (Kept d) journal h) g) o p (rest_of sys s (Kept d) journal h) k
during sys n epoch (End ∷ journal) s S bs g o p h k = during sys n epoch journal (state_after sys s End) S bs (ground_kept n sys s End (row_of sys s End journal h) g) o p (rest_of sys s End journal h) k
during sys n epoch (Stop c ∷ journal) s S bs g o p h k = during sys n epoch journal (state_after sys s (Stop c)) S bs (ground_kept n sys s (Stop c) (row_of sys s (Stop c) journal h) g) o p (rest_of sys s (Stop c) journal h) k

-- ---- before the epoch

begin_cuts : (sys : System) (n d : ℕ) (s : State) → IsGrounded n s → IsCuttingAt sys n s.workers [] (state_after sys s (Begin d))
begin_cuts sys n d s g =
    let c = g.counted in
    record {
      numbered = record {
        count = c.count;
        senders = λ k h. (c.mail k h).senders;
        numbers = λ k j h l. let P : ℕ → Type 0 = λ m. AllByRecursion (λ (b : Batch). b.number ≤ m) (queue (worker_at s.workers k) j) in subst P (sym (c.gives j l)) ((c.mail k h).numbers j l);
      };
      run = refl;
      of_marked = tt;
      reaches = λ k h m. tt;
      given = λ j h m. absurd (false≢true m);
      parts = λ k h m. absurd (false≢true m);
      calm = λ k h m. absurd (false≢true m);
    }

found_first : (sys : System) (n epoch : ℕ) (s : State) (e : Event) (journal : List Event) (b : ℕ → BaseEvent) → IsGrounded n s → base_event n s.past e ≡ b n ∷ [] → is_after_mark s.start.epoch epoch e s.past ≡ false →
    sealed_from sys s epoch (e ∷ journal) ≡ sealed_from sys (state_after sys s e) epoch journal → IsTrue (is_allowed s.workers (b (worker_count s))) → (state_after sys s e).workers ≡ base_after sys s.workers (b (worker_count s)) →
    IsFoundAt sys n epoch (state_after sys s e).workers [] (state_after sys s e) journal → IsFoundAt sys n epoch s.workers [] s (e ∷ journal)
found_first sys n epoch s e journal b g is m same allowed makes r =
    let A : ℕ → Type 0 = λ x. IsTrue (is_allowed s.workers (b x)) in
    let F : BaseState → Type 0 = λ ws. IsFoundAt sys n epoch ws [] (state_after sys s e) journal in
    let G : ℕ → Type 0 = λ x. F (base_after sys s.workers (b x)) in
    found_before sys n epoch s.workers [] s e journal (b n) is m same (subst A g.counted.count allowed) (subst G g.counted.count (subst F makes r))

before : (sys : System) (n epoch : ℕ) (journal : List Event) (s : State) → IsGrounded n s → IsBeforeAt epoch s → IsTrue (are_admitted sys s journal) → has_seal epoch journal ≡ true → IsFoundAt sys n epoch s.workers [] s journal
before sys n epoch [] s g o h k = absurd (false≢true k)
before sys n epoch (Take i l ∷ journal) s g o h k =
    let e : Event = Take i l in
    let row = row_of sys s e journal h in
    found_first sys n epoch s e journal (λ x. BaseTake i (gives_of_each (numbers_below x) s.past)) g refl (o.unmarked i) refl (take_allowed sys s i l (counted_here n s g.counted) row) refl
    (before sys n epoch journal (state_after sys s e) (ground_kept n sys s e row g) o (rest_of sys s e journal h) k)
before sys n epoch (Give i ∷ journal) s g o h k =
    let e : Event = Give i in
    let row = row_of sys s e journal h in
    found_first sys n epoch s e journal (λ x. BaseGive i) g refl (o.unmarked i) refl (give_allowed sys s i row) refl
    (before sys n epoch journal (state_after sys s e) (ground_kept n sys s e row g) o (rest_of sys s e journal h) k)
before sys n epoch (Begin d ∷ journal) s g o h k =
    let row = row_of sys s (Begin d) journal h in
    let g' = ground_kept n sys s (Begin d) row g in
    let rest = rest_of sys s (Begin d) journal h in
    let next = eqb-true d (last_epoch s.start.epoch s.past + 1) (and_parts _ (d == last_epoch s.start.epoch s.past + 1) row).1 in
    let low = o.low in
    elim (cases_eq d epoch) [
      | inl e ↦
          during sys n epoch journal (state_after sys s (Begin d)) s.workers [] g'
          (record { is_open = refl; at_epoch = e; unsealed = o.unsealed; has_begun = or_left (epoch == d) _ (eq-eqb epoch d (sym e)); marks = o.unmarked })
          (begin_cuts sys n d s g) rest k
      | inr ne ↦ before sys n epoch journal (state_after sys s (Begin d)) g' (record { low = omega (arith, next, low, ne); unsealed = o.unsealed; unmarked = o.unmarked }) rest k
    ]
before sys n epoch (Seal d ∷ journal) s g o h k =
    let row = row_of sys s (Seal d) journal h in
    let last = eqb-true d (last_epoch s.start.epoch s.past) (and_parts _ (d == last_epoch s.start.epoch s.past) row).1 in
    let low = o.low in
    let ne : (d == epoch) ≡ false = ne_eqb d epoch (λ e. absurd (omega (arith, last, low, e))) in
    let en : (epoch == d) ≡ false = ne_eqb epoch d (λ e. absurd (omega (arith, last, low, e))) in
    let t = state_after sys s (Seal d) in
    let r = before sys n epoch journal t (ground_kept n sys s (Seal d) row g) (record { low = o.low; unsealed = or_from (epoch == d) _ en o.unsealed; unmarked = o.unmarked }) (rest_of sys s (Seal d) journal h)
    (sym (ap (λ b. b || has_seal epoch journal) en) ∙ k) in
    record {
      cut = r.cut;
      before = r.before;
      calm = r.calm;
      sealed = ap (λ b. if b then Some (record { epoch = epoch; parts = s.recorded }) else sealed_from sys t epoch journal) ne ∙ r.sealed;
      after = r.after;
    }
before sys n epoch (Mark i ∷ journal) s g o h k =
    let low = o.low in
    before sys n epoch journal (state_after sys s (Mark i)) (ground_kept n sys s (Mark i) (row_of sys s (Mark i) journal h) g)
    (record {
      low = o.low;
      unsealed = o.unsealed;
      unmarked = λ j. or_from (j == i && last_epoch s.start.epoch s.past == epoch) _ (and_right (j == i) (last_epoch s.start.epoch s.past == epoch) (ne_eqb (last_epoch s.start.epoch s.past) epoch (λ e. absurd (omega (arith, e, low))))) (o.unmarked j);
    })
    (rest_of sys s (Mark i) journal h) k
before sys n epoch (Stretch i t ∷ journal) s g o h k = before sys n epoch journal (state_after sys s (Stretch i t)) (ground_kept n sys s (Stretch i t) (row_of sys s (Stretch i t) journal h) g) o (rest_of sys s (Stretch i t) journal h) k
before sys n epoch (Hold i ∷ journal) s g o h k = before sys n epoch journal (state_after sys s (Hold i)) (ground_kept n sys s (Hold i) (row_of sys s (Hold i) journal h) g) o (rest_of sys s (Hold i) journal h) k
before sys n epoch (Flag i ∷ journal) s g o h k = before sys n epoch journal (state_after sys s (Flag i)) (ground_kept n sys s (Flag i) (row_of sys s (Flag i) journal h) g) o (rest_of sys s (Flag i) journal h) k
before sys n epoch (Ask ∷ journal) s g o h k = before sys n epoch journal (state_after sys s Ask) (ground_kept n sys s Ask (row_of sys s Ask journal h) g) o (rest_of sys s Ask journal h) k
before sys n epoch (Ack i ∷ journal) s g o h k = before sys n epoch journal (state_after sys s (Ack i)) (ground_kept n sys s (Ack i) (row_of sys s (Ack i) journal h) g) o (rest_of sys s (Ack i) journal h) k
before sys n epoch (Nack i ∷ journal) s g o h k = before sys n epoch journal (state_after sys s (Nack i)) (ground_kept n sys s (Nack i) (row_of sys s (Nack i) journal h) g) o (rest_of sys s (Nack i) journal h) k
before sys n epoch (Kept d ∷ journal) s g o h k = before sys n epoch journal (state_after sys s (Kept d)) (ground_kept n sys s (Kept d) (row_of sys s (Kept d) journal h) g) o (rest_of sys s (Kept d) journal h) k
before sys n epoch (End ∷ journal) s g o h k = before sys n epoch journal (state_after sys s End) (ground_kept n sys s End (row_of sys s End journal h) g) o (rest_of sys s End journal h) k
before sys n epoch (Stop c ∷ journal) s g o h k = before sys n epoch journal (state_after sys s (Stop c)) (ground_kept n sys s (Stop c) (row_of sys s (Stop c) journal h) g) o (rest_of sys s (Stop c) journal h) k

-- ---- epochs

record IsInReach (first last : ℕ) (opened : Bool) : Type 0 where
  high : first ≤ last
  recorded : opened ≡ true → (first < last) × (last < 2 ^ 62)

abbrev IsInReachAt : State → Type 0
IsInReachAt s = IsInReach s.start.epoch (last_epoch s.start.epoch s.past) (recording_is_open s.past)

seal_in_range : (sys : System) (epoch : ℕ) (journal : List Event) (s : State) → IsInReachAt s → IsTrue (are_admitted sys s journal) → has_seal epoch journal ≡ true → (s.start.epoch < epoch) × (epoch < 2 ^ 62)
seal_in_range sys epoch [] s r h k = absurd (false≢true k)
seal_in_range sys epoch (Begin d ∷ journal) s r h k =
    let row = row_of sys s (Begin d) journal h in
    let next = eqb-true d (last_epoch s.start.epoch s.past + 1) (and_parts _ (d == last_epoch s.start.epoch s.past + 1) row).1 in
    let due = (and_parts (snapshot_is_due sys s) (all_begun_are_kept s.past) (and_parts _ (d == last_epoch s.start.epoch s.past + 1) row).0).0 in
    let small = ltb-true (last_epoch s.start.epoch s.past) (2 ^ 62 - 1) (and_parts _ (nat_lt (last_epoch s.start.epoch s.past) (2 ^ 62 - 1)) due).1 in
    let high = r.high in
    seal_in_range sys epoch journal (state_after sys s (Begin d)) (record { high = omega (arith, next, high); recorded = λ o. (omega (arith, next, high), omega (arith, next, small)) }) (rest_of sys s (Begin d) journal h) k
seal_in_range sys epoch (Seal d ∷ journal) s r h k =
    let row = row_of sys s (Seal d) journal h in
    let last = eqb-true d (last_epoch s.start.epoch s.past) (and_parts _ (d == last_epoch s.start.epoch s.past) row).1 in
    let opened = (and_parts (recording_is_open s.past) (all_are_marked (worker_count s) s.past) (and_parts _ (d == last_epoch s.start.epoch s.past) row).0).0 in
    elim (or_cases (epoch == d) (has_seal epoch journal) k) [
      | inl e ↦
          let same = eqb-true epoch d e in
          let b = r.recorded opened in
          let low = b.0 in
          let top = b.1 in
          (omega (arith, same, last, low), omega (arith, same, last, top))
      | inr q ↦ seal_in_range sys epoch journal (state_after sys s (Seal d)) (record { high = r.high; recorded = λ o. absurd (false≢true o) }) (rest_of sys s (Seal d) journal h) q
    ]
seal_in_range sys epoch (Take i l ∷ journal) s r h k = seal_in_range sys epoch journal (state_after sys s (Take i l)) r (rest_of sys s (Take i l) journal h) k
seal_in_range sys epoch (Give i ∷ journal) s r h k = seal_in_range sys epoch journal (state_after sys s (Give i)) r (rest_of sys s (Give i) journal h) k
seal_in_range sys epoch (Mark i ∷ journal) s r h k = seal_in_range sys epoch journal (state_after sys s (Mark i)) r (rest_of sys s (Mark i) journal h) k
seal_in_range sys epoch (Stretch i t ∷ journal) s r h k = seal_in_range sys epoch journal (state_after sys s (Stretch i t)) r (rest_of sys s (Stretch i t) journal h) k
seal_in_range sys epoch (Hold i ∷ journal) s r h k = seal_in_range sys epoch journal (state_after sys s (Hold i)) r (rest_of sys s (Hold i) journal h) k
seal_in_range sys epoch (Flag i ∷ journal) s r h k = seal_in_range sys epoch journal (state_after sys s (Flag i)) r (rest_of sys s (Flag i) journal h) k
seal_in_range sys epoch (Ask ∷ journal) s r h k = seal_in_range sys epoch journal (state_after sys s Ask) r (rest_of sys s Ask journal h) k
seal_in_range sys epoch (Ack i ∷ journal) s r h k = seal_in_range sys epoch journal (state_after sys s (Ack i)) r (rest_of sys s (Ack i) journal h) k
seal_in_range sys epoch (Nack i ∷ journal) s r h k = seal_in_range sys epoch journal (state_after sys s (Nack i)) r (rest_of sys s (Nack i) journal h) k
seal_in_range sys epoch (Kept d ∷ journal) s r h k = seal_in_range sys epoch journal (state_after sys s (Kept d)) r (rest_of sys s (Kept d) journal h) k
seal_in_range sys epoch (End ∷ journal) s r h k = seal_in_range sys epoch journal (state_after sys s End) r (rest_of sys s End journal h) k
seal_in_range sys epoch (Stop c ∷ journal) s r h k = seal_in_range sys epoch journal (state_after sys s (Stop c)) r (rest_of sys s (Stop c) journal h) k

contains_seal : (epoch : ℕ) (journal : List Event) → Contains journal (Seal epoch) → has_seal epoch journal ≡ true
contains_seal epoch journal c = list_any_at (is_seal_of epoch) journal c.0 (Seal epoch) c.1 (ap (is_seal_of epoch) c.2 ∙ eq-eqb epoch epoch refl)

run_length : (sys : System) (es : List BaseEvent) (S W : BaseState) → Runs sys S es W → length W ≡ length S
run_length sys [] S W r = ap (λ (U : BaseState). length U) (sym r)
run_length sys (e ∷ es) S W r = run_length sys es (base_after sys S e) W r.1 ∙ after-length sys S e

pub epochs_are_in_range : EpochsAreInRange
epochs_are_in_range sys start journal epoch legal c =
    seal_in_range sys epoch journal (start_state start) (record { high = omega arith; recorded = λ o. absurd (false≢true o) }) legal (contains_seal epoch journal c)

pub cuts_are_consistent : CutsAreConsistent
cuts_are_consistent sys start journal epoch legal c =
    let n = length start.parts in
    let s = start_state start in
    let g : IsGrounded n s = record { counted = start_counted start; records = refl; order = record { kept = λ e q. absurd (false≢true q); begun = λ e q. absurd (false≢true q) } } in
    let low = (epochs_are_in_range sys start journal epoch legal c).0 in
    let f : IsFoundAt sys n epoch s.workers [] s journal =
    before sys n epoch journal s g (record { low = low; unsealed = refl; unmarked = λ i. refl }) legal (contains_seal epoch journal c) in
    (f.cut, record { before = f.before; calm = f.calm; sealed = f.sealed; after = f.after })

some-same : (s t : SnapshotParts) → Some s ≡ Some t → s ≡ t
some-same s t h = ap (λ (o : Option SnapshotParts). elim o as (λ _. SnapshotParts) [ None ↦ s | Some x ↦ x ]) h

pub sealed_are_in_form : SealedAreInForm
sealed_are_in_form sys start journal epoch snapshot sound form legal c sealed =
    let k = cuts_are_consistent sys start journal epoch legal c in
    let top = (epochs_are_in_range sys start journal epoch legal c).1 in
    subst (IsInForm sys) (some-same (snapshot_of sys k.0 epoch) snapshot (sym k.1.sealed ∙ sealed)) (form_is_kept sys start (cut_of start epoch journal) k.0 epoch sound form top k.1.before)

pub cuts_are_fit : CutsAreFit
cuts_are_fit sys g start journal epoch ws sound greatest fit cut = fit_after fit_is_kept sys g sound greatest (cut_of start epoch journal) (base_state_of start) ws fit cut.before

pub sealed_are_fit : SealedAreFit
sealed_are_fit sys g start journal epoch snapshot sound greatest fit legal c sealed =
    let k = cuts_are_consistent sys start journal epoch legal c in
    let n = length start.parts in
    let f = cuts_are_fit sys g start journal epoch k.0 sound greatest fit k.1 in
    let count = run_length sys (cut_of start epoch journal) (base_state_of start) k.0 k.1.before in
    let first = (start_counted start).count in
    subst (λ (t : SnapshotParts). IsFit sys g (base_state_of t)) (some-same (snapshot_of sys k.0 epoch) snapshot (sym k.1.sealed ∙ sealed))
    (snapshot_is_fit sys g sound greatest k.0 epoch f (λ i l. k.1.calm i (omega (arith, l, count, first))))
