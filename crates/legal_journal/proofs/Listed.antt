-- All that a legal journal seals: the epochs follow one another, and each snapshot is found by its epoch.
use Rattle.std.proofs.Common.{◌≡◌, ℕ, ◌+◌, ◌<◌, ◌≤◌, ◌⊎◌, inl, inr, Bool, true, false, not, ◌&&◌, ◌==◌, if◌then◌else◌, IsTrue, refl, sym, ◌∙◌, ap, subst, arith, List, [], ◌∷◌, ◌++◌, map, Option, Some, None}
use Rattle.std.specs.List.{Contains}
use Rattle.std.proofs.lemmas.List.Elements.{Contains-append_left, Contains-append_right, Contains-append_cases, Contains-push, Contains-push_cases}
use Rattle.std.proofs.lemmas.Bool.{and_parts, or_cases, or_left, eqb-true, eq-eqb, cases_Bool, false≢true, false_from_ne_true}
use Rattle.grape_event.specs.declared.event.Event.{Event}
use Rattle.grape_event.specs.declared.event.Event.TheVariants.{Take, Give, Stretch, Hold, Flag, Ask, Ack, Nack, Begin, Mark, Seal, Kept, End, Stop}
use Rattle.token_cut.specs.Parts.{SnapshotParts}
use Rattle.base_machine.specs.Machine.{System}
use Rattle.legal_journal.specs.Past.{has_ended, last_epoch, recording_is_open, was_sealed, was_kept, all_are_marked, all_begun_are_kept}
use Rattle.legal_journal.specs.Legal.{State, start_state, state_after, state_after_all, worker_count, row_admits, is_admitted, are_admitted, snapshot_is_due, IsLegal}
use Rattle.legal_journal.specs.Cuts.{sealed_from, sealed_snapshot, snapshots_from, sealed_snapshots, FollowOn}
use Rattle.legal_journal.specs.Theorems.{EpochsFollow, SealedAreFound, SealsAdd}
use Rattle.legal_journal.proofs.Choosing.{was_begun, kept_of_all}

-- Over the words of a past whose last sealed epoch is n: the last epoch, whether a recording is open, and which epochs were sealed, kept and begun.
record IsCounted (n last : ℕ) (opened : Bool) (sealed kept begun : ℕ → Bool) : Type 0 where
  at : last ≡ n + (if opened then 1 else 0)
  was_begun : opened ≡ true → begun last ≡ true
  sealed_low : (e : ℕ) → sealed e ≡ true → e ≤ n
  kept_low : (e : ℕ) → kept e ≡ true → e ≤ n

abbrev Counted : ℕ → State → Type 0
Counted n s = IsCounted n (last_epoch s.start.epoch s.past) (recording_is_open s.past) (λ e. was_sealed e s.past) (λ e. was_kept e s.past) (λ e. was_begun e s.past)

-- the last sealed epoch after an event
abbrev next_count : Event → ℕ → ℕ
next_count (Seal d) n = d
next_count _ n = n

opened_at : (n last : ℕ) (opened : Bool) → opened ≡ true → last ≡ n + (if opened then 1 else 0) → last ≡ n + 1
opened_at n last opened o at = subst (λ (b : Bool). last ≡ n + (if b then 1 else 0)) o at

closed_at : (n last : ℕ) (opened : Bool) → opened ≡ false → last ≡ n + (if opened then 1 else 0) → last ≡ n
closed_at n last opened o at = let e = subst (λ (b : Bool). last ≡ n + (if b then 1 else 0)) o at in omega (arith, e)

-- the epoch of an admitted Seal is the next one
seal_next : (sys : System) (s : State) (n d : ℕ) → IsTrue (row_admits sys s (Seal d)) → Counted n s → d ≡ n + 1
seal_next sys s n d row p =
    let parts = and_parts (recording_is_open s.past && all_are_marked (worker_count s) s.past) (d == last_epoch s.start.epoch s.past) row in
    let o = (and_parts (recording_is_open s.past) (all_are_marked (worker_count s) s.past) parts.0).0 in
    eqb-true d (last_epoch s.start.epoch s.past) parts.1 ∙ opened_at n (last_epoch s.start.epoch s.past) (recording_is_open s.past) o p.at

counted_after : (sys : System) (s : State) (e : Event) (n : ℕ) → IsTrue (row_admits sys s e) → Counted n s → Counted (next_count e n) (state_after sys s e)
counted_after sys s (Begin d) n row p =
    let last = last_epoch s.start.epoch s.past in
    let parts = and_parts (snapshot_is_due sys s && all_begun_are_kept s.past) (d == last + 1) row in
    let next = eqb-true d (last + 1) parts.1 in
    let all = (and_parts (snapshot_is_due sys s) (all_begun_are_kept s.past) parts.0).1 in
    let closed = false_from_ne_true (recording_is_open s.past) (λ o.
    let low = p.kept_low last (kept_of_all s.past s.past last all (p.was_begun o)) in
    let at = opened_at n last (recording_is_open s.past) o p.at in
    absurd (omega (arith, low, at))) in
    let at = closed_at n last (recording_is_open s.past) closed p.at in
    record {
      at = omega (arith, next, at);
      was_begun = λ q. or_left (d == d) (was_begun d s.past) (eq-eqb d d refl);
      sealed_low = p.sealed_low;
      kept_low = p.kept_low;
    }
counted_after sys s (Seal d) n row p =
    let next = seal_next sys s n d row p in
    let parts = and_parts (recording_is_open s.past && all_are_marked (worker_count s) s.past) (d == last_epoch s.start.epoch s.past) row in
    let is = eqb-true d (last_epoch s.start.epoch s.past) parts.1 in
    record {
      at = omega (arith, is);
      was_begun = λ q. absurd (false≢true q);
      sealed_low = λ e q. elim (or_cases (e == d) (was_sealed e s.past) q) [
        | inl k ↦ let i = eqb-true e d k in omega (arith, i)
        | inr k ↦ let l = p.sealed_low e k in omega (arith, l, next)
      ];
      kept_low = λ e q. let l = p.kept_low e q in omega (arith, l, next);
    }
counted_after sys s (Kept d) n row p =
    let parts = and_parts (was_sealed d s.past) (not (was_kept d s.past)) row in
    record {
      at = p.at;
      was_begun = p.was_begun;
      sealed_low = p.sealed_low;
      kept_low = λ e q. elim (or_cases (e == d) (was_kept e s.past) q) [
        | inl k ↦ let i = eqb-true e d k in let l = p.sealed_low d parts.0 in omega (arith, i, l)
        | inr k ↦ p.kept_low e k
      ];
    }
counted_after sys s (Take i k) n row p = p
counted_after sys s (Give i) n row p = p
counted_after sys s (Stretch i t) n row p = p
counted_after sys s (Hold i) n row p = p
counted_after sys s (Flag i) n row p = p
counted_after sys s Ask n row p = p
counted_after sys s (Ack i) n row p = p
counted_after sys s (Nack i) n row p = p
counted_after sys s (Mark i) n row p = p
counted_after sys s End n row p = p
counted_after sys s (Stop c) n row p = p

counted_first : (start : SnapshotParts) → Counted start.epoch (start_state start)
counted_first start = record {
  at = omega arith;
  was_begun = λ q. absurd (false≢true q);
  sealed_low = λ e q. absurd (false≢true q);
  kept_low = λ e q. absurd (false≢true q);
}

row_of : (sys : System) (s : State) (e : Event) → IsTrue (is_admitted sys s e) → IsTrue (row_admits sys s e)
row_of sys s e h = (and_parts (not (has_ended s.past)) (row_admits sys s e) h).1

-- ---- the epochs follow

follow : (sys : System) (journal : List Event) (s : State) (n : ℕ) → IsTrue (are_admitted sys s journal) → Counted n s → FollowOn n (map (λ (x : SnapshotParts). x.epoch) (snapshots_from sys s journal))
follow sys [] s n h p = tt
follow sys (Seal d ∷ journal) s n h p =
    let both = and_parts (is_admitted sys s (Seal d)) _ h in
    let row = row_of sys s (Seal d) both.0 in
    (seal_next sys s n d row p, follow sys journal (state_after sys s (Seal d)) d both.1 (counted_after sys s (Seal d) n row p))
follow sys (e ∷ journal) s n h p =
    let both = and_parts (is_admitted sys s e) _ h in
    follow sys journal (state_after sys s e) n both.1 (counted_after sys s e n (row_of sys s e both.0) p)

pub epochs_follow : EpochsFollow
epochs_follow sys start journal legal = follow sys journal (start_state start) start.epoch legal (counted_first start)

-- ---- each is found by its epoch

contains_head : {X : Type 0} (x : X) (xs : List X) → Contains (x ∷ xs) x
contains_head x xs = Contains-append_left (x ∷ []) xs x (Contains-push [] x)

contains_tail : {X : Type 0} (y x : X) (xs : List X) → Contains xs x → Contains (y ∷ xs) x
contains_tail y x xs c = Contains-append_right (y ∷ []) xs x c

none_in : {X : Type 0} (x : X) → Contains [] x → ⊥
none_in x c = omega (arith, c.1)

contains_cases : {X : Type 0} (y x : X) (xs : List X) → Contains (y ∷ xs) x → (y ≡ x) ⊎ Contains xs x
contains_cases y x xs c = elim (Contains-append_cases (y ∷ []) xs x c) [
  | inl one ↦ elim (Contains-push_cases [] y x one) [ inl none ↦ absurd (none_in x none) | inr same ↦ inl same ]
  | inr rest ↦ inr rest
]

IsFoundFrom : System → State → ℕ → List Event → SnapshotParts → Type 0
IsFoundFrom sys s n journal x = (n < x.epoch) × Contains journal (Seal x.epoch) × (sealed_from sys s x.epoch journal ≡ Some x)

found_head : (sys : System) (s : State) (n d : ℕ) (journal : List Event) (x : SnapshotParts) → d ≡ n + 1 → record { epoch = d; parts = s.recorded } ≡ x → IsFoundFrom sys s n (Seal d ∷ journal) x
unfolding IsFoundFrom
found_head sys s n d journal x next is =
    subst (λ (y : SnapshotParts). (n < y.epoch) × Contains (Seal d ∷ journal) (Seal y.epoch) × (sealed_from sys s y.epoch (Seal d ∷ journal) ≡ Some y)) is
    (omega (arith, next), contains_head (Seal d) journal, ap (λ (b : Bool). if b then Some (record { epoch = d; parts = s.recorded }) else sealed_from sys (state_after sys s (Seal d)) d journal) (eq-eqb d d refl))

found_tail : (sys : System) (s : State) (n d : ℕ) (journal : List Event) (x : SnapshotParts) → d ≡ n + 1 → IsFoundFrom sys (state_after sys s (Seal d)) d journal x → IsFoundFrom sys s n (Seal d ∷ journal) x
unfolding IsFoundFrom
found_tail sys s n d journal x next f =
    let other = false_from_ne_true (d == x.epoch) (λ q. let i = eqb-true d x.epoch q in let l = f.0 in absurd (omega (arith, i, l))) in (
      omega (arith, next, f.0),
      contains_tail (Seal d) (Seal x.epoch) journal f.1,
      ap (λ (b : Bool). if b then Some (record { epoch = x.epoch; parts = s.recorded }) else sealed_from sys (state_after sys s (Seal d)) x.epoch journal) other ∙ f.2,
    )

found : (sys : System) (journal : List Event) (s : State) (n : ℕ) (x : SnapshotParts) → IsTrue (are_admitted sys s journal) → Counted n s → Contains (snapshots_from sys s journal) x → IsFoundFrom sys s n journal x
unfolding IsFoundFrom
found sys [] s n x h p c = absurd (none_in x c)
found sys (Seal d ∷ journal) s n x h p c =
    let both = and_parts (is_admitted sys s (Seal d)) _ h in
    let row = row_of sys s (Seal d) both.0 in
    let next = seal_next sys s n d row p in
    elim (contains_cases (record { epoch = d; parts = s.recorded }) x (snapshots_from sys (state_after sys s (Seal d)) journal) c) [
      | inl is ↦ found_head sys s n d journal x next is
      | inr rest ↦ found_tail sys s n d journal x next (found sys journal (state_after sys s (Seal d)) d x both.1 (counted_after sys s (Seal d) n row p) rest)
    ]
found sys (e ∷ journal) s n x h p c =
    let both = and_parts (is_admitted sys s e) _ h in
    let f = found sys journal (state_after sys s e) n x both.1 (counted_after sys s e n (row_of sys s e both.0) p) c in
    (f.0, contains_tail e (Seal x.epoch) journal f.1, f.2)

-- what is found stands in the list
listed : (sys : System) (journal : List Event) (s : State) (epoch : ℕ) (x : SnapshotParts) → sealed_from sys s epoch journal ≡ Some x → Contains (snapshots_from sys s journal) x
listed sys [] s epoch x h = absurd (cc)
listed sys (Seal d ∷ journal) s epoch x h = elim (cases_Bool (d == epoch)) [
  | inl same ↦
      let i = eqb-true d epoch same in
      let is : Some (record { epoch = epoch; parts = s.recorded }) ≡ Some x = subst (λ (b : Bool). (if b then Some (record { epoch = epoch; parts = s.recorded }) else sealed_from sys (state_after sys s (Seal d)) epoch journal) ≡ Some x) same h in
      let at : record { epoch = d; parts = s.recorded } ≡ x = (λ t. record { epoch = i t; parts = s.recorded }) ∙ some_is (record { epoch = epoch; parts = s.recorded }) x is in
      subst (λ (y : SnapshotParts). Contains (record { epoch = d; parts = s.recorded } ∷ snapshots_from sys (state_after sys s (Seal d)) journal) y) at (contains_head (record { epoch = d; parts = s.recorded }) (snapshots_from sys (state_after sys s (Seal d)) journal))
  | inr other ↦
      let rest : sealed_from sys (state_after sys s (Seal d)) epoch journal ≡ Some x = subst (λ (b : Bool). (if b then Some (record { epoch = epoch; parts = s.recorded }) else sealed_from sys (state_after sys s (Seal d)) epoch journal) ≡ Some x) other h in
      contains_tail (record { epoch = d; parts = s.recorded }) x (snapshots_from sys (state_after sys s (Seal d)) journal) (listed sys journal (state_after sys s (Seal d)) epoch x rest)
]
  where
    some_is : (a b : SnapshotParts) → Some a ≡ Some b → a ≡ b
    some_is a b h = ap (λ (o : Option SnapshotParts). elim o as (λ _. SnapshotParts) [ None ↦ a | Some y ↦ y ]) h
listed sys (e ∷ journal) s epoch x h = listed sys journal (state_after sys s e) epoch x h

pub sealed_are_found : SealedAreFound
unfolding IsFoundFrom
sealed_are_found sys start journal x legal = (
  λ c. let f = found sys journal (start_state start) start.epoch x legal (counted_first start) c in (f.1, f.2),
  λ h. listed sys journal (start_state start) x.epoch x h,
)

-- ---- a Seal adds one

grown : (sys : System) (journal more : List Event) (s : State) → snapshots_from sys s (journal ++ more) ≡ snapshots_from sys s journal ++ snapshots_from sys (state_after_all sys s journal) more
grown sys [] more s = refl
grown sys (Seal d ∷ journal) more s = ap (λ (xs : List SnapshotParts). record { epoch = d; parts = s.recorded } ∷ xs) (grown sys journal more (state_after sys s (Seal d)))
grown sys (e ∷ journal) more s = grown sys journal more (state_after sys s e)

pub seals_add : SealsAdd
unfolding IsFoundFrom
seals_add sys start journal x legal at =
    let s = start_state start in
    let new : SnapshotParts = record { epoch = x.epoch; parts = (state_after_all sys s journal).recorded } in
    let list = grown sys journal (Seal x.epoch ∷ []) s in
    let in_list : Contains (snapshots_from sys s (journal ++ Seal x.epoch ∷ [])) new = subst (λ (xs : List SnapshotParts). Contains xs new) (sym list) (Contains-push (snapshots_from sys s journal) new) in
    let f = found sys (journal ++ Seal x.epoch ∷ []) s start.epoch new legal (counted_first start) in_list in
    let same : new ≡ x = some_is new x (sym f.2 ∙ at) in
    list ∙ ap (λ (y : SnapshotParts). snapshots_from sys s journal ++ y ∷ []) same
  where
    some_is : (a b : SnapshotParts) → Some a ≡ Some b → a ≡ b
    some_is a b h = ap (λ (o : Option SnapshotParts). elim o as (λ _. SnapshotParts) [ None ↦ a | Some y ↦ y ]) h
