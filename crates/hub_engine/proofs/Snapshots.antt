-- What every legal journal keeps of its snapshots: they come one at a time, and each is kept before the next begins.
use Rattle.std.proofs.Common.{◌≡◌, ℕ, ◌+◌, ◌-◌, ◌^◌, ◌≤◌, ◌⊎◌, inl, inr, Bool, true, false, not, ◌&&◌, ◌==◌, nat_lt, nat_le, IsTrue, refl, sym, ◌∙◌, ap, subst, arith, List, reverse, Option, Some, None}
use Rattle.std.proofs.lemmas.Bool.{and_parts, and_from, or_cases, or_left, or_right, eqb-true, eq-eqb, ltb-true, false≢true, not-true, false_from_ne_true}
use Rattle.grape_event.specs.declared.event.Event.{Event}
use Rattle.grape_event.specs.declared.event.Event.TheVariants.{Take, Give, Stretch, Hold, Flag, Ask, Ack, Nack, Begin, Mark, Seal, Kept, End, Stop}
use Rattle.token_cut.specs.Parts.{SnapshotParts}
use Rattle.base_machine.specs.Machine.{System}
use Rattle.legal_journal.specs.Past.{has_ended, last_epoch, recording_is_open, was_sealed, was_kept, all_are_marked, all_begun_are_kept, takes_since_begin}
use Rattle.legal_journal.specs.Legal.{State, start_state, state_after, worker_count, row_admits, is_admitted, snapshot_is_due}
use Rattle.legal_journal.proofs.Walks.{kept_along}
use Rattle.legal_journal.proofs.Probes.{both}
use Rattle.legal_journal.proofs.Choosing.{IsInOrder, order_kept, kept_of_all, all_of_kept, was_begun, some-none}
use Rattle.hub_engine.specs.HubValues.{HubValues}
use Rattle.hub_engine.specs.States.{machine, state_of, sealed_epoch, IsHub}
use Rattle.hub_engine.specs.Calls.{MayKeep}
use Rattle.hub_engine.proofs.Hubs.{past_of, ended_is}

-- Over the words of a past: the last epoch, how often a snapshot is asked for, whether a recording is open, the epoch that is sealed and not kept yet, and which epochs were sealed, kept and begun.
pub record AreInTurn (last every : ℕ) (opened : Bool) (unkept : Option ℕ) (sealed kept begun : ℕ → Bool) : Type 0 where
  pub kept_are_sealed : (e : ℕ) → kept e ≡ true → sealed e ≡ true
  pub begun_are_sealed : (e : ℕ) → begun e ≡ true → (sealed e ≡ true) ⊎ ((opened ≡ true) × (e ≡ last))
  -- no epoch past the last one is sealed
  pub low : (e : ℕ) → sealed e ≡ true → e ≤ last
  -- while a recording is open, its epoch isn't sealed, what was sealed is kept, and snapshots are asked for
  pub was_begun : opened ≡ true → begun last ≡ true
  pub unsealed : opened ≡ true → sealed last ≡ false
  pub none : opened ≡ true → unkept ≡ None
  pub asked : opened ≡ true → 1 ≤ every
  -- the epoch that is sealed and not kept yet is the last one, and no recording is open
  pub waits : (e : ℕ) → unkept ≡ Some e → (sealed e ≡ true) × (kept e ≡ false) × (opened ≡ false) × (e ≡ last) × (begun e ≡ true)
  -- what is sealed is kept, but for that epoch
  pub others : (e : ℕ) → sealed e ≡ true → (kept e ≡ true) ⊎ (unkept ≡ Some e)

abbrev pub SnapshotsAreInTurn : System → State → Type 0
SnapshotsAreInTurn sys s =
    AreInTurn (last_epoch s.start.epoch s.past) sys.settings.snapshot (recording_is_open s.past) (sealed_epoch s.past) (λ e. was_sealed e s.past) (λ e. was_kept e s.past) (λ e. was_begun e s.past)

some_same : (a b : ℕ) → Some a ≡ Some b → a ≡ b
some_same a b h = ap (λ (o : Option ℕ). elim o as (λ _. ℕ) [ None ↦ a | Some x ↦ x ]) h

none_or_some : (o : Option ℕ) → (o ≡ None) ⊎ ((e : ℕ) × (o ≡ Some e))
none_or_some None = inl refl
none_or_some (Some e) = inr (e, refl)

-- ---- what the words come to

module _ (sys : System) (s : State) (p : SnapshotsAreInTurn sys s) where
  -- where all that was begun is kept, no recording is open, and what was sealed is kept
  pub closed_where_kept : all_begun_are_kept s.past ≡ true → recording_is_open s.past ≡ false
  closed_where_kept h =
      let last = last_epoch s.start.epoch s.past in
      false_from_ne_true (recording_is_open s.past) (λ o. both (p.kept_are_sealed last (kept_of_all s.past s.past last h (p.was_begun o))) (p.unsealed o))

  pub none_where_kept : all_begun_are_kept s.past ≡ true → sealed_epoch s.past ≡ None
  none_where_kept h = elim (none_or_some (sealed_epoch s.past)) [
    | inl n ↦ n
    | inr k ↦ let f = p.waits k.0 k.1 in absurd (both (kept_of_all s.past s.past k.0 h f.4) f.1)
  ]

  -- where nothing is sealed and not kept yet, what was sealed is kept
  pub sealed_are_kept : sealed_epoch s.past ≡ None → (e : ℕ) → was_sealed e s.past ≡ true → was_kept e s.past ≡ true
  sealed_are_kept n e h = elim (p.others e h) [ inl k ↦ k | inr k ↦ absurd (some-none (sealed_epoch s.past) e k n) ]

  pub kept_where_closed : recording_is_open s.past ≡ false → sealed_epoch s.past ≡ None → all_begun_are_kept s.past ≡ true
  kept_where_closed c n = all_of_kept s.past s.past (λ e b. elim (p.begun_are_sealed e b) [ inl q ↦ sealed_are_kept n e q | inr q ↦ absurd (both q.0 c) ])

  -- where nothing is sealed and not kept yet, all that was begun is kept just where no recording is open
  pub kept_is : sealed_epoch s.past ≡ None → all_begun_are_kept s.past ≡ not (recording_is_open s.past)
  kept_is n = go (recording_is_open s.past) refl
    where
      go : (o : Bool) → recording_is_open s.past ≡ o → all_begun_are_kept s.past ≡ not o
      go false c = kept_where_closed c n
      go true c = false_from_ne_true (all_begun_are_kept s.past) (λ h. both c (closed_where_kept h))

-- ---- one event more

module _ (sys : System) (s : State) (p : SnapshotsAreInTurn sys s) where
  in_order : IsInOrder s
  in_order = record { kept = p.kept_are_sealed; begun = p.begun_are_sealed }

  begin_kept : (d : ℕ) → IsTrue (row_admits sys s (Begin d)) → SnapshotsAreInTurn sys (state_after sys s (Begin d))
  begin_kept d h =
      let last = last_epoch s.start.epoch s.past in
      let parts = and_parts (snapshot_is_due sys s && all_begun_are_kept s.past) (d == last + 1) h in
      let next = eqb-true d (last + 1) parts.1 in
      let two = and_parts (snapshot_is_due sys s) (all_begun_are_kept s.past) parts.0 in
      let due = and_parts (nat_lt 0 sys.settings.snapshot && nat_le sys.settings.snapshot (takes_since_begin s.past)) (nat_lt last (2 ^ 62 - 1)) two.0 in
      let asked = ltb-true 0 sys.settings.snapshot (and_parts (nat_lt 0 sys.settings.snapshot) (nat_le sys.settings.snapshot (takes_since_begin s.past)) due.0).0 in
      let n = none_where_kept sys s p two.1 in
      let o = order_kept sys s (Begin d) h in_order in
      record {
        kept_are_sealed = o.kept;
        begun_are_sealed = o.begun;
        low = λ e q. let l = p.low e q in omega (arith, l, next);
        was_begun = λ q. or_left (d == d) (was_begun d s.past) (eq-eqb d d refl);
        unsealed = λ q. false_from_ne_true (was_sealed d s.past) (λ w. let l = p.low d w in absurd (omega (arith, l, next)));
        none = λ q. n;
        asked = λ q. omega (arith, asked);
        waits = λ e q. absurd (some-none (sealed_epoch s.past) e q n);
        others = p.others;
      }

  seal_kept : (d : ℕ) → IsTrue (row_admits sys s (Seal d)) → SnapshotsAreInTurn sys (state_after sys s (Seal d))
  seal_kept d h =
      let last = last_epoch s.start.epoch s.past in
      let parts = and_parts (recording_is_open s.past && all_are_marked (worker_count s) s.past) (d == last) h in
      let at = eqb-true d last parts.1 in
      let opened = (and_parts (recording_is_open s.past) (all_are_marked (worker_count s) s.past) parts.0).0 in
      let new = p.unsealed opened in
      let o = order_kept sys s (Seal d) h in_order in
      record {
        kept_are_sealed = o.kept;
        begun_are_sealed = o.begun;
        low = λ e q. elim (or_cases (e == d) (was_sealed e s.past) q) [ inl k ↦ let i = eqb-true e d k in omega (arith, i, at) | inr k ↦ p.low e k ];
        was_begun = λ q. absurd (false≢true q);
        unsealed = λ q. absurd (false≢true q);
        none = λ q. absurd (false≢true q);
        asked = λ q. absurd (false≢true q);
        waits = λ e q.
            let i = some_same d e q in
            let l : e ≡ last = sym i ∙ at in (
              or_left (e == d) (was_sealed e s.past) (eq-eqb e d (sym i)),
              false_from_ne_true (was_kept e s.past) (λ w. both (p.kept_are_sealed e w) (subst (λ x. was_sealed x s.past ≡ false) (sym l) new)),
              refl,
              l,
              subst (λ x. was_begun x s.past ≡ true) (sym l) (p.was_begun opened),
            );
        others = λ e q. elim (or_cases (e == d) (was_sealed e s.past) q) [
          | inl k ↦ inr (ap {B = Option ℕ} (λ x. Some x) (sym (eqb-true e d k)))
          | inr k ↦ elim (p.others e k) [ inl w ↦ inl w | inr w ↦ absurd (some-none (sealed_epoch s.past) e w (p.none opened)) ]
        ];
      }

  keep_kept : (d : ℕ) → IsTrue (row_admits sys s (Kept d)) → SnapshotsAreInTurn sys (state_after sys s (Kept d))
  keep_kept d h =
      let parts = and_parts (was_sealed d s.past) (not (was_kept d s.past)) h in
      let fresh = not-true (was_kept d s.past) parts.1 in
      let o = order_kept sys s (Kept d) h in_order in
      let here : sealed_epoch s.past ≡ Some d = elim (p.others d parts.0) [ inl k ↦ absurd (both k fresh) | inr k ↦ k ] in
      record {
        kept_are_sealed = o.kept;
        begun_are_sealed = o.begun;
        low = p.low;
        was_begun = p.was_begun;
        unsealed = p.unsealed;
        none = λ q. refl;
        asked = p.asked;
        waits = λ e q. absurd (some-none {X = ℕ} None e q refl);
        others = λ e q. inl (elim (p.others e q) [
          | inl k ↦ or_right (e == d) (was_kept e s.past) k
          | inr k ↦ or_left (e == d) (was_kept e s.past) (eq-eqb e d (some_same e d (sym k ∙ here)))
        ]);
      }

-- each admitted event keeps snapshots in turn
pub turn_kept : (sys : System) (s : State) (e : Event) → IsTrue (row_admits sys s e) → SnapshotsAreInTurn sys s → SnapshotsAreInTurn sys (state_after sys s e)
turn_kept sys s (Begin d) h p = begin_kept sys s p d h
turn_kept sys s (Seal d) h p = seal_kept sys s p d h
turn_kept sys s (Kept d) h p = keep_kept sys s p d h
turn_kept sys s (Take i k) h p = p
turn_kept sys s (Give i) h p = p
turn_kept sys s (Stretch i t) h p = p
turn_kept sys s (Hold i) h p = p
turn_kept sys s (Flag i) h p = p
turn_kept sys s Ask h p = p
turn_kept sys s (Ack i) h p = p
turn_kept sys s (Nack i) h p = p
turn_kept sys s (Mark i) h p = p
turn_kept sys s End h p = p
turn_kept sys s (Stop c) h p = p

pub begins_in_turn : (sys : System) (start : SnapshotParts) → SnapshotsAreInTurn sys (start_state start)
begins_in_turn sys start = record {
  kept_are_sealed = λ e q. absurd (false≢true q);
  begun_are_sealed = λ e q. absurd (false≢true q);
  low = λ e q. absurd (false≢true q);
  was_begun = λ q. absurd (false≢true q);
  unsealed = λ q. absurd (false≢true q);
  none = λ q. absurd (false≢true q);
  asked = λ q. absurd (false≢true q);
  waits = λ e q. absurd (some-none {X = ℕ} None e q refl);
  others = λ e q. absurd (false≢true q);
}

-- ---- a hub's snapshots

pub snapshots_of : (h : HubValues) → IsHub h → SnapshotsAreInTurn (machine h) (state_of h)
snapshots_of h k =
    kept_along (machine h) (SnapshotsAreInTurn (machine h)) (λ s e a p. turn_kept (machine h) s e (and_parts (not (has_ended s.past)) (row_admits (machine h) s e) a).1 p)
    h.journal.events (start_state h.start) k.legal (begins_in_turn (machine h) h.start)

-- what is sealed and not kept yet may be kept
pub may_keep : (h : HubValues) (epoch : ℕ) → IsHub h → has_ended (reverse h.journal.events) ≡ false → MayKeep h epoch → is_admitted (machine h) (state_of h) (Kept epoch) ≡ true
may_keep h epoch k going m =
    let s = state_of h in
    let w = (snapshots_of h k).waits epoch m in
    and_from (not (has_ended s.past)) (row_admits (machine h) s (Kept epoch)) (ap (λ b. not b) (ended_is h ∙ going))
    (and_from (was_sealed epoch s.past) (not (was_kept epoch s.past)) w.0 (ap (λ b. not b) w.1))

-- where nothing is sealed and not kept yet, what was sealed is kept
pub all_sealed_are_kept : (h : HubValues) → IsHub h → sealed_epoch (state_of h).past ≡ None → (e : ℕ) → was_sealed e (reverse h.journal.events) ≡ true → was_kept e (reverse h.journal.events) ≡ true
all_sealed_are_kept h k n e w =
    subst (λ (past : List Event). was_kept e past ≡ true) (past_of h)
    (sealed_are_kept (machine h) (state_of h) (snapshots_of h k) n e (subst (λ (past : List Event). was_sealed e past ≡ true) (sym (past_of h)) w))
