-- What the hub keeps over all its desks: the least round of a busy worker, and how many workers are out.
use Rattle.std.proofs.Common.{◌≡◌, ℕ, ◌+◌, ◌<◌, ◌≤◌, add-zero, inl, inr, Bool, true, false, not, ◌&&◌, ◌||◌, nat_lt, refl, sym, ◌∙◌, ap, arith, List, length-set, map, slice_get, slice_set, count_by, Option, Some}
use Rattle.std.proofs.lemmas.Bool.{and_parts, cases_eq, false≢true}
use Rattle.std.proofs.lemmas.List.{get_or-set_same, get_or-set_other}
use Rattle.std.specs.Option.{option_map}
use Rattle.std.proofs.lemmas.Option.{same_Some, slice_get-get_or, slice_get-map, slice_get_within, get_or_from_slice_get}
use Rattle.grape_event.specs.declared.event.Event.{Event}
use Rattle.grape_event.specs.declared.event.Event.TheVariants.{Take, Give}
use Rattle.message_buffer.specs.Buffers.{batches_in}
use Rattle.base_machine.specs.Machine.{BaseState, worker_at, is_fresh, is_running, rests, batch_waits}
use Rattle.legal_journal.specs.Past.{has_ended}
use Rattle.legal_journal.specs.Delays.{delay_is_over, is_fresh_enough}
use Rattle.legal_journal.specs.Legal.{State, state_after, worker_count, is_worker, is_admitted, may_take, has_work_out, rests_with_mail, snapshot_is_due, is_unmarked, tagged_batch_waits}
use Rattle.hub_engine.specs.declared.desk.Desk.{Desk}
use Rattle.hub_engine.specs.HubValues.{HubValues}
use Rattle.hub_engine.specs.States.{machine, state_of, workers_of, works_out, IsHub}
use Rattle.hub_engine.specs.Desks.{Tables, TablesFit, is_busy_at, is_fresh_at, is_out, folded_desk}
use Rattle.hub_engine.specs.Kinds.{IsLeastRound}
use Rattle.hub_engine.specs.Calls.{Appended}
use Rattle.hub_engine.proofs.Hubs.{counted_of, state_grown, out_is}
use Rattle.hub_engine.proofs.Scan.{busy_is}
use Rattle.hub_engine.proofs.Seals.{got_mapped}
use Rattle.hub_engine.proofs.Steps.{set_cases}
use Rattle.hub_engine.proofs.Waiting.{one_back}
use Rattle.hub_engine.proofs.Works.{one_more_out}

-- ---- the least round

-- both are busy or neither is, and their rounds are equal
abbrev AreAlike : Desk → Desk → Type 0
AreAlike d e = (is_busy_at d ≡ is_busy_at e) × (d.round ≡ e.round)

-- each desk of the first list has one like it at its place in the other
abbrev StandIn : List Desk → List Desk → Type 0
StandIn xs ys = (i : ℕ) (d : Desk) → slice_get xs i ≡ Some d → (e : Desk) × (slice_get ys i ≡ Some e) × AreAlike d e

least_moves : (desks new : List Desk) (least : Option ℕ) → StandIn desks new → StandIn new desks → IsLeastRound desks least → IsLeastRound new least
least_moves desks new least there back k =
    record {
      below = λ i d h b. let g = back i d h in let f = k.below i g.0 g.1 (sym g.2.0 ∙ b) in let same = g.2.1 in let low = f.2 in (f.0, f.1, omega (arith, same, low));
      there = λ r h. let f = k.there r h in let g = there f.0 f.1 f.2 in (f.0, g.0, g.1, sym g.2.0 ∙ f.3, sym g.2.1 ∙ f.4);
    }

-- it stays where one desk changes into one like it
pub least_set : (desks : List Desk) (i : ℕ) (d e : Desk) (least : Option ℕ) → slice_get desks i ≡ Some d → is_busy_at e ≡ is_busy_at d → e.round ≡ d.round → IsLeastRound desks least → IsLeastRound (slice_set desks i e) least
least_set desks i d e least here busy round k = least_moves desks (slice_set desks i e) least there back k
  where
    put : slice_get (slice_set desks i e) i ≡ Some e
    put =
        let l = slice_get_within desks i d here in
        slice_get-get_or (slice_set desks i e) i e (omega (arith, l, length-set desks i e)) ∙ ap (λ (x : Desk). Some x) (get_or-set_same desks i e e l)

    there : StandIn desks (slice_set desks i e)
    there j x h = elim (cases_eq j i) [
      | inl q ↦
          let same : x ≡ d = same_Some x d (sym h ∙ (ap (slice_get desks) q ∙ here)) in
          (e, ap (slice_get (slice_set desks i e)) q ∙ put, (ap is_busy_at same ∙ sym busy, ap (λ (y : Desk). y.round) same ∙ sym round))
      | inr n ↦
          let l = slice_get_within desks j x h in
          (x, slice_get-get_or (slice_set desks i e) j x (omega (arith, l, length-set desks i e)) ∙ ap (λ (y : Desk). Some y) (get_or-set_other desks i j e x n ∙ get_or_from_slice_get desks j x x h), (refl, refl))
    ]

    back : StandIn (slice_set desks i e) desks
    back j x h = elim (set_cases desks i j e x h) [
      | inl c ↦ (d, ap (slice_get desks) c.0 ∙ here, (ap is_busy_at c.1 ∙ busy, ap (λ (y : Desk). y.round) c.1 ∙ round))
      | inr c ↦ (x, c.1, (refl, refl))
    ]

folded_is_busy : (d : Desk) → is_busy_at (folded_desk d) ≡ is_busy_at d
folded_is_busy d = ap (λ n. (is_fresh_at d || is_out d) || nat_lt 0 n) (add-zero (batches_in d.buffer))

-- it stays where all mail loses its tokens
pub least_folded : (desks : List Desk) (least : Option ℕ) → IsLeastRound desks least → IsLeastRound (map folded_desk desks) least
least_folded desks least k = least_moves desks (map folded_desk desks) least there back k
  where
    there : StandIn desks (map folded_desk desks)
    there j x h = (folded_desk x, slice_get-map folded_desk desks j ∙ ap (option_map folded_desk) h, (sym (folded_is_busy x), refl))

    back : StandIn (map folded_desk desks) desks
    back j x h =
        let g = got_mapped folded_desk desks j x h in
        (g.0, g.1, (ap is_busy_at g.2 ∙ folded_is_busy g.0, ap (λ (y : Desk). y.round) g.2))

-- ---- who takes

busy_or : (fresh running mail rest over : Bool) → (fresh || ((rest && mail) && over)) ≡ true → ((fresh || running) || mail) ≡ true
busy_or true running mail rest over h = refl
busy_or false true mail rest over h = refl
busy_or false false true rest over h = refl
busy_or false false false true over h = absurd (false≢true h)
busy_or false false false false over h = absurd (false≢true h)

-- a worker whose Take is admitted is busy
pub taker_is_busy : (h : HubValues) (t : Tables) (i lane : ℕ) (d : Desk) → IsHub h → TablesFit (machine h) (state_of h) h.counters t → slice_get t.desks i ≡ Some d → is_admitted (machine h) (state_of h) (Take i lane) ≡ true → is_busy_at d ≡ true
taker_is_busy h t i lane d hub fits here a =
    let sys = machine h in
    let s = state_of h in
    let w = worker_at s.workers i in
    let over = delay_is_over sys.settings.policy s.workers s.past i in
    let free = nat_lt lane sys.settings.lanes && not (has_work_out s lane) in
    let ready = is_fresh w || (rests_with_mail s i && over) in
    let enough = is_fresh_enough sys.settings.policy s.workers s.rounds i in
    let due = not (snapshot_is_due sys s) in
    let marked = not (is_unmarked s i && tagged_batch_waits s i) in
    let row = (and_parts (is_worker s i) (may_take sys s i lane) (and_parts (not (has_ended s.past)) (is_worker s i && may_take sys s i lane) a).1).1 in
    let first = (and_parts (free && ready && enough && due) marked row).0 in
    let second = (and_parts (free && ready && enough) due first).0 in
    let third = (and_parts (free && ready) enough second).0 in
    let is_ready = (and_parts free ready third).1 in
    let l = slice_get_within t.desks i d here in
    let n = fits.count in
    busy_is sys s (counted_of h hub) h.counters i (omega (arith, l, n)) d (fits.fit i d here) ∙ busy_or (is_fresh w) (is_running w) (batch_waits w) (rests w) over is_ready

-- ---- how many are out

module _ (old new : HubValues) (e : Event) (t t' : Tables) (fits : TablesFit (machine old) (state_of old) old.counters t) (more : Appended old e new) (after : TablesFit (machine new) (state_of new) old.counters t') where
  out_before : works_out (workers_of old) ≡ count_by is_out t.desks
  out_before = sym (out_is (machine old) (state_of old) old.counters t fits)

  out_after : count_by is_out t'.desks ≡ works_out (state_after (machine old) (state_of old) e).workers
  out_after = out_is (machine new) (state_of new) old.counters t' after ∙ ap {B = ℕ} (λ (s : State). works_out s.workers) (state_grown old new e more)

  -- as many as before, where the event changes no worker
  pub as_many_out : (state_after (machine old) (state_of old) e).workers ≡ workers_of old → count_by is_out t'.desks ≡ count_by is_out t.desks
  as_many_out same = out_after ∙ (ap {B = ℕ} (λ (ws : BaseState). works_out ws) same ∙ out_before)

-- one more after a Take
pub one_more : (old new : HubValues) (t t' : Tables) (i lane : ℕ) (d : Desk) → IsHub old → TablesFit (machine old) (state_of old) old.counters t → slice_get t.desks i ≡ Some d → is_running (worker_at (workers_of old) i) ≡ false →
    Appended old (Take i lane) new → TablesFit (machine new) (state_of new) old.counters t' → count_by is_out t'.desks ≡ count_by is_out t.desks + 1
one_more old new t t' i lane d hub fits here idle more after =
    out_after old new (Take i lane) t t' fits more after ∙ (one_more_out old new t i lane d hub fits here idle more ∙ ap (λ n. n + 1) (out_before old new (Take i lane) t t' fits more after))

-- one less after a Give
pub one_less : (old new : HubValues) (t t' : Tables) (i : ℕ) → i < worker_count (state_of old) → is_running (worker_at (workers_of old) i) ≡ true → TablesFit (machine old) (state_of old) old.counters t →
    Appended old (Give i) new → TablesFit (machine new) (state_of new) old.counters t' → count_by is_out t'.desks + 1 ≡ count_by is_out t.desks
one_less old new t t' i inside runs fits more after =
    ap (λ n. n + 1) (out_after old new (Give i) t t' fits more after) ∙ (one_back (machine old) (workers_of old) i inside runs ∙ out_before old new (Give i) t t' fits more after)

-- whoever gives is out
pub some_out : (old : HubValues) (t : Tables) (i : ℕ) → i < worker_count (state_of old) → is_running (worker_at (workers_of old) i) ≡ true → TablesFit (machine old) (state_of old) old.counters t → 1 ≤ count_by is_out t.desks
some_out old t i inside runs fits =
    let back = one_back (machine old) (workers_of old) i inside runs in
    let out = out_is (machine old) (state_of old) old.counters t fits in
    omega (arith, back, out)
