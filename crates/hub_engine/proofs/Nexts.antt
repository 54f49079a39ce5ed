-- What a hub's next answers.
use Rattle.std.proofs.Common.{◌≡◌, ℕ, ◌<◌, ◌≤◌, Bool, true, false, not, ◌&&◌, ◌||◌, refl, sym, ◌∙◌, ap, subst, arith, Option, Some, None}
use Rattle.std.proofs.lemmas.Bool.{and_parts, ltb-true, false≢true}
use Rattle.grape_event.specs.declared.event.Event.{Event}
use Rattle.grape_event.specs.declared.event.Event.TheVariants.{Take}
use Rattle.grape_event.specs.Events.{is_take}
use Rattle.base_machine.specs.Machine.{Worker, Standing, worker_at, is_fresh, is_running, rests, batch_waits}
use Rattle.base_machine.specs.Machine.Standing.{Fresh, Running, Rest}
use Rattle.legal_journal.specs.Past.{has_ended}
use Rattle.legal_journal.specs.Delays.{delay_is_over}
use Rattle.legal_journal.specs.Legal.{worker_count, is_worker, is_admitted, row_admits, may_take}
use Rattle.legal_journal.proofs.Choosing.{lane_choices_are_exact}
use Rattle.legal_journal.proofs.Probes.{ready_to_take}
use Rattle.hub_engine.specs.declared.kind.Kind.{Kind}
use Rattle.hub_engine.specs.declared.kind.Kind.TheVariants as kind
use Rattle.hub_engine.specs.declared.work.Next.{Next}
use Rattle.hub_engine.specs.declared.work.Next.TheVariants.{Took, Did, Idle, Ended, NoMemory}
use Rattle.hub_engine.specs.HubValues.{HubValues}
use Rattle.hub_engine.specs.States.{machine, state_of, workers_of, IsHub}
use Rattle.hub_engine.specs.Choices.{MayChoose, IsChoice, event_of}
use Rattle.hub_engine.specs.Calls.{Appended, Chooses, TakesWorker, MayStretch, StretchesWorker, NotesEvent, ReadyWhereTook, IsWork}
use Rattle.hub_engine.specs.Desks.{has_taken}
use Rattle.hub_engine.proofs.Ready.{ready_after_take}

-- ---- what was found is admitted

-- the kind and the worker that were found
pub is_found : (h : HubValues) (lane i : ℕ) (k known : Kind) (found : Option (Kind × ℕ)) → found ≡ Some (known, i) → known ≡ k → IsChoice (machine h) (state_of h) lane found → IsChoice (machine h) (state_of h) lane (Some (k, i))
is_found h lane i k known found e q c = subst (IsChoice (machine h) (state_of h) lane) (e ∙ ap (λ x. Some (x, i)) q) c

module _ (h : HubValues) (lane : ℕ) where
  pub found_admitted : (k : Kind) (i : ℕ) (extra : ℕ → ℕ) → ((j : ℕ) → extra j ≤ 64) → IsChoice (machine h) (state_of h) lane (Some (k, i)) →
      is_admitted (machine h) (state_of h) (event_of (machine h) (state_of h) lane extra k i) ≡ true
  found_admitted k i extra small c = ((lane_choices_are_exact (machine h) (state_of h) lane extra small).0 (event_of (machine h) (state_of h) lane extra k i) (c extra small)).0

  -- an event that no pacer changes
  pub event_admitted : (k : Kind) (i : ℕ) → IsChoice (machine h) (state_of h) lane (Some (k, i)) → is_admitted (machine h) (state_of h) (event_of (machine h) (state_of h) lane (λ j. 0) k i) ≡ true
  event_admitted k i c = found_admitted k i (λ j. 0) (λ j. omega arith) c

  pub stretch_admitted : (i : ℕ) → IsChoice (machine h) (state_of h) lane (Some (kind.Stretch, i)) → MayStretch h i
  stretch_admitted i c extra small = found_admitted kind.Stretch i (λ j. extra) (λ j. small) c

-- who is ready isn't running
ready_idle : (w : Worker) (mail over : Bool) → (is_fresh w || ((rests w && mail) && over)) ≡ true → is_running w ≡ false
ready_idle w mail over h = go w.standing h
  where
    go : (st : Standing) → (elim st [ Fresh ↦ true | Running hand ↦ false | Rest ↦ false ] || ((elim st [ Fresh ↦ false | Running hand ↦ false | Rest ↦ true ] && mail) && over)) ≡ true →
        elim st [ Fresh ↦ false | Running hand ↦ true | Rest ↦ false ] ≡ false
    go Fresh h = refl
    go (Running hand) h = absurd (false≢true h)
    go Rest h = refl

module _ (h : HubValues) (lane i : ℕ) (found : IsChoice (machine h) (state_of h) lane (Some (kind.Take, i))) where
  row : row_admits (machine h) (state_of h) (Take i lane) ≡ true
  row = (and_parts (not (has_ended (state_of h).past)) (row_admits (machine h) (state_of h) (Take i lane)) (event_admitted h lane kind.Take i found)).1

  pub take_idle : is_running (worker_at (workers_of h) i) ≡ false
  take_idle = ready_idle (worker_at (workers_of h) i) (batch_waits (worker_at (workers_of h) i)) (delay_is_over (machine h).settings.policy (workers_of h) (state_of h).past i) (ready_to_take (machine h) (state_of h) i lane row)

  take_in_range : i < worker_count (state_of h)
  take_in_range = ltb-true i (worker_count (state_of h)) (and_parts (is_worker (state_of h) i) (may_take (machine h) (state_of h) i lane) row).0

  -- ---- what next answers

  pub take_chosen : (r : Next) (new : HubValues) → TakesWorker h i lane r new → Chooses h lane r new
  take_chosen (Took work) new t = (
    (λ j. 0, λ j. omega arith, found (λ j. 0) (λ j. omega arith) ∙ ap (λ k. Some (Take k lane)) (sym t.0)),
    subst (λ k. Appended h (Take k lane) new) (sym t.0) t.1,
    subst (λ k. IsWork new lane (not (has_taken k (state_of h).past)) work) (sym t.0) t.2,
  )
  take_chosen (Did e) new t = absurd t
  take_chosen Idle new t = absurd t
  take_chosen Ended new t = absurd t
  take_chosen NoMemory new t = t

  pub take_ready : IsHub h → (r : Next) (new : HubValues) → TakesWorker h i lane r new → ReadyWhereTook new r
  take_ready kept (Took work) new t =
      ready_after_take h new lane work kept (subst (λ k. Appended h (Take k lane) new) (sym t.0) t.1) (subst (λ k. k < worker_count (state_of h)) (sym t.0) take_in_range)
      (subst (λ k. is_running (worker_at (workers_of h) k) ≡ false) (sym t.0) take_idle) (subst (λ k. IsWork new lane (not (has_taken k (state_of h).past)) work) (sym t.0) t.2)
  take_ready kept (Did e) new t = absurd t
  take_ready kept Idle new t = absurd t
  take_ready kept Ended new t = absurd t
  take_ready kept NoMemory new t = tt

pub stretch_chosen : (h : HubValues) (lane i : ℕ) → IsChoice (machine h) (state_of h) lane (Some (kind.Stretch, i)) → (r : Next) (new : HubValues) → StretchesWorker h i r new → Chooses h lane r new
stretch_chosen h lane i found (Took work) new t = absurd t
stretch_chosen h lane i found (Did e) new t = ((λ j. t.0, λ j. t.1, found (λ j. t.0) (λ j. t.1) ∙ ap (λ x. Some x) (sym t.2)), ap is_take t.2, t.3)
stretch_chosen h lane i found Idle new t = absurd t
stretch_chosen h lane i found Ended new t = absurd t
stretch_chosen h lane i found NoMemory new t = t

-- an event other than a Take and a Stretch
pub did_chosen : (h : HubValues) (lane i : ℕ) (k : Kind) (event : Event) → event_of (machine h) (state_of h) lane (λ j. 0) k i ≡ event → is_take event ≡ false → IsChoice (machine h) (state_of h) lane (Some (k, i)) →
    (r : Next) (new : HubValues) → NotesEvent h event r new → Chooses h lane r new
did_chosen h lane i k event is other found (Took work) new t = absurd t
did_chosen h lane i k event is other found (Did e) new t = (
  (λ j. 0, λ j. omega arith, found (λ j. 0) (λ j. omega arith) ∙ ap (λ x. Some x) (is ∙ sym t.0)),
  ap is_take t.0 ∙ other,
  subst (λ x. Appended h x new) (sym t.0) t.1,
)
did_chosen h lane i k event is other found Idle new t = absurd t
did_chosen h lane i k event is other found Ended new t = absurd t
did_chosen h lane i k event is other found NoMemory new t = t

pub none_chosen : (h : HubValues) (lane : ℕ) → IsChoice (machine h) (state_of h) lane None → MayChoose (machine h) (state_of h) lane None
none_chosen h lane found = (λ j. 0, λ j. omega arith, found (λ j. 0) (λ j. omega arith))
