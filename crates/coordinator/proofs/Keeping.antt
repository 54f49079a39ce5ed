-- What a Seal leaves to be kept.
use Rattle.std.proofs.Common.{◌≡◌, ℕ, ◌+◌, ◌%◌, Bool, true, false, ◌==◌, if◌then◌else◌, sym, ◌∙◌, ap, subst, arith, List, [], ◌∷◌, ◌++◌, map, length, Option, Some, None}
use Rattle.std.specs.List.{Contains}
use Rattle.std.proofs.lemmas.List.{map-append, length-map}
use Rattle.std.proofs.lemmas.List.Elements.{Contains-push}
use Rattle.graph_core.specs.declared.job.Job.{Job}
use Rattle.grape_event.specs.declared.event.Event.{Event}
use Rattle.grape_event.specs.declared.event.Event.TheVariants.{Seal}
use Rattle.token_cut.specs.Parts.{SnapshotParts}
use Rattle.token_cut.specs.Form.{IsEpoch, IsInSlotForm}
use Rattle.base_machine.specs.Machine.{System, system_of}
use Rattle.legal_journal.specs.Legal.{State, start_state, state_after, IsLegal}
use Rattle.legal_journal.specs.Cuts.{sealed_from, sealed_snapshot, sealed_snapshots, FollowOn}
use Rattle.legal_journal.specs.Theorems.{EpochsFollow, SealsAdd}
use Rattle.hub_engine.specs.States.{machine, sealed_epoch}
use Rattle.hub_engine.proofs.Hubs.{state_grown}
use Rattle.grape_hub.specs.Theorems.{SealedMayBeResumed}
use Rattle.coordinator.specs.Shapes.{shape_of, FormsAgree}
use Rattle.coordinator.specs.Keeping.{cuts_in, last_sealed, SealsMayBeKept}

-- the snapshot that is found has the epoch by which it is found
named_from : (sys : System) (journal : List Event) (s : State) (epoch : ℕ) (x : SnapshotParts) → sealed_from sys s epoch journal ≡ Some x → x.epoch ≡ epoch
named_from sys [] s epoch x h = absurd (cc)
named_from sys (Seal d ∷ journal) s epoch x h = by_test (d == epoch) (λ g. named_from sys journal (state_after sys s (Seal d)) epoch x g) h
  where
    epoch_in : Option SnapshotParts → ℕ
    epoch_in None = epoch
    epoch_in (Some y) = y.epoch

    by_test : (b : Bool) → (sealed_from sys (state_after sys s (Seal d)) epoch journal ≡ Some x → x.epoch ≡ epoch)
        → (if b then Some (record { epoch = epoch; parts = s.recorded }) else sealed_from sys (state_after sys s (Seal d)) epoch journal) ≡ Some x → x.epoch ≡ epoch
    by_test true rest g = sym (ap epoch_in g)
    by_test false rest g = rest g
named_from sys (e ∷ journal) s epoch x h = named_from sys journal (state_after sys s e) epoch x h

-- the last of epochs that follow on
last_follows : (last e : ℕ) (epochs : List ℕ) → FollowOn last (epochs ++ e ∷ []) → e ≡ last + length epochs + 1
last_follows last e [] f = let one = f.0 in omega (arith, one)
last_follows last e (d ∷ epochs) f = let rest = last_follows d e epochs f.1 in let one = f.0 in omega (arith, rest, one)

-- where the list of a longer journal is one longer
last_epoch : (last : ℕ) (cuts more : List SnapshotParts) (x : SnapshotParts) → more ≡ cuts ++ x ∷ [] → FollowOn last (map (λ (s : SnapshotParts). s.epoch) more) → x.epoch ≡ last + length cuts + 1
last_epoch last cuts more x is f =
    let epochs = map (λ (s : SnapshotParts). s.epoch) cuts in
    let all : map (λ (s : SnapshotParts). s.epoch) more ≡ epochs ++ x.epoch ∷ [] = ap (λ (xs : List SnapshotParts). map (λ (s : SnapshotParts). s.epoch) xs) is ∙ map-append (λ (s : SnapshotParts). s.epoch) cuts (x ∷ []) in
    let end = last_follows last x.epoch epochs (subst (λ (es : List ℕ). FollowOn last es) all f) in
    let n : length epochs ≡ length cuts = length-map cuts (λ (s : SnapshotParts). s.epoch) in
    omega (arith, end, n)

pub seals_may_be_kept : EpochsFollow → SealsAdd → SealedMayBeResumed → FormsAgree → SealsMayBeKept
seals_may_be_kept follow add resume agree old new epoch snapshot hub more hub-2 is =
    let sys = machine old in
    let named = named_from (machine new) new.journal.events (start_state new.start) epoch snapshot is in
    let legal : IsLegal sys old.start (old.journal.events ++ Seal epoch ∷ []) =
    subst (λ (es : List Event). IsLegal sys old.start es) more.2 (subst (λ (start : SnapshotParts). IsLegal sys start new.journal.events) more.3 (subst (λ (job : Job). IsLegal (system_of job) new.start new.journal.events) more.0 hub-2.legal)) in
    let found : sealed_snapshot sys old.start epoch (old.journal.events ++ Seal epoch ∷ []) ≡ Some snapshot =
    (λ t. sealed_snapshot (system_of (sym more.0 t)) (sym more.3 t) epoch (sym more.2 t)) ∙ is in
    let grown = add sys old.start old.journal.events snapshot (subst (λ n. IsLegal sys old.start (old.journal.events ++ Seal n ∷ [])) (sym named) legal)
    (subst (λ n. sealed_snapshot sys old.start n (old.journal.events ++ Seal n ∷ []) ≡ Some snapshot) (sym named) found) in
    let same : cuts_in new ≡ sealed_snapshots sys old.start (old.journal.events ++ Seal epoch ∷ []) = λ t. sealed_snapshots (system_of (more.0 t)) (more.3 t) (more.2 t) in
    let cuts : cuts_in new ≡ cuts_in old ++ snapshot ∷ [] = same ∙ (ap (λ n. sealed_snapshots sys old.start (old.journal.events ++ Seal n ∷ [])) (sym named) ∙ grown) in
    let follows = subst (λ (start : SnapshotParts). FollowOn start.epoch (map (λ (s : SnapshotParts). s.epoch) (cuts_in new))) more.3 (follow (machine new) new.start new.journal.events hub-2.legal) in
    let next : snapshot.epoch ≡ last_sealed old + 1 = last_epoch old.start.epoch (cuts_in old) (cuts_in new) snapshot cuts follows in
    let sealed : Contains new.journal.events (Seal epoch) = subst (λ (es : List Event). Contains es (Seal epoch)) (sym more.2) (Contains-push old.journal.events (Seal epoch)) in
    let form = (resume new epoch snapshot hub-2 sealed is).0 in
    let is_epoch : IsEpoch (epoch % 2) snapshot.epoch = record { from = omega (arith, next); to = form.epoch; parity = ap (λ n. n % 2) named } in
    record {
      named = named;
      next = sym named ∙ next;
      form = subst (λ (job : Job). IsInSlotForm (shape_of job) (epoch % 2) snapshot) more.0 ((agree new.job hub-2.job (epoch % 2) snapshot).1 (is_epoch, form));
      cuts = cuts;
      waits = ap (λ (s : State). sealed_epoch s.past) (state_grown old new (Seal epoch) more);
    }
