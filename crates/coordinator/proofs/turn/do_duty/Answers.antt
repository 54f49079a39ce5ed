use Rattle.std.proofs.Common.{◌≡◌, ℕ, ◌+◌, ◌%◌, Bool, Err, inl, inr, refl, sym, ◌∙◌, ap, subst, arith, length}
use Rattle.grape_event.specs.declared.event.Event.TheVariants.{Seal, Kept, Stop}
use Rattle.grape_event.specs.declared.event.StopCause.{StopCause}
use Rattle.token_cut.specs.Parts.{SnapshotParts}
use Rattle.token_cut.specs.Shapes.{Starts, IsShape}
use Rattle.token_cut.specs.Form.{IsInSlotForm}
use Rattle.hub_engine.specs.declared.work.Duty.{Duty}
use Rattle.hub_engine.specs.declared.work.Duty.TheVariants.{Sealed}
use Rattle.hub_engine.specs.HubValues.{HubValues}
use Rattle.hub_engine.specs.States.{machine, state_of}
use Rattle.hub_engine.specs.Calls.{ChoosesDuty, WritesSealed}
use Rattle.grape_hub.specs.Theorems.{IsCalm}
use Rattle.coordinator.specs.Shapes.{shape_of}
use Rattle.coordinator.specs.Turns.{HasNoDuty}
use Rattle.coordinator.specs.Keeping.{cuts_in, IsSealedNext, SealsMayBeKept, IsGoing, KeepsOn, TurnLeaves, TurnKeeps}
use Rattle.coordinator.specs.declared.keeper.Keeper.{Keeper}
use Rattle.coordinator.proofs.Places.{in_limits}
use Rattle.coordinator.proofs.Sizing.{slot_sizes}
use Rattle.coordinator.proofs.Turns.{duty_done, stopped_unchanged, memory_stays}
use Rattle.coordinator.proofs.Going.{keeper_same, going_stays, over_stays, keeps_stays, comes_stays, sealed_keeps, sealed_comes, asks, has_last, appended_after, going_sealed, over_sealed, only_so, cuts_after}
use Rattle.lane_loop.proofs.Steps.{stops_after}
use Rattle.coordinator.proofs.turn.do_duty.Goals as goal

-- what duty did, and the snapshot that it sealed
record IsSealed (old sealed : HubValues) (epoch : ℕ) (s : SnapshotParts) : Type 0 where
  chosen : ChoosesDuty old (Sealed epoch) sealed
  next : IsSealedNext old sealed epoch s

sealed_at : SealsMayBeKept → (old sealed : HubValues) (epoch : ℕ) (before s : SnapshotParts) (r : Duty) → r ≡ Sealed epoch → Rattle.hub_engine.specs.States.IsHub old → ChoosesDuty old r sealed → Rattle.hub_engine.specs.States.IsHub sealed → WritesSealed r sealed before s → IsSealed old sealed epoch s
sealed_at may old sealed epoch before s r is hub chose hub-2 wrote =
    let chosen = subst (λ (q : Duty). ChoosesDuty old q sealed) is chose in
    record { chosen = chosen; next = may old sealed epoch s hub chosen.1 hub-2 (subst (λ (q : Duty). WritesSealed q sealed before s) is wrote) }

pub put-requires-clause-shape : goal.put-requires-clause-shape
put-requires-clause-shape g c = subst (λ (s : Starts). IsShape s) (sym c.requires.shape) (in_limits c.args.hub.now.hub.job c.requires.hub.0.job)

pub put-requires-clause-next : goal.put-requires-clause-next
put-requires-clause-next g c =
    let old = c.args.hub.now.hub in
    let at = sealed_at c.seals_may_be_kept.ensures old c.duty.new.self.hub c.in-Sealed.epoch c.args.keeper.now.into c.duty.new.into c.duty.result c.in-Sealed.is c.requires.hub.0 c.duty.ensures.chosen c.duty.ensures.hub.0 c.duty.ensures.written in
    let asked = asks c.nothing_is_sealed.ensures old c.in-Sealed.epoch c.requires.hub.0 at.chosen.0 in
    let last = (has_last (old.start.epoch + length (cuts_in old)) c.args.keeper.now.store (c.requires.going.kept.store asked)).1 in
    let named = at.next.named in
    let turn = at.next.next in
    omega (arith, last, named, turn)

pub put-requires-clause-form : goal.put-requires-clause-form
put-requires-clause-form g c =
    let old = c.args.hub.now.hub in
    let s = c.duty.new.into in
    let at = sealed_at c.seals_may_be_kept.ensures old c.duty.new.self.hub c.in-Sealed.epoch c.args.keeper.now.into s c.duty.result c.in-Sealed.is c.requires.hub.0 c.duty.ensures.chosen c.duty.ensures.hub.0 c.duty.ensures.written in
    subst (λ (shape : Starts). IsInSlotForm shape (s.epoch % 2) s) (sym c.requires.shape) (subst (λ (n : ℕ). IsInSlotForm (shape_of old.job) (n % 2) s) (sym at.next.named) at.next.form)

pub kept-requires : goal.kept-requires
kept-requires g c =
    (sealed_at c.seals_may_be_kept.ensures c.args.hub.now.hub c.duty.new.self.hub c.in-Sealed.epoch c.args.keeper.now.into c.duty.new.into c.duty.result c.in-Sealed.is c.requires.hub.0 c.duty.ensures.chosen c.duty.ensures.hub.0 c.duty.ensures.written).next.waits

-- ---- an event

pub returns-in-Did-clause-calm : goal.returns-in-Did-clause-calm
returns-in-Did-clause-calm g c =
    let old = c.args.hub.now.hub in
    let new = c.duty.new.self.hub in
    (duty_done c.choices_are_exact.ensures.duty c.turns_are_calm.ensures.other old new c.in-Did.field-0 c.requires.hub.0 c.requires.calm (subst (λ (r : Duty). ChoosesDuty old r new) c.in-Did.is c.duty.ensures.chosen) c.duty.ensures.hub.0).calm

pub returns-in-Did-clause-leaves : goal.returns-in-Did-clause-leaves
returns-in-Did-clause-leaves g c =
    let old = c.args.hub.now.hub in
    let new = c.duty.new.self.hub in
    let keeper = c.args.keeper.now in
    let done = duty_done c.choices_are_exact.ensures.duty c.turns_are_calm.ensures.other old new c.in-Did.field-0 c.requires.hub.0 c.requires.calm (subst (λ (r : Duty). ChoosesDuty old r new) c.in-Did.is c.duty.ensures.chosen) c.duty.ensures.hub.0 in
    let wrote = subst (λ (r : Duty). WritesSealed r new keeper.into c.duty.new.into) c.in-Did.is c.duty.ensures.written in
    (subst (λ (k : Keeper). IsGoing new k) (sym (keeper_same keeper c.duty.new.into wrote)) (going_stays old new keeper done.stays done.disk c.requires.going), refl)

pub returns-in-Did-clause-crash : goal.returns-in-Did-clause-crash
returns-in-Did-clause-crash g c honest =
    let old = c.args.hub.now.hub in
    let new = c.duty.new.self.hub in
    let keeper = c.args.keeper.now in
    let disk = c.args.disk.now in
    let D = g.D.Disk in
    let done = duty_done c.choices_are_exact.ensures.duty c.turns_are_calm.ensures.other old new c.in-Did.field-0 c.requires.hub.0 c.requires.calm (subst (λ (r : Duty). ChoosesDuty old r new) c.in-Did.is c.duty.ensures.chosen) c.duty.ensures.hub.0 in
    let wrote = subst (λ (r : Duty). WritesSealed r new keeper.into c.duty.new.into) c.in-Did.is c.duty.ensures.written in
    subst (λ (k : Keeper). KeepsOn D.content D.images D.moment old.job (cuts_in old) keeper disk (cuts_in new) k disk) (sym (keeper_same keeper c.duty.new.into wrote))
    (keeps_stays D.content D.images D.moment old.job (cuts_in old) (cuts_in new) keeper disk done.stays.cuts)

-- ---- a Seal whose snapshot was put

pub returns-in-Ok-clause-calm : goal.returns-in-Ok-clause-calm
returns-in-Ok-clause-calm g c =
    let old = c.args.hub.now.hub in
    let sealed = c.duty.new.self.hub in
    let epoch = c.in-Sealed.epoch in
    let chosen = subst (λ (r : Duty). ChoosesDuty old r sealed) c.in-Sealed.is c.duty.ensures.chosen in
    let after = appended_after old sealed c.kept.new.self.hub (Seal epoch) (Kept epoch) chosen.1 refl c.kept.ensures.kept in
    c.turns_are_calm.ensures.other sealed c.kept.new.self.hub (Kept epoch) c.duty.ensures.hub.0 (c.turns_are_calm.ensures.other old sealed (Seal epoch) c.requires.hub.0 c.requires.calm refl chosen.1 c.duty.ensures.hub.0) refl after c.kept.ensures.hub.0

pub returns-in-Ok-clause-none : goal.returns-in-Ok-clause-none
returns-in-Ok-clause-none g c =
    let old = c.args.hub.now.hub in
    let sealed = c.duty.new.self.hub in
    let epoch = c.in-Sealed.epoch in
    let chosen = subst (λ (r : Duty). ChoosesDuty old r sealed) c.in-Sealed.is c.duty.ensures.chosen in
    inr (inl (epoch, sealed, chosen, appended_after old sealed c.kept.new.self.hub (Seal epoch) (Kept epoch) chosen.1 refl c.kept.ensures.kept))

pub returns-in-Ok-clause-leaves : goal.returns-in-Ok-clause-leaves
returns-in-Ok-clause-leaves g c =
    let old = c.args.hub.now.hub in
    let sealed = c.duty.new.self.hub in
    let epoch = c.in-Sealed.epoch in
    let s = c.duty.new.into in
    let at = sealed_at c.seals_may_be_kept.ensures old sealed epoch c.args.keeper.now.into s c.duty.result c.in-Sealed.is c.requires.hub.0 c.duty.ensures.chosen c.duty.ensures.hub.0 c.duty.ensures.written in
    let after = appended_after old sealed c.kept.new.self.hub (Seal epoch) (Kept epoch) at.chosen.1 refl c.kept.ensures.kept in (
      going_sealed old sealed c.kept.new.self.hub epoch s c.args.keeper.now c.put.new.self c.requires.going at.chosen.1 at.next after (slot_sizes old.job (epoch % 2) s at.next.form) c.in-Ok.ensures.noted c.in-Ok.ensures.last c.put.ensures.same.1,
      c.in-Ok.ensures.no_fault,
    )

pub returns-in-Ok-clause-crash : goal.returns-in-Ok-clause-crash
returns-in-Ok-clause-crash g c honest =
    let old = c.args.hub.now.hub in
    let sealed = c.duty.new.self.hub in
    let new = c.kept.new.self.hub in
    let epoch = c.in-Sealed.epoch in
    let s = c.duty.new.into in
    let D = g.D.Disk in
    let at = sealed_at c.seals_may_be_kept.ensures old sealed epoch c.args.keeper.now.into s c.duty.result c.in-Sealed.is c.requires.hub.0 c.duty.ensures.chosen c.duty.ensures.hub.0 c.duty.ensures.written in
    let after = appended_after old sealed new (Seal epoch) (Kept epoch) at.chosen.1 refl c.kept.ensures.kept in
    sealed_keeps D.content D.images D.moment old.job c.args.shape.now (cuts_in old) (cuts_in new) c.args.keeper.now c.put.new.self s c.args.disk.now c.put.new.disk c.requires.shape (cuts_after sealed new (Kept epoch) after refl ∙ at.next.cuts)
    (has_last s.epoch c.put.new.self.store c.in-Ok.ensures.last).1 (c.in-Ok.ensures.one honest)

-- ---- a Seal whose snapshot couldn't be put

pub returns-in-Err-clause-calm : goal.returns-in-Err-clause-calm
returns-in-Err-clause-calm g c =
    let old = c.args.hub.now.hub in
    let sealed = c.duty.new.self.hub in
    let epoch = c.in-Sealed.epoch in
    let chosen = subst (λ (r : Duty). ChoosesDuty old r sealed) c.in-Sealed.is c.duty.ensures.chosen in
    let after = appended_after old sealed c.stop.new.self.hub (Seal epoch) (Stop c.in-Err.cause) chosen.1 refl c.stop.ensures.stopped in
    c.turns_are_calm.ensures.other sealed c.stop.new.self.hub (Stop c.in-Err.cause) c.duty.ensures.hub.0 (c.turns_are_calm.ensures.other old sealed (Seal epoch) c.requires.hub.0 c.requires.calm refl chosen.1 c.duty.ensures.hub.0) refl after c.stop.ensures.hub.0

pub returns-in-Err-clause-none : goal.returns-in-Err-clause-none
returns-in-Err-clause-none g c =
    let old = c.args.hub.now.hub in
    let sealed = c.duty.new.self.hub in
    let epoch = c.in-Sealed.epoch in
    let chosen = subst (λ (r : Duty). ChoosesDuty old r sealed) c.in-Sealed.is c.duty.ensures.chosen in
    inr (epoch, c.in-Err.cause, sealed, chosen, appended_after old sealed c.stop.new.self.hub (Seal epoch) (Stop c.in-Err.cause) chosen.1 refl c.stop.ensures.stopped)

pub returns-in-Err-clause-leaves : goal.returns-in-Err-clause-leaves
returns-in-Err-clause-leaves g c =
    let old = c.args.hub.now.hub in
    let sealed = c.duty.new.self.hub in
    let new = c.stop.new.self.hub in
    let epoch = c.in-Sealed.epoch in
    let s = c.duty.new.into in
    let cause = c.in-Err.cause in
    let D = g.D.Disk in
    let at = sealed_at c.seals_may_be_kept.ensures old sealed epoch c.args.keeper.now.into s c.duty.result c.in-Sealed.is c.requires.hub.0 c.duty.ensures.chosen c.duty.ensures.hub.0 c.duty.ensures.written in
    let after = appended_after old sealed new (Seal epoch) (Stop cause) at.chosen.1 refl c.stop.ensures.stopped in
    let before = D.faults c.args.disk.now in
    let now = D.faults c.put.new.disk in (
      over_sealed c.kepts_follow_seals.ensures.kept old sealed new epoch cause s c.args.keeper.now c.put.new.self.kept.items before now c.stop.ensures.hub.0 c.requires.going at.next after c.in-Err.ensures.not_noted (λ is. c.in-Err.ensures.disk_fault (ap (λ (e : StopCause). Err e) is)),
      only_so sealed new cause before now after (λ is. ap (λ (d : _). D.faults d) (c.in-Err.ensures.no_memory (ap (λ (e : StopCause). Err e) is))),
    )

pub returns-in-Err-clause-crash : goal.returns-in-Err-clause-crash
returns-in-Err-clause-crash g c honest =
    let old = c.args.hub.now.hub in
    let sealed = c.duty.new.self.hub in
    let new = c.stop.new.self.hub in
    let epoch = c.in-Sealed.epoch in
    let s = c.duty.new.into in
    let cause = c.in-Err.cause in
    let D = g.D.Disk in
    let at = sealed_at c.seals_may_be_kept.ensures old sealed epoch c.args.keeper.now.into s c.duty.result c.in-Sealed.is c.requires.hub.0 c.duty.ensures.chosen c.duty.ensures.hub.0 c.duty.ensures.written in
    let after = appended_after old sealed new (Seal epoch) (Stop cause) at.chosen.1 refl c.stop.ensures.stopped in
    sealed_comes D.content D.images D.moment old.job c.args.shape.now (cuts_in old) (cuts_in new) c.args.keeper.now c.put.new.self.kept.items s c.args.disk.now c.put.new.disk c.requires.shape (cuts_after sealed new (Stop cause) after refl ∙ at.next.cuts)
    (c.in-Err.ensures.crash honest)

-- ---- no duty, and the end

pub returns-in-Nothing-clause-calm : goal.returns-in-Nothing-clause-calm
returns-in-Nothing-clause-calm g c =
    let chosen = subst (λ (r : Duty). ChoosesDuty c.args.hub.now.hub r c.duty.new.self.hub) c.in-Nothing.is c.duty.ensures.chosen in
    subst (λ (h : HubValues). IsCalm h) (sym chosen.1) c.requires.calm

pub returns-in-Nothing-clause-none : goal.returns-in-Nothing-clause-none
returns-in-Nothing-clause-none g c =
    let chosen = subst (λ (r : Duty). ChoosesDuty c.args.hub.now.hub r c.duty.new.self.hub) c.in-Nothing.is c.duty.ensures.chosen in
    let wrote = subst (λ (r : Duty). WritesSealed r c.duty.new.self.hub c.args.keeper.now.into c.duty.new.into) c.in-Nothing.is c.duty.ensures.written in
    (chosen.1, keeper_same c.args.keeper.now c.duty.new.into wrote, refl {a = c.args.disk.now}, subst (λ (h : HubValues). HasNoDuty h) (sym chosen.1) (chosen.2, c.requires.going.unsealed, chosen.0))

pub returns-in-Ended-clause-calm : goal.returns-in-Ended-clause-calm
returns-in-Ended-clause-calm g c =
    let chosen = subst (λ (r : Duty). ChoosesDuty c.args.hub.now.hub r c.duty.new.self.hub) c.in-Ended.is c.duty.ensures.chosen in
    subst (λ (h : HubValues). IsCalm h) (sym chosen.0) c.requires.calm

pub returns-in-Ended-clause-crash : goal.returns-in-Ended-clause-crash
returns-in-Ended-clause-crash g c honest =
    let chosen = subst (λ (r : Duty). ChoosesDuty c.args.hub.now.hub r c.duty.new.self.hub) c.in-Ended.is c.duty.ensures.chosen in
    let D = g.D.Disk in
    comes_stays D.content D.images D.moment c.args.hub.now.hub.job (cuts_in c.args.hub.now.hub) (cuts_in c.duty.new.self.hub) c.args.keeper.now c.args.disk.now (ap (λ (h : HubValues). cuts_in h) chosen.0)

-- ---- no memory

pub returns-in-NoMemory-clause-calm : goal.returns-in-NoMemory-clause-calm
returns-in-NoMemory-clause-calm g c =
    let same = subst (λ (r : Duty). ChoosesDuty c.args.hub.now.hub r c.duty.new.self.hub) c.in-NoMemory.is c.duty.ensures.chosen in
    (stopped_unchanged c.turns_are_calm.ensures.other c.args.hub.now.hub c.duty.new.self.hub c.give_up.new.hub.hub c.requires.calm same c.duty.ensures.hub.0 c.give_up.ensures.stopped c.give_up.ensures.hub.0).calm

pub returns-in-NoMemory-clause-leaves : goal.returns-in-NoMemory-clause-leaves
returns-in-NoMemory-clause-leaves g c =
    let old = c.args.hub.now.hub in
    let new = c.give_up.new.hub.hub in
    let keeper = c.args.keeper.now in
    let same = subst (λ (r : Duty). ChoosesDuty old r c.duty.new.self.hub) c.in-NoMemory.is c.duty.ensures.chosen in
    let stayed = memory_stays old new c.requires.going.disk (stops_after old c.duty.new.self.hub new same c.give_up.ensures.stopped) in
    let D = g.D.Disk in
    let faults = D.faults c.args.disk.now in
    subst (λ (b : Bool). TurnLeaves b new (record { store = keeper.store; kept = keeper.kept; into = c.duty.new.into }) faults faults) (sym c.give_up.ensures.stays)
    (over_stays c.kepts_follow_seals.ensures.kept old new keeper faults c.give_up.ensures.hub.0 stayed.0 stayed.1 c.requires.going, inr refl)

pub returns-in-NoMemory-clause-crash : goal.returns-in-NoMemory-clause-crash
returns-in-NoMemory-clause-crash g c honest =
    let old = c.args.hub.now.hub in
    let new = c.give_up.new.hub.hub in
    let keeper = c.args.keeper.now in
    let same = subst (λ (r : Duty). ChoosesDuty old r c.duty.new.self.hub) c.in-NoMemory.is c.duty.ensures.chosen in
    let stayed = memory_stays old new c.requires.going.disk (stops_after old c.duty.new.self.hub new same c.give_up.ensures.stopped) in
    let D = g.D.Disk in
    let disk = c.args.disk.now in
    subst (λ (b : Bool). TurnKeeps D.content D.images D.moment b old keeper disk new (record { store = keeper.store; kept = keeper.kept; into = c.duty.new.into }) disk) (sym c.give_up.ensures.stays)
    (comes_stays D.content D.images D.moment old.job (cuts_in old) (cuts_in new) keeper disk stayed.0.cuts)
