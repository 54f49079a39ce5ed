use Rattle.std.proofs.Common.{rules, ◌≡◌, ◌<◌, subst, sym, ap, ◌∙◌, refl, arith, List, Option, length, take, drop, ◌++◌, slice_index_or}
use Rattle.noted_lock.specs.declared.seat.LockSeat.{LockSeat}
use Rattle.noted_lock.specs.Sights.{lock_id}
use Rattle.coordinator.specs.Seats.{HoldsSeat}
use Rattle.coordinator.proofs.Seating.{refilled}
use Rattle.coordinator.proofs.lanes.run_others.Goals as goal

pub for_each_mut-requires-clause-accepts : goal.for_each_mut-requires-clause-accepts
for_each_mut-requires-clause-accepts g c κs outlive i p l e =
    let same = c.deref_mut.ensures.value in
    let there : i < length c.args.slots.now.items = subst (λ (os : List (Option LockSeat)). i < length os) same l in
    let at = e ∙ ap (λ (os : List (Option LockSeat)). slice_index_or os i p.now) same in (
      (let count = c.requires.count in omega (arith, there, count)),
      refl,
      (λ lane n. subst (λ (o : Option LockSeat). HoldsSeat (lock_id c.args.lock.now) c.args.job.now lane o) (sym at) (c.requires.slots i p.now there lane n)),
      c.requires.fragments,
      c.requires.program,
    )

pub returns-clause-slots : goal.returns-clause-slots
returns-clause-slots g c place d l lane n =
    let new = c.for_each_mut.new.s in
    let long : length new ≡ c.args.slots.now.len = search rules in
    let same : take c.args.slots.now.len (new ++ drop (length new) c.args.slots.now.items) ≡ new = refilled c.args.slots.now.len new (drop (length new) c.args.slots.now.items) long in
    let whole : length new ≡ length c.args.slots.now.items = search rules in
    let here : place < length new = subst (λ (os : List (Option LockSeat)). place < length os) same l in
    let there : place < length c.deref_mut.result.now = subst (λ (os : List (Option LockSeat)). place < length os) (sym c.deref_mut.ensures.value) (omega (arith, here, whole)) in
    let r = (c.for_each_mut.ensures place d there).1 in
    subst (λ (o : Option LockSeat). HoldsSeat (lock_id c.args.lock.now) c.args.job.now lane o) (r.left ∙ ap (λ (os : List (Option LockSeat)). slice_index_or os place d) (sym same)) (r.call lane n)
