use Rattle.std.proofs.Common.{◌≡◌, refl, ◌*◌, ◌-◌, ◌<◌, ◌≤◌, ℕ, length, drop, slice_get, slice_index, ap, subst, sym, ◌∙◌, arith}
use Rattle.std.specs.Prelude.{Some, Option}
use Rattle.grape_event.specs.declared.repeat.Repeat.{Repeat}
use Rattle.std.proofs.lemmas.Option.{slice_get_past}
use Rattle.std.proofs.lemmas.Grind.{get_or_default_zero}
use Rattle.std.proofs.Common.{List, get_or}
use Rattle.grape_event.specs.JournalList.{JournalList}
use Rattle.grape_event.specs.Packing.{IsFound, event_of}
use Rattle.grape_event.proofs.Repeats.{length-expand, found_at, none_at}
use Rattle.grape_event.proofs.journal.Journal.get.Goals as goal

-- the length of the list is the count
long : (c : goal.Then-place-self) → length c.args.self.now.events ≤ c.args.place
long c =
    let j = c.self.inside in
    subst (λ (v : JournalList). length v.events ≤ c.args.place) c.self.view_is (omega (arith, length-expand j.places.items j.wides.items 0 j.repeats.items, c.self.invariant.0.counted, c.if-place-self.true))

pub returns-then-place-self-clause-event : goal.returns-then-place-self-clause-event
returns-then-place-self-clause-event c = sym (slice_get_past c.args.self.now.events c.args.place (long c))

pub returns-then-place-self-clause-none : goal.returns-then-place-self-clause-none
returns-then-place-self-clause-none c = ((λ h. long c), λ h. refl)

-- the block that is read begins at or before the place, at its start
record Read (c_starts : List ℕ) (b start place : ℕ) : Type 0 where
  within : b < length c_starts
  start_is : start ≡ slice_index c_starts b
  at : slice_index c_starts b ≤ place

read_of : (starts slice : List ℕ) (b start place : ℕ) → slice ≡ starts → b < length slice → slice_index slice b ≤ place → start ≡ get_or starts b start → Read starts b start place
read_of starts slice b start place same within at start_is =
    let in_starts : b < length starts = subst (λ xs. b < length xs) same within in
    record { within = in_starts; start_is = start_is ∙ get_or_default_zero starts b start in_starts; at = subst (λ xs. slice_index xs b ≤ place) same at }

found_of : (repeats slice back : List Repeat) (b start from place : ℕ) (found : Option (Repeat × ℕ)) → slice ≡ repeats → back ≡ drop (64 * b) slice → start ≡ from → IsFound back (place - start) found → IsFound (drop (64 * b) repeats) (place - from) found
found_of repeats slice back b start from place found same cut at is =
    subst (λ n. IsFound (drop (64 * b) repeats) (place - n) found) at (subst (λ xs. IsFound (drop (64 * b) xs) (place - start) found) same (subst (λ xs. IsFound xs (place - start) found) cut is))

pub returns-in-Some-clause-event : goal.returns-in-Some-clause-event
returns-in-Some-clause-event c =
    let j = c.self.inside in
    let is = read_of c.self.inside.starts.items c.deref.result.now c.block_of-block.result c.index-start.result.now c.args.place c.deref.ensures.value c.block_of-block.ensures.within c.block_of-block.ensures.start c.index-start.ensures in
    let repeat = c.in-Some.repeat in
    let one : IsFound (drop (64 * c.block_of-block.result) j.repeats.items) (c.args.place - slice_index j.starts.items c.block_of-block.result) (Some (repeat, c.in-Some.rest)) =
    subst (λ r. IsFound (drop (64 * c.block_of-block.result) j.repeats.items) (c.args.place - slice_index j.starts.items c.block_of-block.result) r) c.in-Some.is (found_of c.self.inside.repeats.items c.deref-2.result.now c.split_at.result.1.now c.block_of-block.result c.index-start.result.now (slice_index c.self.inside.starts.items c.block_of-block.result) c.args.place c.find.result c.deref-2.ensures.value c.split_at.ensures.back is.start_is c.find.ensures) in
    let at = found_at j.repeats.items j.starts.items j.places.items j.wides.items j.count c.block_of-block.result c.args.place repeat c.in-Some.rest c.self.invariant.0 is.within is.at one in
    let same : c.event_at.result ≡ event_of j.places.items j.wides.items (c.args.place - c.in-Some.rest) repeat =
    c.event_at.ensures
    ∙ ap (λ xs. event_of xs c.deref-in-Some-2.result.now (c.args.place - c.in-Some.rest) repeat) c.deref-in-Some.ensures.value
    ∙ ap (λ xs. event_of j.places.items xs (c.args.place - c.in-Some.rest) repeat) c.deref-in-Some-2.ensures.value in
    ap Some same ∙ sym at ∙ ap (λ (v : JournalList). slice_get v.events c.args.place) c.self.view_is

pub returns-in-Some-clause-none : goal.returns-in-Some-clause-none
returns-in-Some-clause-none c =
    let j = c.self.inside in
    let long : length c.args.self.now.events ≡ j.count = ap (λ (v : JournalList). length v.events) (sym c.self.view_is) ∙ length-expand j.places.items j.wides.items 0 j.repeats.items ∙ sym c.self.invariant.0.counted in
    ((λ h. cc), λ h. absurd (omega (arith, c.if-place-self.false)))

-- a repeat is found below the count
nothing : (c : goal.In-None) → ⊥
nothing c =
    let j = c.self.inside in
    let is = read_of c.self.inside.starts.items c.deref.result.now c.block_of-block.result c.index-start.result.now c.args.place c.deref.ensures.value c.block_of-block.ensures.within c.block_of-block.ensures.start c.index-start.ensures in
    let none = subst (λ r. IsFound (drop (64 * c.block_of-block.result) j.repeats.items) (c.args.place - slice_index j.starts.items c.block_of-block.result) r) c.in-None.is (found_of c.self.inside.repeats.items c.deref-2.result.now c.split_at.result.1.now c.block_of-block.result c.index-start.result.now (slice_index c.self.inside.starts.items c.block_of-block.result) c.args.place c.find.result c.deref-2.ensures.value c.split_at.ensures.back is.start_is c.find.ensures) in
    let past = none_at j.repeats.items j.starts.items j.places.items j.wides.items j.count c.block_of-block.result c.args.place c.self.invariant.0 is.within is.at none in
    omega (arith, past, c.if-place-self.false)

pub returns-in-None-clause-event : goal.returns-in-None-clause-event
returns-in-None-clause-event c = absurd (nothing c)

pub returns-in-None-clause-none : goal.returns-in-None-clause-none
returns-in-None-clause-none c = absurd (nothing c)
