use Rattle.std.proofs.Common.{refl, ◌≤◌, ◌++◌, ◌∷◌, [], ap, subst, sym, ◌∙◌, arith}
use Rattle.grape_event.specs.JournalList.{JournalList}
use Rattle.grape_event.specs.Packing.{expand, IsLast}
use Rattle.grape_event.proofs.Repeats.{Pushed, lengthened, length-expand, last_of_push}
use Rattle.grape_event.proofs.journal.Journal.lengthen.Goals as goal

pushed : (c : goal.After-self-2-1) → Pushed c.self.inside.repeats.items c.one_more.new.repeats.items c.self.inside.starts.items c.self.inside.starts.items c.self.inside.places.items c.self.inside.places.items c.self.inside.wides.items c.self.inside.wides.items c.self.inside.count c.args.event
pushed c =
    let j = c.self.inside in
    lengthened j.repeats.items c.one_more.new.repeats.items j.starts.items j.places.items j.wides.items j.count j.last c.args.event c.self.invariant.0 c.self.invariant.1 (c.if-not-is_event.ensures refl) (c.one_more.ensures.more c.if-not-one_more.false)

pub invariant_of-self-2 : goal.invariant_of-self-2
invariant_of-self-2 c =
    let j = c.self.inside in
    let is = pushed c in
    let room = c.self.invariant.2 in
    let some : 1 ≤ c.self.inside.spare = subst (λ (v : JournalList). 1 ≤ v.spare) (sym c.self.view_is) c.requires in (
      is.are_repeats,
      subst (λ l. IsLast l (expand j.places.items j.wides.items 0 c.one_more.new.repeats.items)) (sym (c.if-not-is_event.ensures refl)) (last_of_push _ _ c.args.event is.events),
      record {
        counted = omega (arith, room.counted);
        repeats = omega (arith, room.repeats, c.one_more.ensures.len, c.one_more.ensures.capacity);
        starts = omega (arith, room.starts, c.one_more.ensures.len);
        places = omega (arith, room.places);
        wides = omega (arith, room.wides);
      },
    )

pub returns-clause-events : goal.returns-clause-events
returns-clause-events c = λ yes. (pushed c).events ∙ ap (λ (v : JournalList). v.events ++ c.args.event ∷ []) c.self.view_is

pub returns-clause-short : goal.returns-clause-short
returns-clause-short c = λ yes.
    let j = c.self.inside in
    let room = c.self.invariant.2 in
    let some : 1 ≤ c.self.inside.spare = subst (λ (v : JournalList). 1 ≤ v.spare) (sym c.self.view_is) c.requires in
    let long = length-expand j.places.items j.wides.items 0 c.one_more.new.repeats.items in
    let counted = (pushed c).are_repeats.counted in
    omega (arith, long, counted, room.counted)
