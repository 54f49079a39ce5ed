use Rattle.std.proofs.Common.{◌≡◌, ◌*◌, ◌≤◌, ◌++◌, ◌∷◌, [], length, ap, subst, sym, ◌∙◌, arith}
use Rattle.std.specs.Prelude.{◌==◌, if◌then◌else◌}
use Rattle.grape_event.specs.JournalList.{JournalList}
use Rattle.grape_event.proofs.Repeats.{Pushed, begun, length-expand, last_of_push}
use Rattle.grape_event.proofs.journal.Journal.begin_repeat.Goals as goal

pushed : (c : goal.After-self-3-1) → Pushed c.self.inside.repeats.items c.push_reserved.new.self.items c.self.inside.starts.items c.open_block.new.starts.items c.self.inside.places.items c.keep_wide.new.places.items c.self.inside.wides.items c.keep_wide.new.wides.items c.self.inside.count c.args.event
pushed c =
    let j = c.self.inside in
    let repeats : c.len.result ≡ length j.repeats.items = c.len.ensures ∙ j.repeats.ok.0 in
    let starts : c.open_block.new.starts.items ≡ (if length j.repeats.items == 64 * length j.starts.items then j.starts.items ++ j.count ∷ [] else j.starts.items) =
    c.open_block.ensures.items
    ∙ ap (λ n. if n == 64 * j.starts.len then j.starts.items ++ j.count ∷ [] else j.starts.items) repeats
    ∙ ap (λ n. if length j.repeats.items == 64 * n then j.starts.items ++ j.count ∷ [] else j.starts.items) j.starts.ok.0 in
    begun j.repeats.items c.push_reserved.new.self.items j.starts.items c.open_block.new.starts.items j.places.items c.keep_wide.new.places.items j.wides.items c.keep_wide.new.wides.items j.count
    c.pack-packed.result c.args.event c.self.invariant.0 c.pack-packed.ensures (record { wide = c.keep_wide.ensures.wide; other = c.keep_wide.ensures.other }) c.push_reserved.ensures.items starts

pub invariant_of-self : goal.invariant_of-self
invariant_of-self c =
    let is = pushed c in
    let room = c.self.invariant.2 in
    let some : 1 ≤ c.self.inside.spare = subst (λ (v : JournalList). 1 ≤ v.spare) (sym c.self.view_is) c.requires in (
      is.are_repeats,
      last_of_push _ _ c.args.event is.events,
      record {
        counted = omega (arith, room.counted);
        repeats = omega (arith, room.repeats, c.push_reserved.ensures.len, c.push_reserved.ensures.capacity);
        starts = omega (arith, room.starts, c.push_reserved.ensures.len, c.open_block.ensures.capacity);
        places = omega (arith, room.places, c.keep_wide.ensures.lens, c.keep_wide.ensures.capacities);
        wides = omega (arith, room.wides, c.keep_wide.ensures.lens, c.keep_wide.ensures.capacities);
      },
    )

pub returns-clause-events : goal.returns-clause-events
returns-clause-events c = (pushed c).events ∙ ap (λ (v : JournalList). v.events ++ c.args.event ∷ []) c.self.view_is

pub returns-clause-short : goal.returns-clause-short
returns-clause-short c =
    let room = c.self.invariant.2 in
    let some : 1 ≤ c.self.inside.spare = subst (λ (v : JournalList). 1 ≤ v.spare) (sym c.self.view_is) c.requires in
    let long = length-expand c.keep_wide.new.places.items c.keep_wide.new.wides.items 0 c.push_reserved.new.self.items in
    let counted = (pushed c).are_repeats.counted in
    omega (arith, long, counted, room.counted)
