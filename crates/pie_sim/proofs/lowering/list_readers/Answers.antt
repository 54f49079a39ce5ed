use Rattle.std.proofs.Common.{◌≡◌, true, sym, ◌∙◌, ap, subst, arith, slice_index_or, inl, inr, ◌<◌, length}
use Rattle.std.proofs.lemmas.Bool.{cases_eq}
use Rattle.std.proofs.lemmas.List.{get_or_default, length-set}
use Rattle.graph_core.specs.declared.fragment.Reading.{Reading}
use Rattle.pie_core.specs.PlaceSets.{waits}
use Rattle.pie_core.specs.Locals.{LocalValues}
use Rattle.pie_sim.proofs.Steps.{waits_on, waits_new}
use Rattle.pie_sim.proofs.lowering.list_readers.Goals as goal

pub row-preserved : goal.row-preserved
row-preserved c =
    let old = c.row.local in
    let new = c.enqueue.new.self in
    let row = c.readers-reader-items.result.now in
    let k = c.row.reader-index in
    let first : Reading = record { place = 0; weight = 0 } in
    let r : Reading = slice_index_or row k first in
    let so_far = c.row.invariant in
    let waiting = ap (λ (l : LocalValues). l.waiting) c.enqueue.ensures.added in
    let place = c.readers-reader-items.ensures.in_range k first c.row-test.true in
    let inside : r.place < length old.waiting = omega (arith, place, so_far.known, c.requires.known, c.requires.owned) in
    record {
      rest = c.enqueue.ensures.added ∙ ap (λ ws. let x : LocalValues = record old { waiting = ws } in x) (sym waiting) ∙ ap (λ (l : LocalValues). let x : LocalValues = record l { waiting = new.waiting } in x) so_far.rest;
      on = λ q w. subst (λ ws. waits ws q ≡ true) (sym waiting) (waits_on old.waiting r.place q inside (so_far.on q w));
      so_far = λ j d l. elim (cases_eq j k) [
        | inl e ↦
            let here = subst (λ ws. waits ws r.place ≡ true) (sym waiting) (waits_new old.waiting r.place inside) in
            let same = ap (λ (x : Reading). x.place) (get_or_default row k first d c.row-test.true) in
            subst (λ i. waits new.waiting (slice_index_or row i d).place ≡ true) (sym e) (subst (λ p. waits new.waiting p ≡ true) same here)
        | inr other ↦ subst (λ ws. waits ws (slice_index_or row j d).place ≡ true) (sym waiting) (waits_on old.waiting r.place (slice_index_or row j d).place inside (so_far.so_far j d (omega (arith, l, other))))
      ];
      known = ap length waiting ∙ length-set old.waiting r.place true ∙ so_far.known;
    }
