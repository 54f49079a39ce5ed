use Rattle.std.proofs.Common.{◌≡◌, ◌+◌, ◌<◌, [], sym, ◌∙◌, ap, subst, arith, length, slice_index, slice_index_or, Contains}
use Rattle.std.proofs.lemmas.List.{get_or_default}
use Rattle.std.proofs.lemmas.List.Elements.{Contains-get_or}
use Rattle.graph_core.specs.declared.fragment.Reading.{Reading}
use Rattle.pie_core.specs.Locals.{LocalValues}
use Rattle.pie_lowering.specs.Lowering.{lowered_to}
use Rattle.pie_lowering.proofs.Steps.{LowersOne, lowers-one, fallen-trans, wait-trans, fallen-fits, hold-more}
use Rattle.pie_lowering.proofs.lowering.lower_readers.Goals as goal

pub row-preserved : goal.row-preserved
row-preserved g c =
    let part = c.args.part.now in
    let q = c.args.place in
    let old = c.row.local in
    let new = c.lower.new.local in
    let row = c.readers-reader-items.result.now in
    let k = c.row.reader-index in
    let so_far = c.row.invariant in
    let first : Reading = record { place = 0; weight = 0 } in
    let r : Reading = slice_index_or row k first in
    let value = slice_index c.values.result.now q in
    let inside : k < length row = c.row-test.true in
    let in_row : Contains (slice_index_or part.readers q []) r = subst (λ l. Contains l r) c.readers-reader-items.ensures.readers (Contains-get_or row k first inside) in
    let p_owned : r.place < length part.owned = c.readers-reader-items.ensures.in_range k first inside in
    let kept = fallen-fits g.C.Cost.cost_of part c.args.local.now old so_far.fallen c.requires.fits in
    let waiting = c.lower.ensures.local.known in
    let known : r.place < length old.waiting = let o = kept.owned in omega (arith, waiting, o, p_owned) in
    let step : LowersOne g.C.Cost.cost_of part old (lowered_to old r.place (slice_index old.values q + g.C.Cost.cost_of r.weight)) r.place q r.weight =
    lowers-one g.C.Cost.cost_of part old r.place q r.weight (fallen-fits g.C.Cost.cost_of part c.args.local.now old so_far.fallen c.requires.fits) in_row c.requires.place p_owned known in
    let offer : value + c.cost.result ≡ slice_index old.values q + g.C.Cost.cost_of r.weight = omega (arith, so_far.value, c.cost.ensures.exact) in
    let same : new ≡ lowered_to old r.place (slice_index old.values q + g.C.Cost.cost_of r.weight) = c.lower.ensures.lowered ∙ ap (λ n. lowered_to old r.place n) offer in
    let moved : LowersOne g.C.Cost.cost_of part old new r.place q r.weight = subst (λ (l : LocalValues). LowersOne g.C.Cost.cost_of part old l r.place q r.weight) (sym same) step in
    record {
      fallen = fallen-trans g.C.Cost.cost_of part c.args.local.now old new so_far.fallen moved.fallen;
      waits = wait-trans c.args.local.now old new so_far.waits moved.waits;
      value = moved.stays ∙ so_far.value;
      held = hold-more g.C.Cost.cost_of row old.values new.values value k r inside moved.fallen.below (get_or_default row k r first inside) (omega (arith, moved.at_most, so_far.value)) so_far.held;
    }
