use Rattle.std.proofs.Common.{◌≡◌, ◌+◌, sym, subst, arith, length, slice_index, slice_index_or}
use Rattle.std.proofs.lemmas.List.{get_or_default}
use Rattle.std.proofs.lemmas.List.Elements.{Contains-get_or}
use Rattle.graph_core.specs.declared.fragment.Reading.{Reading}
use Rattle.std.specs.Prelude.{min}
use Rattle.std.proofs.lemmas.Grind.{common_steps}
use Rattle.pie_dist.proofs.Readings.{LeastSoFar, least-first, least-more, least-all}
use Rattle.pie_dist.proofs.plain.least_at.Goals as goal

pub row-init : goal.row-init
row-init c = least-first c.readings-reading-items.result.now c.args.values.now c.args.place

pub row-preserved : goal.row-preserved
row-preserved c =
    let part = c.args.part.now in
    let values = c.args.values.now in
    let row = c.readings-reading-items.result.now in
    let k = c.row.reading-index in
    let first : Reading = record { place = 0; weight = 0 } in
    let r : Reading = slice_index_or row k first in
    let offer = slice_index values r.place + c.from.result in
    let weight : offer ≡ slice_index values r.place + r.weight = omega (arith, c.from.ensures) in
    let least : c.min-least.result ≡ min c.row.least offer = grind (arith, common_steps, c.min-least.ensures) in
    subst (λ n. LeastSoFar row values c.args.place n (k + 1)) (sym least)
    (least-more row values c.args.place c.row.least k offer r c.row-test.true (get_or_default row k r first c.row-test.true) (Contains-get_or row k first c.row-test.true) weight c.row.invariant)

pub returns : goal.returns
returns c =
    let row = c.readings-reading-items.result.now in
    let all : c.row.reading-index ≡ length row = omega (arith, c.row-test.false, c.row.auto.reading-index-end) in
    least-all c.args.part.now row c.args.values.now c.args.place c.row.least c.row.reading-index (sym c.readings-reading-items.ensures.readings) all c.row.invariant
