use Rattle.std.proofs.Common.{◌≡◌, length, ap, ◌∙◌, arith}
use Rattle.fragment_cut.specs.Halves.{HalfLists}
use Rattle.fragment_cut.specs.Routing.{mirror_row}
use Rattle.graph_core.specs.Fragments.{mirrors_of}
use Rattle.fragment_cut.proofs.Placing.{few_mirrors}
use Rattle.fragment_cut.proofs.RouteTables.{half_at, halves_len, mirror_rows_more}
use Rattle.fragment_cut.proofs.routing.mirror_rows.Goals as goal

pub bounds-halves-fragment : goal.bounds-halves-fragment
bounds-halves-fragment c = omega (arith, halves_len c.args.job.now c.args.halves.now c.requires.halves)

pub read_mirrors-requires : goal.read_mirrors-requires
read_mirrors-requires c =
    let e = half_at c.args.job.now c.args.halves.now c.loop-fragment.fragment c.index-halves-fragment.result c.requires.halves c.loop-fragment-test.true c.index-halves-fragment.is in
    let n = ap length (c.mirrors.ensures ∙ ap (λ (h : HalfLists). h.mirrors) e) in
    omega (arith, n, few_mirrors c.args.job.now c.requires.job c.loop-fragment.fragment c.loop-fragment-test.true)

pub loop-fragment-preserved : goal.loop-fragment-preserved
loop-fragment-preserved c =
    let e = half_at c.args.job.now c.args.halves.now c.loop-fragment.fragment c.index-halves-fragment.result c.requires.halves c.loop-fragment-test.true c.index-halves-fragment.is in
    let row : c.deref.result.now ≡ mirror_row (mirrors_of c.args.job.now c.loop-fragment.fragment) = c.deref.ensures.value ∙ c.in_ok-read_mirrors.ensures ∙ ap mirror_row (c.mirrors.ensures ∙ ap (λ (h : HalfLists). h.mirrors) e) in
    mirror_rows_more c.args.job.now c.loop-fragment.fragment c.deref.result.now c.loop-fragment.rows c.push_row.new.self c.in_ok-push_row.ensures.ok row c.loop-fragment.invariant
