use Rattle.std.proofs.Common.{◌≡◌, ◌≢◌, ◌+◌, ◌*◌, sym, ◌∙◌, ap, subst, arith, length, slice_index, refl}
use Rattle.pie_sim.specs.Counting.{counter_at}
use Rattle.pie_sim.proofs.Fallen.{AreBitsBefore, bits-none, bits-passed, bits-more, bits-all}
use Rattle.pie_sim.proofs.counting.counted_bits.Goals as goal
use Rattle.pie_sim.proofs.counting.counted_bits.Goals.{then-counters-first-ne0, else-counters-first-ne0}

pub nodes-init : goal.nodes-init
nodes-init c = bits-none c.args.nodes.now c.args.local.now.counters c.args.place

pub nodes-preserved : goal.nodes-preserved
nodes-preserved c =
    let nodes = c.args.nodes.now in
    let counters = c.args.local.now.counters in
    let place = c.args.place in
    let end = c.nodes.column in
    let here = slice_index c.counters.result.now (place * length nodes + end) in
    let same : here ≡ counter_at (length nodes) counters place end = ap (λ cs. slice_index cs (place * length nodes + end)) c.counters.ensures in
    elim c.if-counters-first-ne0.branch [
      | then-counters-first-ne0 w ↦
          let some : counter_at (length nodes) counters place end ≢ 0 = λ e. w.if-counters-first-ne0.true (same ∙ e) in
          subst (AreBitsBefore nodes counters place (end + 1)) (sym w.bits-is) (bits-more nodes counters place end c.nodes.bits c.nodes.invariant (slice_index nodes end) refl (c.requires.nodes end 0 c.nodes-test.true) some)
      | else-counters-first-ne0 w ↦
          let none : counter_at (length nodes) counters place end ≡ 0 = sym same ∙ w.if-counters-first-ne0.false in
          subst (AreBitsBefore nodes counters place (end + 1)) (sym w.bits-is) (bits-passed nodes counters place end c.nodes.bits c.nodes.invariant none)
    ]

pub returns : goal.returns
returns c =
    let nodes = c.args.nodes.now in
    let all : c.nodes.column ≡ length nodes = omega arith in
    bits-all nodes c.args.part.now c.args.local.now c.requires.counts c.requires.of_nodes c.args.place c.nodes.bits c.requires.place (subst (λ k. AreBitsBefore nodes c.args.local.now.counters c.args.place k c.nodes.bits) all c.nodes.invariant)
