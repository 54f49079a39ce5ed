use Rattle.std.proofs.Common.{◌≡◌, length, ap, sym, ◌∙◌}
use Rattle.graph_core.specs.Parts.{FragmentLists}
use Rattle.graph_core.specs.Queries.{equations_of}
use Rattle.message_buffer.specs.HandValues.{HandValues}
use Rattle.message_buffer.specs.Hands.{lowered_hand}
use Rattle.pie_core.specs.Solutions.{IsReadyFor}
use Rattle.pie_core.proofs.Steps.{solved_is_ready_again}
use Rattle.pie_dist.specs.Worked.{two_ranges}
use Rattle.pie_dist.proofs.WorkedParts.{row_is_for, second_ready}
use Rattle.pie_dist.proofs.tests.evaluates_the_second_part.Goals as goal

pub peval-requires : goal.peval-requires
peval-requires g c = (two_ranges, row_is_for, second_ready c.in_ok-part.part c.in_ok-local.local c.load.new.self c.counters.result c.in_ok-part.ensures (c.counters.ensures two_ranges row_is_for) c.in_ok-local.ensures c.load.ensures)

pub inceval-requires : goal.inceval-requires
inceval-requires g c =
    let part = c.in_ok-part.part in
    let old = c.load.new.self in
    let ready : IsReadyFor (equations_of two_ranges) two_ranges part old 0 = second_ready part c.in_ok-local.local old c.counters.result c.in_ok-part.ensures (c.counters.ensures two_ranges row_is_for) c.in_ok-local.ensures c.load.ensures in
    let one : length c.lower.new.self.values ≡ 1 = ap (λ (h : HandValues). length h.values) (c.lower.ensures ∙ ap (λ h. lowered_hand h 0 5) c.in_ok-hand.ensures) in
    let mirrors = one ∙ sym (ap (λ (p : FragmentLists). length p.mirrors) c.in_ok-part.ensures) in
    (two_ranges, row_is_for, solved_is_ready_again (equations_of two_ranges) two_ranges part old c.peval.new.local 0 c.lower.new.self ready (c.peval.ensures.solution two_ranges row_is_for ready) c.peval.ensures.before c.peval.ensures.counters mirrors)
