use Rattle.std.proofs.Common.{◌≡◌, ◌+◌, refl, length, Some, slice_get, sym, ◌∙◌, subst}
use Rattle.std.proofs.lemmas.Option.{slice_get_read}
use Rattle.hub_engine.proofs.Searching.{IsLeastBefore, least_of_none, least_of_all, least_stays, least_falls}
use Rattle.hub_engine.proofs.choice.least_round.Goals as goal
use Rattle.hub_engine.proofs.choice.least_round.Goals.{then-is_busy, else-is_busy}

pub desks-init : goal.desks-init
desks-init c = least_of_none c.args.desks.now

pub desks-preserved : goal.desks-preserved
desks-preserved c =
    let desks = c.args.desks.now in
    let n = c.desks.desk-index in
    let here : slice_get desks n ≡ Some c.desk-item.result = slice_get_read desks (length desks) n c.desk-item.result refl c.desks-test.true c.desk-item.is in
    elim c.if-is_busy.branch [
      | then-is_busy w ↦
          subst (IsLeastBefore desks (n + 1)) (sym (w.least-is ∙ w.lesser-least.ensures)) (least_falls desks n c.desks.least c.desk-item.result here (sym c.is_busy.ensures ∙ w.if-is_busy.true) c.desks.invariant)
      | else-is_busy w ↦ subst (IsLeastBefore desks (n + 1)) (sym w.least-is) (least_stays desks n c.desks.least c.desk-item.result here (sym c.is_busy.ensures ∙ w.if-is_busy.false) c.desks.invariant)
    ]

pub returns : goal.returns
returns c = least_of_all c.args.desks.now c.desks.desk-index c.desks.least c.desks-test.false c.desks.invariant
