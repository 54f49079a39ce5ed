use Rattle.std.proofs.Common.{◌∙◌, ap, set, sym}
use Rattle.std.proofs.lemmas.List.Edits.{map_over_more}
use Rattle.hub_engine.specs.declared.desk.Desk.{Desk}
use Rattle.hub_engine.specs.Desks.{folded_desk}
use Rattle.hub_engine.proofs.desk.fold_mail.Goals as goal

pub desks-preserved : goal.desks-preserved
desks-preserved c =
    let is = c.desk-item.is in
    ap (λ (d : Desk). set c.desks.desks c.desks.desk-index d) c.fold.ensures
    ∙ (ap (λ (d : Desk). set c.desks.desks c.desks.desk-index (folded_desk d)) (sym is)
    ∙ map_over_more folded_desk c.args.desks.now c.desks.desks c.desks.desk-index c.desk-item.result c.desks-test.true c.desks.invariant is)
