use Rattle.std.proofs.Common.{List, [], ◌∷◌, slice_index_or, sym, ap, ◌∙◌}
use Rattle.base_machine.specs.Machine.{Post}
use Rattle.hub_engine.specs.declared.desk.Desk.{Desk}
use Rattle.hub_engine.specs.Posting.{with_more, with_mail}
use Rattle.hub_engine.proofs.Mailing.{one_mailed, desk_is_there, can_begin}
use Rattle.hub_engine.proofs.posting.post.Goals as goal
use Rattle.hub_engine.proofs.posting.post.Goals.{then-not-begun-worker, else-not-begun-worker}

pub receive-requires : goal.receive-requires
receive-requires c =
    can_begin c.args.sender.place c.args.begun.now c.args.desks.now c.args.route.fragment c.index-desks-worker.result c.requires.receive (desk_is_there c.args.desks.now c.args.route c.requires.lead) c.if-not-begun-worker.true

pub returns-clause-desks : goal.returns-clause-desks
returns-clause-desks c =
    let posts : List Post = record { mirror = c.args.route.mirror; value = c.args.value } ∷ [] in
    let old : Desk = slice_index_or c.args.desks.now c.args.route.fragment c.index-desks-worker.result in
    one_mailed c.args.sender c.args.begun.now c.args.route c.args.value c.index-desks-worker.result c.args.desks.now (record c.if-not-begun-worker.desk { buffer = c.post.new.self })
    (desk_is_there c.args.desks.now c.args.route c.requires.lead)
    (ap (λ b. record c.if-not-begun-worker.desk { buffer = b }) c.post.ensures
    ∙ elim c.if-not-begun-worker.branch [
      | then-not-begun-worker w ↦ ap (with_more c.args.sender.tagged posts) (w.desk-is ∙ w.receive.ensures) ∙ ap (λ t. with_mail c.args.sender t posts old) (sym w.if-not-begun-worker.true)
      | else-not-begun-worker w ↦ ap (with_more c.args.sender.tagged posts) w.desk-is ∙ ap (λ t. with_mail c.args.sender t posts old) (sym w.if-not-begun-worker.false)
    ])
