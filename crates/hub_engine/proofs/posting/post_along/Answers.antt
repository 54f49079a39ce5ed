use Rattle.std.proofs.Common.{refl}
use Rattle.hub_engine.proofs.Mailing.{none_mailed, mailed_more, mailed_counts, mailed_mails, mailed_can_begin, leads_at, along_more}
use Rattle.hub_engine.proofs.posting.post_along.Goals as goal

pub row-init : goal.row-init
row-init c = none_mailed _ _ _ _ _ (λ j. refl)

pub post-requires-clause-lead : goal.post-requires-clause-lead
post-requires-clause-lead c =
    leads_at c.row.desks c.args.desks.now c.args.row.now c.row.route-index _ c.requires.lead c.row-test.true (mailed_counts _ _ _ _ _ _ _ _ c.row.invariant)

pub post-requires-clause-receive : goal.post-requires-clause-receive
post-requires-clause-receive c = mailed_can_begin c.args.sender _ _ _ _ _ _ _ c.row.invariant c.requires.few c.requires.receive

pub post-requires-clause-parts : goal.post-requires-clause-parts
post-requires-clause-parts c = mailed_mails c.args.sender _ _ _ _ _ _ _ c.row.invariant c.requires.parts

pub row-preserved : goal.row-preserved
row-preserved c =
    mailed_more c.args.sender _ _ _ _ _ _ _ _ _ _ _ _ c.row.invariant c.requires.few c.post.ensures.desks c.post.ensures.begun c.post.ensures.cut
    (λ k. along_more k c.args.value c.args.row.now c.row.route-index _ c.row-test.true)
