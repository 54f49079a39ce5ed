use Rattle.std.proofs.Common.{◌≡◌, ◌<◌, ◌∙◌, ℕ, List, length, slice_index, refl, sym, ap, arith, subst, All}
use Rattle.graph_core.specs.declared.fragment.Route.{Route}
use Rattle.hub_engine.specs.Posting.{mirror_counts, AreBegun}
use Rattle.hub_engine.proofs.Mailing.{mail_begins, mailed_counts, mailed_mails, mailed_can_begin, can_receive, row_leads, row_mailed, row_left, mail_ends, late_ends}
use Rattle.hub_engine.proofs.posting.post_all.Goals as goal
use Rattle.hub_engine.proofs.posting.post_all.Goals.{then-before-place, else-before-place}

pub owned-init : goal.owned-init
owned-init c = mail_begins _ _ _ _ _ refl (λ j. refl)

pub post_along-requires-clause-lead : goal.post_along-requires-clause-lead
post_along-requires-clause-lead c =
    let n = ap (λ (l : List ℕ). length l) c.before-before.ensures in
    let r = c.requires.rows in
    let t = c.owned-test.true in
    subst (All (λ (r : Route). r.mirror < slice_index (mirror_counts c.owned.desks) r.fragment)) (sym c.row.ensures)
    (row_leads c.args.routes.now c.owned.desks c.args.desks.now c.owned.place c.requires.lead (omega (arith, n, r, t)) (mailed_counts _ _ _ _ _ _ _ _ c.owned.invariant))

pub post_along-requires-clause-receive : goal.post_along-requires-clause-receive
post_along-requires-clause-receive c = mailed_can_begin c.args.sender _ _ _ _ _ _ _ c.owned.invariant c.requires.few (can_receive c.args.sender.place c.args.desks.now c.requires.receive)

pub post_along-requires-clause-parts : goal.post_along-requires-clause-parts
post_along-requires-clause-parts c = mailed_mails c.args.sender _ _ _ _ _ _ _ c.owned.invariant c.requires.parts

pub owned-preserved : goal.owned-preserved
owned-preserved c =
    let old = c.args.local.now.before in
    let new = c.args.local.now.values in
    let p = c.owned.place in
    let b : slice_index c.before-before.result.now p ≡ slice_index old p = ap (λ (l : List ℕ). slice_index l p) c.before-before.ensures in
    let v : slice_index c.values-values.result.now p ≡ slice_index new p = ap (λ (l : List ℕ). slice_index l p) c.values-values.ensures.values in
    let n = ap (λ (l : List ℕ). length l) c.before-before.ensures in
    let t = c.owned-test.true in
    let l : p < length old = omega (arith, n, t) in
    elim c.if-before-place.branch [
      | then-before-place w ↦
          row_mailed c.args.sender old new c.args.routes.now p _ w.row.result.now c.args.desks.now c.owned.desks _ c.args.cut.now c.owned.cut _ c.owned.begun _ c.owned.invariant c.requires.few l c.requires.rows c.values-values.ensures.local.places v w.row.ensures
          (λ e. w.if-before-place.true (b ∙ (e ∙ sym v))) (w.desks-is ∙ w.post_along.ensures.desks)
          (subst (AreBegun c.owned.begun _) (sym w.begun-is) w.post_along.ensures.begun) (w.cut-is ∙ w.post_along.ensures.cut)
      | else-before-place w ↦
          row_left c.args.sender old new c.args.routes.now p c.args.desks.now c.owned.desks _ c.args.cut.now c.owned.cut _ c.owned.begun _ c.owned.invariant l c.requires.rows c.values-values.ensures.local.places
          (sym b ∙ (w.if-before-place.false ∙ v)) w.desks-is w.begun-is w.cut-is
    ]

pub returns-clause-desks : goal.returns-clause-desks
returns-clause-desks c =
    let n = ap (λ (l : List ℕ). length l) c.before-before.ensures in
    let r = c.requires.rows in
    let t = c.owned-test.false in
    let e = c.owned.auto.place-end in
    mail_ends c.args.sender c.args.local.now.before c.args.local.now.values c.args.routes.now c.owned.place c.args.desks.now c.owned.desks c.args.cut.now c.owned.cut c.owned.begun c.owned.invariant (omega (arith, n, r, t, e))

pub returns-clause-cut : goal.returns-clause-cut
returns-clause-cut c =
    let n = ap (λ (l : List ℕ). length l) c.before-before.ensures in
    let r = c.requires.rows in
    let t = c.owned-test.false in
    let e = c.owned.auto.place-end in
    late_ends c.args.sender c.args.local.now.before c.args.local.now.values c.args.routes.now c.owned.place c.args.desks.now c.owned.desks c.args.cut.now c.owned.cut c.owned.begun c.owned.invariant (omega (arith, n, r, t, e))
