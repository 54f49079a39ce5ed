use Rattle.std.proofs.Common.{◌<◌, ◌∙◌, ℕ, List, length, slice_index, refl, sym, ap, arith, subst, All}
use Rattle.graph_core.specs.declared.fragment.Route.{Route}
use Rattle.hub_engine.specs.Posting.{mirror_counts}
use Rattle.hub_engine.proofs.Mailing.{mail_begins, mailed_counts, mailed_mails, mailed_can_begin, can_receive, row_leads, mail_ends, late_ends}
use Rattle.hub_engine.proofs.Listed.{listed_none, listed_owned, listed_changed, listed_step, listed_ends}
use Rattle.hub_engine.proofs.posting.post_listed.Goals as goal

pub listed-init : goal.listed-init
listed-init c = mail_begins _ _ _ _ _ refl (λ j. listed_none j c.args.local.now.values c.args.routes.now)

pub row-requires : goal.row-requires
row-requires c =
    let r = c.requires.rows in
    let l = listed_owned c.args.local.now.before c.args.local.now.values c.args.places.now c.listed.place-index 0 c.requires.listed c.listed-test.true in
    omega (arith, r, l)

pub bounds-values-index : goal.bounds-values-index
bounds-values-index c =
    let n = ap (λ (l : List ℕ). length l) c.values-values.ensures.values in
    let p = c.values-values.ensures.local.places in
    let l = listed_owned c.args.local.now.before c.args.local.now.values c.args.places.now c.listed.place-index 0 c.requires.listed c.listed-test.true in
    omega (arith, n, p, l)

pub post_along-requires-clause-lead : goal.post_along-requires-clause-lead
post_along-requires-clause-lead c =
    let r = c.requires.rows in
    let l = listed_owned c.args.local.now.before c.args.local.now.values c.args.places.now c.listed.place-index 0 c.requires.listed c.listed-test.true in
    subst (All (λ (r : Route). r.mirror < slice_index (mirror_counts c.listed.desks) r.fragment)) (sym c.row.ensures)
    (row_leads c.args.routes.now c.listed.desks c.args.desks.now (slice_index c.args.places.now c.listed.place-index) c.requires.lead (omega (arith, r, l)) (mailed_counts _ _ _ _ _ _ _ _ c.listed.invariant))

pub post_along-requires-clause-value : goal.post_along-requires-clause-value
post_along-requires-clause-value c e =
    let p : ℕ = slice_index c.args.places.now c.listed.place-index in
    let l = listed_owned c.args.local.now.before c.args.local.now.values c.args.places.now c.listed.place-index 0 c.requires.listed c.listed-test.true in
    c.requires.values p l (listed_changed c.args.local.now.before c.args.local.now.values c.args.places.now c.listed.place-index 0 c.requires.listed c.listed-test.true)
    (sym (ap (λ (l : List ℕ). slice_index l p) c.values-values.ensures.values) ∙ e)

pub post_along-requires-clause-receive : goal.post_along-requires-clause-receive
post_along-requires-clause-receive c = mailed_can_begin c.args.sender _ _ _ _ _ _ _ c.listed.invariant c.requires.few (can_receive c.args.sender.place c.args.desks.now c.requires.receive)

pub post_along-requires-clause-parts : goal.post_along-requires-clause-parts
post_along-requires-clause-parts c = mailed_mails c.args.sender _ _ _ _ _ _ _ c.listed.invariant c.requires.parts

pub listed-preserved : goal.listed-preserved
listed-preserved c =
    listed_step c.args.sender c.args.local.now.values c.args.routes.now c.args.places.now c.listed.place-index _ c.row.result.now c.args.desks.now c.listed.desks _ c.args.cut.now c.listed.cut _ c.listed.begun _
    c.listed.invariant c.requires.few c.listed-test.true
    (ap (λ (l : List ℕ). slice_index l (slice_index c.args.places.now c.listed.place-index)) c.values-values.ensures.values) c.row.ensures
    c.post_along.ensures.desks c.post_along.ensures.begun c.post_along.ensures.cut

pub returns-clause-desks : goal.returns-clause-desks
returns-clause-desks c =
    let old = c.args.local.now.before in
    let new = c.args.local.now.values in
    let ends = listed_ends c.args.sender old new c.args.routes.now c.args.places.now c.listed.place-index c.args.desks.now c.listed.desks c.args.cut.now c.listed.cut c.listed.begun
    c.listed.invariant c.requires.listed c.listed-test.false c.requires.rows c.values-values.ensures.local.places in
    mail_ends c.args.sender old new c.args.routes.now (length c.args.routes.now) c.args.desks.now c.listed.desks c.args.cut.now c.listed.cut c.listed.begun ends refl

pub returns-clause-cut : goal.returns-clause-cut
returns-clause-cut c =
    let old = c.args.local.now.before in
    let new = c.args.local.now.values in
    let ends = listed_ends c.args.sender old new c.args.routes.now c.args.places.now c.listed.place-index c.args.desks.now c.listed.desks c.args.cut.now c.listed.cut c.listed.begun
    c.listed.invariant c.requires.listed c.listed-test.false c.requires.rows c.values-values.ensures.local.places in
    late_ends c.args.sender old new c.args.routes.now (length c.args.routes.now) c.args.desks.now c.listed.desks c.args.cut.now c.listed.cut c.listed.begun ends refl
