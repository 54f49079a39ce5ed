use Rattle.std.proofs.Common.{ap, ◌∙◌, sym, subst, List, Option, length}
use Rattle.std.proofs.lemmas.List.{length-replicate}
use Rattle.std.proofs.lemmas.List.FromFn.{length-map-range_with_len}
use Rattle.graph_core.specs.Parts.{FragmentLists}
use Rattle.graph_core.specs.Fragments.{fragment_of}
use Rattle.pie_core.specs.Locals.{LocalValues}
use Rattle.hub_engine.specs.HubValues.{HubValues}
use Rattle.hub_engine.specs.States.{IsHub}
use Rattle.hub_engine.specs.Calls.{Begins}
use Rattle.grape_hub.specs.LanedHub.{LanedHub}
use Rattle.grape_hub.proofs.LanesKept.{begun_stands}
use Rattle.grape_hub.proofs.NotesStay.{begun_notes}
use Rattle.grape_hub.proofs.hub.Hub.open.Goals as goal

pub invariant_of-result : goal.invariant_of-result
invariant_of-result g c =
    let x : LanedHub = record { hub = c.in_ok-new.field-0.value; lanes = c.in_ok-lanes.lanes.items } in
    let job = c.args.job.now in
    let count = ap (λ (xs : List (Option LocalValues)). length xs) c.in_ok-given_up.ensures ∙ (length-replicate (length c.args.fragments.now) _ ∙ (ap (λ (xs : List FragmentLists). length xs) c.requires.fragments ∙ length-map-range_with_len (fragment_of job) 0 job.settings.fragments)) in
    begun_stands x job (g.P.Pie.counters_for job) c.args.start c.in_ok-given_up.given_up.items (subst (λ (h : HubValues). Begins c.args.job.now (g.P.Pie.counters_for c.args.job.now) c.args.start h) (sym c.in_ok-new.ensures.ok) c.in_ok-engine.ensures.beginning) (c.in_ok-lanes.ensures.items_if_clones_equal (λ y e. e)) count (subst (λ (h : HubValues). IsHub h) (sym c.in_ok-new.ensures.ok) c.in_ok-engine.ensures.hub)

pub returns-clause-notes : goal.returns-clause-notes
returns-clause-notes g c =
    let x : LanedHub = record { hub = c.in_ok-new.field-0.value; lanes = c.in_ok-lanes.lanes.items } in
    let job = c.args.job.now in
    begun_notes x job (g.P.Pie.counters_for job) c.args.start (subst (λ (h : HubValues). Begins c.args.job.now (g.P.Pie.counters_for c.args.job.now) c.args.start h) (sym c.in_ok-new.ensures.ok) c.in_ok-engine.ensures.beginning) (c.in_ok-lanes.ensures.items_if_clones_equal (λ y e. e))

pub returns-clause-hub : goal.returns-clause-hub
returns-clause-hub g c = (invariant_of-result g c).0
