use Rattle.std.proofs.Common.{sym, ◌∙◌, ap, subst, List, length, slice_get, Some, ◌≡◌, ◌-◌}
use Rattle.graph_core.specs.declared.job.Job.{Job}
use Rattle.graph_core.specs.Fragments.{fragments_of}
use Rattle.grape_event.specs.JournalList.{JournalList}
use Rattle.grape_event.specs.declared.event.Event.{Event}
use Rattle.grape_event.specs.declared.event.Event.TheVariants.{End}
use Rattle.pie_core.specs.Locals.{LocalValues}
use Rattle.answer_text.specs.Assembled.{FitParts}
use Rattle.coordinator.proofs.Settled.{locals_fit, values_of, ends_calm}
use Rattle.coordinator.specs.Runs.{EndsBy}
use Rattle.run_trials.proofs.Ends.{ends_by_last, has_ended_by}
use Rattle.run_trials.proofs.driver.answer_at_end.Given.{Over}
use Rattle.run_trials.proofs.driver.answer_at_end.Goals as goal

ends : (g : Over) (c : goal.In-Some-End g) → EndsBy End c.args.hub.hub.journal.events
ends g c =
    let at = subst (λ (j : JournalList). slice_get j.events (length j.events - 1) ≡ Some End) c.journal.ensures.journal (sym c.last.ensures.event ∙ (c.in-Some-End.is ∙ ap (λ (e : Event). Some e) c.in-Some-End.field-0-is)) in
    ends_by_last c.args.hub.hub.journal.events End at

pub finish-locals-requires-clause-ended : goal.finish-locals-requires-clause-ended
finish-locals-requires-clause-ended g c = has_ended_by c.args.hub.hub.journal.events (ends g c)

pub finish-locals-requires-clause-free : goal.finish-locals-requires-clause-free
finish-locals-requires-clause-free g c lane l = (c.calm_is_empty.ensures c.args.hub c.requires.hub).0 (ends_calm c.args.hub.hub c.requires.hub.0 (ends g c)) lane

pub assemble-requires-clause-locals : goal.assemble-requires-clause-locals
assemble-requires-clause-locals g c =
    let calm = ends_calm c.args.hub.hub c.requires.hub.0 (ends g c.before.before.before) in
    let values = values_of c.args.hub.hub c.finish-locals.result.0.items calm c.finish-locals.ensures.values in
    subst (λ (locals : List LocalValues). FitParts c.args.fragments.now locals) (sym c.deref.ensures.value)
    (locals_fit c.args.hub.hub c.args.fragments.now c.finish-locals.result.0.items c.requires.hub.0 (c.requires.fragments ∙ ap (λ (j : Job). fragments_of j) (sym c.requires.same)) values)
