use Rattle.std.proofs.Common.{refl, subst}
use Rattle.grape_event.specs.declared.event.Event.{Event}
use Rattle.grape_event.specs.declared.event.Event.TheVariants.{End, Stop}
use Rattle.grape_event.specs.JournalList.{JournalList}
use Rattle.coordinator.specs.declared.story.Story.{Story}
use Rattle.coordinator.specs.Runs.{EndsBy, LastEvent}
use Rattle.coordinator.proofs.Settled.{Tells, story_of, cuts_told, locals_of, values_of, end_is_last, ends_calm}
use Rattle.coordinator.proofs.alone.ended.Goals as goal

pub returns-in-Stop : goal.returns-in-Stop
returns-in-Stop g c =
    let h = c.args.hub.hub in
    let kept = c.args.kept.items in
    let story : Story = record { start = c.finish-locals.result.2; journal = c.finish-locals.result.1; kept = c.args.kept } in
    let tells : Tells h kept story = record { start = c.finish-locals.ensures.start; journal = c.finish-locals.ensures.journal; kept_here = refl } in
    let ends = (subst (λ (e : Event). LastEvent c.finish-locals.result.1.events e) c.in-Stop.is c.last_event-last.ensures).0 in
    record {
      run = (story_of h c.args.job.now kept story c.requires.hub.0 c.requires.same c.requires.noted.0 c.requires.noted.1 tells, ends);
      story = (subst (λ (j : JournalList). EndsBy (Stop c.in-Stop.cause) j.events) c.finish-locals.ensures.journal ends, cuts_told h c.args.job.now kept story c.requires.same tells);
    }

pub returns-in_default : goal.returns-in_default
returns-in_default g c =
    let h = c.args.hub.hub in
    let kept = c.args.kept.items in
    let locals = c.finish-locals.result.0.items in
    let story : Story = record { start = c.finish-locals.result.2; journal = c.finish-locals.result.1; kept = c.args.kept } in
    let tells : Tells h kept story = record { start = c.finish-locals.ensures.start; journal = c.finish-locals.ensures.journal; kept_here = refl } in
    let ends = end_is_last c.last_event-last.result c.finish-locals.result.1.events c.last_event-last.ensures c.in_default.not-Stop in
    let there = subst (λ (j : JournalList). EndsBy End j.events) c.finish-locals.ensures.journal ends in
    let calm = ends_calm h c.requires.hub.0 there in
    let values = values_of h locals calm c.finish-locals.ensures.values in
    record {
      run = (story_of h c.args.job.now kept story c.requires.hub.0 c.requires.same c.requires.noted.0 c.requires.noted.1 tells, ends, locals_of h c.args.job.now c.args.fragments.now kept story locals c.requires.hub.0 c.requires.same c.requires.fragments tells values c.finish-locals.ensures.sizes);
      story = (there, cuts_told h c.args.job.now kept story c.requires.same tells);
    }
