use Rattle.std.proofs.Common.{refl}
use Rattle.grape_run.proofs.Answered.{assembled_is_right}
use Rattle.grape_run.proofs.answers.answered.Goals as goal

pub returns-in-Ok : goal.returns-in-Ok
returns-in-Ok c = (
  refl,
  record { ended = c.requires.ended; quiet = c.done_is_quiet.ensures c.args.job.now c.args.story c.requires.story c.requires.ended },
  λ fit. assembled_is_right c.args.job.now c.args.locals.now c.in-Ok.answer c.requires.job
      (λ g greatest i p v owned.
      c.done_is_the_answer.ensures c.args.job.now c.args.fragments.now c.args.story c.args.locals.now g c.requires.job c.requires.story (fit g greatest) c.requires.ended c.requires.locals greatest i p v owned)
      c.in-Ok.ensures,
)
