use Rattle.std.proofs.Common.{refl, sym, subst}
use Rattle.coordinator.specs.Shapes.{shape_of}
use Rattle.grape_run.specs.Answered.{HasMade}
use Rattle.grape_run.specs.declared.answers.Outcome.TheVariants.{Ended}
use Rattle.grape_run.specs.declared.finish.Finish.{Finish}
use Rattle.grape_run.specs.declared.status.Status.TheVariants as status
use Rattle.grape_run.proofs.Made.{made_none, made_of}
use Rattle.grape_run.proofs.Tried.{refused_state}
use Rattle.grape_run.proofs.answers.run_job.Goals as goal

pub returns-in_default-clause-made : goal.returns-in_default-clause-made
returns-in_default-clause-made g c =
    let D = g.D.Disk in
    let job = c.args.text.job in
    let digest = c.args.text.digest in
    let disk = c.args.disk.now in
    subst (λ (f : Finish). HasMade D.content D.images D.moment D.honest c.args.beginning job digest (Ended f) disk disk) (sym c.without_story.ensures)
    (made_none D.content D.images D.moment D.honest c.args.beginning job digest status.NoMemory disk disk tt tt
    (refused_state D.content D.images D.moment D.honest c.claims_add_up.ensures.tells c.args.beginning job digest disk disk c.requires.job (λ _ _. refl) (λ h file rest. c.claims_add_up.ensures.begins (shape_of job) digest file disk)))

pub returns-in_default-shape_of-clause-made : goal.returns-in_default-shape_of-clause-made
returns-in_default-shape_of-clause-made g c =
    let D = g.D.Disk in
    let job = c.args.text.job in
    let digest = c.args.text.digest in
    let disk = c.args.disk.now in
    subst (λ (f : Finish). HasMade D.content D.images D.moment D.honest c.args.beginning job digest (Ended f) disk disk) (sym c.without_story-in_default-shape_of.ensures)
    (made_none D.content D.images D.moment D.honest c.args.beginning job digest status.NoMemory disk disk tt tt
    (refused_state D.content D.images D.moment D.honest c.claims_add_up.ensures.tells c.args.beginning job digest disk disk c.requires.job (λ _ _. refl) (λ h file rest. c.claims_add_up.ensures.begins (shape_of job) digest file disk)))

pub returns-in-Ok-run_from-clause-made : goal.returns-in-Ok-run_from-clause-made
returns-in-Ok-run_from-clause-made g c =
    let D = g.D.Disk in
    made_of D.content D.images D.moment D.honest c.args.beginning c.args.text.job c.args.text.digest _ c.in-Ok-run_from.ran c.outcome_of.result _ _ c.requires.job
    c.in-Ok-run_from.ensures.tried c.outcome_of.ensures
