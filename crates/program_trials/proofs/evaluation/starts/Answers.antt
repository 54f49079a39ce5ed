use Rattle.pie_core.proofs.Starting.{owned-inside, mirrors-inside}
use Rattle.program_trials.proofs.evaluation.starts.Goals as goal

pub starts_of-requires-clause-vertices : goal.starts_of-requires-clause-vertices
starts_of-requires-clause-vertices c = owned-inside c.args.job.now c.requires.job c.args.part.now c.owned.result.now c.requires.number c.requires.part c.owned.ensures.owned

pub starts_of-requires-2-clause-vertices : goal.starts_of-requires-2-clause-vertices
starts_of-requires-2-clause-vertices c = mirrors-inside c.args.job.now c.requires.job c.args.part.now c.mirrors.result.now c.requires.number c.requires.part c.mirrors.ensures.mirrors
