use Rattle.std.proofs.Common.{subst, Option}
use Rattle.hub_engine.specs.declared.work.Work.{Work}
use Rattle.run_trials.specs.Lanes.{HasOut}
use Rattle.run_trials.proofs.steps.do_lane.Goals as goal

pub give_back-requires-clause-out : goal.give_back-requires-clause-out
give_back-requires-clause-out g c = subst (λ (o : Option Work). HasOut c.args.hub.now.hub c.args.lane o) c.in-Some.is c.requires.out

pub take_next-requires-clause-free : goal.take_next-requires-clause-free
take_next-requires-clause-free g c = subst (λ (o : Option Work). HasOut c.args.hub.now.hub c.args.lane o) c.in-None.is c.requires.out
