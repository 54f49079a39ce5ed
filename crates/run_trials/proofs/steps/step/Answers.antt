use Rattle.run_trials.proofs.Driving.{driven_on, driven_first, driven_second}
use Rattle.run_trials.proofs.steps.step.Goals as goal

pub returns-then-choice-eq0-clause-driven : goal.returns-then-choice-eq0-clause-driven
returns-then-choice-eq0-clause-driven g c =
    driven_on c.args.hub.now c.do_duty-sealed.new.hub c.args.first c.args.second c.args.into.now c.do_duty-sealed.new.into c.requires.driven c.do_duty-sealed.ensures.along c.do_duty-sealed.ensures.hub c.do_duty-sealed.ensures.lanes c.do_duty-sealed.ensures.into

pub returns-then-choice-eq1-clause-driven : goal.returns-then-choice-eq1-clause-driven
returns-then-choice-eq1-clause-driven g c =
    driven_first c.args.hub.now c.do_lane-out.new.hub c.args.first c.args.second c.do_lane-out.result c.args.into.now c.requires.driven c.do_lane-out.ensures.along c.do_lane-out.ensures.hub c.do_lane-out.ensures.out c.do_lane-out.ensures.lanes

pub returns-clause-driven : goal.returns-clause-driven
returns-clause-driven g c =
    driven_second c.args.hub.now c.do_lane-out-2.new.hub c.args.first c.args.second c.do_lane-out-2.result c.args.into.now c.requires.driven c.do_lane-out-2.ensures.along c.do_lane-out-2.ensures.hub c.do_lane-out-2.ensures.out c.do_lane-out-2.ensures.lanes
