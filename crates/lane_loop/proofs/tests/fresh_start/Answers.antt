use Rattle.lane_loop.proofs.Beginnings.{begun_with}
use Rattle.lane_loop.proofs.tests.fresh_start.Goals as goal

pub returns : goal.returns
returns g c = λ t. record { epoch = 0; parts = begun_with c.args.job.now c.args.fragments.now c.parts.parts.items c.parts.part-index c.requires.fragments c.parts-test.false c.parts.invariant t }
