use Rattle.grape_hub.proofs.Idling
use Rattle.grape_hub.proofs.laws.one_lane_goes_on.Goals as goal

pub returns : goal.returns
returns c = Idling.one_lane_goes_on
