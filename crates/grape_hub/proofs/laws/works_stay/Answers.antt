use Rattle.grape_hub.proofs.Staying
use Rattle.grape_hub.proofs.laws.works_stay.Goals as goal

pub returns-clause-work : goal.returns-clause-work
returns-clause-work c = Staying.works_stay

pub returns-clause-lane : goal.returns-clause-lane
returns-clause-lane c = Staying.lanes_stay
