use Rattle.graph_core.proofs.Greatest
use Rattle.graph_core.proofs.laws.greatest_is_there.Goals as goal

pub returns-clause-there : goal.returns-clause-there
returns-clause-there c = Greatest.greatest_is_there

pub returns-clause-only : goal.returns-clause-only
returns-clause-only c = λ e x y h gx gy. Greatest.greatest_is_one e h x y gx gy
