use Rattle.graph_core.proofs.Lawful.{lawful}
use Rattle.graph_core.proofs.Cutting.{fragments_cut}
use Rattle.base_machine.proofs.laws.systems_are_sound.Goals as goal

pub returns : goal.returns
returns c = λ job h. record { lawful = lawful job.graph job.query h.graph; cut = fragments_cut job h }
