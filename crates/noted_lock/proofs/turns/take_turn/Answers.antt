use Rattle.std.proofs.Common.{rules}
use Rattle.noted_lock.proofs.Keeps.{takes_turn}
use Rattle.noted_lock.proofs.turns.take_turn.Goals as goal

pub compare_exchange-requires : goal.compare_exchange-requires
compare_exchange-requires g c = (search rules, search rules, takes_turn g.T.Noted.note _ _ _ _ _ _ c.requires.outside)
