use Rattle.std.proofs.Common.{◌≡◌, ◌++◌, map, take, drop}
use Rattle.hub_engine.specs.Desks.{folded_desk}
use Rattle.hub_engine.proofs.desk.fold_mail.Given as goal

-- the mail of the desks so far is folded, and the others are as they were
abbrev pub invariant-desks : goal.invariant-desks
invariant-desks l = l.desks ≡ map folded_desk (take l.desk-index l.fn.desks) ++ drop l.desk-index l.fn.desks
