use Rattle.std.proofs.Common.{take}
use Rattle.hub_engine.specs.Posting.{posts_along}
use Rattle.hub_engine.proofs.Mailing.{AreMailed}
use Rattle.hub_engine.proofs.posting.post_along.Given as goal

abbrev pub invariant-row : goal.invariant-row
invariant-row l = AreMailed l.sender l.fn.begun l.fn.desks l.fn.cut (λ k. posts_along k l.value (take l.route-index l.row)) l.begun l.desks l.cut
