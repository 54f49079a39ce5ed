use Rattle.std.proofs.Common.{[], take}
use Rattle.base_machine.specs.Machine.{posts_to}
use Rattle.hub_engine.proofs.Mailing.{AreMailed}
use Rattle.hub_engine.proofs.posting.post_all.Given as goal

abbrev pub invariant-owned : goal.invariant-owned
invariant-owned l = AreMailed l.sender [] l.fn.desks l.fn.cut (λ k. posts_to k l.local.before l.local.values (take l.place l.routes)) l.begun l.desks l.cut
