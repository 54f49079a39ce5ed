use Rattle.std.proofs.Common.{[], take}
use Rattle.hub_engine.proofs.Mailing.{AreMailed}
use Rattle.hub_engine.proofs.Listed.{listed_posts}
use Rattle.hub_engine.proofs.posting.post_listed.Given as goal

abbrev pub invariant-listed : goal.invariant-listed
invariant-listed l = AreMailed l.sender [] l.fn.desks l.fn.cut (λ k. listed_posts k l.local.values l.routes (take l.place-index l.places)) l.begun l.desks l.cut
