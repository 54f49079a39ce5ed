use Rattle.std.proofs.Common.{◌≡◌, ◌<◌, length}
use Rattle.std.specs.List.{All}
use Rattle.pie_sim.proofs.patterns.chain.Given as goal

-- the links so far
abbrev pub invariant-links : goal.invariant-links
invariant-links l = record {
  fit : All (λ link. (link.from < 64) × (link.to < 64)) l.links.items;
  few : length l.links.items ≡ l.from;
}
