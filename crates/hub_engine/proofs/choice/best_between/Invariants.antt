-- What is found at the desks that are left, after what was found so far, is what is found at all.
use Rattle.std.proofs.Common.{◌≡◌, ◌-◌}
use Rattle.std.specs.List.{range_with_len}
use Rattle.hub_engine.specs.Kinds.{kind_at, best_of}
use Rattle.hub_engine.proofs.choice.best_between.Given as goal

abbrev pub invariant-desks : goal.invariant-desks
invariant-desks l = record {
  same : best_of (kind_at l.sight l.probe l.cut l.desks) (range_with_len l.fn.from (l.to - l.fn.from)) l.fn.best
      ≡ best_of (kind_at l.sight l.probe l.cut l.desks) (range_with_len l.worker (l.to - l.worker)) l.found;
}
