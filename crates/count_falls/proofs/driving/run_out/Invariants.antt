use Rattle.std.proofs.Common.{◌≡◌, false}
use Rattle.grape_hub.specs.LanedHub.{IsLanedHub, is_out_at}
use Rattle.count_falls.proofs.driving.run_out.Given as goal

abbrev pub invariant-turns : goal.invariant-turns
invariant-turns g l = (l.hub.hub.job ≡ l.fn.hub.hub.job) × (l.hub.hub.counters ≡ l.fn.hub.hub.counters) × IsLanedHub l.hub × (is_out_at l.hub 0 ≡ false)
