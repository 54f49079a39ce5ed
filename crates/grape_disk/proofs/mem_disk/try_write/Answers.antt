use Rattle.std.proofs.Common.{arith, ◌<◌, ◌-◌, ◌^◌}
use Rattle.grape_disk.specs.Platters.{wrote}
use Rattle.grape_disk.proofs.Moments.{earlier_later, earlier_tried}
use Rattle.grape_disk.proofs.mem_disk.try_write.Goals as goal

pub returns-then-calls-eq18446744073709551615-clause-earlier : goal.returns-then-calls-eq18446744073709551615-clause-earlier
returns-then-calls-eq18446744073709551615-clause-earlier c = earlier_later _ _ _ (omega arith)

pub returns-in_err-write-clause-earlier : goal.returns-in_err-write-clause-earlier
returns-in_err-write-clause-earlier c =
    let few : c.args.calls < 2 ^ 64 - 1 = omega (arith, c.if-calls-eq18446744073709551615.false, c.ranges.calls.fits)
    in earlier_tried _ c.write.result (wrote c.args.at c.args.from.now) _ _ c.write.ensures.ok c.write.ensures.err few

pub returns-clause-earlier : goal.returns-clause-earlier
returns-clause-earlier c =
    let few : c.args.calls < 2 ^ 64 - 1 = omega (arith, c.if-calls-eq18446744073709551615.false, c.ranges.calls.fits)
    in earlier_tried _ c.write.result (wrote c.args.at c.args.from.now) _ _ c.write.ensures.ok c.write.ensures.err few
