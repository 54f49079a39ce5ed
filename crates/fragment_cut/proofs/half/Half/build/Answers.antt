use Rattle.std.proofs.Common.{length, ap, arith}
use Rattle.fragment_cut.proofs.HalfBuilt.{half_is}
use Rattle.fragment_cut.proofs.Placing.{few_owned, few_mirrors}
use Rattle.fragment_cut.proofs.half.Half.build.Goals as goal

pub overflow_cast-count : goal.overflow_cast-count
overflow_cast-count c =
    let job = c.args.job.now in
    omega (arith, ap length c.in_ok-owned.ensures, ap length c.in_ok-mirrors.ensures, c.len.ensures, c.len-2.ensures, few_owned job c.requires.job c.args.fragment c.requires.fragment, few_mirrors job c.requires.job c.args.fragment c.requires.fragment)

pub returns : goal.returns
returns c = half_is c.args.job.now c.args.fragment c.in_ok-owned.owned.items c.in_ok-mirrors.mirrors.items c.in_ok-readings.readings c.in_ok-readers.readers c.in_ok-owned.ensures c.in_ok-mirrors.ensures c.in_ok-readings.ensures c.in_ok-readers.ensures
