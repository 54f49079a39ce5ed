use Rattle.std.proofs.Common.{◌≡◌, length, min, arith}
use Rattle.snapshot_store.proofs.Opens.{front_read}
use Rattle.snapshot_store.proofs.open.read_front.Goals as goal

pub returns-clause-front : goal.returns-clause-front
returns-clause-front g c = λ file told.
    let many : length c.split_at_mut-to.result.0.now ≡ min c.args.size 73 = omega (arith, c.split_at_mut-to.ensures.front_len, c.min.ensures) in
    front_read file c.read_at.new.to c.split_at_mut-to.result.1.now _ c.args.size (c.in_ok-read_at.ensures.bytes file told) many c.read_at.auto.to (c.requires.size file told)
