use Rattle.std.proofs.Common.{◌+◌, ◌/◌, ◌%◌, get_or, drop, refl, arith}
use Rattle.byteorder.specs.Endian.{big_bytes}
use Rattle.snapshot_file.specs.Bodies.{number_bytes}
use Rattle.snapshot_file.proofs.Cutting.{numbers_begin, numbers_at, put_next}
use Rattle.snapshot_file.proofs.pieces.put_numbers.Goals as goal

pub loop-i-init : goal.loop-i-init
loop-i-init c = record {
  going = numbers_begin c.args.numbers.now c.args.skip (c.args.skip / 8) (c.args.skip % 8) c.args.to.now (omega arith);
  within = omega arith;
}

pub loop-i-preserved : goal.loop-i-preserved
loop-i-preserved c = record {
  going =
      put_next (number_bytes c.args.numbers.now) (number_bytes (drop c.loop-i.i c.args.numbers.now)) (big_bytes 8 (get_or c.args.numbers.now c.loop-i.i 0)) (number_bytes (drop (c.loop-i.i + 1) c.args.numbers.now))
      c.args.skip c.loop-i.within 0 c.args.to.now c.loop-i.to c.put_number-done.new.to c.split_at_mut-rest.result.0.now c.split_at_mut-rest.result.1.now c.loop-i.done c.put_number-done.result
      c.loop-i.invariant.going (numbers_at c.args.numbers.now c.loop-i.i (get_or c.args.numbers.now c.loop-i.i 0) c.loop-i-test.true refl)
      c.split_at_mut-rest.ensures.front c.split_at_mut-rest.ensures.back c.put_number-done.ensures (omega (arith, c.loop-i.invariant.within));
  within = omega arith;
}
