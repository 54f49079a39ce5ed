use Rattle.std.proofs.Common.{◌+◌, ◌-◌, drop, length, ap, arith}
use Rattle.std.specs.List.{flat_map}
use Rattle.std.proofs.lemmas.List.{drop_all}
use Rattle.snapshot_file.specs.Bodies.{part_bytes}
use Rattle.snapshot_file.proofs.Cutting.{put_next, parts_at, all_put, none_left}
use Rattle.snapshot_file.proofs.ReadBack.{part_front}
use Rattle.snapshot_file.proofs.Run.{have_length, have_at}
use Rattle.snapshot_file.proofs.pieces.put_parts.Goals as goal

pub bounds-parts-i : goal.bounds-parts-i
bounds-parts-i c = omega (arith, c.loop-i-test.true, have_length c.args.shape.now c.args.parts.now c.requires.parts)

pub loop-i-preserved : goal.loop-i-preserved
loop-i-preserved c =
    let has = have_at c.args.shape.now c.args.parts.now c.loop-i.i c.index-shape-i.result c.index-parts-i.result c.requires.parts c.loop-i-test.true c.index-shape-i.is c.index-parts-i.is in
    put_next (flat_map part_bytes c.args.parts.now) (flat_map part_bytes (drop c.loop-i.i c.args.parts.now)) (part_bytes c.index-parts-i.result) (flat_map part_bytes (drop (c.loop-i.i + 1) c.args.parts.now))
    c.args.skip c.loop-i.skip c.saturating_sub-skip.result c.args.to.now c.loop-i.to c.put_part-done.new.to c.split_at_mut-rest.result.0.now c.split_at_mut-rest.result.1.now c.loop-i.done c.put_part-done.result
    c.loop-i.invariant
    (parts_at c.args.parts.now c.loop-i.i c.index-parts-i.result (omega (arith, c.loop-i-test.true, have_length c.args.shape.now c.args.parts.now c.requires.parts)) c.index-parts-i.is)
    c.split_at_mut-rest.ensures.front c.split_at_mut-rest.ensures.back c.put_part-done.ensures
    (omega (arith, c.saturating_sub-skip.ensures, c.part_len.ensures.length, part_front c.index-parts-i.result, has.values, has.mail))

pub returns : goal.returns
returns c =
    all_put (flat_map part_bytes c.args.parts.now) (flat_map part_bytes (drop c.loop-i.i c.args.parts.now)) c.args.skip c.loop-i.skip c.args.to.now c.loop-i.to c.loop-i.done c.loop-i.invariant
    (none_left (flat_map part_bytes (drop c.loop-i.i c.args.parts.now)) (length c.args.to.now - c.loop-i.done) c.loop-i.skip
    (ap (flat_map part_bytes) (drop_all c.loop-i.i c.args.parts.now (omega (arith, c.loop-i-test.false, have_length c.args.shape.now c.args.parts.now c.requires.parts)))))
