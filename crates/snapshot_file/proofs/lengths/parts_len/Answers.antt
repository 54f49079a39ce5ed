use Rattle.std.proofs.Common.{◌≡◌, ℕ, ◌+◌, ◌*◌, ◌≤◌, List, length, arith}
use Rattle.token_cut.specs.Shapes.{PartStarts}
use Rattle.snapshot_file.specs.Lengths.{parts_length}
use Rattle.snapshot_file.proofs.ReadBack.{lengths_more, parts_small}
use Rattle.snapshot_file.proofs.lengths.parts_len.Goals as goal

-- the whole is small, so each sum on the way is
fits : (parts : List PartStarts) (len rest : ℕ) → parts_length parts ≤ length parts * 24000001 → length parts ≤ 64 → len + rest ≡ parts_length parts → len + rest ≤ 1536000064
fits parts len rest small few is = omega arith

pub overflow_add-len : goal.overflow_add-len
overflow_add-len c =
    let all = fits c.args.parts.now c.loop-part.len _ (parts_small c.args.parts.now c.requires.parts) c.requires.few c.loop-part.invariant in
    let more = lengths_more c.args.parts.now c.loop-part.part-index c.part-item.result c.loop-part-test.true c.part-item.is in
    omega (arith, all, more, c.part_len-len.ensures.length)

pub returns-clause-small : goal.returns-clause-small
returns-clause-small c =
    let all = fits c.args.parts.now c.loop-part.len _ (parts_small c.args.parts.now c.requires.parts) c.requires.few c.loop-part.invariant in
    omega (arith, all)
