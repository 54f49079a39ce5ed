use Rattle.std.proofs.Common.{◌≡◌, ℕ, List, ◌+◌, ◌++◌, length, ap, ◌∙◌, subst, arith}
use Rattle.std.specs.List.{flat_map}
use Rattle.byteorder.specs.Endian.{big_bytes}
use Rattle.token_cut.specs.Parts.{PartValues, SnapshotParts}
use Rattle.snapshot_file.specs.Bodies.{part_bytes, body_bytes}
use Rattle.snapshot_file.specs.Cuts.{Puts}
use Rattle.snapshot_file.proofs.Cutting.{both_next, full, length_parts_of}
use Rattle.snapshot_file.proofs.pieces.encode_piece.Goals as goal

pub returns : goal.returns
returns c =
    let epoch = ap (λ (s : SnapshotParts). s.epoch) c.snapshot.view_is in
    let parts = c.deref.ensures.value ∙ ap (λ (s : SnapshotParts). s.parts) c.snapshot.view_is in
    let first = subst (λ (n : ℕ). Puts (big_bytes 8 n) c.args.from c.args.to.now c.put_number-done.new.to c.put_number-done.result) epoch c.put_number-done.ensures in
    let second = subst (λ (l : List PartValues). Puts (flat_map part_bytes l) c.saturating_sub.result c.split_at_mut-rest.result.1.now c.put_parts.new.to c.put_parts.result) parts c.put_parts.ensures in
    let long : length (body_bytes c.args.snapshot.now) ≡ 8 + length (flat_map part_bytes c.args.snapshot.now.parts) = omega arith in
    full (body_bytes c.args.snapshot.now) c.args.from c.args.to.now (c.split_at_mut-rest.result.0.now ++ c.put_parts.new.to) (c.put_number-done.result + c.put_parts.result)
    (omega (arith, c.requires.within, long, length_parts_of c.args.shape.now.parts c.args.snapshot.now.parts c.requires.snapshot))
    (both_next (big_bytes 8 c.args.snapshot.now.epoch) (flat_map part_bytes c.args.snapshot.now.parts) c.args.from c.saturating_sub.result c.args.to.now c.put_number-done.new.to c.put_parts.new.to
    c.split_at_mut-rest.result.0.now c.split_at_mut-rest.result.1.now c.put_number-done.result c.put_parts.result
    c.saturating_sub.ensures first c.split_at_mut-rest.ensures.front c.split_at_mut-rest.ensures.back second)
