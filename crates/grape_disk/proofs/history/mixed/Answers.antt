use Rattle.std.proofs.Common.{arith, ◌∙◌, true, false, sym}
use Rattle.std.proofs.lemmas.List.{get_or_default}
use Rattle.std.proofs.lemmas.List.FromFn.{map-range_with_len_more}
use Rattle.grape_disk.specs.Picks.{mixed_byte}
use Rattle.grape_disk.proofs.history.mixed.Goals as goal

pub loop-place-preserved : goal.loop-place-preserved
loop-place-preserved c =
    let byte = mixed_byte c.args.number c.args.pending.now c.args.stable.now
    in record {
      made = c.push_reserved.ensures.items ∙ (let read = get_or_default c.args.pending.now c.loop-place.place false true (omega arith) in cc) ∙ sym (map-range_with_len_more byte 0 c.loop-place.place c.loop-place.place (omega arith));
      count = omega arith;
      room = omega arith;
    }
