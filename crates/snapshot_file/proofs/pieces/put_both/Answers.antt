use Rattle.std.proofs.Common.{ℕ, ◌-◌, sym, ap, ◌∙◌}
use Rattle.snapshot_file.specs.Bodies.{number_bytes}
use Rattle.snapshot_file.proofs.Cutting.{both_next}
use Rattle.snapshot_file.proofs.ReadBack.{length_number_bytes}
use Rattle.snapshot_file.proofs.pieces.put_both.Goals as goal

pub returns : goal.returns
returns c =
    both_next (number_bytes c.args.values.now) (number_bytes c.args.mail.now) c.args.skip c.saturating_sub.result c.args.to.now c.put_numbers-first.new.to c.put_numbers.new.to
    c.split_at_mut-rest.result.0.now c.split_at_mut-rest.result.1.now c.put_numbers-first.result c.put_numbers.result
    (c.saturating_sub.ensures ∙ ap (λ (n : ℕ). c.args.skip - n) (sym (length_number_bytes c.args.values.now)))
    c.put_numbers-first.ensures c.split_at_mut-rest.ensures.front c.split_at_mut-rest.ensures.back c.put_numbers.ensures
