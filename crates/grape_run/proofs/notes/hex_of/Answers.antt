use Rattle.std.proofs.Common.{ℕ, ◌<◌, arith, length, length-set, sym, ◌∙◌}
use Rattle.std.proofs.lemmas.List.{ext_get_or}
use Rattle.grape_run.specs.Notes.{hex}
use Rattle.grape_run.proofs.Digits.{length-hex, hex_high, hex_low, two_more}
use Rattle.grape_run.proofs.notes.hex_of.Goals as goal

pub digits-preserved : goal.digits-preserved
digits-preserved c =
    let size = c.digits.invariant.size in
    let within : c.digits.place < length c.args.digest.now = omega (arith, c.told-digest) in record {
      size = omega (arith, size, length-set {A = ℕ});
      passed = two_more c.digits.digits (hex c.args.digest.now) c.digits.place c.digit_of.result c.digit_of-in-digits.result (omega (arith, size))
          (c.digit_of.ensures ∙ sym (hex_high c.args.digest.now c.digits.place within))
          (c.digit_of-in-digits.ensures ∙ sym (hex_low c.args.digest.now c.digits.place within))
          c.digits.invariant.passed;
    }

pub returns : goal.returns
returns c =
    let size = length-hex c.args.digest.now in
    let long = c.digits.invariant.size in
    ext_get_or 0 c.digits.digits (hex c.args.digest.now) (omega (arith, size, long, c.told-digest)) (λ k l. c.digits.invariant.passed k (omega (arith, l, long)))
