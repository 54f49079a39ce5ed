use Rattle.std.proofs.Common.{◌≡◌, ℕ, ◌<◌, ◌^◌, take, drop, length, sym, ap, ◌∙◌, ◌++◌, arith}
use Rattle.std.proofs.lemmas.List.{take-append-drop, length-take-le}
use Rattle.std.proofs.lemmas.Grind.{common_steps}
use Rattle.line_statements.proofs.plain_lines.plain_number.Goals as goal

pub returns : goal.returns
returns c =
    let size = length-take-le c.leading_digits-value.result.1 c.args.text.now c.leading_digits-value.ensures.within
    in record {
      word = take c.leading_digits-value.result.1 c.args.text.now;
      plain = record {
        some = omega (arith, size, c.if-count-eq0.false);
        few = omega (arith, size, c.leading_digits-value.ensures.few);
        digits = c.leading_digits-value.ensures.digits;
        value = grind (arith, common_steps, c.leading_digits-value.ensures.value, c.in-Ok.ensures);
        small = grind (arith, common_steps, c.in-Ok.ensures);
      };
      is = grind (arith, take-append-drop c.leading_digits-value.result.1 c.args.text.now, c.split_at.ensures.back);
    }
