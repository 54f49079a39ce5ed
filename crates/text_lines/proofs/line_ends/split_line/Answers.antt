use Rattle.std.proofs.Common.{◌+◌, ◌++◌, take, sym, ap, subst, ◌∙◌, arith, take-append-drop}
use Rattle.text_lines.specs.Lines.{IsOneLine}
use Rattle.text_lines.proofs.Lengths.{split-line}
use Rattle.text_lines.proofs.line_ends.split_line.Goals as goal

pub returns : goal.returns
returns c =
    let text = c.args.text.now
    in let first = c.in_ok-at.ensures
    in (
      subst IsOneLine (sym c.split_at.ensures.front) (split-line text c.in_ok-at.at first.0.high (λ j l e. first.0.before j (omega arith) l e) first.1),
      ap (λ xs. xs ++ c.split_at.result.1.now) c.split_at.ensures.front
          ∙ ap (λ ys. take (c.in_ok-at.at + 1) text ++ ys) c.split_at.ensures.back
          ∙ take-append-drop (c.in_ok-at.at + 1) text,
    )
