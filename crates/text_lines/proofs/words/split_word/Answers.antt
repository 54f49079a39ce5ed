use Rattle.std.proofs.Common.{arith}
use Rattle.std.proofs.lemmas.Bool.Decides.{nat_tests}
use Rattle.std.proofs.lemmas.List.Sums.{prefix_len-le-length}
use Rattle.std.specs.Prelude.{not}
use Rattle.text_lines.specs.Lines.{is_blank}
use Rattle.text_lines.proofs.WordLemmas.{no_words, first_word}
use Rattle.text_lines.proofs.words.split_word.Goals as goal

pub split_at-requires : goal.split_at-requires
split_at-requires c = omega (arith, c.leading_blanks-blanks.ensures, prefix_len-le-length is_blank c.args.text.now)

pub returns-then-is_empty : goal.returns-then-is_empty
returns-then-is_empty c =
    no_words c.args.text.now c.split_at.result.1.now c.leading_blanks-blanks.result c.leading_blanks-blanks.ensures c.split_at.ensures.back
    (grind (arith, nat_tests, c.is_empty.ensures, c.if-is_empty.true))

pub split_at-requires-2 : goal.split_at-requires-2
split_at-requires-2 c = omega (arith, c.word_length-length.ensures, prefix_len-le-length (λ b. not (is_blank b)) c.split_at.result.1.now)

pub returns : goal.returns
returns c =
    first_word c.args.text.now c.split_at.result.1.now c.split_at-2.result.0.now c.split_at-2.result.1.now c.leading_blanks-blanks.result c.word_length-length.result
    c.leading_blanks-blanks.ensures c.split_at.ensures.back (grind (arith, nat_tests, c.is_empty.ensures, c.if-is_empty.false))
    c.word_length-length.ensures c.split_at-2.ensures.front c.split_at-2.ensures.back
