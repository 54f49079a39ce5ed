use Rattle.std.proofs.Common.{rules, ◌∙◌}
use Rattle.std.specs.Prelude.{not}
use Rattle.std.proofs.lemmas.Iterator.{YieldsList-from_slice}
use Rattle.std.proofs.lemmas.Iterator.Search.{position_from_yields_List}
use Rattle.text_lines.specs.Lines.{is_blank}
use Rattle.text_lines.proofs.FirstPlaces.{found_or_length, none_before}
use Rattle.text_lines.proofs.words.leading_blanks.Goals as goal

pub returns : goal.returns
returns c =
    c.unwrap_or.ensures
    ∙ found_or_length c.position.result (λ b. not (is_blank b)) c.args.text.now
    (position_from_yields_List (λ b. not (is_blank b)) _ _ c.position.result c.position.ensures.ran (YieldsList-from_slice c.args.text.now cc) (λ x b q k. search rules))
    ∙ none_before is_blank c.args.text.now
