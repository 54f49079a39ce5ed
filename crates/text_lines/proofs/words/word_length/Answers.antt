use Rattle.std.proofs.Common.{rules, ◌∙◌}
use Rattle.std.proofs.lemmas.Iterator.{YieldsList-from_slice}
use Rattle.std.proofs.lemmas.Iterator.Search.{position_from_yields_List}
use Rattle.text_lines.specs.Lines.{is_blank}
use Rattle.text_lines.proofs.FirstPlaces.{found_or_length}
use Rattle.text_lines.proofs.words.word_length.Goals as goal

pub returns : goal.returns
returns c =
    c.unwrap_or.ensures
    ∙ found_or_length c.position.result is_blank c.args.text.now
    (position_from_yields_List is_blank _ _ c.position.result c.position.ensures.ran (YieldsList-from_slice c.args.text.now cc) (λ x b q k. search rules))
