use Rattle.std.proofs.Common.{◌≡◌, ◌∙◌, ap, refl, sym, map, string_bytes, true}
use Rattle.std.specs.List.{list_any}
use Rattle.command_words.specs.Command.{is_dashed}
use Rattle.command_words.proofs.Taken.{dash_in_texts, dashed_asks_nothing}
use Rattle.command_words.proofs.words.read_words.Goals as goal

pub returns-then-has_dash-clause-bad : goal.returns-then-has_dash-clause-bad
returns-then-has_dash-clause-bad c =
    let words_are : map string_bytes c.as_slice-words.result.now ≡ c.args.words.now = ap (map string_bytes) c.as_slice-words.ensures.value ∙ c.words.view_is in
    let dashed : list_any is_dashed c.args.words.now ≡ true = ap (list_any is_dashed) (sym words_are)
    ∙ sym (dash_in_texts string_bytes c.as_slice-words.result.now) ∙ sym c.has_dash.ensures ∙ c.if-has_dash.true in
    (λ _. dashed_asks_nothing c.args.words.now dashed, λ _. refl)
