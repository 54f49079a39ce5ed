use Rattle.std.proofs.Common.{◌≡◌, ◌∙◌, ap, sym, map, string_bytes, true, false, true≢false, ℕ, List}
use Rattle.std.specs.List.{list_any}
use Rattle.std.specs.Option.{ok_or}
use Rattle.clap.specs.Simple.{app_of, is_simple, matches_of}
use Rattle.clap.specs.Walk.{rows_of}
use Rattle.clap.specs.Takes.{takes}
use Rattle.clap.specs.Matches.{found_of}
use Rattle.clap.specs.Values.{kind_of}
use Rattle.clap.specs.declared.error.kind.ErrorKind.TheVariants.{OutOfMemory}
use Rattle.command_words.specs.Command.{is_dashed, words_app}
use Rattle.command_words.specs.Grammar.{mode_of}
use Rattle.command_words.specs.declared.words.WordFault.TheVariants as fault
use Rattle.command_words.proofs.Taken.{answered, dash_in_texts, refused_asks_nothing, values_ask}
use Rattle.command_words.proofs.parsing.parsed.Goals as goal

pub returns-in-Ok : goal.returns-in-Ok
returns-in-Ok c =
    let words : List (List ℕ) = map string_bytes c.args.words.now in
    let plain : list_any is_dashed words ≡ false = sym (dash_in_texts string_bytes c.args.words.now) ∙ c.requires.plain in
    let rows : rows_of (found_of c.in-Ok.matches) ≡ matches_of (app_of c.args.command) words = (c.in-Ok.ensures.matches (ap is_simple c.requires.command)).0 in
    let found : rows_of (found_of c.in-Ok.matches) ≡ matches_of words_app words = rows ∙ ap (λ a. matches_of a words) c.requires.command in
    let asked : c.matched.result ≡ mode_of words = c.matched.ensures ∙ values_ask words _ plain found in
    answered (mode_of words) c.ok_or.result (c.ok_or.ensures.value ∙ ap (λ o. ok_or o fault.Bad) asked)

pub returns : goal.returns
returns c =
    let words : List (List ℕ) = map string_bytes c.args.words.now in
    refused_asks_nothing words (λ taken.
    let memory : kind_of c.in-Err.error ≡ OutOfMemory = c.in-Err.ensures.passes (ap (λ a. takes a words) c.requires.command ∙ taken) in
    let same : c.eq.result ≡ true = rw (c.kind.ensures ∙ memory) at c.eq.ensures in
    true≢false (sym same ∙ c.if-eq.false))
