use Rattle.std.proofs.Common.{◌≡◌, ◌∙◌, ap₂, refl, ℕ, List, Option, None, codes, option_map}
use Rattle.clap.specs.Walk.{rows_of}
use Rattle.clap.specs.Matches.{first_value, found_of, matched_of, raw_values}
use Rattle.clap.specs.declared.parser.matches.Found.{Found}
use Rattle.clap.proofs.WalkLemmas.{first_value-rows, raw_values-rows}
use Rattle.command_words.specs.Command.{mode_by, mode_in}
use Rattle.command_words.proofs.parsing.matched.Goals as goal

-- the values that are read are those of the rows
values_are : (f : Found) (mode : Option (List ℕ)) (rest : Option (List (List ℕ))) → mode ≡ first_value f (codes "mode")
    → rest ≡ option_map raw_values (matched_of f (codes "rest")) → mode_by mode rest ≡ mode_in (rows_of f)
values_are f mode rest first all = ap₂ mode_by (first ∙ first_value-rows f (codes "mode")) (all ∙ raw_values-rows f (codes "rest"))

pub returns-in_err-mode : goal.returns-in_err-mode
returns-in_err-mode c = c.from_residual.ensures ∙ values_are (found_of c.args.matches.now) None _ c.in_err-mode.ensures refl

pub returns-in-Some : goal.returns-in-Some
returns-in-Some c = c.asked_by.ensures ∙ values_are (found_of c.args.matches.now) _ _ c.in_ok-mode.ensures c.in-Some.ensures

pub returns-in-None : goal.returns-in-None
returns-in-None c = c.asked_by-in-None.ensures ∙ values_are (found_of c.args.matches.now) _ None c.in_ok-mode.ensures c.in-None.ensures
