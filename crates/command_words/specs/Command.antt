-- The simple command that takes the words.
use Rattle.std.specs.Prelude.{◌≡◌, ◌≢◌, Result, Ok, Err, ℕ, Bool, true, false, List, [], ◌∷◌, Option, Some, None, codes, ◌==◌}
use Rattle.clap.specs.Simple.{App, new_app, new_rule, on_top, with_rule}
use Rattle.clap.specs.Walk.{Row, Rule, all_of, first_of}
use Rattle.command_words.specs.declared.words.Mode.{Mode}
use Rattle.command_words.specs.declared.words.WordFault.{WordFault}
use Rattle.command_words.specs.declared.words.WordFault.TheVariants as fault
use Rattle.command_words.specs.Grammar.{mode_of}

-- a first word, which has to be there
abbrev pub mode_rule : Rule
mode_rule = record (new_rule (codes "mode")) { required = true }

-- up to two words behind it
abbrev pub rest_rule : Rule
rest_rule = record (new_rule (codes "rest")) { range = Some (record { start_inclusive = 0; end_inclusive = 2 }) }

-- the words begin with no program's name, and none of them asks for help
abbrev pub words_app : App
words_app = with_rule (with_rule (on_top (λ top. record top { no_binary_name = true; disable_help_flag = true }) (new_app (codes "grape"))) mode_rule) rest_rule

-- the word begins with a hyphen
abbrev pub is_dashed : List ℕ → Bool
is_dashed [] = false
is_dashed (byte ∷ bytes) = byte == 45

-- what the values of `mode` and of `rest` ask for
abbrev pub mode_by : Option (List ℕ) → Option (List (List ℕ)) → Option Mode
mode_by None rest = None
mode_by (Some word) None = mode_of (word ∷ [])
mode_by (Some word) (Some rest) = mode_of (word ∷ rest)

abbrev pub mode_in : List Row → Option Mode
mode_in rows = mode_by (first_of (codes "mode") rows) (all_of (codes "rest") rows)

-- the answer to words that ask for this: memory ran out only where they ask for something
abbrev pub Answers : Option Mode → Result Mode WordFault → Type 0
Answers asked (Ok mode) = asked ≡ Some mode
Answers asked (Err fault.Bad) = asked ≡ None
Answers asked (Err fault.NoMemory) = asked ≢ None
