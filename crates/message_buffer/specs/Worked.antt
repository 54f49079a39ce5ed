-- A worked list of steps with a fold.
use Rattle.std.specs.Prelude.{true, false, List, [], ◌∷◌}
use Rattle.message_buffer.specs.Posted.{Step, Begins, Posts, Folds}

-- one batch of each class, with a value for mirror 0 each, and for mirror 1 in the tagged one; a fold; one batch of each class again, with values for mirror 0
abbrev pub fold_between : List Step
fold_between =
    Begins false ∷ Posts false 0 14 ∷ Begins true ∷ Posts true 0 7 ∷ Posts true 1 5 ∷ Folds ∷ Begins true ∷ Posts true 0 3 ∷ Begins false ∷ Posts false 0 12 ∷ []
