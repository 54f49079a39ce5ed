use Rattle.command_words.proofs.Taken.{taken}
use Rattle.command_words.proofs.laws.grammar_is_taken.Goals as goal

pub returns : goal.returns
returns c = taken
