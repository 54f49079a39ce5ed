use Rattle.text_lines.proofs.Searches.{found_place}
use Rattle.text_lines.proofs.labels.place_of.Goals as goal

pub returns-in-Ok-2-clause-place : goal.returns-in-Ok-2-clause-place
returns-in-Ok-2-clause-place c = (found_place c.args.numbers.now c.args.number c.in-Ok.place c.binary_search.result c.binary_search.ensures.position c.requires.rising c.requires.among c.in-Ok.is).0

pub returns-in-Ok-2-clause-found : goal.returns-in-Ok-2-clause-found
returns-in-Ok-2-clause-found c = (found_place c.args.numbers.now c.args.number c.in-Ok.place c.binary_search.result c.binary_search.ensures.position c.requires.rising c.requires.among c.in-Ok.is).1
