use Rattle.std.proofs.Common.{ap, ◌++◌}
use Rattle.text_lines.specs.Lines.{lines_of}
use Rattle.graph_text.specs.Input.{job_of_lines}
use Rattle.graph_text.proofs.Cuts.{shown_first}
use Rattle.graph_text.proofs.laws.shown_is_first.Goals as goal

pub returns : goal.returns
returns c = λ front rest bad h. ap (job_of_lines (lines_of (front ++ rest))) (shown_first front rest bad h)
