use Rattle.delay_stretch.proofs.Windows.{stretch_turns-window}
use Rattle.delay_stretch.proofs.laws.only_the_window_counts.Goals as goal

pub returns : goal.returns
returns c = stretch_turns-window
