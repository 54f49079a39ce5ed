use Rattle.delay_stretch.proofs.Windows.{window-follows}
use Rattle.delay_stretch.proofs.laws.window_follows_the_arrivals.Goals as goal

pub returns : goal.returns
returns c = window-follows
