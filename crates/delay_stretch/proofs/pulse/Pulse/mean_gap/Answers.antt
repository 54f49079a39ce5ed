use Rattle.std.proofs.Common.{ap, sym, ◌∙◌}
use Rattle.std.specs.Prelude.{option_copied}
use Rattle.delay_stretch.proofs.Clocks.{last-le-first}
use Rattle.delay_stretch.proofs.pulse.Pulse.mean_gap.Goals as goal

pub overflow_sub-result : goal.overflow_sub-result
overflow_sub-result c =
    let both = c.in-Some-Some in
    last-le-first c.self.inside.clocks.items both.newest.now both.oldest.now c.self.invariant.2
    (sym (ap option_copied both.is-0) ∙ c.front.ensures)
    (sym (ap option_copied both.is-1) ∙ c.back.ensures)
