use Rattle.std.proofs.Common.{subst}
use Rattle.command_words.specs.Grammar.{mode_of}
use Rattle.grape_run.specs.Entering.{CountsFor}
use Rattle.grape_run.specs.declared.status.Status.{Status}
use Rattle.grape_run.proofs.Outcomes.{ends_by}
use Rattle.grape_run.proofs.run.grape.Goals as goal

pub returns-clause-complete : goal.returns-clause-complete
returns-clause-complete g c = λ no_read no_write no_disk.
    ends_by (mode_of c.args.words.now) c.run-finish.result.status _ _ c.shown_is_first.ensures
    (λ e. c.run-finish.ensures.bad_words.0 e)
    (λ e. no_read (c.run-finish.ensures.read_fault e))
    (λ e. no_write (c.run-finish.ensures.write_fault e))
    (λ e. no_disk (subst (λ (s : Status). CountsFor s (g.D.Disk.faults c.args.disk.now) (g.D.Disk.faults c.run-finish.new.disk)) e c.run-finish.ensures.counts))
    c.run-finish.ensures.read
    c.run-finish.ensures.demo_ends
