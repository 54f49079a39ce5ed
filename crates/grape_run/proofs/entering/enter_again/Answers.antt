use Rattle.std.proofs.Common.{refl, sym, ap, subst, Err}
use Rattle.grape_run.specs.Commands.{RefusesFor}
use Rattle.grape_run.specs.Entering.{IsUnanswered}
use Rattle.grape_run.specs.declared.status.Status.{Status}
use Rattle.grape_run.specs.declared.beginning.Beginning.TheVariants.{Resumed}
use Rattle.grape_run.proofs.Entered.{recovers_for, resumed_crash, resumed_enters, resumed_refuses, named, not_run}
use Rattle.grape_run.proofs.entering.enter_again.Goals as goal

pub returns-in-Ok-clause-entry : goal.returns-in-Ok-clause-entry
returns-in-Ok-clause-entry g c =
    let D = g.D.Disk in
    let job = c.args.job.now in
    let digest = c.args.digest.now in
    let e = c.in-Ok.ensures in
    record {
      enters = resumed_enters D.content D.images D.moment D.honest c.entries_may_begin.ensures job c.args.shape.now digest digest e.read.0 c.in-Ok.entry.start c.in-Ok.entry.store _ _ c.requires.job c.requires.shape refl
          e.start e.read.1 e.form e.store e.ready;
      crash = resumed_crash D.content D.images D.moment D.honest job c.args.shape.now digest digest _ _ c.requires.shape refl e.crash;
      unused = λ run. absurd (not_run run);
    }

pub returns-in-Err-clause-entry : goal.returns-in-Err-clause-entry
returns-in-Err-clause-entry g c =
    let D = g.D.Disk in
    let job = c.args.job.now in
    let digest = c.args.digest.now in
    let e = c.in-Err.ensures in
    record {
      enters = subst (λ (s : Status). IsUnanswered s × RefusesFor Resumed job digest (D.content c.args.disk.now) s) (sym c.store_status.ensures)
          (resumed_refuses job digest (D.content c.args.disk.now) c.in-Err.fault
          (λ file told. recovers_for _ _ _ _ file (Err c.in-Err.fault) c.requires.shape refl (e.start file told))
          (λ kept here same. let both = e.names_both kept here (ap Err same) in named kept here digest digest refl both.0 both.1));
      crash = resumed_crash D.content D.images D.moment D.honest job c.args.shape.now digest digest _ _ c.requires.shape refl e.crash;
      unused = λ run. absurd (not_run run);
    }
