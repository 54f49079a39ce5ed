use Rattle.std.proofs.Common.{refl, sym, ap, subst, Err}
use Rattle.grape_run.specs.Commands.{RefusesFor}
use Rattle.grape_run.specs.Entering.{IsUnanswered}
use Rattle.grape_run.specs.declared.status.Status.{Status}
use Rattle.grape_run.specs.declared.beginning.Beginning.TheVariants.{Fresh}
use Rattle.grape_run.proofs.Entered.{fresh_crash, fresh_enters, fresh_refuses}
use Rattle.grape_run.proofs.entering.enter_fresh.Goals as goal

pub returns-in-Ok-clause-entry : goal.returns-in-Ok-clause-entry
returns-in-Ok-clause-entry g c =
    let D = g.D.Disk in
    let job = c.args.job.now in
    let digest = c.args.digest.now in
    let e = c.in-Ok.ensures in
    record {
      enters = fresh_enters D.content D.images D.moment D.honest job c.args.shape.now digest digest c.in-Ok.entry.start c.in-Ok.entry.store _ _ c.requires.job c.requires.shape (λ _. refl)
          e.start e.store e.empty e.ready;
      crash = fresh_crash D.content D.images D.moment D.honest job c.args.shape.now digest digest _ _ c.claims_add_up.ensures.begins c.requires.shape (λ _. refl) e.unused e.crash;
      unused = λ _ z. e.unused z;
    }

pub returns-in-Err-clause-entry : goal.returns-in-Err-clause-entry
returns-in-Err-clause-entry g c =
    let D = g.D.Disk in
    let job = c.args.job.now in
    let digest = c.args.digest.now in
    let e = c.in-Err.ensures in
    record {
      enters = subst (λ (s : Status). IsUnanswered s × RefusesFor Fresh job digest (D.content c.args.disk.now) s) (sym c.entry_status.ensures)
          (fresh_refuses job digest (D.content c.args.disk.now) c.in-Err.fault (λ size same. e.there size (ap Err same)) (λ f same. e.no_other f (ap Err same)));
      crash = fresh_crash D.content D.images D.moment D.honest job c.args.shape.now digest digest _ _ c.claims_add_up.ensures.begins c.requires.shape (λ _. refl) e.unused e.crash;
      unused = λ _ z. e.unused z;
    }
