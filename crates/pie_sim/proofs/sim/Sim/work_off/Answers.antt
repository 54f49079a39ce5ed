use Rattle.std.proofs.Common.{sym, subst}
use Rattle.pie_core.specs.Locals.{LocalValues}
use Rattle.pie_sim.specs.Falling.{IsSettled}
use Rattle.pie_sim.proofs.sim.Sim.work_off.Goals as goal

-- counting changes neither values nor who waits
pub returns-clause-supported : goal.returns-clause-supported
returns-clause-supported c = λ settled.
    let start = c.args.local.now in
    let mid = c.count.new.local in
    c.work_off_counted.ensures.supported (subst (λ (l : LocalValues). IsSettled c.args.self.now.targets c.args.part.now l) (sym c.count.ensures.rest) settled)
