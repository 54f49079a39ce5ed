use Rattle.grape_run.proofs.Parts.{on_err, front_longer, err_behind}
use Rattle.grape_run.proofs.notes.write_two.Goals as goal

pub returns-in_err-write_all-clause-err : goal.returns-in_err-write_all-clause-err
returns-in_err-write_all-clause-err g c = on_err c.from_residual.result (front_longer _ _ c.args.first.now c.args.second.now c.in_err-write_all.ensures.err)

pub returns-clause-err : goal.returns-clause-err
returns-clause-err g c = err_behind c.write_all-2.result _ _ _ c.args.first.now c.args.second.now c.in_ok-write_all.ensures.appended c.write_all-2.ensures.err
