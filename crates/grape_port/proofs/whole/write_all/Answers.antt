use Rattle.std.proofs.Common.{arith, length-drop}
use Rattle.std.proofs.lemmas.Result.{err_from_is_err_and}
use Rattle.grape_port.proofs.Writes.{appends_next, appends_front}
use Rattle.grape_port.proofs.whole.write_all.Goals as goal

pub returns-in_err-done-clause-err : goal.returns-in_err-done-clause-err
returns-in_err-done-clause-err g c =
    let p = err_from_is_err_and c.from_residual.result c.from_residual.ensures.1
    in rw p.1 (appends_front _ _ _ c.args.bytes.now c.pieces.done c.pieces.invariant.1 c.in_err-done.ensures.err)

pub pieces-preserved : goal.pieces-preserved
pieces-preserved g c = (
  omega (arith, length-drop c.pieces.done c.args.bytes.now, c.in_ok-done.ensures.count),
  appends_next _ _ _ c.args.bytes.now c.pieces.done c.in_ok-done.field-0 c.pieces.invariant.1 c.in_ok-done.ensures.appended,
  omega (arith, c.pieces.invariant.2, c.write.ensures.faults_stay),
)
