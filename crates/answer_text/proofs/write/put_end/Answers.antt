use Rattle.std.proofs.Common.{[], ◌++◌, codes}
use Rattle.std.proofs.lemmas.Result.{err_from_is_err_and, on_err_weaker}
use Rattle.grape_port.specs.Ports.{AppendsFront}
use Rattle.answer_text.proofs.Texts.{front_of_more, puts_more, puts_then_front}
use Rattle.answer_text.proofs.write.put_end.Goals as goal

pub returns-in_err-make_room-clause-err : goal.returns-in_err-make_room-clause-err
returns-in_err-make_room-clause-err g c =
    let p = err_from_is_err_and c.from_residual.result c.from_residual.ensures.1
    in rw p.1 (front_of_more _ _ c.args.piece.now _ c.in_err-make_room.ensures.err)

pub returns-clause-err : goal.returns-clause-err
returns-clause-err g c =
    let put = puts_more _ _ (g.O.Sink.written c.make_room.new.out) c.args.piece.now [] c.make_room.new.self c.in_ok-make_room.ensures.put (codes "end\n")
    in on_err_weaker c.finish.result (λ (f : AppendsFront (g.O.Sink.written c.make_room.new.out) c.push.new.self (g.O.Sink.written c.finish.new.out)). puts_then_front _ _ _ c.args.piece.now (codes "end\n") (c.make_room.new.self ++ codes "end\n") put (rw c.push.ensures at f)) c.finish.ensures.err
