use Rattle.std.proofs.Common.{◌≡◌, ℕ, List, ◌++◌, codes, length, flat_map, subst, ap, ◌∙◌}
use Rattle.std.proofs.lemmas.Result.{err_from_is_err_and, on_ok_weaker, on_err_weaker}
use Rattle.grape_port.specs.Ports.{Appends, AppendsFront}
use Rattle.answer_text.specs.AnswerText.{head_text, row_text}
use Rattle.answer_text.specs.Waiting.{Puts}
use Rattle.answer_text.proofs.Texts.{front_of_more, puts_end-front, puts_end-all}
use Rattle.answer_text.proofs.write.write_rows.Given.{Over}
use Rattle.answer_text.proofs.write.write_rows.Goals as goal

pub returns-in_err-put_rows-clause-err : goal.returns-in_err-put_rows-clause-err
returns-in_err-put_rows-clause-err g c =
    let p = err_from_is_err_and c.from_residual.result c.from_residual.ensures.1
    in let head = head_text c.args.kind (length c.args.rows.now)
    in let lines = flat_map (row_text c.args.kind) c.args.rows.now
    in let first : c.push_head.new.piece ≡ head = c.push_head.ensures ∙ ap (λ (t : List ℕ). t ++ head) c.new-piece.ensures
    in let front = subst (λ (t : List ℕ). AppendsFront (g.O.Sink.written c.args.out.now) (t ++ lines) (g.O.Sink.written c.put_rows.new.out)) first c.in_err-put_rows.ensures.err
    in rw p.1 (front_of_more _ _ (head ++ lines) (codes "end\n") front)

-- the first line waits, and all the others are put behind it
lines_put : (g : Over) (c : goal.After-put_end g) → Puts (g.O.Sink.written c.args.out.now) (head_text c.args.kind (length c.args.rows.now)) (flat_map (row_text c.args.kind) c.args.rows.now) (g.O.Sink.written c.put_rows.new.out) c.put_rows.new.piece
lines_put g c =
    let head = head_text c.args.kind (length c.args.rows.now)
    in let lines = flat_map (row_text c.args.kind) c.args.rows.now
    in let first : c.push_head.new.piece ≡ head = c.push_head.ensures ∙ ap (λ (t : List ℕ). t ++ head) c.new-piece.ensures
    in subst (λ (t : List ℕ). Puts (g.O.Sink.written c.args.out.now) t lines (g.O.Sink.written c.put_rows.new.out) c.put_rows.new.piece) first c.in_ok-put_rows.ensures.put

pub returns-clause-written : goal.returns-clause-written
returns-clause-written g c =
    on_ok_weaker c.put_end.result (λ (a : Appends (g.O.Sink.written c.put_rows.new.out) (c.put_rows.new.piece ++ codes "end\n") (g.O.Sink.written c.put_end.new.out)). puts_end-all _ _ _ (head_text c.args.kind (length c.args.rows.now)) (flat_map (row_text c.args.kind) c.args.rows.now) c.put_rows.new.piece (lines_put g c) (codes "end\n") a) c.put_end.ensures.appended

pub returns-clause-err : goal.returns-clause-err
returns-clause-err g c =
    on_err_weaker c.put_end.result (λ (f : AppendsFront (g.O.Sink.written c.put_rows.new.out) (c.put_rows.new.piece ++ codes "end\n") (g.O.Sink.written c.put_end.new.out)). puts_end-front _ _ _ (head_text c.args.kind (length c.args.rows.now)) (flat_map (row_text c.args.kind) c.args.rows.now) c.put_rows.new.piece (lines_put g c) (codes "end\n") f) c.put_end.ensures.err
