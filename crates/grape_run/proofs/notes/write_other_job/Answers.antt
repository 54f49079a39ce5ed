use Rattle.std.proofs.Common.{◌≡◌, ℕ, List, ◌++◌, OnOk, OnErr, codes, sym, ◌∙◌, ap, subst, append_assoc}
use Rattle.grape_port.specs.Ports.{Appends, AppendsFront}
use Rattle.grape_run.specs.Notes.{hex, other_job_text}
use Rattle.grape_run.proofs.Parts.{on_err, front_longer, ok_behind, err_behind}
use Rattle.grape_run.proofs.notes.write_other_job.Goals as goal

-- the line as far as the second digest, and what comes behind it
abbrev front : List ℕ → List ℕ
front kept = codes "grape: state of another job: " ++ kept ++ codes " not "

abbrev rest : List ℕ → List ℕ
rest here = here ++ codes "\n"

whole : (kept here kept_digits here_digits : List ℕ) → kept_digits ≡ hex kept → here_digits ≡ hex here → front kept_digits ++ rest here_digits ≡ other_job_text kept here
whole kept here kept_digits here_digits k h =
    sym (append_assoc (front kept_digits) here_digits (codes "\n"))
    ∙ (ap (λ (d : List ℕ). front d ++ here_digits ++ codes "\n") k ∙ ap (λ (d : List ℕ). front (hex kept) ++ d ++ codes "\n") h)

pub returns-in_err-write_three-clause-err : goal.returns-in_err-write_three-clause-err
returns-in_err-write_three-clause-err g c =
    on_err c.from_residual.result
    (subst (λ (text : List ℕ). AppendsFront (g.N.Sink.written c.args.note.now) text (g.N.Sink.written c.write_three.new.note)) (whole c.args.kept.now c.args.here.now _ _ c.hex_of-kept.ensures c.hex_of-here.ensures)
    (front_longer _ _ (front c.hex_of-kept.result) (rest c.hex_of-here.result) c.in_err-write_three.ensures.err))

pub returns-clause-appended : goal.returns-clause-appended
returns-clause-appended g c =
    subst (λ (text : List ℕ). OnOk c.write_two.result (Appends (g.N.Sink.written c.args.note.now) text (g.N.Sink.written c.write_two.new.note))) (whole c.args.kept.now c.args.here.now _ _ c.hex_of-kept.ensures c.hex_of-here.ensures)
    (ok_behind c.write_two.result _ _ _ (front c.hex_of-kept.result) (rest c.hex_of-here.result) c.in_ok-write_three.ensures.appended c.write_two.ensures.appended)

pub returns-clause-err : goal.returns-clause-err
returns-clause-err g c =
    subst (λ (text : List ℕ). OnErr c.write_two.result (AppendsFront (g.N.Sink.written c.args.note.now) text (g.N.Sink.written c.write_two.new.note))) (whole c.args.kept.now c.args.here.now _ _ c.hex_of-kept.ensures c.hex_of-here.ensures)
    (err_behind c.write_two.result _ _ _ (front c.hex_of-kept.result) (rest c.hex_of-here.result) c.in_ok-write_three.ensures.appended c.write_two.ensures.err)
