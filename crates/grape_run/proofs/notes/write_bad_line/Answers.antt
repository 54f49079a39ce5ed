use Rattle.std.proofs.Common.{◌≡◌, ℕ, List, ◌++◌, Option, codes, decimal, subst, ◌∙◌}
use Rattle.grape_port.specs.Ports.{Appends, AppendsFront}
use Rattle.grape_port.proofs.Writes.{appends_both}
use Rattle.line_statements.specs.declared.why.Why.{Why}
use Rattle.grape_run.specs.Notes.{why_text, bad_line_text}
use Rattle.grape_run.proofs.Parts.{on_err, front_behind, front_longer, ok_behind, err_behind}
use Rattle.grape_run.proofs.notes.write_bad_line.Goals as goal

-- the line as far as each of its parts
abbrev head : List ℕ
head = codes "grape: input line "

abbrev to_number : ℕ → List ℕ
to_number line = head ++ decimal line

abbrev to_colon : ℕ → List ℕ
to_colon line = to_number line ++ codes ": "

abbrev to_word : ℕ → Why → List ℕ
to_word line why = to_colon line ++ why_text why

-- a front of a part of the line is a front of the line
from_word : (before after : Option (List ℕ)) (line : ℕ) (why : Why) → AppendsFront before (to_word line why) after → AppendsFront before (bad_line_text line why) after
from_word before after line why front = front_longer before after (to_word line why) (codes "\n") front

from_number : (before after : Option (List ℕ)) (line : ℕ) (why : Why) → AppendsFront before (to_number line) after → AppendsFront before (bad_line_text line why) after
from_number before after line why front =
    from_word before after line why (front_longer before after (to_colon line) (why_text why) (front_longer before after (to_number line) (codes ": ") front))

-- what stands after the first parts
with_number : (before first second : Option (List ℕ)) (line : ℕ) (number : List ℕ) → number ≡ decimal line → Appends before head first → Appends first number second → Appends before (to_number line) second
with_number before first second line number e a b = appends_both before first second head (decimal line) a (subst (λ n. Appends first n second) e b)

with_colon : (before first second third : Option (List ℕ)) (line : ℕ) (number : List ℕ) → number ≡ decimal line → Appends before head first → Appends first number second → Appends second (codes ": ") third → Appends before (to_colon line) third
with_colon before first second third line number e a b d = appends_both before second third (to_number line) (codes ": ") (with_number before first second line number e a b) d

pub returns-in_err-write_all-clause-err : goal.returns-in_err-write_all-clause-err
returns-in_err-write_all-clause-err g c =
    on_err c.from_residual.result (from_number _ _ c.args.line c.args.why (front_longer _ _ head (decimal c.args.line) c.in_err-write_all.ensures.err))

pub returns-in_err-write_all-2-clause-err : goal.returns-in_err-write_all-2-clause-err
returns-in_err-write_all-2-clause-err g c =
    let front = subst (λ n. AppendsFront (g.N.Sink.written c.write_all.new.out) n (g.N.Sink.written c.write_all-2.new.out)) (c.as_bytes.ensures.value ∙ c.format.ensures.text) c.in_err-write_all-2.ensures.err in
    on_err c.from_residual-in_err-write_all-2.result (from_number _ _ c.args.line c.args.why (front_behind _ _ _ head (decimal c.args.line) c.in_ok-write_all.ensures.appended front))

pub returns-in_err-write_all-3-clause-err : goal.returns-in_err-write_all-3-clause-err
returns-in_err-write_all-3-clause-err g c =
    let whole = with_number _ _ _ c.args.line _ (c.as_bytes.ensures.value ∙ c.format.ensures.text) c.in_ok-write_all.ensures.appended c.in_ok-write_all-2.ensures.appended in
    on_err c.from_residual-in_err-write_all-3.result
    (from_word _ _ c.args.line c.args.why (front_longer _ _ (to_colon c.args.line) (why_text c.args.why) (front_behind _ _ _ (to_number c.args.line) (codes ": ") whole c.in_err-write_all-3.ensures.err)))

pub returns-in_err-write_all-4-clause-err : goal.returns-in_err-write_all-4-clause-err
returns-in_err-write_all-4-clause-err g c =
    let whole = with_colon _ _ _ _ c.args.line _ (c.as_bytes.ensures.value ∙ c.format.ensures.text) c.in_ok-write_all.ensures.appended c.in_ok-write_all-2.ensures.appended c.in_ok-write_all-3.ensures.appended in
    let front = subst (λ n. AppendsFront (g.N.Sink.written c.write_all-3.new.out) n (g.N.Sink.written c.write_all-4.new.out)) c.word_of.ensures c.in_err-write_all-4.ensures.err in
    on_err c.from_residual-in_err-write_all-4.result (from_word _ _ c.args.line c.args.why (front_behind _ _ _ (to_colon c.args.line) (why_text c.args.why) whole front))

pub returns-clause-appended : goal.returns-clause-appended
returns-clause-appended g c =
    let colon = with_colon _ _ _ _ c.args.line _ (c.as_bytes.ensures.value ∙ c.format.ensures.text) c.in_ok-write_all.ensures.appended c.in_ok-write_all-2.ensures.appended c.in_ok-write_all-3.ensures.appended in
    let word = subst (λ n. Appends (g.N.Sink.written c.write_all-3.new.out) n (g.N.Sink.written c.write_all-4.new.out)) c.word_of.ensures c.in_ok-write_all-4.ensures.appended in
    ok_behind c.write_all-5.result _ _ _ (to_word c.args.line c.args.why) (codes "\n") (appends_both _ _ _ (to_colon c.args.line) (why_text c.args.why) colon word) c.write_all-5.ensures.appended

pub returns-clause-err : goal.returns-clause-err
returns-clause-err g c =
    let colon = with_colon _ _ _ _ c.args.line _ (c.as_bytes.ensures.value ∙ c.format.ensures.text) c.in_ok-write_all.ensures.appended c.in_ok-write_all-2.ensures.appended c.in_ok-write_all-3.ensures.appended in
    let word = subst (λ n. Appends (g.N.Sink.written c.write_all-3.new.out) n (g.N.Sink.written c.write_all-4.new.out)) c.word_of.ensures c.in_ok-write_all-4.ensures.appended in
    err_behind c.write_all-5.result _ _ _ (to_word c.args.line c.args.why) (codes "\n") (appends_both _ _ _ (to_colon c.args.line) (why_text c.args.why) colon word) c.write_all-5.ensures.err
