use Rattle.std.proofs.Common.{◌≡◌, ◌==◌, false, length, arith, ap, refl, sym, ◌∙◌, append-nil}
use Rattle.std.specs.Prelude.{option_map}
use Rattle.std.specs.List.{list_any}
use Rattle.graph_text.specs.ReaderState.{gathered_state}
use Rattle.graph_text.specs.Input.{bad, repeats}
use Rattle.line_statements.specs.declared.statement.Statement.TheVariants.{Vertex}
use Rattle.graph_text.proofs.Numbers.{not_true, not_false}
use Rattle.graph_text.proofs.Gatherings.{label_again, twice, too_many, no_cause, many_vertices, few_vertices, numbers-added, labelled-push, holds-push, or_none}
use Rattle.graph_text.proofs.gathered.Gathered.label.Goals as goal

pub returns-then-not-is_first-clause-answer : goal.returns-then-not-is_first-clause-answer
returns-then-not-is_first-clause-answer c = λ ss h.
    ap (option_map (bad c.args.line)) (twice ss (Vertex c.args.number c.args.label) (label_again ss c.args.number c.args.label (gathered_state c.args.self.now) h ∙ not_false _ (sym c.in_ok-is_first.ensures.new ∙ c.if-not-is_first.true)))

pub returns-then-len-gt-MAX_VERTICES-clause-answer : goal.returns-then-len-gt-MAX_VERTICES-clause-answer
returns-then-len-gt-MAX_VERTICES-clause-answer c = λ ss h.
    let fresh : list_any (repeats (Vertex c.args.number c.args.label)) ss ≡ false
    = label_again ss c.args.number c.args.label (gathered_state c.args.self.now) h ∙ not_true _ (sym c.in_ok-is_first.ensures.new ∙ c.if-not-is_first.false)
    in let numbers = numbers-added ss (Vertex c.args.number c.args.label) c.args.self.now.numbers _ h.numbers c.in_ok-insert.ensures.adds
    in ap (option_map (bad c.args.line)) (too_many ss (Vertex c.args.number c.args.label) fresh (many_vertices ss (Vertex c.args.number c.args.label) (omega (arith, ap length numbers))))

pub returns-clause-answer : goal.returns-clause-answer
returns-clause-answer c = λ ss h.
    let fresh : list_any (repeats (Vertex c.args.number c.args.label)) ss ≡ false
    = label_again ss c.args.number c.args.label (gathered_state c.args.self.now) h ∙ not_true _ (sym c.in_ok-is_first.ensures.new ∙ c.if-not-is_first.false)
    in let numbers = numbers-added ss (Vertex c.args.number c.args.label) c.args.self.now.numbers _ h.numbers c.in_ok-insert.ensures.adds
    in ap (option_map (bad c.args.line)) (no_cause ss (Vertex c.args.number c.args.label) fresh (few_vertices ss (Vertex c.args.number c.args.label) refl refl h.few (omega (arith, ap length numbers))))

pub returns-clause-ok : goal.returns-clause-ok
returns-clause-ok c = λ ss h.
    let numbers = numbers-added ss (Vertex c.args.number c.args.label) c.args.self.now.numbers _ h.numbers c.in_ok-insert.ensures.adds
    in let labelled = labelled-push c.args.number c.args.label c.args.self.now.labelled _ c.args.self.now.labels.items h.labelled c.in_ok-is_first.ensures.adds
    in holds-push (gathered_state c.args.self.now) _ ss (Vertex c.args.number c.args.label) h (sym (or_none _)) (sym (or_none _)) (sym (or_none _)) (sym (or_none _)) (sym (or_none _)) (sym (or_none _)) (sym (append-nil _)) (sym (append-nil _)) (sym (append-nil _)) c.in_ok-insert.ensures.adds c.in_ok-push.ensures.items
    (λ k. labelled k ∙ ap (list_any (λ v. v.0 == k)) (sym c.in_ok-push.ensures.items))
    (few_vertices ss (Vertex c.args.number c.args.label) refl refl h.few (omega (arith, ap length numbers)))
