use Rattle.std.proofs.Common.{length, arith, ap, sym, ◌∙◌, append-nil}
use Rattle.std.specs.Prelude.{option_map}
use Rattle.text_lines.specs.NumberSets.{insert_number}
use Rattle.graph_text.specs.ReaderState.{gathered_state}
use Rattle.graph_text.specs.Input.{bad}
use Rattle.line_statements.specs.declared.statement.Statement.TheVariants.{Joins}
use Rattle.graph_text.proofs.Gatherings.{joins_again, too_many, no_cause, many_edges, many_vertices, few_enough, numbers-added, holds-push, or_none}
use Rattle.graph_text.proofs.gathered.Gathered.join.Goals as goal

pub returns-then-len-ge-MAX_EDGES-clause-answer : goal.returns-then-len-ge-MAX_EDGES-clause-answer
returns-then-len-ge-MAX_EDGES-clause-answer c = λ ss h.
    ap (option_map (bad c.args.line)) (too_many ss (Joins c.args.edge) (joins_again ss c.args.edge) (many_edges ss c.args.edge (omega (arith, ap length h.edges))))

pub returns-then-len-gt-MAX_VERTICES-clause-answer : goal.returns-then-len-gt-MAX_VERTICES-clause-answer
returns-then-len-gt-MAX_VERTICES-clause-answer c = λ ss h.
    let numbers = numbers-added ss (Joins c.args.edge) c.args.self.now.numbers _ h.numbers (c.in_ok-insert-2.ensures.adds ∙ ap (insert_number c.args.edge.from) c.in_ok-insert.ensures.adds)
    in ap (option_map (bad c.args.line)) (too_many ss (Joins c.args.edge) (joins_again ss c.args.edge) (many_vertices ss (Joins c.args.edge) (omega (arith, ap length numbers))))

pub returns-clause-answer : goal.returns-clause-answer
returns-clause-answer c = λ ss h.
    let numbers = numbers-added ss (Joins c.args.edge) c.args.self.now.numbers _ h.numbers (c.in_ok-insert-2.ensures.adds ∙ ap (insert_number c.args.edge.from) c.in_ok-insert.ensures.adds)
    in ap (option_map (bad c.args.line)) (no_cause ss (Joins c.args.edge) (joins_again ss c.args.edge) (few_enough ss c.args.edge h.few (omega (arith, ap length h.edges)) (omega (arith, ap length numbers))))

pub returns-clause-ok : goal.returns-clause-ok
returns-clause-ok c = λ ss h.
    let added = c.in_ok-insert-2.ensures.adds ∙ ap (insert_number c.args.edge.from) c.in_ok-insert.ensures.adds
    in let numbers = numbers-added ss (Joins c.args.edge) c.args.self.now.numbers _ h.numbers added
    in holds-push (gathered_state c.args.self.now) _ ss (Joins c.args.edge) h (sym (or_none _)) (sym (or_none _)) (sym (or_none _)) (sym (or_none _)) (sym (or_none _)) (sym (or_none _)) c.in_ok-push.ensures.items (sym (append-nil _)) (sym (append-nil _)) added (sym (append-nil _)) h.labelled
    (few_enough ss c.args.edge h.few (omega (arith, ap length h.edges)) (omega (arith, ap length numbers)))
