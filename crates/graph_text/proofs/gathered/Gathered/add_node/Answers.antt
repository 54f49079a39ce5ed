use Rattle.std.proofs.Common.{ap, refl, sym, ◌∙◌, append-nil}
use Rattle.std.specs.Prelude.{option_map}
use Rattle.graph_text.specs.ReaderState.{gathered_state}
use Rattle.graph_text.specs.Input.{bad, has_node}
use Rattle.line_statements.specs.declared.statement.Statement.TheVariants.{Node}
use Rattle.graph_text.proofs.Gatherings.{node_again, twice, no_cause, few_still, holds-push, or_none}
use Rattle.graph_text.proofs.gathered.Gathered.add_node.Goals as goal

pub returns-then-has_node-clause-answer : goal.returns-then-has_node-clause-answer
returns-then-has_node-clause-answer c = λ ss h.
    ap (option_map (bad c.args.line)) (twice ss (Node c.args.node) (node_again ss c.args.node (gathered_state c.args.self.now) h ∙ ap (λ nodes. has_node nodes c.args.node.number) (sym c.deref.ensures.value) ∙ sym c.has_node.ensures ∙ c.if-has_node.true))

pub returns-clause-answer : goal.returns-clause-answer
returns-clause-answer c = λ ss h.
    ap (option_map (bad c.args.line))
    (no_cause ss (Node c.args.node) (node_again ss c.args.node (gathered_state c.args.self.now) h ∙ ap (λ nodes. has_node nodes c.args.node.number) (sym c.deref.ensures.value) ∙ sym c.has_node.ensures ∙ c.if-has_node.false) (few_still ss (Node c.args.node) refl refl refl h.few))

pub returns-clause-ok : goal.returns-clause-ok
returns-clause-ok c = λ ss h.
    holds-push (gathered_state c.args.self.now) _ ss (Node c.args.node) h (sym (or_none _)) (sym (or_none _)) (sym (or_none _)) (sym (or_none _)) (sym (or_none _)) (sym (or_none _)) (sym (append-nil _)) c.in_ok-push.ensures.items (sym (append-nil _)) refl (sym (append-nil _)) h.labelled
    (few_still ss (Node c.args.node) refl refl refl h.few)
