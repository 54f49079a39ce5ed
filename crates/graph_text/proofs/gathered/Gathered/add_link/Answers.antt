use Rattle.std.proofs.Common.{length, arith, ap, refl, sym, append-nil}
use Rattle.std.specs.Prelude.{option_map}
use Rattle.graph_text.specs.ReaderState.{gathered_state}
use Rattle.graph_text.specs.Input.{bad}
use Rattle.line_statements.specs.declared.statement.Statement.TheVariants.{Link}
use Rattle.graph_text.proofs.Gatherings.{links_again, too_many, no_cause, many_links, few_links, holds-push, or_none}
use Rattle.graph_text.proofs.gathered.Gathered.add_link.Goals as goal

pub returns-then-len-ge-MAX_LINKS-clause-answer : goal.returns-then-len-ge-MAX_LINKS-clause-answer
returns-then-len-ge-MAX_LINKS-clause-answer c = λ ss h.
    ap (option_map (bad c.args.line)) (too_many ss (Link c.args.link) (links_again ss c.args.link) (many_links ss c.args.link (omega (arith, ap length h.links))))

pub returns-clause-answer : goal.returns-clause-answer
returns-clause-answer c = λ ss h.
    ap (option_map (bad c.args.line)) (no_cause ss (Link c.args.link) (links_again ss c.args.link) (few_links ss c.args.link h.few (omega (arith, ap length h.links))))

pub returns-clause-ok : goal.returns-clause-ok
returns-clause-ok c = λ ss h.
    holds-push (gathered_state c.args.self.now) _ ss (Link c.args.link) h (sym (or_none _)) (sym (or_none _)) (sym (or_none _)) (sym (or_none _)) (sym (or_none _)) (sym (or_none _)) (sym (append-nil _)) (sym (append-nil _)) c.in_ok-push.ensures.items refl (sym (append-nil _)) h.labelled
    (few_links ss c.args.link h.few (omega (arith, ap length h.links)))
