use Rattle.std.proofs.Common.{None, Some, cond, ap, sym, ◌∙◌}
use Rattle.line_statements.specs.declared.why.Why.TheVariants.{NoPattern}
use Rattle.graph_text.specs.Input.{is_whole}
use Rattle.graph_text.proofs.Gatherings.{held_pattern, same_pattern}
use Rattle.graph_text.proofs.gathered.Gathered.missing_pattern.Goals as goal

pub returns-then-is_whole : goal.returns-then-is_whole
returns-then-is_whole c = λ ss h.
    ap (λ b. cond b None (Some NoPattern)) (sym (ap is_whole (sym (same_pattern c.deref.ensures.value c.deref-2.ensures.value ∙ held_pattern h)) ∙ sym c.is_whole.ensures ∙ c.if-is_whole.true))

pub returns-else-is_whole : goal.returns-else-is_whole
returns-else-is_whole c = λ ss h.
    ap (λ b. cond b None (Some NoPattern)) (sym (ap is_whole (sym (same_pattern c.deref.ensures.value c.deref-2.ensures.value ∙ held_pattern h)) ∙ sym c.is_whole.ensures ∙ c.if-is_whole.false))
