use Rattle.std.proofs.Common.{None, Some, cond, ap, sym, ◌∙◌}
use Rattle.line_statements.specs.declared.why.Why.TheVariants.{NoSource}
use Rattle.text_lines.specs.NumberSets.{is_among}
use Rattle.graph_text.proofs.gathered.Gathered.missing_source.Goals as goal

pub returns-then-contains : goal.returns-then-contains
returns-then-contains c = λ ss h. ap (λ b. cond b None (Some NoSource)) (sym (ap (is_among c.args.source) (sym h.numbers) ∙ sym c.contains.ensures ∙ c.if-contains.true))

pub returns-else-contains : goal.returns-else-contains
returns-else-contains c = λ ss h. ap (λ b. cond b None (Some NoSource)) (sym (ap (is_among c.args.source) (sym h.numbers) ∙ sym c.contains.ensures ∙ c.if-contains.false))
