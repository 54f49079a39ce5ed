use Rattle.std.proofs.Common.{arith, length, subst, sym}
use Rattle.std.proofs.lemmas.Grind.{common_steps}
use Rattle.pie_core.specs.declared.local.Lists.{Lists}
use Rattle.pie_core.specs.FallenPlaces.{ListsFallen}
use Rattle.pie_core.proofs.FallenLists.{lists_zeros}
use Rattle.pie_core.proofs.local.Local.new.Goals as goal

pub invariant_of-result : goal.invariant_of-result
invariant_of-result c = (
  grind (arith, common_steps),
  grind (arith, common_steps),
  subst (λ (l : Lists). ListsFallen l.before.items l.values.items l.fallen) (sym c.in_ok-new-2.ensures.ok) (lists_zeros c.in_ok-before.before.items c.in_ok-values.values.items (length c.owned-owned.result.now) c.in-Some.places c.in_ok-new.field-0 c.in_ok-before.ensures c.in_ok-values.ensures c.in_ok-new.ensures),
)
