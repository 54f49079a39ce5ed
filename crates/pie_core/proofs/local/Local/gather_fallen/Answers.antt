use Rattle.std.proofs.Common.{◌≡◌, ◌≤◌, length, subst, sym}
use Rattle.std.specs.Vec.{vec_len}
use Rattle.pie_core.specs.declared.local.Lists.{Lists}
use Rattle.pie_core.specs.FallenPlaces.{ListsFallen}
use Rattle.pie_core.proofs.FallenLists.{lists_sorted}
use Rattle.pie_core.proofs.local.Local.gather_fallen.Goals as goal

pub invariant_of-self : goal.invariant_of-self
invariant_of-self c =
    let lists = c.deref_mut.result.now in
    let stands = subst (λ (l : Lists). (length l.worklist ≡ vec_len l.before) × (vec_len l.before ≤ vec_len l.values) × ListsFallen l.before.items l.values.items l.fallen) (sym c.deref_mut.ensures.value) c.self.invariant in
    (stands.0, stands.1, lists_sorted lists.before.items lists.values.items lists.fallen stands.2 c.sort.new.self c.sort.ensures.kept c.sort.ensures.sorted c.sort.ensures.same c.sort.ensures.rises)
