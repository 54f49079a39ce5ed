use Rattle.std.proofs.Common.{◌≡◌, ◌≤◌, ◌∙◌, ℕ, List, length, take, drop, ap, subst, sym}
use Rattle.std.specs.Vec.{vec_len}
use Rattle.pie_core.specs.declared.local.Lists.{Lists}
use Rattle.pie_core.specs.FallenPlaces.{ListsFallen}
use Rattle.pie_core.proofs.FallenLists.{lists_copied}
use Rattle.pie_core.proofs.local.Local.load.Goals as goal

pub invariant_of-self : goal.invariant_of-self
invariant_of-self c =
    let lists = c.deref_mut-local.result.now in
    let written = c.copy_from_slice.new.self in
    let stands = subst (λ (l : Lists). (length l.worklist ≡ vec_len l.before) × (vec_len l.before ≤ vec_len l.values) × ListsFallen l.before.items l.values.items l.fallen) (sym c.deref_mut-local.ensures.value) c.self.invariant in
    let few : vec_len lists.before ≤ vec_len written = subst (λ n. vec_len lists.before ≤ n) (sym c.copy_from_slice.ensures.len) stands.1 in (
      stands.0,
      few,
      lists_copied c.deref_mut.result.now written.items c.settle.new.before (drop (length c.settle.new.before) lists.before.items) lists.before.len c.settle.new.self c.settle.ensures.list
          (c.settle.ensures.before ∙ ap (take (length c.deref_mut.result.now)) c.deref.ensures.value) (sym c.deref_mut.ensures.len)
          (subst (λ n. lists.before.len ≤ n) (sym c.deref.ensures.len ∙ ap (λ (l : List ℕ). length l) c.deref.ensures.value) few),
    )
