-- Labels are set one by one.
use Rattle.std.proofs.Common.{◌≡◌, ℕ, zero, suc, ◌<◌, ◌≤◌, Bool, true, false, cond, ◌==◌, List, [], ◌∷◌, length, Some, refl, sym, ◌∙◌, ap, arith, get_or, slice_set}
use Rattle.std.specs.Prelude.{unwrap_or}
use Rattle.std.specs.Map.{lookup}
use Rattle.std.proofs.lemmas.Bool.Decides.{nat_tests}
use Rattle.text_lines.specs.NumberSets.{RisesOver, DoRise}
use Rattle.text_lines.specs.Labels.{label_among, labelled}
use Rattle.text_lines.proofs.Rising.{eq_self}
use Rattle.text_lines.proofs.Searches.{rises_to, rest_rises}

-- A label more.

apart_above : (a b : ℕ) → a < b → (a == b) ≡ false
apart_above a b h = grind (arith, nat_tests, h)

apart_below : (a b : ℕ) → b < a → (a == b) ≡ false
apart_below a b h = grind (arith, nat_tests, h)

-- the vertex m, where its label is l or that among the others
abbrev vertex_with : Bool → ℕ → List (ℕ × ℕ) → ℕ → ℕ × ℕ
vertex_with c l taken m = (m, unwrap_or (cond c (Some l) (lookup (λ k. k == m) taken)) 0)

others_same : (v : ℕ × ℕ) (taken : List (ℕ × ℕ)) (low : ℕ) (ns : List ℕ) → v.0 ≤ low → RisesOver low ns → labelled (v ∷ taken) ns ≡ labelled taken ns
others_same v taken low [] le r = refl
others_same v taken low (m ∷ ns) le r =
    let apart : (v.0 == m) ≡ false = apart_above v.0 m (omega (arith, le, r.0))
    in ap (λ c. vertex_with c v.1 taken m ∷ labelled (v ∷ taken) ns) apart
    ∙ ap (λ vs. (m, label_among taken m) ∷ vs) (others_same v taken m ns (omega (arith, le, r.0)) r.1)

-- to set a vertex at its place is to put its label before the others
pub set_label : (ns : List ℕ) (taken : List (ℕ × ℕ)) (place : ℕ) (v : ℕ × ℕ) → DoRise ns → place < length ns → get_or ns place 0 ≡ v.0 → slice_set (labelled taken ns) place v ≡ labelled (v ∷ taken) ns
set_label [] taken place v r h e = absurd (omega (arith, h))
set_label (m ∷ ns) taken zero v r h e =
    let here : (v.0 == m) ≡ true = ap (λ k. v.0 == k) e ∙ eq_self v.0
    in ap (λ k. (k, v.1) ∷ labelled taken ns) (sym e)
    ∙ ap (λ c. vertex_with c v.1 taken m ∷ labelled taken ns) (sym here)
    ∙ ap (λ vs. vertex_with (v.0 == m) v.1 taken m ∷ vs) (sym (others_same v taken m ns (omega (arith, e)) r))
set_label (m ∷ ns) taken (suc place) v r h e =
    let above : m < get_or ns place 0 = rises_to m ns place r (omega (arith, h))
    in let apart : (v.0 == m) ≡ false = apart_below v.0 m (omega (arith, above, e))
    in ap (λ vs. (m, label_among taken m) ∷ vs) (set_label ns taken place v (rest_rises m ns r) (omega (arith, h)) e)
    ∙ ap (λ c. vertex_with c v.1 taken m ∷ labelled (v ∷ taken) ns) (sym apart)
