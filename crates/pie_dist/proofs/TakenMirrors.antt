-- The mirrors that a hand has lowered so far, taken in their order.
use Rattle.std.proofs.Common.{◌≡◌, ℕ, zero, suc, ◌+◌, ◌<◌, refl, sym, ◌∙◌, ap, arith, List, [], ◌∷◌, ◌++◌, length, take, drop, slice_index}
use Rattle.std.specs.Prelude.{slice_set, min}
use Rattle.std.proofs.lemmas.List.{take-append-drop}
use Rattle.value_order.specs.declared.order.Order.TheVariants.{Least}
use Rattle.graph_core.specs.Parts.{FragmentLists}
use Rattle.pie_core.specs.Locals.{LocalValues}
use Rattle.pie_core.specs.Solutions.{met}
use Rattle.pie_lowering.specs.Lowering.{with_mirrors}
use Rattle.pie_lowering.proofs.Mirrors.{mirror_met}

met-none : (xs : List ℕ) → met Least xs [] ≡ xs
met-none [] = refl
met-none (x ∷ xs) = refl

pub no-mirrors : (part : FragmentLists) (local : LocalValues) → with_mirrors part local [] ≡ local
no-mirrors part local = ap (λ (xs : List ℕ). let l : LocalValues = record local { values = xs } in l) (ap (λ ys. take (length part.owned) local.values ++ ys) (met-none (drop (length part.owned) local.values)) ∙ take-append-drop (length part.owned) local.values)

-- one value more of the hand
met-more : (xs hand : List ℕ) (k : ℕ) → k < length hand → k < length xs → met Least xs (take (suc k) hand) ≡ slice_set (met Least xs (take k hand)) k (min (slice_index (met Least xs (take k hand)) k) (slice_index hand k))
met-more [] hand k h l = absurd (omega (arith, l))
met-more (x ∷ xs) [] k h l = absurd (omega (arith, h))
met-more (x ∷ xs) (a ∷ hand) zero h l = ap (λ ys. min x a ∷ ys) (met-none xs)
met-more (x ∷ xs) (a ∷ hand) (suc k) h l = ap (λ ys. min x a ∷ ys) (met-more xs hand k (omega (arith, h)) (omega (arith, l)))

lowered-more : (n : ℕ) (xs hand : List ℕ) (k : ℕ) → k < length hand → n + k < length xs →
    let so_far : List ℕ = take n xs ++ met Least (drop n xs) (take k hand) in
    take n xs ++ met Least (drop n xs) (take (suc k) hand) ≡ slice_set so_far (n + k) (min (slice_index so_far (n + k)) (slice_index hand k))
lowered-more zero xs hand k h l =
    let so_far : List ℕ = met Least xs (take k hand) in
    let e : k ≡ 0 + k = omega arith in
    met-more xs hand k h (omega (arith, l)) ∙ ap (λ m. slice_set so_far m (min (slice_index so_far m) (slice_index hand k))) e
lowered-more (suc n) [] hand k h l = absurd (omega (arith, l))
lowered-more (suc n) (x ∷ xs) hand k h l =
    let so_far : List ℕ = take n xs ++ met Least (drop n xs) (take k hand) in
    let e : suc (n + k) ≡ suc n + k = omega arith in
    ap (λ ys. x ∷ ys) (lowered-more n xs hand k h (omega (arith, l))) ∙ ap (λ m. slice_set (x ∷ so_far) m (min (slice_index (x ∷ so_far) m) (slice_index hand k))) e

pub mirrors-more : (part : FragmentLists) (local : LocalValues) (hand : List ℕ) (k m : ℕ) → k < length hand → m ≡ length part.owned + k → m < length local.values →
    with_mirrors part local (take (k + 1) hand) ≡ mirror_met (with_mirrors part local (take k hand)) m (slice_index hand k)
mirrors-more part local hand k m h e l =
    let n = length part.owned in
    let so_far : List ℕ = take n local.values ++ met Least (drop n local.values) (take k hand) in
    let one : k + 1 ≡ suc k = omega arith in
    let list = ap (λ j. take n local.values ++ met Least (drop n local.values) (take j hand)) one ∙ lowered-more n local.values hand k h (omega (arith, e, l)) ∙ ap (λ j. slice_set so_far j (min (slice_index so_far j) (slice_index hand k))) (sym e) in
    ap (λ (xs : List ℕ). let r : LocalValues = record local { values = xs } in r) list
