-- A meet is known by what lies below it.
use Rattle.std.proofs.Common.{◌≡◌, ◌<◌, Bool, true, false, ◌==◌, if◌then◌else◌, ℕ, zero, suc, refl, subst, arith, List, [], ◌∷◌, length, slice_index}
use Rattle.std.specs.List.{AllByRecursion}
use Rattle.std.proofs.lemmas.Bool.{eqb-true, eqb-false}
use Rattle.value_order.specs.declared.order.Order.{Order}
use Rattle.value_order.specs.Order.{Below, meet_of, meet_all}
use Rattle.value_order.proofs.Orders.{Below-refl, Below-antisym, Below-trans, meet-below_left, meet-below_right, meet-greatest}
use Rattle.graph_core.specs.Fragments.{piece_at, places, StandsAt}
use Rattle.pie_core.specs.Solutions.{value_at}
use Rattle.base_machine.specs.Machine.{System}
use Rattle.base_machine.specs.Theorems.{IsSound}

-- c lies below a and below each of xs
abbrev pub IsLowerBound : Order → ℕ → ℕ → List ℕ → Type 0
IsLowerBound o c a xs = Below o c a × AllByRecursion (Below o c) xs

pub meet_all-lower : (o : Order) (c a : ℕ) (xs : List ℕ) → Below o c (meet_all o a xs) → IsLowerBound o c a xs
meet_all-lower o c a [] h = (h, tt)
meet_all-lower o c a (x ∷ xs) h =
    let k = meet_all-lower o c (meet_of o a x) xs h in
    (Below-trans o c (meet_of o a x) a k.0 (meet-below_left o a x), (Below-trans o c (meet_of o a x) x k.0 (meet-below_right o a x), k.1))

pub meet_all-greatest : (o : Order) (c a : ℕ) (xs : List ℕ) → IsLowerBound o c a xs → Below o c (meet_all o a xs)
meet_all-greatest o c a [] h = h.0
meet_all-greatest o c a (x ∷ xs) h = meet_all-greatest o c (meet_of o a x) xs (meet-greatest o a x c h.0 h.1.0, h.1.1)

-- two meets with the same lower bounds are the same
pub meet_all-same : (o : Order) (a : ℕ) (xs : List ℕ) (b : ℕ) (ys : List ℕ) → ((c : ℕ) → IsLowerBound o c a xs → IsLowerBound o c b ys) → ((c : ℕ) → IsLowerBound o c b ys → IsLowerBound o c a xs) → meet_all o a xs ≡ meet_all o b ys
meet_all-same o a xs b ys h k =
    let s = meet_all o a xs in
    let t = meet_all o b ys in
    Below-antisym o s t (meet_all-greatest o s b ys (h s (meet_all-lower o s a xs (Below-refl o s)))) (meet_all-greatest o t a xs (k t (meet_all-lower o t b ys (Below-refl o t))))

-- ---- places

-- a vertex at a place of a piece is one of the equations'
pub stands_in_range : (sys : System) → IsSound sys → (i p v : ℕ) → i < length sys.pieces → StandsAt (places (piece_at sys.pieces i)) p v → v < sys.equations.count
stands_in_range sys sound i p v h k = let P : ℕ → Type 0 = λ n. n < sys.equations.count in subst P k.1 (sound.cut.in_range i p h k.0)

-- a vertex that has a place has the value of one of its places
pub value_at-place : (vs xs : List ℕ) (u q : ℕ) → length xs ≡ length vs → StandsAt vs q u → (p : ℕ) × StandsAt vs p u × (value_at vs xs u ≡ slice_index xs p)
value_at-place [] xs u q e h = absurd (omega (arith, h.0))
value_at-place (v ∷ vs) [] u q e h = absurd (omega (arith, e))
value_at-place (v ∷ vs) (x ∷ xs) u zero e h = go (v == u) refl
  where
    go : (b : Bool) → (v == u) ≡ b → (p : ℕ) × StandsAt (v ∷ vs) p u × ((if b then x else value_at vs xs u) ≡ slice_index (x ∷ xs) p)
    go true k = (0, h, refl)
    go false k = absurd (eqb-false v u k h.1)
value_at-place (v ∷ vs) (x ∷ xs) u (suc q) e h = go (value_at-place vs xs u q (omega (arith, e)) (omega (arith, h.0), h.1)) (v == u) refl
  where
    go : ((p : ℕ) × StandsAt vs p u × (value_at vs xs u ≡ slice_index xs p)) → (b : Bool) → (v == u) ≡ b →
        (p : ℕ) × StandsAt (v ∷ vs) p u × ((if b then x else value_at vs xs u) ≡ slice_index (x ∷ xs) p)
    go again true k = (0, (omega arith, eqb-true v u k), refl)
    go again false k = let s = again.1 in (suc again.0, (omega (arith, s.0), s.1), again.2)
