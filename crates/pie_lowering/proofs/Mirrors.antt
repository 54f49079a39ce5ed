-- Mirrors are lowered by a hand.
use Rattle.std.proofs.Common.{◌≡◌, ◌≢◌, ℕ, zero, suc, ◌+◌, ◌<◌, ◌≤◌, inl, inr, refl, sym, ◌∙◌, ap, subst, arith, ◌⊎◌, add-one, List, [], ◌∷◌, ◌++◌, length, take, drop, replicate, slice_index}
use Rattle.std.specs.Prelude.{slice_set, min}
use Rattle.std.proofs.lemmas.Bool.{cases_eq, cases_lt}
use Rattle.std.proofs.lemmas.List.{get_or-set_same, get_or-set_other, get_or-replicate, get_or-drop, get_or_default, length-set, length-replicate, set-get_or, take-append-drop}
use Rattle.std.proofs.lemmas.Grind.{same_number_lists}
use Rattle.value_order.specs.declared.TheConstants.{NOTHING}
use Rattle.message_buffer.specs.Hands.{AreMirrorsOf}
use Rattle.value_order.specs.declared.order.Order.TheVariants.{Least}
use Rattle.graph_core.specs.Parts.{FragmentLists}
use Rattle.pie_core.specs.Locals.{LocalValues, FitsPart}
use Rattle.pie_core.specs.LocalCalls.{with_value}
use Rattle.pie_core.specs.Solutions.{met}
use Rattle.pie_lowering.specs.Lowering.{LieBelow, AreAtMostFar, HoldsReaders, IsSettled, HasFallen, WaitWhereFell, with_mirrors}
use Rattle.pie_lowering.proofs.Steps.{fallen-trans, holds-kept, place-settled}

-- ---- one mirror

-- its value becomes the smaller one
abbrev pub mirror_met : LocalValues → ℕ → ℕ → LocalValues
mirror_met local m value = with_value local m (min (slice_index local.values m) value)

pub not-met : (local : LocalValues) (m value : ℕ) → slice_index local.values m ≤ value → local ≡ mirror_met local m value
not-met local m value h =
    let e : min (slice_index local.values m) value ≡ slice_index local.values m = omega (arith, h) in
    sym (ap (λ v. with_value local m v) e ∙ ap (λ (xs : List ℕ). let l : LocalValues = record local { values = xs } in l) (set-get_or local.values m 0))

pub is-met : (local : LocalValues) (m value : ℕ) → value < slice_index local.values m → with_value local m value ≡ mirror_met local m value
is-met local m value h = let e : value ≡ min (slice_index local.values m) value = omega (arith, h) in ap (λ v. with_value local m v) e

met-below : (xs : List ℕ) (m value : ℕ) → LieBelow (slice_set xs m (min (slice_index xs m) value)) xs
met-below xs m value q = elim (cases_eq q m) [
  | inl e ↦ elim (cases_lt m (length xs)) [
    | inl l ↦ omega (arith, ap (slice_index (slice_set xs m (min (slice_index xs m) value))) e, get_or-set_same xs m (min (slice_index xs m) value) 0 l, ap (slice_index xs) e)
    | inr l ↦ omega (arith, ap (λ ys. slice_index ys q) (past xs m (min (slice_index xs m) value) l))
  ]
  | inr d ↦ omega (arith, get_or-set_other xs m q (min (slice_index xs m) value) 0 d)
]
  where
    past : (xs : List ℕ) (m v : ℕ) → length xs ≤ m → slice_set xs m v ≡ xs
    past [] m v h = refl
    past (x ∷ xs) zero v h = absurd (omega (arith, h))
    past (x ∷ xs) (suc m) v h = ap (λ l. x ∷ l) (past xs m v (omega (arith, h)))

-- the readers of the mirror are lowered after it
pub mirror-settled : (cost : ℕ → ℕ) (part : FragmentLists) (old new : LocalValues) (m value : ℕ) → value < slice_index old.values m → HasFallen cost part (with_value old m value) new → WaitWhereFell (with_value old m value) new → HoldsReaders cost part new.values m → IsSettled cost part old → IsSettled cost part new
mirror-settled cost part old new m value less fell w here h q l = elim (cases_eq q m) [
  | inl e ↦ inr (subst (λ u. HoldsReaders cost part new.values u) (sym e) here)
  | inr d ↦ place-settled cost part (with_value old m value) new q fell.below w (elim (h q l) [
    | inl k ↦ inl k
    | inr k ↦ inr (holds-kept cost part old.values (slice_set old.values m value) q
        (subst (λ xs. LieBelow xs old.values) (sym (ap (λ (x : LocalValues). x.values) (is-met old m value less))) (met-below old.values m value))
        (get_or-set_other old.values m q value 0 d) k)
  ])
]

pub mirror-far : (cost : ℕ → ℕ) (part : FragmentLists) (old new : LocalValues) (m value : ℕ) → HasFallen cost part (mirror_met old m value) new → AreAtMostFar old.values → AreAtMostFar new.values
mirror-far cost part old new m value fell h q = omega (arith, fell.below q, met-below old.values m value q, h q)

-- what fell from a state falls from it too once a mirror is lowered in both
pub mirror-fallen : (cost : ℕ → ℕ) (part : FragmentLists) (a b c : LocalValues) (m value : ℕ) → length part.owned ≤ m → m < length a.values → HasFallen cost part a b → HasFallen cost part (mirror_met b m value) c → HasFallen cost part (mirror_met a m value) c
mirror-fallen cost part a b c m value mirror inside h k = fallen-trans cost part (mirror_met a m value) (mirror_met b m value) c both k
  where
    at_a : slice_index (slice_set a.values m (min (slice_index a.values m) value)) m ≡ min (slice_index a.values m) value
    at_a = get_or-set_same a.values m (min (slice_index a.values m) value) 0 inside

    in_b : m < length b.values
    in_b = let e = h.places in omega (arith, e, inside)

    at_b : slice_index (slice_set b.values m (min (slice_index b.values m) value)) m ≡ min (slice_index a.values m) value
    at_b = get_or-set_same b.values m (min (slice_index b.values m) value) 0 in_b ∙ ap (λ n. min n value) (h.mirrors m mirror)

    other_a : (q : ℕ) → q ≢ m → slice_index (slice_set a.values m (min (slice_index a.values m) value)) q ≡ slice_index a.values q
    other_a q d = get_or-set_other a.values m q (min (slice_index a.values m) value) 0 d

    other_b : (q : ℕ) → q ≢ m → slice_index (slice_set b.values m (min (slice_index b.values m) value)) q ≡ slice_index b.values q
    other_b q d = get_or-set_other b.values m q (min (slice_index b.values m) value) 0 d

    both : HasFallen cost part (mirror_met a m value) (mirror_met b m value)
    both = record {
      places = length-set b.values m (min (slice_index b.values m) value) ∙ h.places ∙ sym (length-set a.values m (min (slice_index a.values m) value));
      before = h.before;
      counters = h.counters;
      below = λ q. elim (cases_eq q m) [
        | inl e ↦ omega (arith, ap (slice_index (mirror_met a m value).values) e, at_a, ap (slice_index (mirror_met b m value).values) e, at_b)
        | inr d ↦ omega (arith, other_a q d, other_b q d, h.below q)
      ];
      mirrors = λ q l. elim (cases_eq q m) [
        | inl e ↦ ap (slice_index (mirror_met b m value).values) e ∙ at_b ∙ sym at_a ∙ sym (ap (slice_index (mirror_met a m value).values) e)
        | inr d ↦ other_b q d ∙ h.mirrors q l ∙ sym (other_a q d)
      ];
      above = λ ys r low q.
          let under : LieBelow ys a.values = λ v. omega (arith, low v, met-below a.values m value v) in
          elim (cases_eq q m) [
            | inl e ↦ omega (arith, low m, at_a, ap (slice_index (mirror_met b m value).values) e, at_b, ap (slice_index ys) e)
            | inr d ↦ omega (arith, other_b q d, h.above ys r under q)
          ];
    }

-- ---- all mirrors, as far as a hand goes

met-nothing : (xs : List ℕ) (n : ℕ) → AreAtMostFar xs → met Least xs (replicate n NOTHING) ≡ xs
met-nothing [] n h = refl
met-nothing (x ∷ xs) zero h = refl
met-nothing (x ∷ xs) (suc n) h =
    let e : min x NOTHING ≡ x = let k = h 0 in omega (arith, k) in
    λ t. e t ∷ met-nothing xs n (λ q. h (suc q)) t

drop-far : (n : ℕ) (xs : List ℕ) → AreAtMostFar xs → AreAtMostFar (drop n xs)
drop-far n xs h q = let e = get_or-drop n xs q 0 in let k = h (n + q) in omega (arith, e, k)

pub no-mirrors : (part : FragmentLists) (local : LocalValues) (m : ℕ) → AreAtMostFar local.values → with_mirrors part local (replicate m NOTHING) ≡ local
no-mirrors part local m h =
    let n = length part.owned in
    ap (λ (xs : List ℕ). let l : LocalValues = record local { values = xs } in l) (ap (λ ys. take n local.values ++ ys) (met-nothing (drop n local.values) m (drop-far n local.values h)) ∙ take-append-drop n local.values)

-- the hand's values for the first mirrors of a list
abbrev pub shown : List ℕ → List ℕ → ℕ → List ℕ
shown hand mirrors zero = replicate (length hand) NOTHING
shown hand mirrors (suc i) = slice_set (shown hand mirrors i) (slice_index mirrors i) (slice_index hand (slice_index mirrors i))

pub shown-length : (hand mirrors : List ℕ) (i : ℕ) → length (shown hand mirrors i) ≡ length hand
shown-length hand mirrors zero = length-replicate (length hand) NOTHING
shown-length hand mirrors (suc i) = length-set (shown hand mirrors i) (slice_index mirrors i) (slice_index hand (slice_index mirrors i)) ∙ shown-length hand mirrors i

-- each value is the hand's, or its mirror is ahead
abbrev IsShown : List ℕ → List ℕ → ℕ → ℕ → Type 0
IsShown hand mirrors i m = (slice_index (shown hand mirrors i) m ≡ slice_index hand m) ⊎ ((slice_index (shown hand mirrors i) m ≡ NOTHING) × ((k : ℕ) → k < i → slice_index mirrors k ≢ m))

shown-at : (hand mirrors : List ℕ) (i m : ℕ) → m < length hand → IsShown hand mirrors i m
shown-at hand mirrors zero m h = inr (get_or-replicate (length hand) m NOTHING 0 h, λ k l. absurd (omega (arith, l)))
shown-at hand mirrors (suc i) m h = elim (cases_eq m (slice_index mirrors i)) [
  | inl e ↦ inl (shown_here e)
  | inr d ↦ shown_other d (shown-at hand mirrors i m h)
]
  where
    shown_here : m ≡ slice_index mirrors i → slice_index (shown hand mirrors (suc i)) m ≡ slice_index hand m
    shown_here e =
        let n = shown-length hand mirrors i in
        ap (slice_index (shown hand mirrors (suc i))) e ∙ get_or-set_same (shown hand mirrors i) (slice_index mirrors i) (slice_index hand (slice_index mirrors i)) 0 (omega (arith, n, h, e)) ∙ ap (slice_index hand) (sym e)

    shown_other : m ≢ slice_index mirrors i → IsShown hand mirrors i m → IsShown hand mirrors (suc i) m
    shown_other d (inl e) = inl (get_or-set_other (shown hand mirrors i) (slice_index mirrors i) m (slice_index hand (slice_index mirrors i)) 0 d ∙ e)
    shown_other d (inr r) = inr (
      get_or-set_other (shown hand mirrors i) (slice_index mirrors i) m (slice_index hand (slice_index mirrors i)) 0 d ∙ r.0,
      λ k l. elim (cases_eq k i) [
        | inl e ↦ λ s. d (sym s ∙ ap (slice_index mirrors) e)
        | inr n ↦ r.1 k (omega (arith, l, n))
      ],
    )

-- a hand's list that is gone through has shown all
pub shown-all : (hand mirrors : List ℕ) (i : ℕ) → AreMirrorsOf hand mirrors → length mirrors ≤ i → shown hand mirrors i ≡ hand
shown-all hand mirrors i are h = same_number_lists (shown hand mirrors i) hand (shown-length hand mirrors i) (λ m l. let inside : m < length hand = let n = shown-length hand mirrors i in omega (arith, l, n) in go m inside (shown-at hand mirrors i m inside))
  where
    go : (m : ℕ) → m < length hand → IsShown hand mirrors i m → slice_index (shown hand mirrors i) m ≡ slice_index hand m
    go m l (inl e) = e
    go m l (inr r) = elim (cases_eq (slice_index hand m) NOTHING) [
      | inl e ↦ r.0 ∙ sym e
      | inr n ↦ let c = are.all m l n in absurd (r.1 c.0 (let k = c.1 in omega (arith, k, h)) (get_or_default mirrors c.0 0 m c.1 ∙ c.2))
    ]

-- one value more of the hand
met-set : (xs hand : List ℕ) (k v : ℕ) → k < length hand → k < length xs → (slice_index hand k ≡ v) ⊎ (slice_index xs k ≤ slice_index hand k) → met Least xs (slice_set hand k v) ≡ slice_set (met Least xs hand) k (min (slice_index (met Least xs hand) k) v)
met-set [] hand k v h l c = absurd (omega (arith, l))
met-set (x ∷ xs) [] k v h l c = absurd (omega (arith, h))
met-set (x ∷ xs) (a ∷ hand) zero v h l c = ap (λ (y : ℕ). y ∷ met Least xs hand) (twice c)
  where
    twice : (a ≡ v) ⊎ (x ≤ a) → min x v ≡ min (min x a) v
    twice (inl e) = omega (arith, e)
    twice (inr e) = omega (arith, e)
met-set (x ∷ xs) (a ∷ hand) (suc k) v h l c = ap (λ ys. min x a ∷ ys) (met-set xs hand k v (omega (arith, h)) (omega (arith, l)) c)

lowered-set : (n : ℕ) (xs hand : List ℕ) (k v : ℕ) → k < length hand → n + k < length xs → (slice_index hand k ≡ v) ⊎ (slice_index (drop n xs) k ≤ slice_index hand k) →
    let so_far : List ℕ = take n xs ++ met Least (drop n xs) hand in
    take n xs ++ met Least (drop n xs) (slice_set hand k v) ≡ slice_set so_far (n + k) (min (slice_index so_far (n + k)) v)
lowered-set zero xs hand k v h l c =
    let so_far : List ℕ = met Least xs hand in
    let e : k ≡ 0 + k = omega arith in
    met-set xs hand k v h (omega (arith, l)) c ∙ ap (λ m. slice_set so_far m (min (slice_index so_far m) v)) e
lowered-set (suc n) [] hand k v h l c = absurd (omega (arith, l))
lowered-set (suc n) (x ∷ xs) hand k v h l c =
    let so_far : List ℕ = take n xs ++ met Least (drop n xs) hand in
    let e : suc (n + k) ≡ suc n + k = omega arith in
    ap (λ ys. x ∷ ys) (lowered-set n xs hand k v h (omega (arith, l)) c) ∙ ap (λ m. slice_set (x ∷ so_far) m (min (slice_index (x ∷ so_far) m) v)) e

pub mirrors-more : (part : FragmentLists) (local : LocalValues) (hand mirrors : List ℕ) (i k m : ℕ) → AreAtMostFar local.values → k ≡ slice_index mirrors i → k < length hand → m ≡ length part.owned + k → m < length local.values →
    with_mirrors part local (shown hand mirrors (i + 1)) ≡ mirror_met (with_mirrors part local (shown hand mirrors i)) m (slice_index hand k)
mirrors-more part local hand mirrors i k m far is h e l = ap (λ (xs : List ℕ). let r : LocalValues = record local { values = xs } in r) list
  where
    known : IsShown hand mirrors i k → (slice_index (shown hand mirrors i) k ≡ slice_index hand k) ⊎ (slice_index (drop (length part.owned) local.values) k ≤ slice_index (shown hand mirrors i) k)
    known (inl s) = inl s
    known (inr r) = inr (let f = drop-far (length part.owned) local.values far k in let z = r.0 in omega (arith, f, z))

    list : take (length part.owned) local.values ++ met Least (drop (length part.owned) local.values) (shown hand mirrors (i + 1)) ≡ slice_set (take (length part.owned) local.values ++ met Least (drop (length part.owned) local.values) (shown hand mirrors i)) m (min (slice_index (take (length part.owned) local.values ++ met Least (drop (length part.owned) local.values) (shown hand mirrors i)) m) (slice_index hand k))
    list =
        let o = length part.owned in
        let so_far : List ℕ = take o local.values ++ met Least (drop o local.values) (shown hand mirrors i) in
        let len = shown-length hand mirrors i in
        ap (λ j. take o local.values ++ met Least (drop o local.values) (shown hand mirrors j)) (add-one i)
        ∙ ap (λ j. take o local.values ++ met Least (drop o local.values) (slice_set (shown hand mirrors i) j (slice_index hand j))) (sym is)
        ∙ lowered-set o local.values (shown hand mirrors i) k (slice_index hand k) (omega (arith, h, len)) (omega (arith, e, l)) (known (shown-at hand mirrors i k h))
        ∙ ap (λ j. slice_set so_far j (min (slice_index so_far j) (slice_index hand k))) (sym e)

met-length : (xs hand : List ℕ) → length (met Least xs hand) ≡ length xs
met-length [] hand = refl
met-length (x ∷ xs) [] = refl
met-length (x ∷ xs) (a ∷ hand) = ap suc (met-length xs hand)

pub lowered-length : (n : ℕ) (xs hand : List ℕ) → length (take n xs ++ met Least (drop n xs) hand) ≡ length xs
lowered-length zero xs hand = met-length xs hand
lowered-length (suc n) [] hand = refl
lowered-length (suc n) (x ∷ xs) hand = ap suc (lowered-length n xs hand)

pub mirrors-fit : (part : FragmentLists) (local : LocalValues) (hand : List ℕ) → FitsPart part local → FitsPart part (with_mirrors part local hand)
mirrors-fit part local hand fits = record { few = fits.few; places = lowered-length (length part.owned) local.values hand ∙ fits.places; owned = fits.owned }
