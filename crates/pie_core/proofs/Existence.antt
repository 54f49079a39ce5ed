-- The computed local solution is the local solution.
use Rattle.std.proofs.Common.{◌≡◌, ◌≢◌, ℕ, zero, suc, ◌<◌, ◌≤◌, Bool, true, false, ◌==◌, if◌then◌else◌, refl, ◌∙◌, ap, subst, arith, List, [], ◌∷◌, ◌++◌, length, take, drop, slice_index}
use Rattle.std.specs.List.{AllByRecursion}
use Rattle.std.proofs.lemmas.List.Sums.{sum_by-cons}
use Rattle.std.proofs.lemmas.Bool.{and_parts, and_from}
use native.Mathlib.Decide.{ℕ_discrete}
use lib.Bits.{and_zero_l}
use Rattle.value_order.specs.declared.order.Order.TheVariants.{Least, Mask}
use Rattle.std.specs.Prelude.{sum_by}
use Rattle.value_order.specs.declared.order.Order.{Order}
use Rattle.value_order.specs.Order.{Below, meet_of, height_of}
use Rattle.value_order.proofs.Orders.{Below-refl, Below-trans, meet-below_left, meet-below_right, meet-greatest, height-lt, height-le}
use Rattle.graph_core.specs.Equations.{Equations, Assignment, AreLawful}
use Rattle.pie_core.specs.Solutions.{value_at, AllBelow, IsLocalSolution, lowered_by_equations, local_step, are_same, after_steps, local_solution}
use Rattle.pie_core.specs.Laws.{LocalSolutionIsComputed}
use Rattle.pie_core.proofs.Lists.{AllBelow-refl, AllBelow-trans}

-- the vertices are vertices of the equations
abbrev pub AreVertices : Equations → List ℕ → Type 0
AreVertices e = AllByRecursion (λ v. v < e.count)

-- what OwnEquationsHold says, by recursion
abbrev pub EquationsHold : Equations → Assignment → List ℕ → List ℕ → Type 0
EquationsHold e x [] xs = Unit {0}
EquationsHold e x (v ∷ vs) [] = Unit {0}
EquationsHold e x (v ∷ vs) (a ∷ xs) = Below e.order a (e.phi v x) × EquationsHold e x vs xs

pub value_at-below : (o : Order) (vs ys xs : List ℕ) (u : ℕ) → AllBelow o ys xs → Below o (value_at vs ys u) (value_at vs xs u)
value_at-below o [] ys xs u h = Below-refl o 0
value_at-below o (v ∷ vs) [] [] u h = Below-refl o 0
value_at-below o (v ∷ vs) [] (x ∷ xs) u h = absurd h
value_at-below o (v ∷ vs) (y ∷ ys) [] u h = absurd h
value_at-below o (v ∷ vs) (y ∷ ys) (x ∷ xs) u h = pick (v == u) y x (value_at vs ys u) (value_at vs xs u) h.0 (value_at-below o vs ys xs u h.1)
  where
    pick : (b : Bool) (s t s' t' : ℕ) → Below o s t → Below o s' t' → Below o (if b then s else s') (if b then t else t')
    pick true s t s' t' k k' = k
    pick false s t s' t' k k' = k'

-- the generic use of monotony: what lies below x everywhere has lower equations
pub phi-below : (e : Equations) → AreLawful e → (v : ℕ) (x y : Assignment) → v < e.count → ((u : ℕ) → Below e.order (x u) (y u)) → Below e.order (e.phi v x) (e.phi v y)
phi-below e lawful v x y h k = lawful.monotone v x y h (λ u _. k u)

lowered_by_equations-below : (e : Equations) (x : Assignment) (vs xs : List ℕ) → AllBelow e.order (lowered_by_equations e x vs xs) xs
lowered_by_equations-below e x [] xs = AllBelow-refl e.order xs
lowered_by_equations-below e x (v ∷ vs) [] = tt
lowered_by_equations-below e x (v ∷ vs) (a ∷ xs) = (meet-below_left e.order a (e.phi v x), lowered_by_equations-below e x vs xs)

-- a step keeps above it what lies below x and below its own equations
lowered_by_equations-above : (e : Equations) → AreLawful e → (x z : Assignment) → ((u : ℕ) → Below e.order (z u) (x u)) → (vs zs xs : List ℕ) → AreVertices e vs → AllBelow e.order zs xs → EquationsHold e z vs zs →
    AllBelow e.order zs (lowered_by_equations e x vs xs)
lowered_by_equations-above e lawful x z low [] zs xs r h k = h
lowered_by_equations-above e lawful x z low (v ∷ vs) [] [] r h k = tt
lowered_by_equations-above e lawful x z low (v ∷ vs) [] (a ∷ xs) r h k = absurd h
lowered_by_equations-above e lawful x z low (v ∷ vs) (c ∷ zs) [] r h k = absurd h
lowered_by_equations-above e lawful x z low (v ∷ vs) (c ∷ zs) (a ∷ xs) r h k = (
  meet-greatest e.order a (e.phi v x) c h.0 (Below-trans e.order c (e.phi v z) (e.phi v x) k.0 (phi-below e lawful v z x r.0 low)),
  lowered_by_equations-above e lawful x z low vs zs xs r.1 h.1 k.1,
)

lowered_by_equations-mirrors : (e : Equations) (x : Assignment) (vs xs : List ℕ) → drop (length vs) (lowered_by_equations e x vs xs) ≡ drop (length vs) xs
lowered_by_equations-mirrors e x [] xs = refl
lowered_by_equations-mirrors e x (v ∷ vs) [] = refl
lowered_by_equations-mirrors e x (v ∷ vs) (a ∷ xs) = lowered_by_equations-mirrors e x vs xs

-- a step that changes nothing shows that the equations hold
same-hold : (e : Equations) (x : Assignment) (vs xs : List ℕ) → lowered_by_equations e x vs xs ≡ xs → EquationsHold e x vs xs
same-hold e x [] xs h = tt
same-hold e x (v ∷ vs) [] h = tt
same-hold e x (v ∷ vs) (a ∷ xs) h =
    (subst (λ b. Below e.order b (e.phi v x)) (ap (λ l. slice_index l 0) h) (meet-below_right e.order a (e.phi v x)), same-hold e x vs xs (ap (λ l. drop 1 l) h))

are_same-refl : (xs : List ℕ) → are_same xs xs ≡ true
are_same-refl [] = refl
are_same-refl (x ∷ xs) = and_from (x == x) (are_same xs xs) (eq_true x) (are_same-refl xs)
  where
    eq_true : (x : ℕ) → (x == x) ≡ true
    eq_true x = grind arith

are_same-eq : (xs ys : List ℕ) → are_same xs ys ≡ true → xs ≡ ys
are_same-eq [] [] h = refl
are_same-eq [] (y ∷ ys) h = cc
are_same-eq (x ∷ xs) [] h = cc
are_same-eq (x ∷ xs) (y ∷ ys) h =
    let k = and_parts (x == y) (are_same xs ys) h in
    let e : x ≡ y = grind (arith, k.0) in
    λ i. e i ∷ are_same-eq xs ys k.1 i

are_same-ne : (xs ys : List ℕ) → are_same xs ys ≡ false → xs ≢ ys
are_same-ne xs ys h e = let r = are_same-refl ys in let k : are_same ys ys ≡ false = subst (λ zs. are_same zs ys ≡ false) e h in cc

-- how often the owned values can become lower
abbrev pub height_sum : Order → ℕ → List ℕ → ℕ
height_sum o n xs = sum_by (height_of o) (take n xs)

height_sum-le : (e : Equations) (x : Assignment) (vs xs : List ℕ) → height_sum e.order (length vs) (lowered_by_equations e x vs xs) ≤ height_sum e.order (length vs) xs
height_sum-le e x [] xs = omega arith
height_sum-le e x (v ∷ vs) [] = omega arith
height_sum-le e x (v ∷ vs) (a ∷ xs) =
    let b = meet_of e.order a (e.phi v x) in
    let new = sum_by-cons (height_of e.order) b (take (length vs) (lowered_by_equations e x vs xs)) in
    let old = sum_by-cons (height_of e.order) a (take (length vs) xs) in
    let here = height-le e.order b a (meet-below_left e.order a (e.phi v x)) in
    let there = height_sum-le e x vs xs in
    omega (arith, new, old, here, there)

height_sum-lt : (e : Equations) (x : Assignment) (vs xs : List ℕ) → lowered_by_equations e x vs xs ≢ xs → height_sum e.order (length vs) (lowered_by_equations e x vs xs) < height_sum e.order (length vs) xs
height_sum-lt e x [] xs n = absurd (n refl)
height_sum-lt e x (v ∷ vs) [] n = absurd (n refl)
height_sum-lt e x (v ∷ vs) (a ∷ xs) n =
    let b = meet_of e.order a (e.phi v x) in
    let new = sum_by-cons (height_of e.order) b (take (length vs) (lowered_by_equations e x vs xs)) in
    let old = sum_by-cons (height_of e.order) a (take (length vs) xs) in
    elim (ℕ_discrete b a) [
      | yes q ↦
          let here = ap (height_of e.order) q in
          let there = height_sum-lt e x vs xs (λ r. n (λ i. q i ∷ r i)) in
          omega (arith, new, old, here, there)
      | no q ↦
          let here = height-lt e.order b a (meet-below_left e.order a (e.phi v x)) q in
          let there = height_sum-le e x vs xs in
          omega (arith, new, old, here, there)
    ]

-- steps as far as the heights go end where the equations hold
after_steps-holds : (e : Equations) (owned mirrors : List ℕ) (n : ℕ) (xs : List ℕ) → height_sum e.order (length owned) xs ≤ n →
    EquationsHold e (value_at (owned ++ mirrors) (after_steps e owned mirrors n xs)) owned (after_steps e owned mirrors n xs)
after_steps-holds e owned mirrors zero xs h = go (are_same (local_step e owned mirrors xs) xs) refl
  where
    go : (b : Bool) → are_same (local_step e owned mirrors xs) xs ≡ b → EquationsHold e (value_at (owned ++ mirrors) xs) owned xs
    go true k = same-hold e (value_at (owned ++ mirrors) xs) owned xs (are_same-eq _ _ k)
    go false k = let l = height_sum-lt e (value_at (owned ++ mirrors) xs) owned xs (are_same-ne _ _ k) in absurd (omega (arith, l, h))
after_steps-holds e owned mirrors (suc n) xs h = go (after_steps-holds e owned mirrors n (local_step e owned mirrors xs)) (are_same (local_step e owned mirrors xs) xs) refl
  where
    go : (height_sum e.order (length owned) (local_step e owned mirrors xs) ≤ n →
        EquationsHold e (value_at (owned ++ mirrors) (after_steps e owned mirrors n (local_step e owned mirrors xs))) owned (after_steps e owned mirrors n (local_step e owned mirrors xs))) →
        (b : Bool) → are_same (local_step e owned mirrors xs) xs ≡ b →
        let ys : List ℕ = elim b [ true ↦ xs | false ↦ after_steps e owned mirrors n (local_step e owned mirrors xs) ] in
        EquationsHold e (value_at (owned ++ mirrors) ys) owned ys
    go again true k = same-hold e (value_at (owned ++ mirrors) xs) owned xs (are_same-eq _ _ k)
    go again false k =
        let l = height_sum-lt e (value_at (owned ++ mirrors) xs) owned xs (are_same-ne _ _ k) in
        again (omega (arith, l, h))

after_steps-below : (e : Equations) (owned mirrors : List ℕ) (n : ℕ) (xs : List ℕ) → AllBelow e.order (after_steps e owned mirrors n xs) xs
after_steps-below e owned mirrors zero xs = AllBelow-refl e.order xs
after_steps-below e owned mirrors (suc n) xs = go (after_steps-below e owned mirrors n (local_step e owned mirrors xs)) (are_same (local_step e owned mirrors xs) xs)
  where
    go : AllBelow e.order (after_steps e owned mirrors n (local_step e owned mirrors xs)) (local_step e owned mirrors xs) → (b : Bool) → let ys : List ℕ = elim b [ true ↦ xs | false ↦ after_steps e owned mirrors n (local_step e owned mirrors xs) ] in AllBelow e.order ys xs
    go again true = AllBelow-refl e.order xs
    go again false = AllBelow-trans e.order _ _ _ again (lowered_by_equations-below e (value_at (owned ++ mirrors) xs) owned xs)

after_steps-mirrors : (e : Equations) (owned mirrors : List ℕ) (n : ℕ) (xs : List ℕ) → drop (length owned) (after_steps e owned mirrors n xs) ≡ drop (length owned) xs
after_steps-mirrors e owned mirrors zero xs = refl
after_steps-mirrors e owned mirrors (suc n) xs = go (after_steps-mirrors e owned mirrors n (local_step e owned mirrors xs)) (are_same (local_step e owned mirrors xs) xs)
  where
    go : drop (length owned) (after_steps e owned mirrors n (local_step e owned mirrors xs)) ≡ drop (length owned) (local_step e owned mirrors xs) → (b : Bool) → let ys : List ℕ = elim b [ true ↦ xs | false ↦ after_steps e owned mirrors n (local_step e owned mirrors xs) ] in drop (length owned) ys ≡ drop (length owned) xs
    go again true = refl
    go again false = again ∙ lowered_by_equations-mirrors e (value_at (owned ++ mirrors) xs) owned xs

after_steps-above : (e : Equations) → AreLawful e → (owned mirrors : List ℕ) → AreVertices e owned → (n : ℕ) (zs xs : List ℕ) → AllBelow e.order zs xs → EquationsHold e (value_at (owned ++ mirrors) zs) owned zs →
    AllBelow e.order zs (after_steps e owned mirrors n xs)
after_steps-above e lawful owned mirrors r zero zs xs h k = h
after_steps-above e lawful owned mirrors r (suc n) zs xs h k =
    go (after_steps-above e lawful owned mirrors r n zs (local_step e owned mirrors xs)
    (lowered_by_equations-above e lawful (value_at (owned ++ mirrors) xs) (value_at (owned ++ mirrors) zs) (λ u. value_at-below e.order (owned ++ mirrors) zs xs u h) owned zs xs r h k) k)
    (are_same (local_step e owned mirrors xs) xs)
  where
    go : AllBelow e.order zs (after_steps e owned mirrors n (local_step e owned mirrors xs)) → (b : Bool) → let ys : List ℕ = elim b [ true ↦ xs | false ↦ after_steps e owned mirrors n (local_step e owned mirrors xs) ] in AllBelow e.order zs ys
    go again true = h
    go again false = again

-- the two forms of the equations of the owned places
zero-below : (o : Order) (a : ℕ) → Below o 0 a
zero-below Least a = omega arith
zero-below Mask a = and_zero_l a

pub EquationsHold-from : (e : Equations) (x : Assignment) (vs xs : List ℕ) → ((p : ℕ) → p < length vs → Below e.order (slice_index xs p) (e.phi (slice_index vs p) x)) → EquationsHold e x vs xs
EquationsHold-from e x [] xs h = tt
EquationsHold-from e x (v ∷ vs) [] h = tt
EquationsHold-from e x (v ∷ vs) (a ∷ xs) h = (h 0 (omega arith), EquationsHold-from e x vs xs (λ p k. h (suc p) (omega (arith, k))))

pub EquationsHold-at : (e : Equations) (x : Assignment) (vs xs : List ℕ) → EquationsHold e x vs xs → (p : ℕ) → p < length vs → Below e.order (slice_index xs p) (e.phi (slice_index vs p) x)
EquationsHold-at e x [] xs h p k = absurd (omega (arith, k))
EquationsHold-at e x (v ∷ vs) [] h p k = zero-below e.order _
EquationsHold-at e x (v ∷ vs) (a ∷ xs) h zero k = h.0
EquationsHold-at e x (v ∷ vs) (a ∷ xs) h (suc p) k = EquationsHold-at e x vs xs h.1 p (omega (arith, k))

-- what the steps compute is the local solution
pub local_solution-is : (e : Equations) → AreLawful e → (owned mirrors xs : List ℕ) → AreVertices e owned → IsLocalSolution e owned mirrors xs (local_solution e owned mirrors xs)
local_solution-is e lawful owned mirrors xs r =
    let n = height_sum e.order (length owned) xs in
    record {
      candidate = record {
        below = after_steps-below e owned mirrors n xs;
        mirrors_stay = after_steps-mirrors e owned mirrors n xs;
        equations = EquationsHold-at e (value_at (owned ++ mirrors) (after_steps e owned mirrors n xs)) owned (after_steps e owned mirrors n xs) (after_steps-holds e owned mirrors n xs (omega arith));
      };
      greatest = λ zs c. after_steps-above e lawful owned mirrors r n zs xs c.below (EquationsHold-from e (value_at (owned ++ mirrors) zs) owned zs c.equations);
    }

pub vertices_from : (e : Equations) (vs : List ℕ) → ((p : ℕ) → p < length vs → slice_index vs p < e.count) → AreVertices e vs
vertices_from e [] h = tt
vertices_from e (v ∷ vs) h = (h 0 (omega arith), vertices_from e vs (λ p k. h (suc p) (omega (arith, k))))

pub local_solution-computed : LocalSolutionIsComputed
local_solution-computed e owned mirrors xs lawful r = local_solution-is e lawful owned mirrors xs (vertices_from e owned r)
