-- The greatest solution of lawful equations: it is there, it is the only one, and the iterates from the start fall to it.
use Rattle.std.proofs.Common.{◌≡◌, ℕ, zero, suc, ◌+◌, ◌<◌, ◌≤◌, ◌⊎◌, inl, inr, sym, ◌∙◌, ap, subst, arith}
use Rattle.std.proofs.lemmas.Bool.{cases_eq}
use Rattle.value_order.specs.declared.order.Order.{Order}
use Rattle.value_order.specs.Order.{Below, height_of}
use Rattle.value_order.proofs.Orders.{Below-refl, Below-eq, Below-trans, Below-antisym, height-lt, height-le}
use Rattle.graph_core.specs.Equations.{Assignment, Equations, AreLawful, LiesBelow, IsPostFixpoint, IsGreatest}

-- ---- heights

-- the sum of the heights of the values below n
abbrev heights : Order → Assignment → ℕ → ℕ
heights o x zero = 0
heights o x (suc n) = height_of o (x n) + heights o x n

heights-le : (o : Order) (y x : Assignment) (n : ℕ) → ((v : ℕ) → v < n → Below o (y v) (x v)) → heights o y n ≤ heights o x n
heights-le o y x zero h = omega arith
heights-le o y x (suc n) h = omega (arith, height-le o (y n) (x n) (h n (omega arith)), heights-le o y x n (λ v l. h v (omega (arith, l))))

-- where an assignment lies below another, the two are the same or the sum is less
same_or_less : (o : Order) (y x : Assignment) (n : ℕ) → ((v : ℕ) → v < n → Below o (y v) (x v)) → ((v : ℕ) → v < n → y v ≡ x v) ⊎ (heights o y n < heights o x n)
same_or_less o y x zero h = inl (λ v l. absurd (omega (arith, l)))
same_or_less o y x (suc n) h = go (same_or_less o y x n (λ v l. h v (omega (arith, l)))) (cases_eq (y n) (x n))
  where
    go : ((v : ℕ) → v < n → y v ≡ x v) ⊎ (heights o y n < heights o x n) → (y n ≡ x n) ⊎ (y n ≡ x n → ⊥) → ((v : ℕ) → v < suc n → y v ≡ x v) ⊎ (heights o y (suc n) < heights o x (suc n))
    go (inl s) (inl e) = inl (λ v l. elim (cases_eq v n) [ inl q ↦ ap y q ∙ (e ∙ ap x (sym q)) | inr d ↦ s v (omega (arith, l, d)) ])
    go (inr f) (inl e) = inr (omega (arith, f, ap (height_of o) e))
    go r (inr d) = inr (omega (arith, height-lt o (y n) (x n) (h n (omega arith)) d, heights-le o y x n (λ v l. h v (omega (arith, l)))))

module _ (e : Equations) (lawful : AreLawful e) where
  -- ---- the iterates from the start

  abbrev iterate : ℕ → Assignment
  iterate zero = e.start
  iterate (suc k) = λ v. e.phi v (iterate k)

  phi-below : (x y : Assignment) → LiesBelow e x y → LiesBelow e (λ v. e.phi v x) (λ v. e.phi v y)
  phi-below x y h v l = lawful.monotone v x y l (λ u c. h u (lawful.in_range v u l c))

  -- each lies below the one before it
  falls : (k : ℕ) → LiesBelow e (iterate (suc k)) (iterate k)
  falls zero = lawful.start_above
  falls (suc k) = phi-below (iterate (suc k)) (iterate k) (falls k)

  below_start : (k : ℕ) → LiesBelow e (iterate k) e.start
  below_start zero = λ v l. Below-refl e.order (e.start v)
  below_start (suc k) = λ v l. Below-trans e.order (iterate (suc k) v) (iterate k v) (e.start v) (falls k v l) (below_start k v l)

  -- each lies above every post-fixpoint
  above : (y : Assignment) → LiesBelow e y e.start → IsPostFixpoint e y → (k : ℕ) → LiesBelow e y (iterate k)
  above y s p zero = s
  above y s p (suc k) = λ v l. Below-trans e.order (y v) (e.phi v y) (iterate (suc k) v) (p v l) (phi-below y (iterate k) (above y s p k) v l)

  -- one of them is not changed by the equations
  stops : (fuel k : ℕ) → heights e.order (iterate k) e.count ≤ fuel → (m : ℕ) × ((v : ℕ) → v < e.count → iterate (suc m) v ≡ iterate m v)
  stops zero k h = elim (same_or_less e.order (iterate (suc k)) (iterate k) e.count (falls k)) [ inl s ↦ (k, s) | inr f ↦ absurd (omega (arith, f, h)) ]
  stops (suc fuel) k h = elim (same_or_less e.order (iterate (suc k)) (iterate k) e.count (falls k)) [ inl s ↦ (k, s) | inr f ↦ stops fuel (suc k) (omega (arith, f, h)) ]

  greatest_at : (m : ℕ) → ((v : ℕ) → v < e.count → iterate (suc m) v ≡ iterate m v) → IsGreatest e (iterate m)
  greatest_at m s = record { below_start = below_start m; solves = λ v l. sym (s v l); greatest = λ y b p. above y b p m }

  pub last : (m : ℕ) × IsGreatest e (iterate m)
  last = let r = stops (heights e.order e.start e.count) 0 (omega arith) in (r.0, greatest_at r.0 r.1)

  pub greatest_is_there : (x : Assignment) × IsGreatest e x
  greatest_is_there = (iterate last.0, last.1)

  -- ---- it is the only one

  is_post : (x : Assignment) → IsGreatest e x → IsPostFixpoint e x
  is_post x g v l = Below-eq e.order (x v) (e.phi v x) (g.solves v l)

  pub greatest_is_one : (x y : Assignment) → IsGreatest e x → IsGreatest e y → (v : ℕ) → v < e.count → x v ≡ y v
  greatest_is_one x y gx gy v l =
      Below-antisym e.order (x v) (y v) (gy.greatest x gx.below_start (is_post x gx) v l) (gx.greatest y gy.below_start (is_post y gy) v l)

  -- what agrees with it at each vertex is it too
  phi-same : (x y : Assignment) → ((v : ℕ) → v < e.count → x v ≡ y v) → (v : ℕ) → v < e.count → e.phi v x ≡ e.phi v y
  phi-same x y s v l =
      Below-antisym e.order (e.phi v x) (e.phi v y)
      (phi-below x y (λ u m. Below-eq e.order (x u) (y u) (s u m)) v l)
      (phi-below y x (λ u m. Below-eq e.order (y u) (x u) (sym (s u m))) v l)

  pub greatest_agrees : (x y : Assignment) → ((v : ℕ) → v < e.count → x v ≡ y v) → IsGreatest e x → IsGreatest e y
  greatest_agrees x y s g = record {
    below_start = λ v l. subst (λ n. Below e.order n (e.start v)) (s v l) (g.below_start v l);
    solves = λ v l. sym (s v l) ∙ (g.solves v l ∙ phi-same x y s v l);
    greatest = λ z b p v l. subst (λ n. Below e.order (z v) n) (s v l) (g.greatest z b p v l);
  }

  -- ---- how facts of it are proved

  iterate_has : (P : ℕ → ℕ → Type 0) → ((v : ℕ) → v < e.count → P v (e.start v))
      → ((x : Assignment) → ((u : ℕ) → u < e.count → P u (x u)) → (v : ℕ) → v < e.count → P v (e.phi v x))
      → (k v : ℕ) → v < e.count → P v (iterate k v)
  iterate_has P first next zero = first
  iterate_has P first next (suc k) = next (iterate k) (iterate_has P first next k)

  -- what holds of the start, and is kept by the equations, holds of the greatest solution
  pub greatest_has : (P : ℕ → ℕ → Type 0) → ((v : ℕ) → v < e.count → P v (e.start v))
      → ((x : Assignment) → ((u : ℕ) → u < e.count → P u (x u)) → (v : ℕ) → v < e.count → P v (e.phi v x))
      → (x : Assignment) → IsGreatest e x → (v : ℕ) → v < e.count → P v (x v)
  greatest_has P first next x g v l = subst (λ n. P v n) (greatest_is_one (iterate last.0) x last.1 g v l) (iterate_has P first next last.0 v l)

  -- Where the greatest solution has at each vertex a value of which there is only one, whatever has those values is it.
  pub greatest_from_values : (P : ℕ → ℕ → Type 0) → ((v m n : ℕ) → P v m → P v n → m ≡ n)
      → ((x : Assignment) → IsGreatest e x → (v : ℕ) → v < e.count → P v (x v))
      → (x : Assignment) → ((v : ℕ) → v < e.count → P v (x v)) → IsGreatest e x
  greatest_from_values P one has x h =
      greatest_agrees (iterate last.0) x (λ v l. one v (iterate last.0 v) (x v) (has (iterate last.0) last.1 v l) (h v l)) last.1
