-- A Give keeps its worker fit.
use Rattle.std.proofs.Common.{◌≡◌, ℕ, zero, suc, ◌+◌, ◌-◌, ◌<◌, ◌⊎◌, inl, inr, refl, sym, ◌∙◌, ap, subst, arith, List, [], ◌∷◌, ◌++◌, length, map, take, drop, slice_index, slice_index_or, length-append, length-take, length-drop}
use Rattle.std.proofs.lemmas.Bool.{false≢true, cases_lt}
use Rattle.std.proofs.lemmas.List.{get_or_append_left, get_or-append_right, get_or-take, get_or-drop, get_or-map, length-map}
use Rattle.value_order.specs.declared.order.Order.{Order}
use Rattle.value_order.specs.Order.{Below, meet_of}
use Rattle.value_order.specs.declared.TheConstants.{NOTHING}
use Rattle.value_order.proofs.Orders.{Below-refl, Below-antisym, Below-trans, meet-below_left, meet-below_right, meet-greatest}
use Rattle.graph_core.specs.Equations.{Assignment, IsGreatest}
use Rattle.graph_core.specs.Fragments.{Piece, piece_at, places, StandsAt, IsOwnedAt}
use Rattle.graph_core.proofs.Cutting.{stands_left, stands_right, stands_cases}
use Rattle.pie_core.specs.Solutions.{value_at, AllBelow, OwnEquationsHold, IsLocalSolution, lowered, met}
use Rattle.pie_core.proofs.Existence.{local_solution-computed}
use Rattle.base_machine.specs.Machine.{System, BaseState, Worker, hand_of, pending_posts, values_for, values_given, after_giving}
use Rattle.base_machine.specs.Fitness.{IsFitWorker, IsBetween, known_at}
use Rattle.base_machine.specs.Theorems.{IsSound}
use Rattle.base_machine.proofs.Meets.{meet_all-same, value_at-place, stands_in_range}

-- ---- lists, place by place

pub below_at : (o : Order) (xs ys : List ℕ) → AllBelow o xs ys → (p : ℕ) → Below o (slice_index xs p) (slice_index ys p)
below_at o [] [] h p = Below-refl o 0
below_at o [] (y ∷ ys) h p = absurd h
below_at o (x ∷ xs) [] h p = absurd h
below_at o (x ∷ xs) (y ∷ ys) h zero = h.0
below_at o (x ∷ xs) (y ∷ ys) h (suc p) = below_at o xs ys h.1 p

pub below_from : (o : Order) (xs ys : List ℕ) → length xs ≡ length ys → ((p : ℕ) → p < length xs → Below o (slice_index xs p) (slice_index ys p)) → AllBelow o xs ys
below_from o [] [] e h = tt
below_from o [] (y ∷ ys) e h = absurd (omega (arith, e))
below_from o (x ∷ xs) [] e h = absurd (omega (arith, e))
below_from o (x ∷ xs) (y ∷ ys) e h = (h 0 (omega arith), below_from o xs ys (omega (arith, e)) (λ p k. h (suc p) (omega (arith, k))))

pub below-length : (o : Order) (xs ys : List ℕ) → AllBelow o xs ys → length xs ≡ length ys
below-length o [] [] h = refl
below-length o [] (y ∷ ys) h = absurd h
below-length o (x ∷ xs) [] h = absurd h
below-length o (x ∷ xs) (y ∷ ys) h = let k = below-length o xs ys h.1 in omega (arith, k)

pub neutral : (o : Order) (a : ℕ) → Below o a NOTHING → meet_of o a NOTHING ≡ a
neutral o a h = Below-antisym o (meet_of o a NOTHING) a (meet-below_left o a NOTHING) (meet-greatest o a NOTHING a (Below-refl o a) h)

pub met-length : (o : Order) (xs hand : List ℕ) → length (met o xs hand) ≡ length xs
met-length o [] hand = refl
met-length o (x ∷ xs) [] = refl
met-length o (x ∷ xs) (a ∷ hand) = let k = met-length o xs hand in omega (arith, k)

met-at : (o : Order) (xs hand : List ℕ) (m : ℕ) → m < length xs → Below o (slice_index xs m) NOTHING → slice_index (met o xs hand) m ≡ meet_of o (slice_index xs m) (slice_index_or hand m NOTHING)
met-at o [] hand m h k = absurd (omega (arith, h))
met-at o (x ∷ xs) [] m h k = sym (neutral o (slice_index (x ∷ xs) m) k)
met-at o (x ∷ xs) (a ∷ hand) zero h k = refl
met-at o (x ∷ xs) (a ∷ hand) (suc m) h k = met-at o xs hand m (omega (arith, h)) k

dropped_map : (g : ℕ → ℕ) (us ds : List ℕ) → drop (length us) (map g us ++ ds) ≡ ds
dropped_map g [] ds = refl
dropped_map g (u ∷ us) ds = dropped_map g us ds

-- ---- the values that a worker gives

module _ (sys : System) (g : Assignment) (sound : IsSound sys) (greatest : IsGreatest sys.equations g) (i : ℕ) (i_in : i < length sys.pieces) (ws : BaseState) (w : Worker) (fit : IsFitWorker sys g ws (piece_at sys.pieces i) w) where
  abbrev piece : Piece
  piece = piece_at sys.pieces i

  abbrev o : Order
  o = sys.equations.order

  abbrev size : ℕ
  size = length piece.owned

  -- the values lowered by the hand
  abbrev xs : List ℕ
  xs = lowered sys.equations piece.owned w.values (hand_of w)

  abbrev ys : List ℕ
  ys = values_given sys piece w

  in_range : (p v : ℕ) → StandsAt (places piece) p v → v < sys.equations.count
  in_range p v k = stands_in_range sys sound i p v i_in k

  small : (p v : ℕ) → StandsAt (places piece) p v → Below o (slice_index w.values p) NOTHING
  small p v k = Below-trans o (slice_index w.values p) (sys.equations.start v) NOTHING (fit.values p v k).1 (sound.lawful.start_is_value v (in_range p v k))

  all_places : length w.values ≡ size + length piece.mirrors
  all_places = fit.shape.values ∙ length-append piece.owned piece.mirrors

  front-length : length (take size w.values) ≡ size
  front-length = let e = all_places in let k = length-take size w.values in omega (arith, e, k)

  xs-length : length xs ≡ length w.values
  xs-length =
      let a = length-append (take size w.values) (met o (drop size w.values) (hand_of w)) in
      let b = met-length o (drop size w.values) (hand_of w) in
      let c = length-drop size w.values in
      let d = front-length in
      let e = all_places in
      omega (arith, a, b, c, d, e)

  xs-owned : (p : ℕ) → p < size → slice_index xs p ≡ slice_index w.values p
  xs-owned p h =
      let k = front-length in
      get_or_append_left (take size w.values) (met o (drop size w.values) (hand_of w)) 0 p (omega (arith, k, h)) ∙ get_or-take size w.values p 0 h

  xs-mirror : (m v : ℕ) → StandsAt piece.mirrors m v → slice_index xs (size + m) ≡ meet_of o (slice_index w.values (size + m)) (slice_index_or (hand_of w) m NOTHING)
  xs-mirror m v h =
      let k = front-length in
      let e = all_places in
      let d = length-drop size w.values in
      let at = get_or-drop size w.values m 0 in
      let n : size + m - size ≡ m = omega arith in
      get_or-append_right (take size w.values) (met o (drop size w.values) (hand_of w)) size (size + m) 0 k (omega arith)
      ∙ (ap (λ q. slice_index (met o (drop size w.values) (hand_of w)) q) n
      ∙ (met-at o (drop size w.values) (hand_of w) m (let l = h.0 in omega (arith, d, e, l)) (subst (λ a. Below o a NOTHING) (sym at) (small (size + m) v (stands_right piece.owned piece.mirrors m v h)))
      ∙ ap (λ a. meet_of o a (slice_index_or (hand_of w) m NOTHING)) at))

  -- what is met lies between too
  xs-above : (p v : ℕ) → StandsAt (places piece) p v → Below o (g v) (slice_index xs p)
  xs-above p v h = go (stands_cases piece.owned piece.mirrors p v h)
    where
      go : StandsAt piece.owned p v ⊎ ((m : ℕ) × (p ≡ size + m) × StandsAt piece.mirrors m v) → Below o (g v) (slice_index xs p)
      go (inl k) = subst (Below o (g v)) (sym (xs-owned p k.0)) (fit.values p v h).0
      go (inr k) =
          let place = ap (λ q. slice_index xs q) k.1 in
          let a = slice_index w.values (size + k.0) in
          let stands = stands_right piece.owned piece.mirrors k.0 v k.2 in
          let low = (fit.values (size + k.0) v stands).0 in
          let held : Below o (g v) (slice_index_or (hand_of w) k.0 NOTHING) =
          elim (fit.held k.0 v k.2) [
            | inl e ↦ subst (Below o (g v)) (sym e) (Below-trans o (g v) a NOTHING low (small (size + k.0) v stands))
            | inr b ↦ b.0
          ] in
          subst (Below o (g v)) (sym (place ∙ xs-mirror k.0 v k.2)) (meet-greatest o a (slice_index_or (hand_of w) k.0 NOTHING) (g v) low held)

  xs-below : (p v : ℕ) → StandsAt (places piece) p v → Below o (slice_index xs p) (slice_index w.values p)
  xs-below p v h = go (stands_cases piece.owned piece.mirrors p v h)
    where
      go : StandsAt piece.owned p v ⊎ ((m : ℕ) × (p ≡ size + m) × StandsAt piece.mirrors m v) → Below o (slice_index xs p) (slice_index w.values p)
      go (inl k) = subst (λ a. Below o a (slice_index w.values p)) (sym (xs-owned p k.0)) (Below-refl o (slice_index w.values p))
      go (inr k) =
          let P : ℕ → Type 0 = λ q. Below o (slice_index xs q) (slice_index w.values q) in
          let a = slice_index w.values (size + k.0) in
          subst P (sym k.1) (subst (λ b. Below o b a) (sym (xs-mirror k.0 v k.2)) (meet-below_left o a (slice_index_or (hand_of w) k.0 NOTHING)))

  -- the greatest solution on the owned places is a candidate
  abbrev zs : List ℕ
  zs = map g piece.owned ++ drop size xs

  zs-length : length zs ≡ length w.values
  zs-length =
      let a = length-append (map g piece.owned) (drop size xs) in
      let b = length-map piece.owned g in
      let c = length-drop size xs in
      let d = xs-length in
      let e = all_places in
      omega (arith, a, b, c, d, e)

  zs-owned : (p v : ℕ) → StandsAt piece.owned p v → slice_index zs p ≡ g v
  zs-owned p v h =
      let b = length-map piece.owned g in
      let l = h.0 in
      get_or_append_left (map g piece.owned) (drop size xs) 0 p (omega (arith, b, l)) ∙ (get_or-map g piece.owned p 0 0 l ∙ ap g h.1)

  zs-other : (m : ℕ) → slice_index zs (size + m) ≡ slice_index xs (size + m)
  zs-other m =
      let b = length-map piece.owned g in
      let n : size + m - size ≡ m = omega arith in
      get_or-append_right (map g piece.owned) (drop size xs) size (size + m) 0 b (omega arith) ∙ (ap (λ q. slice_index (drop size xs) q) n ∙ get_or-drop size xs m 0)

  zs-above : (p v : ℕ) → StandsAt (places piece) p v → Below o (g v) (slice_index zs p)
  zs-above p v h = go (stands_cases piece.owned piece.mirrors p v h)
    where
      go : StandsAt piece.owned p v ⊎ ((m : ℕ) × (p ≡ size + m) × StandsAt piece.mirrors m v) → Below o (g v) (slice_index zs p)
      go (inl k) = subst (Below o (g v)) (sym (zs-owned p v k)) (Below-refl o (g v))
      go (inr k) =
          let P : ℕ → Type 0 = λ q. Below o (g v) (slice_index zs q) in
          subst P (sym k.1) (subst (Below o (g v)) (sym (zs-other k.0)) (xs-above (size + k.0) v (stands_right piece.owned piece.mirrors k.0 v k.2)))

  zs-below : AllBelow o zs xs
  zs-below = below_from o zs xs (zs-length ∙ sym xs-length) at
    where
      at : (p : ℕ) → p < length zs → Below o (slice_index zs p) (slice_index xs p)
      at p h =
          elim (cases_lt p size) [
            | inl k ↦
                let v = slice_index piece.owned p in
                subst (λ a. Below o a (slice_index xs p)) (sym (zs-owned p v (k, refl))) (xs-above p v (stands_left piece.owned piece.mirrors p v (k, refl)))
            | inr k ↦
                let P : ℕ → Type 0 = λ q. Below o (slice_index zs q) (slice_index xs q) in
                let n : size + (p - size) ≡ p = omega (arith, k) in
                subst P n (subst (λ a. Below o a (slice_index xs (size + (p - size)))) (sym (zs-other (p - size))) (Below-refl o (slice_index xs (size + (p - size)))))
          ]

  zs-equations : OwnEquationsHold sys.equations piece.owned piece.mirrors zs
  zs-equations p h =
      let v = slice_index piece.owned p in
      let own : IsOwnedAt sys.pieces i p v = (i_in, (h, refl)) in
      let v_in = in_range p v (stands_left piece.owned piece.mirrors p v (h, refl)) in
      let e : slice_index zs p ≡ sys.equations.phi v g = zs-owned p v (h, refl) ∙ greatest.solves v v_in in
      subst (λ a. Below o a (sys.equations.phi v (value_at (places piece) zs))) (sym e)
      (sound.lawful.monotone v g (value_at (places piece) zs) v_in
      (λ u c.
      let q = sound.cut.reads i p v u own c in
      let s = value_at-place (places piece) zs u q.0 (zs-length ∙ fit.shape.values) q.1 in
      subst (Below o (g u)) (sym s.2) (zs-above s.0 u s.1)))

  pub solution : IsLocalSolution sys.equations piece.owned piece.mirrors xs ys
  solution =
      local_solution-computed sys.equations piece.owned piece.mirrors xs sound.lawful
      (λ p h. in_range p (slice_index piece.owned p) (stands_left piece.owned piece.mirrors p (slice_index piece.owned p) (h, refl)))

  zs-ys : AllBelow o zs ys
  zs-ys = solution.greatest zs (record { below = zs-below; mirrors_stay = dropped_map g piece.owned (drop size xs); equations = zs-equations })

  pub ys-length : length ys ≡ length w.values
  ys-length = below-length o ys xs solution.candidate.below ∙ xs-length

  pub ys-below : (p v : ℕ) → StandsAt (places piece) p v → Below o (slice_index ys p) (slice_index w.values p)
  ys-below p v h = Below-trans o (slice_index ys p) (slice_index xs p) (slice_index w.values p) (below_at o ys xs solution.candidate.below p) (xs-below p v h)

  pub ys-between : (p v : ℕ) → StandsAt (places piece) p v → IsBetween sys g v (slice_index ys p)
  ys-between p v h = (
    Below-trans o (g v) (slice_index zs p) (slice_index ys p) (zs-above p v h) (below_at o zs ys zs-ys p),
    Below-trans o (slice_index ys p) (slice_index w.values p) (sys.equations.start v) (ys-below p v h) (fit.values p v h).1,
  )

  ys-mirror : (m v : ℕ) → StandsAt piece.mirrors m v → slice_index ys (size + m) ≡ meet_of o (slice_index w.values (size + m)) (slice_index_or (hand_of w) m NOTHING)
  ys-mirror m v h =
      sym (get_or-drop size ys m 0) ∙ (ap (λ l. slice_index l m) solution.candidate.mirrors_stay ∙ (get_or-drop size xs m 0 ∙ xs-mirror m v h))

  known_after_giving : (m v : ℕ) → StandsAt piece.mirrors m v → known_at sys piece (after_giving sys piece w) m ≡ known_at sys piece w m
  known_after_giving m v h =
      let a = slice_index w.values (size + m) in
      let hand = slice_index_or (hand_of w) m NOTHING in
      let values = values_for m (pending_posts w) in
      meet_all-same o (slice_index ys (size + m)) (NOTHING ∷ values) a (hand ∷ values)
      (λ c k.
      let both = subst (Below o c) (ys-mirror m v h) k.0 in
      (Below-trans o c (meet_of o a hand) a both (meet-below_left o a hand), (Below-trans o c (meet_of o a hand) hand both (meet-below_right o a hand), k.1.1)))
      (λ c k. (
        subst (Below o c) (sym (ys-mirror m v h)) (meet-greatest o a hand c k.0 k.1.0),
        (Below-trans o c a NOTHING k.0 (small (size + m) v (stands_right piece.owned piece.mirrors m v h)), k.1.1),
      ))

  pub giving_keeps : IsFitWorker sys g ws piece (after_giving sys piece w)
  giving_keeps =
      record {
        shape = record { values = ys-length ∙ fit.shape.values; hand = omega arith; senders = fit.shape.senders; posts = fit.shape.posts };
        values = ys-between;
        held = λ m v k. inl refl;
        pending = fit.pending;
        rested = λ h. solution.candidate.equations;
        mirrors = λ m j p v k own. known_after_giving m v k ∙ fit.mirrors m j p v k own;
        fresh = λ h. absurd (false≢true h);
      }
