-- Steps by which values fall.
use Rattle.std.proofs.Common.{◌≡◌, ◌≢◌, ℕ, ◌+◌, ◌<◌, ◌≤◌, ◌⊎◌, inl, inr, Bool, true, false, cond, nat_lt, refl, sym, ◌∙◌, ap, subst, arith, List, [], length, slice_index, slice_index_or, slice_set, Contains, sum, Some}
use Rattle.std.proofs.lemmas.Bool.{cases_eq}
use Rattle.std.proofs.lemmas.Bool.Decides.{nat_tests}
use Rattle.std.proofs.lemmas.List.{get_or-set_same, get_or-set_other, length-set, get_or_default}
use Rattle.std.proofs.lemmas.List.Sums.{sum_by-set}
use Rattle.graph_core.specs.declared.fragment.Reading.{Reading}
use Rattle.graph_core.specs.Parts.{FragmentLists, place_count}
use Rattle.graph_core.specs.declared.TheConstants.{FAR}
use Rattle.pie_core.specs.PlaceSets.{waits, how_many}
use Rattle.pie_core.specs.Locals.{LocalValues, FitsPart}
use Rattle.pie_core.specs.LocalCalls.{with_value, with_waiting, TakesOne}
use Rattle.pie_core.proofs.Places.{waits_on, waits_new, still_waits, one_more, one_less}
use Rattle.pie_lowering.specs.Lowering.{LieBelow, AreAtMostFar, HoldsReaders, WaitsOrHolds, lowered_to, HasFallen, work_left, WaitWhereFell}

-- ---- steps in a row

pub fallen-refl : (cost : ℕ → ℕ) (part : FragmentLists) (a : LocalValues) → HasFallen cost part a a
fallen-refl cost part a = record { places = refl; before = refl; counters = refl; below = λ q. omega arith; mirrors = λ q h. refl; above = λ ys r h. h }

pub fallen-trans : (cost : ℕ → ℕ) (part : FragmentLists) (a b c : LocalValues) → HasFallen cost part a b → HasFallen cost part b c → HasFallen cost part a c
fallen-trans cost part a b c h k = record {
  places = k.places ∙ h.places;
  before = k.before ∙ h.before;
  counters = k.counters ∙ h.counters;
  below = λ q. omega (arith, h.below q, k.below q);
  mirrors = λ q l. k.mirrors q l ∙ h.mirrors q l;
  above = λ ys r l. k.above ys r (h.above ys r l);
}

-- the same values and sizes, whoever waits
pub fallen-same : (cost : ℕ → ℕ) (part : FragmentLists) (a b : LocalValues) → b ≡ record a { waiting = b.waiting } → HasFallen cost part a b
fallen-same cost part a b e =
    let v : b.values ≡ a.values = ap (λ (l : LocalValues). l.values) e in
    record {
      places = ap length v;
      before = ap (λ (l : LocalValues). l.before) e;
      counters = ap (λ (l : LocalValues). l.counters) e;
      below = λ q. omega (arith, ap (λ xs. slice_index xs q) v);
      mirrors = λ q h. ap (λ xs. slice_index xs q) v;
      above = λ ys r h q. omega (arith, h q, ap (λ xs. slice_index xs q) v);
    }

pub wait-refl : (a : LocalValues) → WaitWhereFell a a
wait-refl a = record { on = λ q h. h; fell = λ q. inl refl; no_more = omega arith }

pub wait-trans : (a b c : LocalValues) → WaitWhereFell a b → WaitWhereFell b c → WaitWhereFell a c
wait-trans a b c h k = record {
  on = λ q w. k.on q (h.on q w);
  fell = λ q. elim (k.fell q) [
    | inl e ↦ elim (h.fell q) [ inl f ↦ inl (e ∙ f) | inr w ↦ inr (k.on q w) ]
    | inr w ↦ inr w
  ];
  no_more = omega (arith, h.no_more, k.no_more);
}

pub fallen-fits : (cost : ℕ → ℕ) (part : FragmentLists) (a b : LocalValues) → HasFallen cost part a b → FitsPart part a → FitsPart part b
fallen-fits cost part a b h f = record { few = f.few; places = h.places ∙ f.places; owned = ap length h.before ∙ f.owned }

pub fallen-far : (cost : ℕ → ℕ) (part : FragmentLists) (a b : LocalValues) → HasFallen cost part a b → AreAtMostFar a.values → AreAtMostFar b.values
fallen-far cost part a b h f q = omega (arith, h.below q, f q)

-- ---- one reader is lowered

pub record LowersOne (cost : ℕ → ℕ) (part : FragmentLists) (old new : LocalValues) (p q w : ℕ) : Type 0 where
  pub fallen : HasFallen cost part old new
  pub waits : WaitWhereFell old new
  pub at_most : slice_index new.values p ≤ slice_index old.values q + cost w
  pub stays : slice_index new.values q ≡ slice_index old.values q

module _ (cost : ℕ → ℕ) (part : FragmentLists) (old : LocalValues) (p q w : ℕ) (fits : FitsPart part old) (row : Contains (slice_index_or part.readers q []) (record { place = p; weight = w })) (q_in : q < place_count part) (p_owned : p < length part.owned) (known : p < length old.waiting) where
  abbrev offer : ℕ
  offer = slice_index old.values q + cost w

  abbrev fallen : LocalValues
  fallen = with_waiting (with_value old p offer) p

  p_in : p < length old.values
  p_in = let n = fits.places in omega (arith, n, p_owned)

  at_p : slice_index fallen.values p ≡ offer
  at_p = get_or-set_same old.values p offer 0 p_in

  elsewhere : (v : ℕ) → v ≢ p → slice_index fallen.values v ≡ slice_index old.values v
  elsewhere v d = get_or-set_other old.values p v offer 0 d

  lowers : offer < slice_index old.values p → LowersOne cost part old fallen p q w
  lowers less = record {
    fallen = record {
      places = length-set old.values p offer;
      before = refl;
      counters = refl;
      below = λ v. elim (cases_eq v p) [
        | inl e ↦ omega (arith, ap (slice_index fallen.values) e, at_p, less, ap (slice_index old.values) e)
        | inr d ↦ omega (arith, elsewhere v d)
      ];
      mirrors = λ v h. elsewhere v (λ e. absurd (omega (arith, h, p_owned, e)));
      above = λ ys r h v. elim (cases_eq v p) [
        | inl e ↦ omega (arith, ap (slice_index fallen.values) e, at_p, ap (slice_index ys) e, r q q_in (record { place = p; weight = w }) row, h q)
        | inr d ↦ omega (arith, elsewhere v d, h v)
      ];
    };
    waits = record {
      on = λ v h. waits_on old.waiting p v h;
      fell = λ v. elim (cases_eq v p) [
        | inl e ↦ inr (subst (λ u. waits fallen.waiting u ≡ true) (sym e) (waits_new old.waiting p known))
        | inr d ↦ inl (elsewhere v d)
      ];
      no_more =
          let s = sum_by-set (λ n. n) old.values p offer 0 p_in in
          let m = one_more old.waiting p in
          omega (arith, s, m, less);
    };
    at_most = omega (arith, at_p);
    stays = elsewhere q (λ e. absurd (omega (arith, less, ap (slice_index old.values) e)));
  }

  lower_case : (c : Bool) → nat_lt offer (slice_index old.values p) ≡ c → LowersOne cost part old (cond c fallen old) p q w
  lower_case true e = lowers (grind (arith, nat_tests, e))
  lower_case false e = record { fallen = fallen-refl cost part old; waits = wait-refl old; at_most = grind (arith, nat_tests, e); stays = refl }

  pub lowers-one : LowersOne cost part old (lowered_to old p offer) p q w
  lowers-one = lower_case (nat_lt offer (slice_index old.values p)) refl

-- ---- the readers of a place

-- those below index n of a row are held by the value of a place
abbrev pub HoldBelow : (ℕ → ℕ) → List Reading → List ℕ → ℕ → ℕ → Type 0
HoldBelow cost row values value n = (k : ℕ) (d : Reading) → k < n → slice_index values (slice_index_or row k d).place ≤ value + cost (slice_index_or row k d).weight

pub hold-more : (cost : ℕ → ℕ) (row : List Reading) (old new : List ℕ) (value n : ℕ) (r : Reading) → n < length row → LieBelow new old → slice_index_or row n r ≡ r → slice_index new r.place ≤ value + cost r.weight → HoldBelow cost row old value n → HoldBelow cost row new value (n + 1)
hold-more cost row old new value n r l below is here h k d m = elim (cases_eq k n) [
  | inl e ↦
      let P : Reading → Type 0 = λ x. slice_index new x.place ≤ value + cost x.weight in
      let Q : ℕ → Type 0 = λ j. P (slice_index_or row j d) in
      subst Q (sym e) (subst P (sym is ∙ get_or_default row n r d l) here)
  | inr e ↦ let old_one = h k d (omega (arith, m, e)) in let fell = below (slice_index_or row k d).place in omega (arith, old_one, fell)
]

-- ---- what stays settled

pub holds-kept : (cost : ℕ → ℕ) (part : FragmentLists) (old new : List ℕ) (q : ℕ) → LieBelow new old → slice_index new q ≡ slice_index old q → HoldsReaders cost part old q → HoldsReaders cost part new q
holds-kept cost part old new q below same h r c = omega (arith, below r.place, same, h r c)

pub place-settled : (cost : ℕ → ℕ) (part : FragmentLists) (old new : LocalValues) (q : ℕ) → LieBelow new.values old.values → WaitWhereFell old new → (waits old.waiting q ≡ true) ⊎ HoldsReaders cost part old.values q → (waits new.waiting q ≡ true) ⊎ HoldsReaders cost part new.values q
place-settled cost part old new q below w (inl h) = inl (w.on q h)
place-settled cost part old new q below w (inr h) = elim (w.fell q) [
  | inl e ↦ inr (holds-kept cost part old.values new.values q below e h)
  | inr k ↦ inl k
]

-- what is left where one was taken
pub taken-waiting : (old mid : LocalValues) (place : ℕ) → TakesOne old (Some place) mid → mid.waiting ≡ slice_set old.waiting place false
taken-waiting old mid place taken = ap (λ (x : LocalValues). x.waiting) taken.1

pub taken-rest : (old mid : LocalValues) (place : ℕ) → TakesOne old (Some place) mid → mid ≡ record old { waiting = mid.waiting }
taken-rest old mid place taken = taken.1 ∙ ap (λ (ws : List Bool). let x : LocalValues = record old { waiting = ws } in x) (sym (taken-waiting old mid place taken))

pub popped-settled : (cost : ℕ → ℕ) (part : FragmentLists) (old mid new : LocalValues) (place q : ℕ) → TakesOne old (Some place) mid → HasFallen cost part mid new → WaitWhereFell mid new → HoldsReaders cost part new.values place → WaitsOrHolds cost part old q → WaitsOrHolds cost part new q
popped-settled cost part old mid new place q taken fell w here h = elim (cases_eq q place) [
  | inl e ↦ inr (subst (λ u. HoldsReaders cost part new.values u) (sym e) here)
  | inr d ↦ place-settled cost part mid new q fell.below w (elim h [
    | inl k ↦ inl (subst (λ ws. waits ws q ≡ true) (sym (taken-waiting old mid place taken)) (still_waits old.waiting place q d k))
    | inr k ↦ inr (subst (λ xs. HoldsReaders cost part xs q) (sym (ap (λ (x : LocalValues). x.values) taken.1)) k)
  ])
]

pub popped-less : (old mid new : LocalValues) (place : ℕ) → TakesOne old (Some place) mid → WaitWhereFell mid new → work_left new < work_left old
popped-less old mid new place taken w =
    let s = ap (λ (x : LocalValues). sum x.values) taken.1 in
    let n = ap how_many (taken-waiting old mid place taken) in
    let m = one_less old.waiting place taken.0 in
    omega (arith, w.no_more, s, n, m)

pub none-relaxed : (cost : ℕ → ℕ) (part : FragmentLists) (local : LocalValues) (q : ℕ) → waits local.waiting q ≡ false → WaitsOrHolds cost part local q → HoldsReaders cost part local.values q
none-relaxed cost part local q none (inl k) = absurd (let x : false ≡ true = sym none ∙ k in cc)
none-relaxed cost part local q none (inr k) = k

-- ---- where places are begun at

-- no value is greater than FAR
pub far-holds : (cost : ℕ → ℕ) (part : FragmentLists) (xs : List ℕ) (q : ℕ) → AreAtMostFar xs → FAR ≤ slice_index xs q → HoldsReaders cost part xs q
far-holds cost part xs q h l r c = let k = h r.place in omega (arith, k, l)

pub listed-rest : (old new : LocalValues) (place : ℕ) → new ≡ with_waiting old place → new ≡ record old { waiting = new.waiting }
listed-rest old new place e = e ∙ ap (λ (ws : List Bool). let x : LocalValues = record old { waiting = ws } in x) (sym (ap (λ (x : LocalValues). x.waiting) e))

pub listed-here : (cost : ℕ → ℕ) (part : FragmentLists) (old new : LocalValues) (place : ℕ) → new ≡ with_waiting old place → place < length old.waiting → WaitsOrHolds cost part new place
listed-here cost part old new place e h = subst (λ (l : LocalValues). WaitsOrHolds cost part l place) (sym e) (inl (waits_new old.waiting place h))

pub listed-others : (cost : ℕ → ℕ) (part : FragmentLists) (old new : LocalValues) (place q : ℕ) → new ≡ with_waiting old place → WaitsOrHolds cost part old q → WaitsOrHolds cost part new q
listed-others cost part old new place q e h = subst (λ (l : LocalValues). WaitsOrHolds cost part l q) (sym e) (go h)
  where
    go : WaitsOrHolds cost part old q → WaitsOrHolds cost part (with_waiting old place) q
    go (inl k) = inl (waits_on old.waiting place q k)
    go (inr k) = inr k
