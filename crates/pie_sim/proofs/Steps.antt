-- Steps by which values fall.
use Rattle.std.proofs.Common.{◌≡◌, ◌≢◌, ℕ, zero, suc, ◌+◌, ◌*◌, ◌<◌, ◌≤◌, ◌⊎◌, inl, inr, Bool, true, false, refl, sym, ◌∙◌, ap, subst, arith, List, [], length, slice_index, slice_index_or, Contains, Some, IsTrue, count_ones, sum_by}
use Rattle.std.specs.Prelude.{slice_set}
use Rattle.std.proofs.lemmas.Bool.{cases_eq}
use Rattle.std.proofs.lemmas.List.{get_or-set_same, get_or-set_other, length-set, set-get_or}
use Rattle.std.proofs.lemmas.List.Sums.{sum_by-set, count_by-le-length}
use Rattle.value_order.specs.declared.order.Order.TheVariants.{Mask}
use Rattle.value_order.specs.Order.{Below}
use Rattle.value_order.proofs.Orders.{Below-refl, Below-eq, Below-trans, height-lt}
use Rattle.graph_core.specs.declared.fragment.Reading.{Reading}
use Rattle.graph_core.specs.Parts.{FragmentLists}
use Rattle.graph_core.specs.Queries.{has_bit}
use Rattle.graph_core.proofs.Lists.{any_from, any_gives}
use Rattle.pie_core.specs.PlaceSets.{waits, how_many}
use Rattle.pie_core.specs.Locals.{LocalValues, FitsPart}
use Rattle.pie_core.specs.LocalCalls.{TakesOne}
use Rattle.pie_sim.specs.SimJobs.{HasBit}
use Rattle.pie_sim.specs.Falling.{is_read, IsSupported, AreSupported, IsSettled, IsSettledBut, ReadersAreListed, ReadersWait, work_left, HasLowered, HasFallen}
use Rattle.pie_sim.proofs.Bits.{below-bit, bit-below}

-- ---- who waits

pub waits_on : (waiting : List Bool) (p q : ℕ) → p < length waiting → waits waiting q ≡ true → waits (slice_set waiting p true) q ≡ true
waits_on waiting p q inside h = elim (cases_eq q p) [
  | inl e ↦ ap (λ i. waits (slice_set waiting p true) i) e ∙ get_or-set_same waiting p true false inside
  | inr d ↦ get_or-set_other waiting p q true false d ∙ h
]

pub waits_new : (waiting : List Bool) (p : ℕ) → p < length waiting → waits (slice_set waiting p true) p ≡ true
waits_new waiting p inside = get_or-set_same waiting p true false inside

-- ---- one place gets a lower value

pub lowered-same : (part : FragmentLists) (old : LocalValues) (place value : ℕ) → value ≡ slice_index old.values place → HasLowered part old old place value
lowered-same part old place value e = record {
  values = sym (ap (slice_set old.values place) e ∙ set-get_or old.values place 0);
  before = refl;
  counters = refl;
  on = λ q h. h;
  readers = λ q m l t. inr t;
  no_more = omega arith;
}

-- one sum less leaves room for all that may wait
less_left : (s t b w : ℕ) → s < t → w ≤ b → s * (b + 1) + w ≤ t * (b + 1)
less_left zero zero b w h l = absurd (omega (arith, h))
less_left zero (suc t) b w h l = omega (arith, l)
less_left (suc s) zero b w h l = absurd (omega (arith, h))
less_left (suc s) (suc t) b w h l = omega (arith, less_left s t b w (omega (arith, h)) l)

pub lowered-other : (part : FragmentLists) (old new : LocalValues) (place value : ℕ) → place < length old.values → value ≢ slice_index old.values place → Below Mask value (slice_index old.values place) →
    new.values ≡ slice_set old.values place value → new.before ≡ old.before → length new.counters ≡ length old.counters → length new.waiting ≡ length old.before →
    ((q : ℕ) → waits old.waiting q ≡ true → waits new.waiting q ≡ true) →
    ((q m : ℕ) → q < length part.owned → IsTrue (is_read (slice_index_or part.readings q []) old.values m) → (waits new.waiting q ≡ true) ⊎ IsTrue (is_read (slice_index_or part.readings q []) new.values m)) →
    HasLowered part old new place value
lowered-other part old new place value inside other below values before room known on readers =
    let more = sum_by-set count_ones old.values place value 0 inside in
    let fewer = height-lt Mask value (slice_index old.values place) below other in
    let same = ap (sum_by count_ones) values in
    let few = count_by-le-length (λ (b : Bool). b) new.waiting in
    let left = less_left (sum_by count_ones new.values) (sum_by count_ones old.values) (length new.before) (how_many new.waiting) (omega (arith, more, fewer, same)) (omega (arith, few, known, ap length before)) in
    let same_before = ap (λ bs. sum_by count_ones old.values * (length bs + 1)) before in
    record {
      values = values;
      before = before;
      counters = room;
      on = on;
      readers = readers;
      no_more = omega (arith, left, same_before);
    }

-- ---- steps in a row

pub fallen-refl : (targets : List ℕ) (part : FragmentLists) (a : LocalValues) → HasFallen targets part a a
fallen-refl targets part a = record { places = refl; before = refl; counters = refl; below = λ q. Below-refl Mask (slice_index a.values q); mirrors = λ q h. refl; above = λ ys s h. h }

pub fallen-trans : (targets : List ℕ) (part : FragmentLists) (a b c : LocalValues) → HasFallen targets part a b → HasFallen targets part b c → HasFallen targets part a c
fallen-trans targets part a b c h k = record {
  places = k.places ∙ h.places;
  before = k.before ∙ h.before;
  counters = k.counters ∙ h.counters;
  below = λ q. Below-trans Mask (slice_index c.values q) (slice_index b.values q) (slice_index a.values q) (k.below q) (h.below q);
  mirrors = λ q l. k.mirrors q l ∙ h.mirrors q l;
  above = λ ys s l. k.above ys s (h.above ys s l);
}

-- the same values and sizes, whoever waits and whatever is counted
pub fallen-same : (targets : List ℕ) (part : FragmentLists) (a b : LocalValues) → b ≡ record a { counters = b.counters; waiting = b.waiting } → length b.counters ≡ length a.counters → HasFallen targets part a b
fallen-same targets part a b e room =
    let v : b.values ≡ a.values = ap (λ (l : LocalValues). l.values) e in
    record {
      places = ap length v;
      before = ap (λ (l : LocalValues). l.before) e;
      counters = room;
      below = λ q. Below-eq Mask (slice_index b.values q) (slice_index a.values q) (ap (λ xs. slice_index xs q) v);
      mirrors = λ q h. ap (λ xs. slice_index xs q) v;
      above = λ ys s h q. subst (λ xs. Below Mask (slice_index ys q) (slice_index xs q)) (sym v) (h q);
    }

pub fallen-taken : (targets : List ℕ) (part : FragmentLists) (a b : LocalValues) (place : ℕ) → TakesOne a (Some place) b → HasFallen targets part a b
fallen-taken targets part a b place taken =
    let counters : b.counters ≡ a.counters = ap (λ (l : LocalValues). l.counters) taken.1 in
    let waiting : b.waiting ≡ slice_set a.waiting place false = ap (λ (l : LocalValues). l.waiting) taken.1 in
    fallen-same targets part a b
    (taken.1 ∙ ap (λ ws. let x : LocalValues = record a { waiting = ws } in x) (sym waiting) ∙ ap (λ cs. let x : LocalValues = record a { counters = cs; waiting = b.waiting } in x) (sym counters))
    (ap length counters)

pub fallen-step : (targets : List ℕ) (part : FragmentLists) (start old mid new : LocalValues) (place : ℕ) → HasFallen targets part start old → TakesOne old (Some place) mid → HasFallen targets part mid new → HasFallen targets part start new
fallen-step targets part start old mid new place so_far taken step =
    fallen-trans targets part start old new so_far (fallen-trans targets part old mid new (fallen-taken targets part old mid place taken) step)

pub fallen-fits : (targets : List ℕ) (part : FragmentLists) (a b : LocalValues) → HasFallen targets part a b → FitsPart part a → FitsPart part b
fallen-fits targets part a b h f = record { few = f.few; places = h.places ∙ f.places; owned = ap length h.before ∙ f.owned }

-- ---- what a row reads

pub read-below : (row : List Reading) (xs ys : List ℕ) (m : ℕ) → ((r : Reading) → Contains row r → HasBit (slice_index xs r.place) m → HasBit (slice_index ys r.place) m) → IsTrue (is_read row xs m) → IsTrue (is_read row ys m)
read-below row xs ys m h t =
    let f = any_gives (λ (r : Reading). has_bit (slice_index xs r.place) m) row t in
    any_from (λ (r : Reading). has_bit (slice_index ys r.place) m) row f.0 f.1 (h f.0 f.1 f.2)

-- ---- a place is tested

-- a place that doesn't wait reads the same as before, where all readers of the place that fell wait
module _ (part : FragmentLists) (old new : LocalValues) (place value : ℕ) (values : new.values ≡ slice_set old.values place value) (listed : ReadersAreListed part) (wait : ReadersWait part new place) where
  same_row : (q : ℕ) → q < length part.owned → waits new.waiting q ≡ false → (r : Reading) → Contains (slice_index_or part.readings q []) r → slice_index new.values r.place ≡ slice_index old.values r.place
  same_row q l none r c = elim (cases_eq r.place place) [
    | inr d ↦ ap (λ xs. slice_index xs r.place) values ∙ get_or-set_other old.values place r.place value 0 d
    | inl e ↦
        let there = subst (λ u. Contains (slice_index_or part.readers u []) (record { place = q; weight = r.weight })) e (listed q r l c) in
        let on = wait (record { place = q; weight = r.weight }) there in
        absurd (let x : false ≡ true = sym none ∙ on in cc)
  ]

  pub listed-readers : (q m : ℕ) → q < length part.owned → IsTrue (is_read (slice_index_or part.readings q []) old.values m) → (waits new.waiting q ≡ true) ⊎ IsTrue (is_read (slice_index_or part.readings q []) new.values m)
  listed-readers q m l t = go (waits new.waiting q) refl
    where
      go : (c : Bool) → waits new.waiting q ≡ c → (waits new.waiting q ≡ true) ⊎ IsTrue (is_read (slice_index_or part.readings q []) new.values m)
      go true e = inl e
      go false e = inr (read-below (slice_index_or part.readings q []) old.values new.values m (λ r c b. subst (λ n. HasBit n m) (sym (same_row q l e r c)) b) t)

module _ (targets : List ℕ) (part : FragmentLists) (old new : LocalValues) (place value : ℕ) (h : HasLowered part old new place value) (inside : place < length old.values) where
  at_place : slice_index new.values place ≡ value
  at_place = ap (λ xs. slice_index xs place) h.values ∙ get_or-set_same old.values place value 0 inside

  elsewhere : (q : ℕ) → q ≢ place → slice_index new.values q ≡ slice_index old.values q
  elsewhere q d = ap (λ xs. slice_index xs q) h.values ∙ get_or-set_other old.values place q value 0 d

  -- the bits that stay are those whose targets are read
  abbrev pub StayWhereRead : Type 0
  StayWhereRead = (k m : ℕ) → HasBit value k → HasBit (slice_index targets k) m → IsTrue (is_read (slice_index_or part.readings place []) old.values m)

  read_again : (q : ℕ) → q < length part.owned → waits new.waiting q ≡ false → (m : ℕ) → IsTrue (is_read (slice_index_or part.readings q []) old.values m) → IsTrue (is_read (slice_index_or part.readings q []) new.values m)
  read_again q l none m t = elim (h.readers q m l t) [
    | inl on ↦ absurd (let x : false ≡ true = sym none ∙ on in cc)
    | inr again ↦ again
  ]

  pub tested-settled : (place < length part.owned → StayWhereRead) → IsSettledBut place targets part old → IsSettled targets part new
  tested-settled own but q l = go (waits new.waiting q) refl
    where
      go : (c : Bool) → waits new.waiting q ≡ c → (waits new.waiting q ≡ true) ⊎ IsSupported targets part new.values q
      go true e = inl e
      go false e = inr (λ k m b t. elim (cases_eq q place) [
        | inl same ↦
            let here = own (subst (λ u. u < length part.owned) same l) k m (subst (λ n. HasBit n k) (ap (slice_index new.values) same ∙ at_place) b) t in
            read_again q l e m (subst (λ u. IsTrue (is_read (slice_index_or part.readings u []) old.values m)) (sym same) here)
        | inr d ↦ elim (but q l d) [
          | inl w ↦ absurd (let x : false ≡ true = sym e ∙ h.on q w in cc)
          | inr s ↦ read_again q l e m (s k m (subst (λ n. HasBit n k) (elsewhere q d) b) t)
        ]
      ])

  pub tested-fallen : place < length part.owned → Below Mask value (slice_index old.values place)
      → ((k : ℕ) → HasBit (slice_index old.values place) k → ((m : ℕ) → HasBit (slice_index targets k) m → IsTrue (is_read (slice_index_or part.readings place []) old.values m)) → HasBit value k) → HasFallen targets part old new
  tested-fallen owned below stay = record {
    places = ap length h.values ∙ length-set old.values place value;
    before = h.before;
    counters = h.counters;
    below = λ q. elim (cases_eq q place) [
      | inl e ↦ subst (λ u. Below Mask (slice_index new.values u) (slice_index old.values u)) (sym e) (subst (λ n. Below Mask n (slice_index old.values place)) (sym at_place) below)
      | inr d ↦ Below-eq Mask (slice_index new.values q) (slice_index old.values q) (elsewhere q d)
    ];
    mirrors = λ q l. elsewhere q (λ e. absurd (omega (arith, l, owned, e)));
    above = λ ys s low q. elim (cases_eq q place) [
      | inr d ↦ subst (λ n. Below Mask (slice_index ys q) n) (sym (elsewhere q d)) (low q)
      | inl e ↦
          let here : Below Mask (slice_index ys place) value = bit-below (slice_index ys place) value (λ k b.
          stay k (below-bit (slice_index ys place) (slice_index old.values place) k (low place) b)
          (λ m t. read-below (slice_index_or part.readings place []) ys old.values m (λ r c x. below-bit (slice_index ys r.place) (slice_index old.values r.place) m (low r.place) x) (s place owned k m b t))) in
          subst (λ u. Below Mask (slice_index ys u) (slice_index new.values u)) (sym e) (subst (λ n. Below Mask (slice_index ys place) n) (sym at_place) here)
    ];
  }

-- ---- a place is taken from the list

pub popped-settled : (targets : List ℕ) (part : FragmentLists) (old mid : LocalValues) (place : ℕ) → TakesOne old (Some place) mid → IsSettled targets part old → IsSettledBut place targets part mid
popped-settled targets part old mid place taken h q l d = elim (h q l) [
  | inl w ↦ inl (ap (λ (x : LocalValues). waits x.waiting q) taken.1 ∙ get_or-set_other old.waiting place q false false d ∙ w)
  | inr s ↦ inr (subst (λ xs. IsSupported targets part xs q) (sym (ap (λ (x : LocalValues). x.values) taken.1)) s)
]

pub none-supported : (targets : List ℕ) (part : FragmentLists) (local : LocalValues) → ((place : ℕ) → waits local.waiting place ≡ false) → IsSettled targets part local → AreSupported targets part local.values
none-supported targets part local none h p l = elim (h p l) [
  | inl w ↦ absurd (let x : false ≡ true = sym (none p) ∙ w in cc)
  | inr s ↦ s
]
