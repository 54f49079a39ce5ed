-- Bits by counters, and counters after a value fell.
use Rattle.std.proofs.Common.{◌≡◌, ◌≢◌, ℕ, zero, suc, ◌+◌, ◌*◌, ◌%◌, ◌^◌, ◌<◌, ◌≤◌, ◌⊎◌, ◌↔◌, inl, inr, Bool, true, false, ◌==◌, refl, sym, ◌∙◌, ap, subst, arith, w64, List, [], length, slice_index, slice_index_or, Contains, IsTrue}
use Rattle.std.specs.Prelude.{slice_set}
use Rattle.std.specs.Int.{bit_at}
use Rattle.std.specs.Int.Bits.{bit_xor}
use Rattle.std.specs.Int.RustNames.{bit_or}
use Rattle.std.proofs.lemmas.Bool.{cases_eq, eqb-true}
use Rattle.std.proofs.lemmas.List.{get_or_default}
use Rattle.std.proofs.lemmas.Nat.Bits.{bit_at_xor, bit_at-lt, bit_at_set_same, bit_at_set_other}
use Rattle.value_order.specs.declared.order.Order.TheVariants.{Mask}
use Rattle.value_order.specs.Order.{Below}
use Rattle.graph_core.specs.declared.fragment.Reading.{Reading}
use Rattle.graph_core.specs.Parts.{FragmentLists, place_count}
use Rattle.graph_core.specs.Queries.{has_bit}
use Rattle.graph_core.specs.Theorems.{ReadersAreTurnedReadings}
use Rattle.graph_core.proofs.Lists.{any_gives}
use Rattle.pie_core.specs.PlaceSets.{waits}
use Rattle.pie_core.specs.Locals.{LocalValues}
use Rattle.pie_core.specs.LocalCalls.{with_value}
use Rattle.pie_sim.specs.SimJobs.{HasBit}
use Rattle.pie_sim.specs.Falling.{is_read, LieBelow}
use Rattle.pie_sim.specs.Counting.{times_read, times_placed, counter_at, AreCounts, AreOfNodes, ColumnsFell}
use Rattle.pie_sim.proofs.Bits.{at_bit, from_bit, zero-none, below-bit}
use Rattle.pie_sim.proofs.Counts.{some-count, count-some, placed-turned, times-fell, times-same}

-- ---- the bits of nodes whose counters aren't 0

abbrev pub AreBitsBefore : List ℕ → List ℕ → ℕ → ℕ → ℕ → Type 0
AreBitsBefore nodes counters place end bits = (m : ℕ) → HasBit bits m ↔ ((c : ℕ) × (c < end) × (slice_index nodes c ≡ m) × (counter_at (length nodes) counters place c ≢ 0))

pub bits-none : (nodes counters : List ℕ) (place : ℕ) → AreBitsBefore nodes counters place 0 0
bits-none nodes counters place m = (
  λ b. absurd (let x : false ≡ true = sym (zero-none m) ∙ b in cc),
  λ h. let l = h.1 in absurd (omega (arith, l)),
)

module _ (nodes counters : List ℕ) (place end bits : ℕ) (so_far : AreBitsBefore nodes counters place end bits) where
  pub bits-passed : counter_at (length nodes) counters place end ≡ 0 → AreBitsBefore nodes counters place (end + 1) bits
  bits-passed none m = (
    λ b. let h = (so_far m).0 b in let l = h.1 in (h.0, omega (arith, l), h.2, h.3),
    λ h. let l = h.1 in elim (cases_eq h.0 end) [
      | inl e ↦ absurd (h.3 (ap (λ c. counter_at (length nodes) counters place c) e ∙ none))
      | inr d ↦ (so_far m).1 (h.0, omega (arith, l, d), h.2, h.3)
    ],
  )

  pub bits-more : (node : ℕ) → node ≡ slice_index nodes end → node < 64 → counter_at (length nodes) counters place end ≢ 0 → AreBitsBefore nodes counters place (end + 1) (bit_or bits (1 * 2 ^ node % 2 ^ 64))
  bits-more node is small some m =
      let more = bit_or bits (1 * 2 ^ node % 2 ^ 64) in
      elim (cases_eq m node) [
        | inl e ↦ (
          λ b. (end, omega arith, sym is ∙ sym e, some),
          λ h. from_bit more m (ap (bit_at more) e ∙ bit_at_set_same w64 bits node small),
        )
        | inr d ↦ (
          λ b. let h = (so_far m).0 (from_bit bits m (sym (bit_at_set_other w64 bits node small m d) ∙ at_bit more m b)) in let l = h.1 in (h.0, omega (arith, l), h.2, h.3),
          λ h. let l = h.1 in elim (cases_eq h.0 end) [
            | inl e ↦ absurd (d (sym h.2 ∙ ap (slice_index nodes) e ∙ sym is))
            | inr other ↦ from_bit more m (bit_at_set_other w64 bits node small m d ∙ at_bit bits m ((so_far m).1 (h.0, omega (arith, l, other), h.2, h.3)))
          ],
        )
      ]

same_bool : (a b : Bool) → (a ≡ true → b ≡ true) → (b ≡ true → a ≡ true) → a ≡ b
same_bool true b h k = sym (h refl)
same_bool false true h k = k refl
same_bool false false h k = refl

column_of : (nodes : List ℕ) (m : ℕ) → Contains nodes m → (c : ℕ) × (c < length nodes) × (slice_index nodes c ≡ m)
column_of nodes m h = (h.0, h.1, sym (get_or_default nodes h.0 m 0 h.1) ∙ h.2)

module _ (nodes : List ℕ) (part : FragmentLists) (local : LocalValues) (counts : AreCounts nodes part local) (of_nodes : AreOfNodes nodes local.values) where
  pub bits-all : (place bits : ℕ) → place < length part.owned → AreBitsBefore nodes local.counters place (length nodes) bits → (m : ℕ) → has_bit bits m ≡ is_read (slice_index_or part.readings place []) local.values m
  bits-all place bits owned all m =
      let row = slice_index_or part.readings place [] in
      same_bool (has_bit bits m) (is_read row local.values m)
      (λ b.
      let h = (all m).0 b in
      let count = counts.each place h.0 owned h.1 in
      let some = h.3 in
      let times : 1 ≤ times_read row local.values (slice_index nodes h.0) = omega (arith, count, some) in
      subst (λ k. IsTrue (is_read row local.values k)) h.2 (count-some (λ (r : Reading). has_bit (slice_index local.values r.place) (slice_index nodes h.0)) row times))
      (λ t.
      let f = any_gives (λ (r : Reading). has_bit (slice_index local.values r.place) m) row t in
      let r : Reading = f.0 in
      let column = column_of nodes m (of_nodes r.place m f.2) in
      let again = subst (λ k. IsTrue (is_read row local.values k)) (sym column.2) t in
      let times = some-count (λ (r : Reading). has_bit (slice_index local.values r.place) (slice_index nodes column.0)) row again in
      let count = counts.each place column.0 owned column.1 in
      (all m).1 (column.0, column.1, column.2, λ none. absurd (omega (arith, none, times, count))))

pub of_nodes-below : (nodes xs ys : List ℕ) → LieBelow ys xs → AreOfNodes nodes xs → AreOfNodes nodes ys
of_nodes-below nodes xs ys low h q m b = h q m (below-bit (slice_index ys q) (slice_index xs q) m (low q) b)

-- ---- the bits that fell

module _ (before value m : ℕ) (below : Below Mask value before) where
  one_below : bit_at value m ≡ 1 → bit_at before m ≡ 1
  one_below e = at_bit before m (below-bit value before m below (from_bit value m e))

  lost_bit : (a b : ℕ) → a < 2 → b < 2 → (b ≡ 1 → a ≡ 1) → ((a + b) % 2 == 1) ≡ true → ((a == 1) ≡ true) × ((b == 1) ≡ false)
  lost_bit zero zero h l k e = absurd (let x : false ≡ true = e in cc)
  lost_bit zero (suc zero) h l k e = let x = k refl in absurd (omega (arith, x))
  lost_bit (suc zero) zero h l k e = (refl, refl)
  lost_bit (suc zero) (suc zero) h l k e = absurd (let x : false ≡ true = e in cc)
  lost_bit (suc (suc a)) b h l k e = absurd (omega (arith, h))
  lost_bit a (suc (suc b)) h l k e = absurd (omega (arith, l))

  kept_bit : (a b : ℕ) → a < 2 → b < 2 → (b ≡ 1 → a ≡ 1) → ((a + b) % 2 == 1) ≡ false → (b == 1) ≡ (a == 1)
  kept_bit zero zero h l k e = refl
  kept_bit zero (suc zero) h l k e = let x = k refl in absurd (omega (arith, x))
  kept_bit (suc zero) zero h l k e = absurd (let x : true ≡ false = e in cc)
  kept_bit (suc zero) (suc zero) h l k e = refl
  kept_bit (suc (suc a)) b h l k e = absurd (omega (arith, h))
  kept_bit a (suc (suc b)) h l k e = absurd (omega (arith, l))

  fallen_is : has_bit (bit_xor before value) m ≡ ((bit_at before m + bit_at value m) % 2 == 1)
  fallen_is = ap (λ n. n == 1) (bit_at_xor before value m)

  pub lost : has_bit (bit_xor before value) m ≡ true → (has_bit before m ≡ true) × (has_bit value m ≡ false)
  lost t = lost_bit (bit_at before m) (bit_at value m) (bit_at-lt before m) (bit_at-lt value m) one_below (sym fallen_is ∙ t)

  pub stays : has_bit (bit_xor before value) m ≡ false → has_bit value m ≡ has_bit before m
  stays t = kept_bit (bit_at before m) (bit_at value m) (bit_at-lt before m) (bit_at-lt value m) one_below (sym fallen_is ∙ t)

-- ---- counters after a value fell

module _ (nodes : List ℕ) (part : FragmentLists) (old : LocalValues) (place value : ℕ) (counts : AreCounts nodes part old) (turned : ReadersAreTurnedReadings part)
    (inside : place < length old.values) (placed : place < place_count part) (below : Below Mask value (slice_index old.values place)) where
  abbrev fallen : ℕ
  fallen = bit_xor (slice_index old.values place) value

  abbrev readers_row : List Reading
  readers_row = slice_index_or part.readers place []

  abbrev row_of : ℕ → List Reading
  row_of p = slice_index_or part.readings p []

  abbrev after : List ℕ
  after = slice_set old.values place value

  fell_by : (p m : ℕ) → p < length part.owned → has_bit fallen m ≡ true → times_read (row_of p) after m + times_placed readers_row p ≡ times_read (row_of p) old.values m
  fell_by p m owned t =
      let l = lost (slice_index old.values place) value m below t in
      let fell = times-fell old.values place value m inside l.0 l.1 (row_of p) in
      omega (arith, fell, placed-turned part turned p place owned placed)

  pub still-counted : (p c : ℕ) → p < length part.owned → c < length nodes → has_bit fallen (slice_index nodes c) ≡ true → times_placed readers_row p ≤ counter_at (length nodes) old.counters p c
  still-counted p c owned l t = omega (arith, fell_by p (slice_index nodes c) owned t, counts.each p c owned l)

  module _ (new : LocalValues) (fell : ColumnsFell nodes readers_row fallen (length nodes) (with_value old place value) new) where
    values : new.values ≡ after
    values = ap (λ (l : LocalValues). l.values) fell.only.rest

    counted : (p c : ℕ) → p < length part.owned → c < length nodes → (b : Bool) → has_bit fallen (slice_index nodes c) ≡ b → counter_at (length nodes) new.counters p c ≡ times_read (row_of p) after (slice_index nodes c)
    counted p c owned l true t =
        let m = slice_index nodes c in
        let counter = fell.fell p c l t in
        omega (arith, counter, fell_by p m owned t, counts.each p c owned l)
    counted p c owned l false t =
        let m = slice_index nodes c in
        fell.others p c l (inr t) ∙ counts.each p c owned l ∙ sym (times-same old.values place value m inside (stays (slice_index old.values place) value m below t) (row_of p))

    pub counts-after : AreCounts nodes part new
    counts-after = record {
      room = fell.only.room ∙ counts.room;
      each = λ p c owned l. counted p c owned l (has_bit fallen (slice_index nodes c)) refl ∙ sym (ap (λ xs. times_read (row_of p) xs (slice_index nodes c)) values);
    }

    -- who read a bit before still reads it, or waits
    abbrev ReadsOn : ℕ → ℕ → Type 0
    ReadsOn q m = (waits new.waiting q ≡ true) ⊎ IsTrue (is_read (row_of q) new.values m)

    stands_in : (row : List Reading) (q : ℕ) → 1 ≤ times_placed row q → (r : Reading) × Contains row r × (r.place ≡ q)
    stands_in row q h =
        let f = any_gives (λ (r : Reading). r.place == q) row (count-some (λ (r : Reading). r.place == q) row h) in
        let r : Reading = f.0 in
        (r, f.1, eqb-true r.place q f.2)

    reads_on : (q c : ℕ) → q < length part.owned → c < length nodes → IsTrue (is_read (row_of q) old.values (slice_index nodes c)) → (b : Bool) → has_bit fallen (slice_index nodes c) ≡ b → ReadsOn q (slice_index nodes c)
    reads_on q c owned l t true e =
        let m = slice_index nodes c in
        let count = counted q c owned l true e in
        elim (cases_eq (counter_at (length nodes) new.counters q c) 0) [
          | inl none ↦
              let before = some-count (λ (r : Reading). has_bit (slice_index old.values r.place) m) (row_of q) t in
              let there = stands_in readers_row q (omega (arith, before, none, count, fell_by q m owned e)) in
              let r : Reading = there.0 in
              inl (subst (λ p. waits new.waiting p ≡ true) there.2 (fell.zero r c there.1 l e (ap (λ p. counter_at (length nodes) new.counters p c) there.2 ∙ none)))
          | inr some ↦
              let times : 1 ≤ times_read (row_of q) after m = omega (arith, some, count) in
              inr (subst (λ xs. IsTrue (is_read (row_of q) xs m)) (sym values) (count-some (λ (r : Reading). has_bit (slice_index after r.place) m) (row_of q) times))
        ]
    reads_on q c owned l t false e =
        let m = slice_index nodes c in
        let before = some-count (λ (r : Reading). has_bit (slice_index old.values r.place) m) (row_of q) t in
        let same = times-same old.values place value m inside (stays (slice_index old.values place) value m below e) (row_of q) in
        let times : 1 ≤ times_read (row_of q) after m = omega (arith, before, same) in
        inr (subst (λ xs. IsTrue (is_read (row_of q) xs m)) (sym values) (count-some (λ (r : Reading). has_bit (slice_index after r.place) m) (row_of q) times))

    pub readers-after : AreOfNodes nodes old.values → (q m : ℕ) → q < length part.owned → IsTrue (is_read (row_of q) old.values m) → ReadsOn q m
    readers-after of_nodes q m owned t =
        let f = any_gives (λ (r : Reading). has_bit (slice_index old.values r.place) m) (row_of q) t in
        let r : Reading = f.0 in
        let column = column_of nodes m (of_nodes r.place m f.2) in
        let c = column.0 in
        subst (λ k. ReadsOn q k) column.2 (reads_on q c owned column.1 (subst (λ k. IsTrue (is_read (row_of q) old.values k)) (sym column.2) t) (has_bit fallen (slice_index nodes c)) refl)
