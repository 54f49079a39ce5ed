-- Rows kept as items and offsets.
use Rattle.std.proofs.Common.{Bool, true, false, cond, inl, inr, ◌≡◌, ℕ, zero, suc, ◌+◌, ◌-◌, ◌<◌, ◌≤◌, List, [], ◌∷◌, ◌++◌, length, get_or, map, take, drop, refl, sym, ◌∙◌, ap, arith}
use Rattle.std.specs.Prelude.{sum_by}
use Rattle.std.specs.List.{range_with_len, slice_range}
use Rattle.std.proofs.lemmas.Bool.{cases_lt}
use Rattle.std.proofs.lemmas.List.{take-append-le, drop-append-le, length-take-le, length-drop, length-append, take_all, drop_all, get_or-append-add, get_or_append_left, get_or_read}
use Rattle.std.proofs.lemmas.List.FromFn.{get_or-map-range_with_len, length-map-range_with_len, map-range_with_len_more, fill_by_all}
use Rattle.std.proofs.lemmas.List.Sums.{sum_by-cons, sum_by-append}
use Rattle.graph_core.specs.RowTable.{AreOffsets, row_at, rows_at}

module _ {T : Type 0} where
  pub length-rows_at : (items : List T) (offsets : List ℕ) → length (rows_at items offsets) ≡ length offsets - 1
  length-rows_at items offsets = length-map-range_with_len (row_at items offsets) 0 (length offsets - 1)

  pub get_or-rows_at : (items : List T) (offsets : List ℕ) (i : ℕ) (d : List T) → i < length offsets - 1 → get_or (rows_at items offsets) i d ≡ row_at items offsets i
  get_or-rows_at items offsets i d h = get_or-map-range_with_len (row_at items offsets) 0 (length offsets - 1) i i d h (omega arith)

-- an offset is no larger than a later one, nor than the count of the items
pub offset-le : (offsets : List ℕ) (count i : ℕ) → AreOffsets offsets count → i < length offsets → get_or offsets i 0 ≤ count
offset-le offsets count i are h = omega (arith, are.rising i (length offsets - 1) 0 (omega arith) (omega arith), are.last)

pub offsets-rise : (offsets : List ℕ) (count i : ℕ) → AreOffsets offsets count → i + 1 < length offsets → get_or offsets i 0 ≤ get_or offsets (i + 1) 0
offsets-rise offsets count i are h = are.rising i (i + 1) 0 (omega arith) h

-- what an `if` gives where its test passes
pub taken : {X : Type 0} (b : Bool) (x y z : X) → b ≡ true → x ≡ cond b y z → x ≡ y
taken true x y z t e = e
taken false x y z t e = absurd (let f : false ≡ true = t in cc)

module _ {T : Type 0} where
  -- a row of items that have grown at their end is the same
  range-grown : (items more : List T) (from to : ℕ) → to ≤ length items → slice_range (items ++ more) from to ≡ slice_range items from to
  range-grown items more from to h = elim (cases_lt to from) [
    | inl high ↦ let e : to - from ≡ 0 = omega (arith, high) in rw e refl
    | inr low ↦
        let room : to - from ≤ length (drop from items) = omega (arith, length-drop from items, low, h) in
        let near : from ≤ length items = omega (arith, low, h) in
        rw (drop-append-le from items more near, take-append-le (to - from) (drop from items) more room) refl
  ]

  -- the items after the first ones
  range-rest : (items more : List T) (from to : ℕ) → from ≡ length items → to ≡ length items + length more → slice_range (items ++ more) from to ≡ more
  range-rest items more from to e f =
      let near : from ≤ length items = omega (arith, e) in
      let none : drop from items ≡ [] = drop_all from items (omega (arith, e)) in
      let all : take (to - from) more ≡ more = take_all (to - from) more (omega (arith, e, f)) in
      rw (drop-append-le from items more near, none) all

  row-same : (items row : List T) (offsets : List ℕ) (end k : ℕ) → AreOffsets offsets (length items) → k < length offsets - 1 → row_at (items ++ row) (offsets ++ end ∷ []) k ≡ row_at items offsets k
  row-same items row offsets end k are h =
      let from : get_or (offsets ++ end ∷ []) k 0 ≡ get_or offsets k 0 = get_or_append_left offsets (end ∷ []) 0 k (omega (arith, h)) in
      let to : get_or (offsets ++ end ∷ []) (k + 1) 0 ≡ get_or offsets (k + 1) 0 = get_or_append_left offsets (end ∷ []) 0 (k + 1) (omega (arith, h)) in
      ap (λ i. slice_range (items ++ row) i (get_or (offsets ++ end ∷ []) (k + 1) 0)) from ∙ ap (λ j. slice_range (items ++ row) (get_or offsets k 0) j) to
      ∙ range-grown items row (get_or offsets k 0) (get_or offsets (k + 1) 0) (offset-le offsets (length items) (k + 1) are (omega (arith, h)))

  row-new : (items row : List T) (offsets : List ℕ) (end : ℕ) → AreOffsets offsets (length items) → end ≡ length items + length row → row_at (items ++ row) (offsets ++ end ∷ []) (length offsets - 1) ≡ row
  row-new items row offsets end are e =
      let from : get_or (offsets ++ end ∷ []) (length offsets - 1) 0 ≡ length items = get_or_append_left offsets (end ∷ []) 0 (length offsets - 1) (omega (arith, are.some)) ∙ are.last in
      let n : length offsets - 1 + 1 ≡ length offsets + 0 = omega (arith, are.some) in
      let to : get_or (offsets ++ end ∷ []) (length offsets - 1 + 1) 0 ≡ length items + length row = ap (λ i. get_or (offsets ++ end ∷ []) i 0) n ∙ get_or-append-add offsets (end ∷ []) 0 0 ∙ e in
      range-rest items row (get_or (offsets ++ end ∷ []) (length offsets - 1) 0) (get_or (offsets ++ end ∷ []) (length offsets - 1 + 1) 0) from to

  -- one row more
  pub rows_at-push : (items row : List T) (offsets : List ℕ) (end : ℕ) → AreOffsets offsets (length items) → end ≡ length items + length row
      → rows_at (items ++ row) (offsets ++ end ∷ []) ≡ rows_at items offsets ++ row ∷ []
  rows_at-push items row offsets end are e =
      let n : length (offsets ++ end ∷ []) - 1 ≡ (length offsets - 1) + 1 = omega (arith, length-append offsets (end ∷ []), are.some) in
      let same : (k : ℕ) → k < length offsets - 1 → row_at (items ++ row) (offsets ++ end ∷ []) k ≡ row_at items offsets k =
      λ k h. row-same items row offsets end k are h in
      let old : map (row_at (items ++ row) (offsets ++ end ∷ [])) (range_with_len 0 (length offsets - 1)) ≡ rows_at items offsets =
      fill_by_all (row_at items offsets) (map (row_at (items ++ row) (offsets ++ end ∷ [])) (range_with_len 0 (length offsets - 1))) (length offsets - 1) []
      (length-map-range_with_len (row_at (items ++ row) (offsets ++ end ∷ [])) 0 (length offsets - 1))
      (λ k h. get_or-map-range_with_len (row_at (items ++ row) (offsets ++ end ∷ [])) 0 (length offsets - 1) k k [] h (omega arith) ∙ same k h) in
      ap (λ j. map (row_at (items ++ row) (offsets ++ end ∷ [])) (range_with_len 0 j)) n
      ∙ map-range_with_len_more (row_at (items ++ row) (offsets ++ end ∷ [])) 0 (length offsets - 1) (length offsets - 1) (omega arith)
      ∙ ap (λ rs. rs ++ row_at (items ++ row) (offsets ++ end ∷ []) (length offsets - 1) ∷ []) old
      ∙ ap (λ r. rows_at items offsets ++ r ∷ []) (row-new items row offsets end are e)

-- the rows have all items
module _ {T : Type 0} (items : List T) (offsets : List ℕ) (count : ℕ) (are : AreOffsets offsets count) (all : count ≡ length items) where
  length-row_at : (k : ℕ) → k + 1 < length offsets → get_or offsets k 0 + length (row_at items offsets k) ≡ get_or offsets (k + 1) 0
  length-row_at k h =
      let rise = offsets-rise offsets count k are h in
      let inside = offset-le offsets count (k + 1) are h in
      omega (arith, rise, inside, all, length-drop (get_or offsets k 0) items, length-take-le (get_or offsets (k + 1) 0 - get_or offsets k 0) (drop (get_or offsets k 0) items) (omega (arith, rise, inside, all, length-drop (get_or offsets k 0) items)))

  rows_total : (n : ℕ) → n < length offsets → sum_by (λ (row : List T). length row) (map (row_at items offsets) (range_with_len 0 n)) ≡ get_or offsets n 0
  rows_total zero h = sym are.first
  rows_total (suc n) h =
      let n1 : suc n ≡ n + 1 = omega arith in
      ap (λ m. sum_by (λ (row : List T). length row) (map (row_at items offsets) (range_with_len 0 m))) n1
      ∙ ap (sum_by (λ (row : List T). length row)) (map-range_with_len_more (row_at items offsets) 0 n n (omega arith))
      ∙ sum_by-append (λ (row : List T). length row) (map (row_at items offsets) (range_with_len 0 n)) (row_at items offsets n ∷ [])
      ∙ omega (arith, rows_total n (omega (arith, h)), length-row_at n (omega (arith, h)), sum_by-cons (λ (row : List T). length row) (row_at items offsets n) [])
      ∙ ap (λ m. get_or offsets m 0) (sym n1)

  pub total_is : (rows : List (List T)) (last : ℕ) → rows_at items offsets ≡ rows → last ≡ get_or offsets (length offsets - 1) 0 → last ≡ sum_by (λ (row : List T). length row) rows
  total_is rows last e f = f ∙ sym (rows_total (length offsets - 1) (omega (arith, are.some))) ∙ ap (sum_by (λ (row : List T). length row)) e

-- where a row stands among the items, and what it is
pub record StandsIn {T : Type 0} (items : List T) (rows : List (List T)) (start end index : ℕ) : Type 0 where
  pub in_order : start ≤ end
  pub within : end ≤ length items
  pub is : slice_range items start end ≡ get_or rows index []

pub row-stands : {T : Type 0} (items : List T) (offsets : List ℕ) (rows : List (List T)) (count start end index : ℕ) → AreOffsets offsets count → count ≡ length items → rows_at items offsets ≡ rows → index < length rows
    → start ≡ get_or offsets index start → end ≡ get_or offsets (index + 1) end → StandsIn items rows start end index
row-stands items offsets rows count start end index are k e h s t =
    let n = length-rows_at items offsets in
    let m = ap length e in
    let from : start ≡ get_or offsets index 0 = get_or_read offsets index start (omega (arith, n, m, h)) s 0 in
    let to : end ≡ get_or offsets (index + 1) 0 = get_or_read offsets (index + 1) end (omega (arith, n, m, h)) t 0 in
    record {
      in_order = omega (arith, from, to, offsets-rise offsets count index are (omega (arith, n, m, h)));
      within = omega (arith, k, to, offset-le offsets count (index + 1) are (omega (arith, n, m, h)));
      is = ap (λ i. slice_range items i end) from ∙ ap (λ j. slice_range items (get_or offsets index 0) j) to
          ∙ sym (get_or-rows_at items offsets index [] (omega (arith, n, m, h))) ∙ ap (λ rs. get_or rs index []) e;
    }
