-- How fields that are read one after another fill a snapshot up to the first wrong one.
use Rattle.std.proofs.Common.{◌≡◌, ℕ, zero, suc, ◌+◌, ◌-◌, ◌*◌, ◌≤◌, List, [], ◌∷◌, ◌++◌, take, drop, length, replicate, sum, refl, sym, ap, ◌∙◌, arith, append_assoc, length-append}
use Rattle.std.proofs.lemmas.List.{take-append-le, drop-append-le, take_at, drop-drop}
use Rattle.std.proofs.lemmas.List.Sums.{sum_by-append}
use Rattle.snapshot_file.specs.Reading.{number}
use Rattle.snapshot_file.specs.Fields.{FillsUpTo, numbers_in}

pub take_behind : {X : Type 0} (xs ys : List X) (n : ℕ) → take (length xs + n) (xs ++ ys) ≡ xs ++ take n ys
take_behind [] ys n = ap (λ (k : ℕ). take k ys) (omega arith)
take_behind {X = X} (x ∷ xs) ys n =
    let e : length (x ∷ xs) + n ≡ suc (length xs + n) = omega arith in
    ap (λ (k : ℕ). take k (x ∷ xs ++ ys)) e ∙ ap (λ (l : List X). x ∷ l) (take_behind xs ys n)

pub drop_behind : {X : Type 0} (xs ys : List X) (n : ℕ) → drop (length xs + n) (xs ++ ys) ≡ drop n ys
drop_behind [] ys n = ap (λ (k : ℕ). drop k ys) (omega arith)
drop_behind (x ∷ xs) ys n =
    let e : length (x ∷ xs) + n ≡ suc (length xs + n) = omega arith in
    ap (λ (k : ℕ). drop k (x ∷ xs ++ ys)) e ∙ drop_behind xs ys n

-- the wrong field is among the first ones
pub fills_front : (ws more standing behind old kept new : List ℕ) (base place : ℕ) → length standing ≡ length ws → length old ≡ length ws
    → FillsUpTo ws standing old new base place → FillsUpTo (ws ++ more) (standing ++ behind) (old ++ kept) (new ++ kept) base place
fills_front ws more standing behind old kept new base place standing_long old_long fills =
    let few : fills.count ≤ length ws = omega (arith, fills.within) in
    let w = take-append-le fills.count ws more few in
    let s = take-append-le fills.count standing behind (omega (arith, few, standing_long)) in
    let o = drop-append-le fills.count old kept (omega (arith, few, old_long)) in
    let joined = append_assoc (take fills.count standing) (drop fills.count old) kept in
    record {
      count = fills.count;
      within = omega (arith, fills.within, length-append ws more);
      reach = ap (λ (l : List ℕ). base + sum l) w ∙ fills.reach;
      filled = ap (λ (l : List ℕ). l ++ kept) fills.filled ∙ joined ∙ ap (λ (l : List ℕ). take fills.count standing ++ l) (sym o) ∙ ap (λ (l : List ℕ). l ++ drop fills.count (old ++ kept)) (sym s);
    }

-- the first ones are read, and the wrong field is behind them
pub fills_behind : (ws more standing behind old kept new : List ℕ) (base next place : ℕ) → length standing ≡ length ws → length old ≡ length ws → base + sum ws ≡ next
    → FillsUpTo more behind kept new next place → FillsUpTo (ws ++ more) (standing ++ behind) (old ++ kept) (standing ++ new) base place
fills_behind ws more standing behind old kept new base next place standing_long old_long from fills =
    let w = take_behind ws more fills.count in
    let s : take (length ws + fills.count) (standing ++ behind) ≡ standing ++ take fills.count behind = ap (λ (n : ℕ). take (n + fills.count) (standing ++ behind)) (sym standing_long) ∙ take_behind standing behind fills.count in
    let o : drop (length ws + fills.count) (old ++ kept) ≡ drop fills.count kept = ap (λ (n : ℕ). drop (n + fills.count) (old ++ kept)) (sym old_long) ∙ drop_behind old kept fills.count in
    let joined = append_assoc standing (take fills.count behind) (drop fills.count kept) in
    let total = sum_by-append (λ (n : ℕ). n) ws (take fills.count more) in
    record {
      count = length ws + fills.count;
      within = omega (arith, fills.within, length-append ws more);
      reach = ap (λ (l : List ℕ). base + sum l) w ∙ omega (arith, total, from, fills.reach);
      filled = ap (λ (l : List ℕ). standing ++ l) fills.filled ∙ sym joined ∙ ap (λ (l : List ℕ). (standing ++ take fills.count behind) ++ l) (sym o) ∙ ap (λ (l : List ℕ). l ++ drop (length ws + fills.count) (old ++ kept)) (sym s);
    }

-- ---- the numbers that stand in bytes

pub length_in : (n : ℕ) (bytes : List ℕ) → length (numbers_in n bytes) ≡ n
length_in zero bytes = refl
length_in (suc n) bytes = let e = length_in n (drop 8 bytes) in omega (arith, e)

pub in_append : (n m : ℕ) (bytes : List ℕ) → numbers_in (n + m) bytes ≡ numbers_in n bytes ++ numbers_in m (drop (8 * n) bytes)
in_append zero m bytes = ap (λ (k : ℕ). numbers_in k bytes) (omega arith)
in_append (suc n) m bytes =
    let e : suc n + m ≡ suc (n + m) = omega arith in
    let places : 8 + 8 * n ≡ 8 * suc n = omega arith in
    ap (λ (k : ℕ). numbers_in k bytes) e
    ∙ ap (λ (l : List ℕ). number bytes ∷ l) (in_append n m (drop 8 bytes))
    ∙ ap (λ (l : List ℕ). number bytes ∷ numbers_in n (drop 8 bytes) ++ numbers_in m l) (drop-drop (8 * n) 8 bytes ∙ ap (λ (k : ℕ). drop k bytes) places)

pub in_more : (n : ℕ) (bytes : List ℕ) → numbers_in (n + 1) bytes ≡ numbers_in n bytes ++ number (drop (8 * n) bytes) ∷ []
in_more n bytes = in_append n 1 bytes

pub take_in : (n m : ℕ) (bytes : List ℕ) → n ≤ m → take n (numbers_in m bytes) ≡ numbers_in n bytes
take_in n m bytes low =
    let e : m ≡ n + (m - n) = omega arith in
    ap (λ (k : ℕ). take n (numbers_in k bytes)) e
    ∙ ap (take n) (in_append n (m - n) bytes)
    ∙ take_at (numbers_in n bytes) (numbers_in (m - n) (drop (8 * n) bytes)) n (length_in n bytes)

pub sum_eights : (n : ℕ) → sum (replicate n 8) ≡ 8 * n
sum_eights zero = refl
sum_eights (suc n) = let e = sum_eights n in let s = sum_by-append (λ (k : ℕ). k) (8 ∷ []) (replicate n 8) in omega (arith, e, s)

pub take_eights : (n m : ℕ) → n ≤ m → take {A = ℕ} n (replicate m 8) ≡ replicate n 8
take_eights zero m low = refl
take_eights (suc n) zero low = absurd (omega arith)
take_eights (suc n) (suc m) low = ap (λ (l : List ℕ). 8 ∷ l) (take_eights n m (omega arith))
