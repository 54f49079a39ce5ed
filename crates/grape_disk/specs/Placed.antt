-- A list with other items at a place, and a gap before them filled: its length, and each item by where it stands.
use Rattle.std.proofs.Common.{◌≡◌, ℕ, ◌+◌, ◌-◌, ◌<◌, ◌≤◌, max, List, ◌++◌, length, take, drop, replicate, get_or, rules, arith}
use Rattle.std.proofs.lemmas.List.{places}

module _ {A : Type 0} (fill : A) where
  abbrev pub placed : ℕ → List A → List A → List A
  placed at xs file = take at file ++ replicate (at - length file) fill ++ xs ++ drop (at + length xs) file

  pub length-placed : (at : ℕ) (xs file : List A) → length (placed at xs file) ≡ max (length file) (at + length xs)
  length-placed at xs file = search (rules, places)

  -- an item of it, by where it stands
  pub below : (at : ℕ) (xs file : List A) (i : ℕ) (d : A) → i < length file → i < at → get_or (placed at xs file) i d ≡ get_or file i d
  below at xs file i d long low = grind (arith, places)

  pub gap : (at : ℕ) (xs file : List A) (i : ℕ) (d : A) → length file ≤ i → i < at → get_or (placed at xs file) i d ≡ fill
  gap at xs file i d past low = grind (arith, places)

  pub inside : (at : ℕ) (xs file : List A) (i : ℕ) (d : A) → at ≤ i → i < at + length xs → get_or (placed at xs file) i d ≡ get_or xs (i - at) d
  inside at xs file i d high low = grind (arith, places)

  pub above : (at : ℕ) (xs file : List A) (i : ℕ) (d : A) → at + length xs ≤ i → get_or (placed at xs file) i d ≡ get_or file i d
  above at xs file i d high = grind (arith, places)
