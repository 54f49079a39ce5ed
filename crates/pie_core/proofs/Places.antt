-- Who waits, and how many, where a place is added or taken.
use Rattle.std.proofs.Common.{◌≡◌, ◌≢◌, ℕ, ◌+◌, ◌<◌, ◌≤◌, inl, inr, Bool, true, false, cond, List, length, get_or, sym, ◌∙◌, ap, subst, arith, Some, None}
use Rattle.std.specs.List.{position, position_or_len}
use Rattle.std.proofs.Math.ListN.{set}
use Rattle.std.proofs.lemmas.Bool.{cases_eq, cases_lt, cases_Bool}
use Rattle.std.proofs.lemmas.Grind.{common_steps}
use Rattle.std.proofs.lemmas.List.{get_or-set_same, get_or-set_other, get_or_past, set_past}
use Rattle.std.proofs.lemmas.List.Quantifiers.{position-Some}
use Rattle.std.proofs.lemmas.List.Sums.{count_by-le-length, fails_before_first, sum_by-set}
use Rattle.pie_core.specs.PlaceSets.{waits, how_many}

-- a place that waits is one of those that there are
pub waits_inside : (waiting : List Bool) (p : ℕ) → waits waiting p ≡ true → p < length waiting
waits_inside waiting p h = elim (cases_lt p (length waiting)) [
  | inl l ↦ l
  | inr l ↦ absurd (let x : false ≡ true = sym (get_or_past waiting p false l) ∙ h in cc)
]

-- no more wait than there are
pub few_wait : (waiting : List Bool) → how_many waiting ≤ length waiting
few_wait waiting = count_by-le-length (λ b. b) waiting

-- ---- a place is added

pub waits_new : (waiting : List Bool) (p : ℕ) → p < length waiting → waits (set waiting p true) p ≡ true
waits_new waiting p l = get_or-set_same waiting p true false l

pub waits_on : (waiting : List Bool) (p q : ℕ) → waits waiting q ≡ true → waits (set waiting p true) q ≡ true
waits_on waiting p q h = elim (cases_eq q p) [
  | inl e ↦ subst (λ n. waits (set waiting p true) n ≡ true) (sym e) (waits_new waiting p (subst (λ n. n < length waiting) e (waits_inside waiting q h)))
  | inr d ↦ get_or-set_other waiting p q true false d ∙ h
]

-- one more waits where the place didn't wait
pub one_new : (waiting : List Bool) (p : ℕ) → p < length waiting → waits waiting p ≡ false → how_many (set waiting p true) ≡ how_many waiting + 1
one_new waiting p l h =
    let s = sum_by-set (λ b. cond b 1 0) waiting p true false l
    in let none : ◌≡◌ {A = ℕ} (cond (get_or waiting p false) 1 0) 0 = ap (λ b. cond b 1 0) h
    in omega (arith, s, none)

-- and as many where it did
pub none_more : (waiting : List Bool) (p : ℕ) → waits waiting p ≡ true → how_many (set waiting p true) ≡ how_many waiting
none_more waiting p h =
    let s = sum_by-set (λ b. cond b 1 0) waiting p true false (waits_inside waiting p h)
    in let one : ◌≡◌ {A = ℕ} (cond (get_or waiting p false) 1 0) 1 = ap (λ b. cond b 1 0) h
    in omega (arith, s, one)

pub one_more : (waiting : List Bool) (p : ℕ) → how_many (set waiting p true) ≤ how_many waiting + 1
one_more waiting p = elim (cases_lt p (length waiting)) [
  | inl l ↦ elim (cases_Bool (waits waiting p)) [
    | inl h ↦ omega (arith, none_more waiting p h)
    | inr h ↦ omega (arith, one_new waiting p l h)
  ]
  | inr l ↦ omega (arith, ap how_many (set_past waiting p true l))
]

-- ---- a place is taken

pub still_waits : (waiting : List Bool) (place q : ℕ) → q ≢ place → waits waiting q ≡ true → waits (set waiting place false) q ≡ true
still_waits waiting place q d h = get_or-set_other waiting place q false false d ∙ h

pub one_less : (waiting : List Bool) (p : ℕ) → waits waiting p ≡ true → how_many (set waiting p false) + 1 ≡ how_many waiting
one_less waiting p h =
    let s = sum_by-set (λ b. cond b 1 0) waiting p false false (waits_inside waiting p h)
    in let one : ◌≡◌ {A = ℕ} (cond (get_or waiting p false) 1 0) 1 = ap (λ b. cond b 1 0) h
    in omega (arith, s, one)

-- ---- the first place that waits

pub first_waits : (waiting : List Bool) (p : ℕ) → position (λ b. b) waiting ≡ Some p → waits waiting p ≡ true
first_waits waiting p e = (position-Some (λ b. b) waiting p false e).1

pub none_waits : (waiting : List Bool) → position (λ b. b) waiting ≡ None → (p : ℕ) → waits waiting p ≡ false
none_waits waiting e p =
    let n : length waiting ≤ position_or_len (λ b. b) waiting = grind (arith, common_steps)
    in elim (cases_lt p (length waiting)) [
      | inl l ↦ fails_before_first (λ b. b) waiting p false (omega (arith, l, n))
      | inr l ↦ get_or_past waiting p false l
    ]

pub not_none : (waiting : List Bool) (p : ℕ) → waits waiting p ≡ true → ((q : ℕ) → waits waiting q ≡ false) → true ≡ false
not_none waiting p h all = sym h ∙ all p
