-- The steps of the loops that read a body.
use Rattle.std.proofs.Common.{◌≡◌, ℕ, ◌+◌, ◌*◌, ◌<◌, Bool, true, false, IsTrue, if◌then◌else◌, List, [], ◌∷◌, ◌++◌, map, set, get_or, drop, length, replicate, sum, Result, Ok, Err, refl, sym, ap, ◌∙◌, subst, arith, append_assoc, length-append}
use Rattle.std.proofs.lemmas.List.{drop_more, set_at, length-replicate, drop-drop, length-map, map-append, replicate-append-replicate}
use Rattle.snapshot_file.specs.Reading.{number, numbers, read_as, read_then}
use Rattle.snapshot_file.specs.Fields.{FillsUpTo, numbers_in}
use Rattle.snapshot_file.proofs.Filling.{length_in, in_append, in_more, take_in, sum_eights, take_eights, fills_front, fills_behind}

-- one more of what was read
pub read_more : {X : Type 0} (front longer : List X) (x : X) (r : Result (List X) ℕ) → longer ≡ front ++ x ∷ [] → read_as (λ (ns : List X). front ++ ns) (read_as (λ (ns : List X). x ∷ ns) r) ≡ read_as (λ (ns : List X). longer ++ ns) r
read_more {X = X} front longer x (Ok ns) is = ap Ok (sym (append_assoc front (x ∷ []) ns) ∙ ap (λ (l : List X). l ++ ns) (sym is))
read_more front longer x (Err place) is = refl

-- what is read of the numbers behind the first i, once those are read
abbrev pub Reads : (ℕ → ℕ → Bool) → List ℕ → ℕ → List ℕ → ℕ → Type 0
Reads f starts at bytes i = numbers (map f starts) at bytes ≡ read_as (λ (ns : List ℕ). numbers_in i bytes ++ ns) (numbers (map f (drop i starts)) (at + 8 * i) (drop (8 * i) bytes))

as_it_is : (r : Result (List ℕ) ℕ) → r ≡ read_as (λ (ns : List ℕ). [] ++ ns) r
as_it_is (Ok ns) = refl
as_it_is (Err place) = refl

module _ (f : ℕ → ℕ → Bool) (starts : List ℕ) (at : ℕ) (bytes : List ℕ) (i : ℕ) (low : i < length starts) where
  next : numbers (map f (drop i starts)) (at + 8 * i) (drop (8 * i) bytes)
      ≡ (if f (get_or starts i 0) (number (drop (8 * i) bytes)) then read_as (λ (ns : List ℕ). number (drop (8 * i) bytes) ∷ ns) (numbers (map f (drop (i + 1) starts)) (at + 8 * i + 8) (drop 8 (drop (8 * i) bytes))) else Err (at + 8 * i))
  next = ap (λ (l : List ℕ). numbers (map f l) (at + 8 * i) (drop (8 * i) bytes)) (drop_more starts i 0 low)

  pub reads_more : IsTrue (f (get_or starts i 0) (number (drop (8 * i) bytes))) → Reads f starts at bytes i → Reads f starts at bytes (i + 1)
  reads_more pass reads =
      let B = drop (8 * i) bytes in
      let place : at + 8 * i + 8 ≡ at + 8 * (i + 1) = omega arith in
      let behind : drop 8 B ≡ drop (8 * (i + 1)) bytes = drop-drop 8 (8 * i) bytes ∙ ap (λ (k : ℕ). drop k bytes) (omega arith) in
      reads
      ∙ ap (read_as (λ (ns : List ℕ). numbers_in i bytes ++ ns))
      (next
      ∙ ap (λ (b : Bool). if b then read_as (λ (ns : List ℕ). number B ∷ ns) (numbers (map f (drop (i + 1) starts)) (at + 8 * i + 8) (drop 8 B)) else Err (at + 8 * i)) pass)
      ∙ read_more (numbers_in i bytes) (numbers_in (i + 1) bytes) (number B) (numbers (map f (drop (i + 1) starts)) (at + 8 * i + 8) (drop 8 B)) (in_more i bytes)
      ∙ ap (λ (a : ℕ). read_as (λ (ns : List ℕ). numbers_in (i + 1) bytes ++ ns) (numbers (map f (drop (i + 1) starts)) a (drop 8 B))) place
      ∙ ap (λ (l : List ℕ). read_as (λ (ns : List ℕ). numbers_in (i + 1) bytes ++ ns) (numbers (map f (drop (i + 1) starts)) (at + 8 * (i + 1)) l)) behind

-- ---- what the loop leaves in the place of the numbers

pub filled_more : (i : ℕ) (bytes old now : List ℕ) → i < length old → now ≡ numbers_in i bytes ++ drop i old → set now i (number (drop (8 * i) bytes)) ≡ numbers_in (i + 1) bytes ++ drop (i + 1) old
filled_more i bytes old now low is =
    let n = number (drop (8 * i) bytes) in
    let rest = drop_more old i 0 low in
    ap (λ (l : List ℕ). set l i n) (is ∙ ap (λ (l : List ℕ). numbers_in i bytes ++ l) rest)
    ∙ set_at (numbers_in i bytes) (get_or old i 0) (drop (i + 1) old) n i (length_in i bytes)
    ∙ sym (append_assoc (numbers_in i bytes) (n ∷ []) (drop (i + 1) old))
    ∙ ap (λ (l : List ℕ). l ++ drop (i + 1) old) (sym (in_more i bytes))

pub fills_at : (i n : ℕ) (bytes old now : List ℕ) (at place : ℕ) → i < n → now ≡ numbers_in i bytes ++ drop i old → place ≡ at + 8 * i → FillsUpTo (replicate n 8) (numbers_in n bytes) old now at place
fills_at i n bytes old now at place low is here = record {
  count = i;
  within = omega (arith, length-replicate {A = ℕ} n 8);
  reach = ap (λ (l : List ℕ). at + sum l) (take_eights i n (omega arith)) ∙ omega (arith, sum_eights i, here);
  filled = is ∙ ap (λ (l : List ℕ). l ++ drop i old) (sym (take_in i n bytes (omega arith)));
}

-- ---- what is read in two pieces

joined_as : (n : ℕ) (ns : List ℕ) (r : Result (List ℕ) ℕ) → read_as (λ (ms : List ℕ). n ∷ ns ++ ms) r ≡ read_as (λ (ms : List ℕ). n ∷ ms) (read_as (λ (ms : List ℕ). ns ++ ms) r)
joined_as n ns (Ok ms) = refl
joined_as n ns (Err place) = refl

behind_first : (n : ℕ) (F G : List ℕ → Result (List ℕ) ℕ) (r : Result (List ℕ) ℕ) → ((ns : List ℕ) → F (n ∷ ns) ≡ read_as (λ (ms : List ℕ). n ∷ ms) (G ns))
    → read_as (λ (ns : List ℕ). n ∷ ns) (read_then G r) ≡ read_then F (read_as (λ (ns : List ℕ). n ∷ ns) r)
behind_first n F G (Ok ns) same = sym (same ns)
behind_first n F G (Err place) same = refl

if_passes : (b : Bool) (at n : ℕ) (F G : List ℕ → Result (List ℕ) ℕ) (all front : Result (List ℕ) ℕ) → ((ns : List ℕ) → F (n ∷ ns) ≡ read_as (λ (ms : List ℕ). n ∷ ms) (G ns)) → all ≡ read_then G front
    → (if b then read_as (λ (ns : List ℕ). n ∷ ns) all else Err at) ≡ read_then F (if b then read_as (λ (ns : List ℕ). n ∷ ns) front else Err at)
if_passes true at n F G all front same is = ap (read_as (λ (ns : List ℕ). n ∷ ns)) is ∙ behind_first n F G front same
if_passes false at n F G all front same is = refl

pub numbers_append : (tests more : List (ℕ → Bool)) (at : ℕ) (bytes : List ℕ) → numbers (tests ++ more) at bytes
    ≡ read_then (λ (ns : List ℕ). read_as (λ (ms : List ℕ). ns ++ ms) (numbers more (at + 8 * length tests) (drop (8 * length tests) bytes))) (numbers tests at bytes)
numbers_append [] more at bytes = as_it_is (numbers more at bytes) ∙ ap (λ (a : ℕ). read_as (λ (ms : List ℕ). [] ++ ms) (numbers more a bytes)) (omega arith)
numbers_append (test ∷ tests) more at bytes =
    let n = number bytes in
    let there = 8 * length (test ∷ tests) in
    let place : at + 8 + 8 * length tests ≡ at + there = omega arith in
    let behind : drop (8 * length tests) (drop 8 bytes) ≡ drop there bytes = drop-drop (8 * length tests) 8 bytes ∙ ap (λ (k : ℕ). drop k bytes) (omega arith) in
    let same : numbers more (at + there) (drop there bytes) ≡ numbers more (at + 8 + 8 * length tests) (drop (8 * length tests) (drop 8 bytes)) =
    ap (λ (a : ℕ). numbers more a (drop there bytes)) (sym place) ∙ ap (numbers more (at + 8 + 8 * length tests)) (sym behind) in
    if_passes (test n) at n
    (λ (ns : List ℕ). read_as (λ (ms : List ℕ). ns ++ ms) (numbers more (at + there) (drop there bytes)))
    (λ (ns : List ℕ). read_as (λ (ms : List ℕ). ns ++ ms) (numbers more (at + 8 + 8 * length tests) (drop (8 * length tests) (drop 8 bytes))))
    (numbers (tests ++ more) (at + 8) (drop 8 bytes)) (numbers tests (at + 8) (drop 8 bytes))
    (λ (ns : List ℕ). joined_as n ns (numbers more (at + there) (drop there bytes)) ∙ ap (λ (r : Result (List ℕ) ℕ). read_as (λ (ms : List ℕ). n ∷ ms) (read_as (λ (ms : List ℕ). ns ++ ms) r)) same)
    (numbers_append tests more (at + 8) (drop 8 bytes))

-- the tests of the first piece end at that place, where the second one begins
pub record Ends (tests : List (ℕ → Bool)) (at place : ℕ) (bytes behind : List ℕ) : Type 0 where
  pub place_is : place ≡ at + 8 * length tests
  pub behind_is : behind ≡ drop (8 * length tests) bytes

module _ (tests more : List (ℕ → Bool)) (at place : ℕ) (bytes behind : List ℕ) (ends : Ends tests at place bytes behind) where
  pieces : numbers (tests ++ more) at bytes ≡ read_then (λ (ns : List ℕ). read_as (λ (ms : List ℕ). ns ++ ms) (numbers more place behind)) (numbers tests at bytes)
  pieces =
      numbers_append tests more at bytes
      ∙ ap (λ (a : ℕ). read_then (λ (ns : List ℕ). read_as (λ (ms : List ℕ). ns ++ ms) (numbers more a (drop (8 * length tests) bytes))) (numbers tests at bytes)) (sym ends.place_is)
      ∙ ap (λ (l : List ℕ). read_then (λ (ns : List ℕ). read_as (λ (ms : List ℕ). ns ++ ms) (numbers more place l)) (numbers tests at bytes)) (sym ends.behind_is)

  pub both_read : (ns ms : List ℕ) → numbers tests at bytes ≡ Ok ns → numbers more place behind ≡ Ok ms → numbers (tests ++ more) at bytes ≡ Ok (ns ++ ms)
  both_read ns ms first second =
      pieces ∙ ap (read_then (λ (ks : List ℕ). read_as (λ (ls : List ℕ). ks ++ ls) (numbers more place behind))) first ∙ ap (read_as (λ (ls : List ℕ). ns ++ ls)) second

  pub first_wrong : (wrong : ℕ) → numbers tests at bytes ≡ Err wrong → numbers (tests ++ more) at bytes ≡ Err wrong
  first_wrong wrong first = pieces ∙ ap (read_then (λ (ks : List ℕ). read_as (λ (ls : List ℕ). ks ++ ls) (numbers more place behind))) first

  pub second_wrong : (ns : List ℕ) (wrong : ℕ) → numbers tests at bytes ≡ Ok ns → numbers more place behind ≡ Err wrong → numbers (tests ++ more) at bytes ≡ Err wrong
  second_wrong ns wrong first second =
      pieces ∙ ap (read_then (λ (ks : List ℕ). read_as (λ (ls : List ℕ). ks ++ ls) (numbers more place behind))) first ∙ ap (read_as (λ (ls : List ℕ). ns ++ ls)) second

-- the same of values that have one test each beside their starts
module _ (f : ℕ → ℕ → Bool) (xs ys : List ℕ) (at place : ℕ) (bytes behind : List ℕ) (place_is : place ≡ at + 8 * length xs) (behind_is : behind ≡ drop (8 * length xs) bytes) where
  ends : Ends (map f xs) at place bytes behind
  ends = record {
    place_is = place_is ∙ ap (λ (k : ℕ). at + 8 * k) (sym (length-map xs f));
    behind_is = behind_is ∙ ap (λ (k : ℕ). drop (8 * k) bytes) (sym (length-map xs f));
  }

  pub values_read : (ns ms : List ℕ) → numbers (map f xs) at bytes ≡ Ok ns → numbers (map f ys) place behind ≡ Ok ms → numbers (map f (xs ++ ys)) at bytes ≡ Ok (ns ++ ms)
  values_read ns ms first second = ap (λ (l : List (ℕ → Bool)). numbers l at bytes) (map-append f xs ys) ∙ both_read (map f xs) (map f ys) at place bytes behind ends ns ms first second

  pub own_wrong : (wrong : ℕ) → numbers (map f xs) at bytes ≡ Err wrong → numbers (map f (xs ++ ys)) at bytes ≡ Err wrong
  own_wrong wrong first = ap (λ (l : List (ℕ → Bool)). numbers l at bytes) (map-append f xs ys) ∙ first_wrong (map f xs) (map f ys) at place bytes behind ends wrong first

  pub copies_wrong : (ns : List ℕ) (wrong : ℕ) → numbers (map f xs) at bytes ≡ Ok ns → numbers (map f ys) place behind ≡ Err wrong → numbers (map f (xs ++ ys)) at bytes ≡ Err wrong
  copies_wrong ns wrong first second = ap (λ (l : List (ℕ → Bool)). numbers l at bytes) (map-append f xs ys) ∙ second_wrong (map f xs) (map f ys) at place bytes behind ends ns wrong first second

-- ---- what two pieces of numbers leave

pub fills_first : (n m : ℕ) (bytes old kept new : List ℕ) (at place : ℕ) → length old ≡ n
    → FillsUpTo (replicate n 8) (numbers_in n bytes) old new at place → FillsUpTo (replicate (n + m) 8) (numbers_in (n + m) bytes) (old ++ kept) (new ++ kept) at place
fills_first n m bytes old kept new at place long fills =
    let w = replicate-append-replicate {A = ℕ} n m 8 in
    let s = in_append n m bytes in
    subst (λ (ws : List ℕ). FillsUpTo ws (numbers_in (n + m) bytes) (old ++ kept) (new ++ kept) at place) w
    (subst (λ (standing : List ℕ). FillsUpTo (replicate n 8 ++ replicate m 8) standing (old ++ kept) (new ++ kept) at place) (sym s)
    (fills_front (replicate n 8) (replicate m 8) (numbers_in n bytes) (numbers_in m (drop (8 * n) bytes)) old kept new at place
    (omega (arith, length_in n bytes, length-replicate {A = ℕ} n 8)) (omega (arith, long, length-replicate {A = ℕ} n 8)) fills))

pub fills_second : (n m : ℕ) (bytes behind old kept now new : List ℕ) (at next place : ℕ) → length old ≡ n → next ≡ at + 8 * n → behind ≡ drop (8 * n) bytes → now ≡ numbers_in n bytes
    → FillsUpTo (replicate m 8) (numbers_in m behind) kept new next place → FillsUpTo (replicate (n + m) 8) (numbers_in (n + m) bytes) (old ++ kept) (now ++ new) at place
fills_second n m bytes behind old kept now new at next place long from behind_is now_is fills =
    let w = replicate-append-replicate {A = ℕ} n m 8 in
    let s = in_append n m bytes in
    let there = subst (λ (b : List ℕ). FillsUpTo (replicate m 8) (numbers_in m b) kept new next place) behind_is fills in
    subst (λ (ns : List ℕ). FillsUpTo (replicate (n + m) 8) (numbers_in (n + m) bytes) (old ++ kept) (ns ++ new) at place) (sym now_is)
    (subst (λ (ws : List ℕ). FillsUpTo ws (numbers_in (n + m) bytes) (old ++ kept) (numbers_in n bytes ++ new) at place) w
    (subst (λ (standing : List ℕ). FillsUpTo (replicate n 8 ++ replicate m 8) standing (old ++ kept) (numbers_in n bytes ++ new) at place) (sym s)
    (fills_behind (replicate n 8) (replicate m 8) (numbers_in n bytes) (numbers_in m (drop (8 * n) bytes)) old kept new at next place
    (omega (arith, length_in n bytes, length-replicate {A = ℕ} n 8)) (omega (arith, long, length-replicate {A = ℕ} n 8)) (omega (arith, sum_eights n, from)) there)))

pub fills_own : (bytes into own copies new : List ℕ) (at place : ℕ) → into ≡ own ++ copies
    → FillsUpTo (replicate (length own) 8) (numbers_in (length own) bytes) own new at place → FillsUpTo (replicate (length into) 8) (numbers_in (length into) bytes) into (new ++ copies) at place
fills_own bytes into own copies new at place is fills =
    let here = fills_first (length own) (length copies) bytes own copies new at place refl fills in
    let long = subst (λ (n : ℕ). FillsUpTo (replicate n 8) (numbers_in n bytes) (own ++ copies) (new ++ copies) at place) (sym (length-append own copies)) here in
    subst (λ (l : List ℕ). FillsUpTo (replicate (length l) 8) (numbers_in (length l) bytes) l (new ++ copies) at place) (sym is) long

pub fills_copies : (bytes behind into own copies now new : List ℕ) (at next place : ℕ) → into ≡ own ++ copies → next ≡ at + 8 * length own → behind ≡ drop (8 * length own) bytes → now ≡ numbers_in (length own) bytes
    → FillsUpTo (replicate (length copies) 8) (numbers_in (length copies) behind) copies new next place → FillsUpTo (replicate (length into) 8) (numbers_in (length into) bytes) into (now ++ new) at place
fills_copies bytes behind into own copies now new at next place is from behind_is now_is fills =
    let here = fills_second (length own) (length copies) bytes behind own copies now new at next place refl from behind_is now_is fills in
    let long = subst (λ (n : ℕ). FillsUpTo (replicate n 8) (numbers_in n bytes) (own ++ copies) (now ++ new) at place) (sym (length-append own copies)) here in
    subst (λ (l : List ℕ). FillsUpTo (replicate (length l) 8) (numbers_in (length l) bytes) l (now ++ new) at place) (sym is) long

pub both_in : (bytes behind into own copies now new : List ℕ) → into ≡ own ++ copies → behind ≡ drop (8 * length own) bytes → now ≡ numbers_in (length own) bytes → new ≡ numbers_in (length copies) behind
    → now ++ new ≡ numbers_in (length into) bytes
both_in bytes behind into own copies now new is behind_is now_is new_is =
    ap (λ (l : List ℕ). l ++ new) now_is
    ∙ ap (λ (l : List ℕ). numbers_in (length own) bytes ++ l) (new_is ∙ ap (numbers_in (length copies)) behind_is)
    ∙ sym (in_append (length own) (length copies) bytes)
    ∙ ap (λ (n : ℕ). numbers_in n bytes) (sym (length-append own copies))
    ∙ ap (λ (l : List ℕ). numbers_in (length l) bytes) (sym is)
