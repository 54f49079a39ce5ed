-- How the parts of a list that are put one after another put the whole.
use Rattle.std.proofs.Common.{◌≡◌, ℕ, zero, suc, ◌+◌, ◌-◌, ◌*◌, ◌≤◌, ◌<◌, List, [], ◌∷◌, ◌++◌, take, drop, length, get_or, refl, sym, ap, ◌∙◌, subst, arith, append_assoc, length-append, length-take, length-drop}
use Rattle.std.specs.List.{flat_map}
use Rattle.std.proofs.lemmas.List.{take-append-drop, take_at, drop_at, drop-drop, drop_more, drop_all, append-nil}
use Rattle.byteorder.specs.Endian.{big_bytes}
use Rattle.byteorder.specs.Numbers.{length-bytes_high_first}
use Rattle.token_cut.specs.Parts.{PartValues}
use Rattle.token_cut.specs.Shapes.{PartStarts, HaveShape}
use Rattle.snapshot_file.specs.Bodies.{number_bytes, part_bytes}
use Rattle.snapshot_file.specs.Cuts.{Puts}
use Rattle.snapshot_file.specs.Lengths.{parts_length}
use Rattle.snapshot_file.proofs.ReadBack.{part_front}

drop_none : (n : ℕ) → drop {A = ℕ} n [] ≡ []
drop_none zero = refl
drop_none (suc n) = refl

drop_over : (xs ys : List ℕ) (n : ℕ) → drop n (xs ++ ys) ≡ drop n xs ++ drop (n - length xs) ys
drop_over [] ys n = let e : n ≡ n - 0 = omega arith in ap (λ (k : ℕ). drop k ys) e ∙ ap (λ (l : List ℕ). l ++ drop (n - 0) ys) (sym (drop_none n))
drop_over (x ∷ xs) ys zero = let e : 0 ≡ 0 - suc (length xs) = omega arith in ap (λ (k : ℕ). x ∷ xs ++ drop k ys) e
drop_over (x ∷ xs) ys (suc n) = let e : n - length xs ≡ suc n - suc (length xs) = omega arith in drop_over xs ys n ∙ ap (λ (k : ℕ). drop n xs ++ drop k ys) e

take_over : (xs ys : List ℕ) (n : ℕ) → take n (xs ++ ys) ≡ take n xs ++ take (n - length (take n xs)) ys
take_over [] ys zero = refl
take_over [] ys (suc n) = let e : suc n ≡ suc n - 0 = omega arith in ap (λ (k : ℕ). take k ys) e
take_over (x ∷ xs) ys zero = refl
take_over (x ∷ xs) ys (suc n) = let e : n - length (take n xs) ≡ suc n - suc (length (take n xs)) = omega arith in ap (λ (l : List ℕ). x ∷ l) (take_over xs ys n ∙ ap (λ (k : ℕ). take n xs ++ take k ys) e)

cut_over : (xs ys : List ℕ) (from n : ℕ) → take n (drop from (xs ++ ys)) ≡ take n (drop from xs) ++ take (n - length (take n (drop from xs))) (drop (from - length xs) ys)
cut_over xs ys from n = ap (take n) (drop_over xs ys from) ∙ take_over (drop from xs) (drop (from - length xs) ys) n

-- what is put so far of a list: the first bytes of the piece, and behind them all as it was
pub record Going (all rest : List ℕ) (from next : ℕ) (old now : List ℕ) (done : ℕ) : Type 0 where
  pub low : done ≤ length old
  pub long : length now ≡ length old
  pub kept : drop done now ≡ drop done old
  pub whole : take done now ++ take (length old - done) (drop next rest) ≡ take (length old) (drop from all)

pub none_put : (all : List ℕ) (from : ℕ) (old : List ℕ) → Going all all from from old old 0
none_put all from old = let e : length old - 0 ≡ length old = omega arith in record { low = omega arith; long = refl; kept = refl; whole = ap (λ (k : ℕ). take k (drop from all)) e }

module _ (all xs ys : List ℕ) (from next : ℕ) (old now mid : List ℕ) (done count : ℕ) (going : Going all (xs ++ ys) from next old now done) (puts : Puts xs next (drop done now) mid count) where
  room : length (drop done now) ≡ length old - done
  room = omega (arith, length-drop done now, going.long)

  here : List ℕ
  here = take (length old - done) (drop next xs)

  here_is : take (length (drop done now)) (drop next xs) ≡ take (length old - done) (drop next xs)
  here_is = ap (λ (k : ℕ). take k (drop next xs)) room

  count_is : count ≡ length (take (length old - done) (drop next xs))
  count_is = puts.many ∙ ap length here_is

  count_low : count ≤ length old - done
  count_low = omega (arith, count_is, length-take (length old - done) (drop next xs))

  mid_is : mid ≡ take (length old - done) (drop next xs) ++ drop count (drop done now)
  mid_is = puts.put ∙ ap (λ (l : List ℕ). l ++ drop count (drop done now)) here_is

  front_long : length (take done now) ≡ done
  front_long = omega (arith, length-take done now, going.low, going.long)

  taken : take (done + count) (take done now ++ mid) ≡ take done now ++ take (length old - done) (drop next xs)
  taken =
      ap (λ (l : List ℕ). take (done + count) (take done now ++ l)) mid_is
      ∙ ap (take (done + count)) (sym (append_assoc (take done now) (take (length old - done) (drop next xs)) (drop count (drop done now))))
      ∙ take_at (take done now ++ take (length old - done) (drop next xs)) (drop count (drop done now)) (done + count)
      (omega (arith, length-append (take done now) (take (length old - done) (drop next xs)), front_long, count_is))

  behind : drop (done + count) (take done now ++ mid) ≡ drop count (drop done now)
  behind =
      ap (λ (l : List ℕ). drop (done + count) (take done now ++ l)) mid_is
      ∙ ap (drop (done + count)) (sym (append_assoc (take done now) (take (length old - done) (drop next xs)) (drop count (drop done now))))
      ∙ drop_at (take done now ++ take (length old - done) (drop next xs)) (drop count (drop done now)) (done + count)
      (omega (arith, length-append (take done now) (take (length old - done) (drop next xs)), front_long, count_is))

  pub put_more : (after : ℕ) → after ≡ next - length xs → Going all ys from after old (take done now ++ mid) (done + count)
  put_more after after_is = record {
    low = omega (arith, going.low, count_low);
    long = omega (arith, length-append (take done now) mid, front_long, ap length mid_is, length-append (take (length old - done) (drop next xs)) (drop count (drop done now)), length-drop count (drop done now), count_is, room, count_low, going.low);
    kept = behind ∙ ap (drop count) going.kept ∙ drop-drop count done old;
    whole =
        let left : length old - (done + count) ≡ (length old - done) - length (take (length old - done) (drop next xs)) = omega (arith, count_is) in
        ap (λ (l : List ℕ). l ++ take (length old - (done + count)) (drop after ys)) taken
        ∙ append_assoc (take done now) (take (length old - done) (drop next xs)) (take (length old - (done + count)) (drop after ys))
        ∙ ap (λ (k : ℕ). take done now ++ (take (length old - done) (drop next xs) ++ take k (drop after ys))) left
        ∙ ap (λ (k : ℕ). take done now ++ (take (length old - done) (drop next xs) ++ take ((length old - done) - length (take (length old - done) (drop next xs))) (drop k ys))) after_is
        ∙ ap (λ (l : List ℕ). take done now ++ l) (sym (cut_over xs ys next (length old - done)))
        ∙ going.whole;
  }

-- the same where the piece was split at the first place that is left
pub put_next : (all left xs ys : List ℕ) (from next after : ℕ) (old now mid front back : List ℕ) (done count : ℕ) → Going all left from next old now done → left ≡ xs ++ ys → front ≡ take done now → back ≡ drop done now
    → Puts xs next back mid count → after ≡ next - length xs → Going all ys from after old (front ++ mid) (done + count)
put_next all left xs ys from next after old now mid front back done count going left_is front_is back_is puts after_is =
    let going_here = subst (λ (l : List ℕ). Going all l from next old now done) left_is going in
    let puts_here = subst (λ (l : List ℕ). Puts xs next l mid count) back_is puts in
    subst (λ (l : List ℕ). Going all ys from after old (l ++ mid) (done + count)) (sym front_is) (put_more all xs ys from next old now mid done count going_here puts_here after after_is)

-- nothing is left to be put, or no room for it
pub all_put : (all rest : List ℕ) (from next : ℕ) (old now : List ℕ) (done : ℕ) → Going all rest from next old now done → take (length old - done) (drop next rest) ≡ [] → Puts all from old now done
all_put all rest from next old now done going none =
    let is : take done now ≡ take (length old) (drop from all) = sym (append-nil (take done now)) ∙ ap (λ (l : List ℕ). take done now ++ l) (sym none) ∙ going.whole in
    record {
      many = omega (arith, length-take done now, going.low, going.long) ∙ ap length is;
      put = sym (take-append-drop done now) ∙ ap (λ (l : List ℕ). take done now ++ l) going.kept ∙ ap (λ (l : List ℕ). l ++ drop done old) is;
    }

take_none : (n : ℕ) → take {A = ℕ} n [] ≡ []
take_none zero = refl
take_none (suc n) = refl

pub none_left : (rest : List ℕ) (n next : ℕ) → rest ≡ [] → take n (drop next rest) ≡ []
none_left rest n next is = ap (λ (l : List ℕ). take n (drop next l)) is ∙ ap (take n) (drop_none next) ∙ take_none n

pub no_room : (rest : List ℕ) (n next : ℕ) → n ≡ 0 → take n (drop next rest) ≡ []
no_room rest n next is = ap (λ (k : ℕ). take k (drop next rest)) is

-- two lists, one after the other
pub both_put : (xs ys : List ℕ) (from next : ℕ) (old now mid : List ℕ) (first second : ℕ) → next ≡ from - length xs → Puts xs from old now first → Puts ys next (drop first now) mid second → Puts (xs ++ ys) from old (take first now ++ mid) (first + second)
both_put xs ys from next old now mid first second next_is a b =
    let none : 0 + first ≡ first = omega arith in
    let one = subst (λ (k : ℕ). Going (xs ++ ys) ys from next old now k) none (put_more (xs ++ ys) xs ys from from old old now 0 first (none_put (xs ++ ys) from old) a next next_is) in
    let again : Going (xs ++ ys) (ys ++ []) from next old now first = subst (λ (l : List ℕ). Going (xs ++ ys) l from next old now first) (sym (append-nil ys)) one in
    let two = put_more (xs ++ ys) ys [] from next old now mid first second again b (next - length ys) refl in
    all_put (xs ++ ys) [] from (next - length ys) old (take first now ++ mid) (first + second) two (none_left [] (length old - (first + second)) (next - length ys) refl)

pub both_next : (xs ys : List ℕ) (from next : ℕ) (old now mid front back : List ℕ) (first second : ℕ) → next ≡ from - length xs → Puts xs from old now first → front ≡ take first now → back ≡ drop first now → Puts ys next back mid second
    → Puts (xs ++ ys) from old (front ++ mid) (first + second)
both_next xs ys from next old now mid front back first second next_is a front_is back_is b =
    let here = subst (λ (l : List ℕ). Puts ys next l mid second) back_is b in
    subst (λ (l : List ℕ). Puts (xs ++ ys) from old (l ++ mid) (first + second)) (sym front_is) (both_put xs ys from next old now mid first second next_is a here)

-- the piece lies in the list
pub full : (bytes : List ℕ) (from : ℕ) (old new : List ℕ) (count : ℕ) → from + length old ≤ length bytes → Puts bytes from old new count → new ≡ take (length old) (drop from bytes)
full bytes from old new count within puts =
    let many : length old ≤ count = omega (arith, puts.many, length-take (length old) (drop from bytes), length-drop from bytes, within) in
    puts.put ∙ ap (λ (l : List ℕ). take (length old) (drop from bytes) ++ l) (drop_all count old many) ∙ append-nil (take (length old) (drop from bytes))

-- ---- numbers

pub drop_numbers : (ns : List ℕ) (i : ℕ) → drop (8 * i) (number_bytes ns) ≡ number_bytes (drop i ns)
drop_numbers ns zero = refl
drop_numbers [] (suc i) = drop_none (8 * suc i)
drop_numbers (n ∷ ns) (suc i) =
    let e : 8 * suc i ≡ 8 + 8 * i = omega arith in
    ap (λ (k : ℕ). drop k (big_bytes 8 n ++ number_bytes ns)) e
    ∙ sym (drop-drop (8 * i) 8 (big_bytes 8 n ++ number_bytes ns))
    ∙ ap (drop (8 * i)) (drop_at (big_bytes 8 n) (number_bytes ns) 8 (length-bytes_high_first 8 n))
    ∙ drop_numbers ns i

pub numbers_begin : (ns : List ℕ) (from first within : ℕ) (old : List ℕ) → 8 * first + within ≡ from → Going (number_bytes ns) (number_bytes (drop first ns)) from within old old 0
numbers_begin ns from first within old is =
    let e : length old - 0 ≡ length old = omega arith in
    record {
      low = omega arith;
      long = refl;
      kept = refl;
      whole =
          ap (λ (k : ℕ). take k (drop within (number_bytes (drop first ns)))) e
          ∙ ap (λ (l : List ℕ). take (length old) (drop within l)) (sym (drop_numbers ns first))
          ∙ ap (take (length old)) (drop-drop within (8 * first) (number_bytes ns) ∙ ap (λ (k : ℕ). drop k (number_bytes ns)) is);
    }

pub numbers_at : (ns : List ℕ) (i n : ℕ) → i < length ns → n ≡ get_or ns i 0 → number_bytes (drop i ns) ≡ big_bytes 8 n ++ number_bytes (drop (i + 1) ns)
numbers_at ns i n low is = ap number_bytes (drop_more ns i 0 low) ∙ ap (λ (m : ℕ). big_bytes 8 m ++ number_bytes (drop (i + 1) ns)) (sym is)

-- ---- parts

pub length_parts_of : (shape : List PartStarts) (parts : List PartValues) → HaveShape shape parts → length (flat_map part_bytes parts) ≡ parts_length shape
length_parts_of [] [] have = refl
length_parts_of [] (part ∷ parts) have = absurd have
length_parts_of (starts ∷ shape) [] have = absurd have
length_parts_of (starts ∷ shape) (part ∷ parts) have = omega (arith, length-append (part_bytes part) (flat_map part_bytes parts), part_front part, have.0, have.1, length_parts_of shape parts have.2)

pub parts_at : (parts : List PartValues) (i : ℕ) (part : PartValues) → i < length parts → part ≡ get_or parts i part → flat_map part_bytes (drop i parts) ≡ part_bytes part ++ flat_map part_bytes (drop (i + 1) parts)
parts_at parts i part low is = ap (flat_map part_bytes) (drop_more parts i part low ∙ ap (λ (p : PartValues). p ∷ drop (i + 1) parts) (sym is))
