-- How the lines of a text come from a front of it and the rest.
use Rattle.std.proofs.Common.{◌≡◌, ℕ, ◌+◌, ◌≤◌, Bool, true, false, cond, ◌||◌, ◌==◌, List, [], ◌∷◌, ◌++◌, length, refl, ap, arith, zero-le, nat_lt}
use Rattle.std.proofs.lemmas.Bool.Decides.{nat_tests}
use Rattle.std.specs.Prelude.{flat_map}
use Rattle.std.specs.List.{onto_first, AllByRecursion}
use Rattle.text_lines.specs.Lines.{lines_of, onto_whole, onto_last, whole_lines, last_line, HasNoLineFeed, without_last, is_ended, is_too_long, MAX_LINE, MAX_INPUT}

lines_step : (c : Bool) (b : ℕ) (whole : List (List ℕ)) (last rest : List ℕ) (all : List (List ℕ)) → (b == 10) ≡ c → all ≡ whole ++ lines_of (last ++ rest)
    → cond c ((b ∷ []) ∷ all) (onto_first b all) ≡ cond c ((b ∷ []) ∷ whole) (onto_whole b whole) ++ lines_of (cond c last (onto_last b whole last) ++ rest)
lines_step true b whole last rest all e h = ap (λ ls. (b ∷ []) ∷ ls) h
lines_step false b [] last rest all e h = rw e (ap (onto_first b) h)
lines_step false b (line ∷ whole) last rest all e h = ap (onto_first b) h

-- the lines of a text are the whole ones of its front, and those of what is left
pub lines-front : (front rest : List ℕ) → lines_of (front ++ rest) ≡ whole_lines front ++ lines_of (last_line front ++ rest)
lines-front [] rest = refl
lines-front (b ∷ front) rest = lines_step (b == 10) b (whole_lines front) (last_line front) rest (lines_of (front ++ rest)) refl (lines-front front rest)

abbrev pub AreEnded : List (List ℕ) → Type 0
AreEnded lines = AllByRecursion (λ line. is_ended line ≡ true) lines

is_ended-onto : (b : ℕ) (line : List ℕ) → is_ended line ≡ true → is_ended (b ∷ line) ≡ true
is_ended-onto b [] h = cc
is_ended-onto b (c ∷ line) h = h

ended_step : (c : Bool) (b : ℕ) (whole : List (List ℕ)) → (b == 10) ≡ c → AreEnded whole → AreEnded (cond c ((b ∷ []) ∷ whole) (onto_whole b whole))
ended_step true b whole e h = (e, h)
ended_step false b [] e h = tt
ended_step false b (line ∷ whole) e h = (is_ended-onto b line h.0, h.1)

pub whole_are_ended : (front : List ℕ) → AreEnded (whole_lines front)
whole_are_ended [] = tt
whole_are_ended (b ∷ front) = ended_step (b == 10) b (whole_lines front) refl (whole_are_ended front)

last_step : (c : Bool) (b : ℕ) (whole : List (List ℕ)) (last : List ℕ) → (b == 10) ≡ c → HasNoLineFeed last → HasNoLineFeed (cond c last (onto_last b whole last))
last_step true b whole last e h = h
last_step false b [] last e h = (e, h)
last_step false b (line ∷ whole) last e h = h

pub last_has_no_line_feed : (front : List ℕ) → HasNoLineFeed (last_line front)
last_has_no_line_feed [] = tt
last_has_no_line_feed (b ∷ front) = last_step (b == 10) b (whole_lines front) (last_line front) refl (last_has_no_line_feed front)

pub not_ended : (line : List ℕ) → HasNoLineFeed line → is_ended line ≡ false
not_ended [] h = refl
not_ended (b ∷ []) h = h.0
not_ended (b ∷ c ∷ line) h = not_ended (c ∷ line) h.1

-- what has come of a line is the front of a line, however it goes on
pub record GoesOn (line rest : List ℕ) : Type 0 where
  pub start : List ℕ
  pub more : List (List ℕ)
  pub is : lines_of (line ++ rest) ≡ (line ++ start) ∷ more

goes_on_one : (b : ℕ) (rest : List ℕ) (lines : List (List ℕ)) → (b == 10) ≡ false → lines_of rest ≡ lines → GoesOn (b ∷ []) rest
goes_on_one b rest [] e h = record { start = []; more = []; is = rw (e, h) refl }
goes_on_one b rest (line ∷ lines) e h = record { start = line; more = lines; is = rw (e, h) refl }

pub goes_on : (b : ℕ) (line rest : List ℕ) → HasNoLineFeed (b ∷ line) → GoesOn (b ∷ line) rest
goes_on b [] rest h = goes_on_one b rest (lines_of rest) h.0 refl
goes_on b (c ∷ line) rest h =
    let g : GoesOn (c ∷ line) rest = goes_on c line rest h.1
    in record { start = g.start; more = g.more; is = rw h.0 (ap (onto_first b) g.is) }

without-le : (line start : List ℕ) → HasNoLineFeed line → length line ≤ length (without_last 10 (line ++ start))
without-le [] start h = zero-le
without-le (b ∷ []) [] h = rw h.0 (omega arith)
without-le (b ∷ []) (s ∷ start) h = omega arith
without-le (b ∷ c ∷ line) start h = omega (arith, without-le (c ∷ line) start h.1)

pub without-same : (line : List ℕ) → HasNoLineFeed line → without_last 10 line ≡ line
without-same [] h = refl
without-same (b ∷ []) h = rw h.0 refl
without-same (b ∷ c ∷ line) h = ap (λ l. b ∷ l) (without-same (c ∷ line) h.1)

or_mono : (m n a b c d : ℕ) → a ≤ b → c ≤ d → (nat_lt m a || nat_lt n c) ≡ true → (nat_lt m b || nat_lt n d) ≡ true
or_mono m n a b c d h k e = grind (arith, nat_tests, h, k, e)

pub length_sum : {A : Type 0} (xs ys : List A) → length xs ≤ length (xs ++ ys)
length_sum [] ys = zero-le
length_sum (x ∷ xs) ys = omega (arith, length_sum xs ys)

-- a line that is too long already stays so
pub too_long_stays : (before : List (List ℕ)) (line start : List ℕ) → HasNoLineFeed line → is_too_long before line ≡ true → is_too_long before (line ++ start) ≡ true
too_long_stays before line start h e =
    let same : length (without_last 10 line) ≡ length line = ap length (without-same line h)
    in let longer : length (without_last 10 line) ≤ length (without_last 10 (line ++ start)) = omega (arith, same, without-le line start h)
    in let all : length (flat_map (λ l. l) before) + length line ≤ length (flat_map (λ l. l) before) + length (line ++ start) = omega (arith, length_sum line start)
    in or_mono MAX_LINE MAX_INPUT (length (without_last 10 line)) (length (without_last 10 (line ++ start))) (length (flat_map (λ l. l) before) + length line) (length (flat_map (λ l. l) before) + length (line ++ start)) longer all e

pub lines_one : (b : ℕ) (line : List ℕ) → HasNoLineFeed (b ∷ line) → lines_of (b ∷ line) ≡ (b ∷ line) ∷ []
lines_one b [] h = rw h.0 refl
lines_one b (c ∷ line) h = rw h.0 (ap (onto_first b) (lines_one c line h.1))
