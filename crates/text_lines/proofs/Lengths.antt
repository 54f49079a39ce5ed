-- How long lines and texts are.
use Rattle.std.proofs.Common.{◌≡◌, ℕ, zero, suc, ◌+◌, ◌-◌, ◌<◌, ◌≤◌, Bool, true, false, cond, ◌||◌, ◌==◌, List, [], ◌∷◌, ◌++◌, length, refl, sym, ◌∙◌, ap, subst, arith, nat_lt, get_or, take, length-append}
use Rattle.std.specs.Prelude.{flat_map}
use Rattle.std.proofs.lemmas.Bool.Decides.{nat_tests}
use Rattle.text_lines.specs.Lines.{onto_whole, onto_last, whole_lines, last_line, IsOneLine, without_last, before_line_feed, is_too_long, MAX_INPUT}

abbrev last_or : List ℕ → ℕ
last_or [] = 0
last_or (b ∷ []) = b
last_or (b ∷ c ∷ line) = last_or (c ∷ line)

get-last : (line : List ℕ) → get_or line (length line - 1) 0 ≡ last_or line
get-last [] = refl
get-last (b ∷ []) = refl
get-last (b ∷ c ∷ line) =
    let here : suc (suc (length line)) - 1 ≡ suc (length line) = omega arith
    in let next : suc (length line) - 1 ≡ length line = omega arith
    in ap (λ i. get_or (b ∷ c ∷ line) i 0) here ∙ ap (λ i. get_or (c ∷ line) i 0) (sym next) ∙ get-last (c ∷ line)

before_ended : (line : List ℕ) → 0 < length line → last_or line ≡ 10 → length (without_last 10 line) ≡ length line - 1
before_ended [] n e = absurd (omega (arith, n))
before_ended (b ∷ []) n e = rw e refl
before_ended (b ∷ c ∷ line) n e = let rest : length (without_last 10 (c ∷ line)) ≡ length (c ∷ line) - 1 = before_ended (c ∷ line) (omega arith) e in omega (arith, rest)

before_open : (line : List ℕ) → (last_or line == 10) ≡ false → length (without_last 10 line) ≡ length line
before_open [] e = refl
before_open (b ∷ []) e = rw e refl
before_open (b ∷ c ∷ line) e = ap suc (before_open (c ∷ line) e)

pub length_before_feed : (line : List ℕ) → 0 < length line → get_or line (length line - 1) 0 ≡ 10 → length line - 1 ≡ length (before_line_feed line)
length_before_feed line n e = sym (before_ended line n (sym (get-last line) ∙ e))

pub length_no_feed : (line : List ℕ) → (get_or line (length line - 1) 0 ≡ 10 → ⊥) → length line ≡ length (before_line_feed line)
length_no_feed line e =
    let open_end : (get_or line (length line - 1) 0 == 10) ≡ false = not_ten (get_or line (length line - 1) 0) e
    in sym (before_open line (ap (λ b. b == 10) (sym (get-last line)) ∙ open_end))
  where
    not_ten : (n : ℕ) → (n ≡ 10 → ⊥) → (n == 10) ≡ false
    not_ten n h = grind (arith, nat_tests, h)

pub length_empty : (line : List ℕ) → length line ≡ 0 → length line ≡ length (before_line_feed line)
length_empty [] h = refl
length_empty (b ∷ line) h = absurd (omega (arith, h))

pub some_bytes : (n : ℕ) → (n == 0) ≡ false → 0 < n
some_bytes n h = grind (arith, nat_tests, h)

pub is_zero : (n : ℕ) → (n == 0) ≡ true → n ≡ 0
is_zero n h = grind (arith, nat_tests, h)

-- the bytes up to the first line feed are one line
pub split-line : (text : List ℕ) (k : ℕ) → k < length text → ((j : ℕ) → j < k → (get_or text j 0 == 10) ≡ true → ⊥) → (get_or text k 0 == 10) ≡ true → IsOneLine (take (k + 1) text)
split-line [] k l none here = absurd (omega (arith, l))
split-line (b ∷ text) zero l none here =
    let ten : b ≡ 10 = grind (arith, nat_tests, here)
    in record { body = []; no_line_feed = tt; is = ap (λ x. x ∷ []) ten }
split-line (b ∷ text) (suc k) l none here =
    let rest : IsOneLine (take (k + 1) text) = split-line text k (omega (arith, l)) (λ j m e. none (suc j) (omega (arith, m)) e) here
    in let next : suc k + 1 ≡ suc (k + 1) = omega arith
    in record {
      body = b ∷ rest.body;
      no_line_feed = (other (b == 10) (none 0 (omega arith)), rest.no_line_feed);
      is = ap (λ i. take i (b ∷ text)) next ∙ ap (λ ls. b ∷ ls) rest.is;
    }
  where
    other : (c : Bool) → (c ≡ true → ⊥) → c ≡ false
    other true h = absurd (h refl)
    other false h = refl

before_one : (body : List ℕ) → length (without_last 10 (body ++ 10 ∷ [])) + 1 ≡ length (body ++ 10 ∷ [])
before_one [] = refl
before_one (b ∷ []) = refl
before_one (b ∷ c ∷ body) = omega (arith, before_one (c ∷ body))

pub length_one : (line : List ℕ) → IsOneLine line → length (before_line_feed line) + 1 ≡ length line
length_one line o = subst (λ l. length (without_last 10 l) + 1 ≡ length l) (sym o.is) (before_one o.body)

pub no_bytes : (xs : List ℕ) → length xs ≡ 0 → xs ≡ []
no_bytes [] h = refl
no_bytes (x ∷ xs) h = absurd (omega (arith, h))

-- one line more
pub flat-push : (lines : List (List ℕ)) (line : List ℕ) → length (flat_map (λ l. l) (lines ++ line ∷ [])) ≡ length (flat_map (λ l. l) lines) + length line
flat-push [] line = simp length-append (omega arith)
flat-push (l ∷ lines) line = omega (arith, length-append l (flat_map (λ k. k) (lines ++ line ∷ [])), length-append l (flat_map (λ k. k) lines), flat-push lines line)

pub long_first : (lines : List (List ℕ)) (line : List ℕ) → 4096 < length (before_line_feed line) → is_too_long lines line ≡ true
long_first lines line h = over (length (before_line_feed line)) (length (flat_map (λ l. l) lines) + length line) h where
  over : (a b : ℕ) → 4096 < a → (nat_lt 4096 a || nat_lt 268435456 b) ≡ true
  over a b k = grind (arith, nat_tests, k)

kept_length : (c : Bool) (b : ℕ) (whole : List (List ℕ)) (last : List ℕ) (n : ℕ) → length (flat_map (λ l. l) whole) + length last ≡ n
    → length (flat_map (λ l. l) (cond c ((b ∷ []) ∷ whole) (onto_whole b whole))) + length (cond c last (onto_last b whole last)) ≡ suc n
kept_length true b whole last n h = omega (arith, h)
kept_length false b [] last n h = omega (arith, h)
kept_length false b (line ∷ whole) last n h = omega (arith, h)

-- its whole lines and its last one are as long as the text
pub length-text : (text : List ℕ) → length (flat_map (λ l. l) (whole_lines text)) + length (last_line text) ≡ length text
length-text [] = refl
length-text (b ∷ text) = kept_length (b == 10) b (whole_lines text) (last_line text) (length text) (length-text text)

pub few-open : (before : List (List ℕ)) (line : List ℕ) → is_too_long before line ≡ false → length (flat_map (λ l. l) before) + length line ≤ MAX_INPUT
few-open before line h = fits (length (before_line_feed line)) (length (flat_map (λ l. l) before) + length line) h where
  fits : (a b : ℕ) → (nat_lt 4096 a || nat_lt 268435456 b) ≡ false → b ≤ 268435456
  fits a b k = grind (arith, nat_tests, k)
