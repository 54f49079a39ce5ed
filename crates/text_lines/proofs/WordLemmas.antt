-- How the first word of a text is split off.
use Rattle.std.proofs.Common.{◌≡◌, ℕ, suc, ◌+◌, ◌-◌, ◌<◌, Bool, true, false, cond, ◌==◌, List, [], ◌∷◌, length, take, drop, get_or, refl, sym, ◌∙◌, ap, arith, filter, nat_lt, not, subst, ◌≤◌}
use Rattle.std.specs.List.{onto_first, slice_split, prefix_len, position_or_len}
use Rattle.std.proofs.lemmas.Bool.Decides.{nat_tests}
use Rattle.std.proofs.lemmas.List.{length-take-le, nil_from_length}
use Rattle.std.proofs.lemmas.List.Sums.{prefix_len-le-length}
use Rattle.text_lines.specs.Lines.{is_blank, words_in, without_last}

abbrev is_some_word : List ℕ → Bool
is_some_word word = nat_lt 0 (length word)

skip_step : (c : Bool) (b : ℕ) (text : List ℕ) → is_blank b ≡ c → words_in text ≡ words_in (drop (prefix_len is_blank text) text)
    → filter is_some_word (cond c ([] ∷ slice_split is_blank text) (onto_first b (slice_split is_blank text))) ≡ words_in (drop (cond c (1 + prefix_len is_blank text) 0) (b ∷ text))
skip_step true b text e h = h ∙ ap (λ n. words_in (drop n (b ∷ text))) (let s : suc (prefix_len is_blank text) ≡ 1 + prefix_len is_blank text = omega arith in s)
skip_step false b text e h = rw e refl

-- blanks at the front make no words
pub words-skip : (text : List ℕ) → words_in text ≡ words_in (drop (prefix_len is_blank text) text)
words-skip [] = refl
words-skip (b ∷ text) = skip_step (is_blank b) b text refl (words-skip text)

-- the parts behind the first one
abbrev parts_after : List ℕ → List (List ℕ)
parts_after [] = []
parts_after (b ∷ text) = cond (is_blank b) (slice_split is_blank text) (parts_after text)

split_step : (c : Bool) (b : ℕ) (text : List ℕ) → slice_split is_blank text ≡ take (position_or_len is_blank text) text ∷ parts_after text
    → cond c ([] ∷ slice_split is_blank text) (onto_first b (slice_split is_blank text))
    ≡ take (cond (not c) (1 + position_or_len is_blank text) 0) (b ∷ text) ∷ cond c (slice_split is_blank text) (parts_after text)
split_step true b text h = refl
split_step false b text h = ap (onto_first b) h ∙ ap (λ n. take n (b ∷ text) ∷ parts_after text) (let s : suc (position_or_len is_blank text) ≡ 1 + position_or_len is_blank text = omega arith in s)

parts : (text : List ℕ) → slice_split is_blank text ≡ take (position_or_len is_blank text) text ∷ parts_after text
parts [] = refl
parts (b ∷ text) = split_step (is_blank b) b text (parts text)

after_step : (c : Bool) (b : ℕ) (text : List ℕ) → is_blank b ≡ c → filter is_some_word (parts_after text) ≡ words_in (drop (position_or_len is_blank text) text)
    → filter is_some_word (cond c (slice_split is_blank text) (parts_after text)) ≡ words_in (drop (cond (not c) (1 + position_or_len is_blank text) 0) (b ∷ text))
after_step true b text e h = rw e refl
after_step false b text e h = h ∙ ap (λ n. words_in (drop n (b ∷ text))) (let s : suc (position_or_len is_blank text) ≡ 1 + position_or_len is_blank text = omega arith in s)

after : (text : List ℕ) → filter is_some_word (parts_after text) ≡ words_in (drop (position_or_len is_blank text) text)
after [] = refl
after (b ∷ text) = after_step (is_blank b) b text refl (after text)

some_first : (n : ℕ) (text : List ℕ) (rest : List (List ℕ)) → 0 < n → n ≤ length text → filter is_some_word (take n text ∷ rest) ≡ take n text ∷ filter is_some_word rest
some_first n text rest some fits =
    let there : nat_lt 0 (length (take n text)) ≡ true = grind (arith, nat_tests, length-take-le n text fits)
    in rw there refl

-- the first word stands before the first blank, if it has any bytes
pub words-first : (text : List ℕ) → 0 < position_or_len is_blank text
    → words_in text ≡ take (position_or_len is_blank text) text ∷ words_in (drop (position_or_len is_blank text) text)
words-first text some =
    ap (filter is_some_word) (parts text)
    ∙ some_first (position_or_len is_blank text) text (parts_after text) some (prefix_len-le-length (λ b. not (is_blank b)) text)
    ∙ ap (λ rest. take (position_or_len is_blank text) text ∷ rest) (after text)

-- behind blanks at the front stands a word, if anything
some_step : (c : Bool) (b : ℕ) (text : List ℕ) → is_blank b ≡ c → (0 < length (drop (prefix_len is_blank text) text) → 0 < position_or_len is_blank (drop (prefix_len is_blank text) text))
    → 0 < length (drop (cond c (1 + prefix_len is_blank text) 0) (b ∷ text)) → 0 < position_or_len is_blank (drop (cond c (1 + prefix_len is_blank text) 0) (b ∷ text))
some_step true b text e ih h =
    let n : 1 + prefix_len is_blank text ≡ suc (prefix_len is_blank text) = omega arith
    in subst (λ m. 0 < position_or_len is_blank (drop m (b ∷ text))) (sym n) (ih (subst (λ m. 0 < length (drop m (b ∷ text))) n h))
some_step false b text e ih h = rw e (omega arith)

pub word_is_some : (text : List ℕ) → 0 < length (drop (prefix_len is_blank text) text) → 0 < position_or_len is_blank (drop (prefix_len is_blank text) text)
word_is_some [] h = h
word_is_some (b ∷ text) h = some_step (is_blank b) b text refl (word_is_some text) h

-- a text that is blank has no words
pub no_words : (text from : List ℕ) (n : ℕ) → n ≡ prefix_len is_blank text → from ≡ drop n text → length from ≡ 0 → words_in text ≡ []
no_words text from n e f none = words-skip text ∙ ap (λ m. words_in (drop m text)) (sym e) ∙ ap words_in (sym f ∙ nil_from_length from none)

-- the first word, and what stands behind it
pub first_word : (text from word rest : List ℕ) (n k : ℕ) → n ≡ prefix_len is_blank text → from ≡ drop n text → 0 < length from
    → k ≡ position_or_len is_blank from → word ≡ take k from → rest ≡ drop k from → words_in text ≡ word ∷ words_in rest
first_word text from word rest n k e f some g w r =
    let is : from ≡ drop (prefix_len is_blank text) text = f ∙ ap (λ m. drop m text) e
    in let there : 0 < position_or_len is_blank from
    = subst (λ s. 0 < position_or_len is_blank s) (sym is) (word_is_some text (subst (λ s. 0 < length s) is some))
    in words-skip text ∙ ap words_in (sym is) ∙ words-first from there
    ∙ ap (λ m. take m from ∷ words_in (drop m from)) (sym g) ∙ ap (λ s. s ∷ words_in (drop k from)) (sym w) ∙ ap (λ s. word ∷ words_in s) (sym r)

-- a text without its last byte, where that is this one
last_step : (c : Bool) (byte b : ℕ) → (b == byte) ≡ c → b ≡ byte → cond c [] (b ∷ []) ≡ []
last_step true byte b e h = refl
last_step false byte b e h = absurd (grind (arith, nat_tests, e, h))

pub without-last : (byte : ℕ) (text : List ℕ) → 0 < length text → get_or text (length text - 1) 0 ≡ byte → without_last byte text ≡ take (length text - 1) text
without-last byte [] some h = refl
without-last byte (b ∷ []) some h = last_step (b == byte) byte b refl h
without-last byte (b ∷ c ∷ text) some h =
    let n : length (b ∷ c ∷ text) - 1 ≡ suc (length (c ∷ text) - 1) = omega arith
    in ap (λ rest. b ∷ rest) (without-last byte (c ∷ text) (omega arith) (subst (λ m. get_or (b ∷ c ∷ text) m 0 ≡ byte) n h))
    ∙ ap (λ m. take m (b ∷ c ∷ text)) (sym n)

other_step : (c : Bool) (byte b : ℕ) → (b == byte) ≡ c → (b ≡ byte → ⊥) → cond c [] (b ∷ []) ≡ b ∷ []
other_step true byte b e h = absurd (h (grind (arith, nat_tests, e)))
other_step false byte b e h = refl

pub without-other : (byte : ℕ) (text : List ℕ) → (0 < length text → get_or text (length text - 1) 0 ≡ byte → ⊥) → without_last byte text ≡ text
without-other byte [] h = refl
without-other byte (b ∷ []) h = other_step (b == byte) byte b refl (λ e. h (omega arith) e)
without-other byte (b ∷ c ∷ text) h =
    let n : length (b ∷ c ∷ text) - 1 ≡ suc (length (c ∷ text) - 1) = omega arith
    in ap (λ rest. b ∷ rest) (without-other byte (c ∷ text) (λ some e. h (omega arith) (subst (λ m. get_or (b ∷ c ∷ text) m 0 ≡ byte) (sym n) e)))
