-- How the lines of a text change as the text grows.
use Rattle.std.proofs.Common.{◌≡◌, ℕ, ◌<◌, Bool, true, false, cond, ◌==◌, List, [], ◌∷◌, ◌++◌, length, refl, sym, ◌∙◌, ap, subst, arith, append_assoc, append-nil}
use Rattle.text_lines.specs.Lines.{lines_of, onto_whole, onto_last, whole_lines, last_line, HasNoLineFeed, IsOneLine, is_ended}
use Rattle.text_lines.proofs.Cuts.{lines-front, last_has_no_line_feed, lines_one}

-- The whole lines and the last line of a text that goes on.

whole_step : (c : Bool) (b : ℕ) (whole : List (List ℕ)) (last rest : List ℕ) (all : List (List ℕ)) → (b == 10) ≡ c → all ≡ whole ++ whole_lines (last ++ rest)
    → cond c ((b ∷ []) ∷ all) (onto_whole b all) ≡ cond c ((b ∷ []) ∷ whole) (onto_whole b whole) ++ whole_lines (cond c last (onto_last b whole last) ++ rest)
whole_step true b whole last rest all e h = ap (λ ls. (b ∷ []) ∷ ls) h
whole_step false b [] last rest all e h = rw e (ap (onto_whole b) h)
whole_step false b (line ∷ whole) last rest all e h = ap (onto_whole b) h

pub whole-append : (front rest : List ℕ) → whole_lines (front ++ rest) ≡ whole_lines front ++ whole_lines (last_line front ++ rest)
whole-append [] rest = refl
whole-append (b ∷ front) rest = whole_step (b == 10) b (whole_lines front) (last_line front) rest (whole_lines (front ++ rest)) refl (whole-append front rest)

last_step : (c : Bool) (b : ℕ) (whole : List (List ℕ)) (last rest : List ℕ) (all : List (List ℕ)) (end : List ℕ) → (b == 10) ≡ c → all ≡ whole ++ whole_lines (last ++ rest) → end ≡ last_line (last ++ rest)
    → cond c end (onto_last b all end) ≡ last_line (cond c last (onto_last b whole last) ++ rest)
last_step true b whole last rest all end e h k = k
last_step false b [] last rest all end e h k = rw (e, h, k) refl
last_step false b (line ∷ whole) last rest all end e h k = rw h k

pub last-append : (front rest : List ℕ) → last_line (front ++ rest) ≡ last_line (last_line front ++ rest)
last-append [] rest = refl
last-append (b ∷ front) rest = last_step (b == 10) b (whole_lines front) (last_line front) rest (whole_lines (front ++ rest)) (last_line (front ++ rest)) refl (whole-append front rest) (last-append front rest)

pub no_line_feed-append : (xs ys : List ℕ) → HasNoLineFeed xs → HasNoLineFeed ys → HasNoLineFeed (xs ++ ys)
no_line_feed-append [] ys h k = k
no_line_feed-append (x ∷ xs) ys h k = (h.0, no_line_feed-append xs ys h.1 k)

whole-body : (body : List ℕ) → HasNoLineFeed body → whole_lines body ≡ []
whole-body [] h = refl
whole-body (b ∷ body) h = rw h.0 (ap (onto_whole b) (whole-body body h.1))

last-body : (body : List ℕ) → HasNoLineFeed body → last_line body ≡ body
last-body [] h = refl
last-body (b ∷ body) h = rw (h.0, whole-body body h.1, last-body body h.1) refl

whole-one : (body : List ℕ) → HasNoLineFeed body → whole_lines (body ++ 10 ∷ []) ≡ (body ++ 10 ∷ []) ∷ []
whole-one [] h = refl
whole-one (b ∷ body) h = rw h.0 (ap (onto_whole b) (whole-one body h.1))

last-one : (body : List ℕ) → HasNoLineFeed body → last_line (body ++ 10 ∷ []) ≡ []
last-one [] h = refl
last-one (b ∷ body) h = rw (h.0, whole-one body h.1, last-one body h.1) refl

ended-one : (body : List ℕ) → is_ended (body ++ 10 ∷ []) ≡ true
ended-one [] = refl
ended-one (b ∷ []) = refl
ended-one (b ∷ c ∷ body) = ended-one (c ∷ body)

-- a line that goes on to its line feed is one line
pub one_line-onto : (last end : List ℕ) → HasNoLineFeed last → IsOneLine end → IsOneLine (last ++ end)
one_line-onto last end h o = record {
  body = last ++ o.body;
  no_line_feed = no_line_feed-append last o.body h o.no_line_feed;
  is = ap (λ l. last ++ l) o.is ∙ sym (append_assoc last o.body (10 ∷ []));
}

pub one_is_ended : (line : List ℕ) → IsOneLine line → is_ended line ≡ true
one_is_ended line o = subst (λ l. is_ended l ≡ true) (sym o.is) (ended-one o.body)

whole-line : (line : List ℕ) → IsOneLine line → whole_lines line ≡ line ∷ []
whole-line line o = subst (λ l. whole_lines l ≡ l ∷ []) (sym o.is) (whole-one o.body o.no_line_feed)

last-line : (line : List ℕ) → IsOneLine line → last_line line ≡ []
last-line line o = subst (λ l. last_line l ≡ []) (sym o.is) (last-one o.body o.no_line_feed)

-- the end of a line makes one more whole line
pub whole-ends : (front end : List ℕ) → IsOneLine end → whole_lines (front ++ end) ≡ whole_lines front ++ (last_line front ++ end) ∷ []
whole-ends front end o = whole-append front end ∙ ap (λ ls. whole_lines front ++ ls) (whole-line (last_line front ++ end) (one_line-onto (last_line front) end (last_has_no_line_feed front) o))

pub last-ends : (front end : List ℕ) → IsOneLine end → last_line (front ++ end) ≡ []
last-ends front end o = last-append front end ∙ last-line (last_line front ++ end) (one_line-onto (last_line front) end (last_has_no_line_feed front) o)

-- bytes without a line feed go to the last line
pub whole-held : (front rest : List ℕ) → HasNoLineFeed rest → whole_lines (front ++ rest) ≡ whole_lines front
whole-held front rest h =
    whole-append front rest
    ∙ ap (λ ls. whole_lines front ++ ls) (whole-body (last_line front ++ rest) (no_line_feed-append (last_line front) rest (last_has_no_line_feed front) h))
    ∙ append-nil (whole_lines front)

pub last-held : (front rest : List ℕ) → HasNoLineFeed rest → last_line (front ++ rest) ≡ last_line front ++ rest
last-held front rest h = last-append front rest ∙ last-body (last_line front ++ rest) (no_line_feed-append (last_line front) rest (last_has_no_line_feed front) h)

pub lines-alone : (front : List ℕ) → lines_of front ≡ whole_lines front ++ lines_of (last_line front)
lines-alone front = ap lines_of (sym (append-nil front)) ∙ lines-front front [] ∙ ap (λ l. whole_lines front ++ lines_of l) (append-nil (last_line front))

pub lines-line : (line : List ℕ) → IsOneLine line → lines_of line ≡ line ∷ []
lines-line line o = lines-alone line ∙ ap (λ l. whole_lines line ++ lines_of l) (last-line line o) ∙ append-nil (whole_lines line) ∙ whole-line line o

pub lines-open : (line : List ℕ) → HasNoLineFeed line → 0 < length line → lines_of line ≡ line ∷ []
lines-open [] h n = absurd (omega (arith, n))
lines-open (b ∷ line) h n = lines_one b line h

pub length_ends : (xs ys : List ℕ) → 0 < length ys → 0 < length (xs ++ ys)
length_ends [] ys h = h
length_ends (x ∷ xs) ys h = omega arith
