-- A line that is written plainly says an edge.
use Rattle.std.proofs.Common.{◌≡◌, ℕ, suc, ◌+◌, ◌-◌, ◌*◌, ◌<◌, ◌≤◌, ◌^◌, Bool, true, false, cond, ◌&&◌, ◌||◌, ◌==◌, lit<, List, [], ◌∷◌, ◌++◌, length, take, drop, Option, Some, None, Ok, refl, sym, ◌∙◌, ap, subst, arith, filter, nat_lt, nat_le, append_assoc, length-append}
use Rattle.std.specs.Prelude.{codes}
use Rattle.std.specs.List.{list_all, onto_first, slice_split}
use Rattle.std.proofs.lemmas.Bool.Decides.{nat_tests}
use Rattle.std.proofs.lemmas.Grind.{common_steps}
use Rattle.grape_port.specs.Decimal.{is_digit, digits_value, is_number, number_of}
use Rattle.graph_core.specs.declared.edge.Edge.{Edge}
use Rattle.text_lines.specs.Lines.{is_blank, words_in, words_of, without_last, before_line_feed, HasNoLineFeed, IsOneLine}
use Rattle.text_lines.proofs.Growing.{no_line_feed-append}
use Rattle.line_statements.specs.declared.statement.Statement.TheVariants.{Joins}
use Rattle.line_statements.specs.Statements.{word32, is_in, are_in, numbers_of, cons_number, statement_in, edge_form, statement_by, statement_of}
use Rattle.line_statements.specs.PlainLines.{IsPlainNumber, BeginsWithNumber, SaysEdge}

and_left : (a b : Bool) → (a && b) ≡ true → a ≡ true
and_left true b h = refl
and_left false b h = h

and_right : (a b : Bool) → (a && b) ≡ true → b ≡ true
and_right true b h = h
and_right false b h = absurd (let x : false ≡ true = h in cc)

-- A digit is no line feed, no carriage return and no blank.

digit_is_no_feed : (b : ℕ) → is_digit b ≡ true → (b == 10) ≡ false
digit_is_no_feed b h = grind (arith, nat_tests, h)

digit_is_no_return : (b : ℕ) → is_digit b ≡ true → (b == 13) ≡ false
digit_is_no_return b h = grind (arith, nat_tests, h)

digit_is_no_blank : (b : ℕ) → is_digit b ≡ true → is_blank b ≡ false
digit_is_no_blank b h = grind (arith, nat_tests, h)

no_feed_in : (word : List ℕ) → list_all is_digit word ≡ true → HasNoLineFeed word
no_feed_in [] h = tt
no_feed_in (b ∷ word) h = (digit_is_no_feed b (and_left (is_digit b) (list_all is_digit word) h), no_feed_in word (and_right (is_digit b) (list_all is_digit word) h))

-- the last byte goes where it is this one
without-last : (byte : ℕ) (front : List ℕ) → without_last byte (front ++ byte ∷ []) ≡ front
without-last byte [] = same (byte == byte) (grind (arith, nat_tests)) where
  same : (c : Bool) → c ≡ true → cond c [] (byte ∷ []) ≡ []
  same c h = rw h refl
without-last byte (b ∷ []) = ap (λ l. b ∷ l) (without-last byte [])
without-last byte (b ∷ c ∷ front) = ap (λ l. b ∷ l) (without-last byte (c ∷ front))

-- digits at the end stay
keeps_digits : (word : List ℕ) → list_all is_digit word ≡ true → without_last 13 word ≡ word
keeps_digits [] h = refl
keeps_digits (b ∷ []) h = rw (digit_is_no_return b (and_left (is_digit b) true h)) refl
keeps_digits (b ∷ c ∷ word) h = ap (λ l. b ∷ l) (keeps_digits (c ∷ word) (and_right (is_digit b) (list_all is_digit (c ∷ word)) h))

keeps_front : (front end : List ℕ) → 1 ≤ length end → without_last 13 end ≡ end → without_last 13 (front ++ end) ≡ front ++ end
keeps_front [] end some h = h
keeps_front (b ∷ []) [] some h = absurd (let x : 1 ≤ 0 = some in omega (arith, x))
keeps_front (b ∷ []) (c ∷ end) some h = ap (λ l. b ∷ l) h
keeps_front (b ∷ c ∷ front) end some h = ap (λ l. b ∷ l) (keeps_front (c ∷ front) end some h)

-- The words of a plain text.

split-word : (word : List ℕ) → list_all is_digit word ≡ true → slice_split is_blank word ≡ word ∷ []
split-word [] h = refl
split-word (b ∷ word) h =
    rw (digit_is_no_blank b (and_left (is_digit b) (list_all is_digit word) h))
    (ap (onto_first b) (split-word word (and_right (is_digit b) (list_all is_digit word) h)))

split-space : (word rest : List ℕ) → list_all is_digit word ≡ true → slice_split is_blank (word ++ 32 ∷ rest) ≡ word ∷ slice_split is_blank rest
split-space [] rest h = refl
split-space (b ∷ word) rest h =
    rw (digit_is_no_blank b (and_left (is_digit b) (list_all is_digit word) h))
    (ap (onto_first b) (split-space word rest (and_right (is_digit b) (list_all is_digit word) h)))

is_some_word : (word : List ℕ) → 1 ≤ length word → nat_lt 0 (length word) ≡ true
is_some_word word h = grind (arith, nat_tests, h)

words-word : (word : List ℕ) → 1 ≤ length word → list_all is_digit word ≡ true → words_in word ≡ word ∷ []
words-word word some h =
    ap (filter (λ w. nat_lt 0 (length w))) (split-word word h) ∙ (rw (is_some_word word some) refl)

words-space : (word rest : List ℕ) → 1 ≤ length word → list_all is_digit word ≡ true → words_in (word ++ 32 ∷ rest) ≡ word ∷ words_in rest
words-space word rest some h =
    ap (filter (λ w. nat_lt 0 (length w))) (split-space word rest h) ∙ (rw (is_some_word word some) refl)

-- What plain numbers say.

number-plain : (word : List ℕ) (n : ℕ) → IsPlainNumber word n → number_of word ≡ Some n
number-plain word n p =
    let is : is_number word ≡ true = grind (arith, nat_tests, p.some, p.few, p.digits, p.value, p.small)
    in rw is (ap Some p.value)

in_word32 : (n : ℕ) → n < 2 ^ 32 → is_in word32 n ≡ true
in_word32 n h = grind (arith, nat_tests, h)

pub begins_as_edge : (word : List ℕ) (words : List (List ℕ)) (n : ℕ) → IsPlainNumber word n → statement_of (word ∷ words) ≡ statement_by edge_form (word ∷ words)
begins_as_edge [] words n p = absurd (let some : 1 ≤ 0 = p.some in omega (arith, some))
begins_as_edge (b ∷ word) words n p =
    let digit : is_digit b ≡ true = and_left (is_digit b) (list_all is_digit word) p.digits
    in let no_comment : (b == 35 || b == 37) ≡ false = grind (arith, nat_tests, digit)
    in rw (no_comment, digit) refl

numbers_in : (n m k : ℕ) → n < 2 ^ 32 → m < 2 ^ 32 → k < 2 ^ 32 → are_in edge_form.ranges (n ∷ m ∷ k ∷ []) ≡ true
numbers_in n m k h i j = rw (in_word32 n h, in_word32 m i, in_word32 k j) refl

pub says-three : (a b c : List ℕ) (n m k : ℕ) → IsPlainNumber a n → IsPlainNumber b m → IsPlainNumber c k
    → statement_of (a ∷ b ∷ c ∷ []) ≡ Ok (Joins (record { from = n; to = m; weight = k }))
says-three a b c n m k p q r =
    begins_as_edge a (b ∷ c ∷ []) n p
    ∙ ap (λ o. statement_in edge_form.ranges edge_form.says (cons_number o (cons_number (number_of b) (cons_number (number_of c) (Some []))))) (number-plain a n p)
    ∙ ap (λ o. statement_in edge_form.ranges edge_form.says (cons_number (Some n) (cons_number o (cons_number (number_of c) (Some []))))) (number-plain b m q)
    ∙ ap (λ o. statement_in edge_form.ranges edge_form.says (cons_number (Some n) (cons_number (Some m) (cons_number o (Some []))))) (number-plain c k r)
    ∙ rw (numbers_in n m k p.small q.small r.small) refl

plain_one : IsPlainNumber (codes "1") 1
plain_one = record { some = omega arith; few = omega arith; digits = refl; value = refl; small = lit< tt }

pub says-two : (a b : List ℕ) (n m : ℕ) → IsPlainNumber a n → IsPlainNumber b m → statement_of (a ∷ b ∷ []) ≡ Ok (Joins (record { from = n; to = m; weight = 1 }))
says-two a b n m p q = begins_as_edge a (b ∷ []) n p ∙ sym (begins_as_edge a (b ∷ codes "1" ∷ []) n p) ∙ says-three a b (codes "1") n m 1 p q plain_one

-- Plain lines.

says_edge : (body : List ℕ) (edge : Edge) → HasNoLineFeed body → length body ≤ 32 → without_last 13 body ≡ body → statement_of (words_in body) ≡ Ok (Joins edge) → SaysEdge (body ++ 10 ∷ []) edge
says_edge body edge clean few kept says = record {
  one_line = record { body = body; no_line_feed = clean; is = refl };
  short = omega (arith, length-append body (10 ∷ []), few);
  says = ap (λ l. statement_of (words_in (without_last 13 l))) (without-last 10 body) ∙ ap (λ l. statement_of (words_in l)) kept ∙ says;
}

space_before : (word : List ℕ) (n : ℕ) → IsPlainNumber word n → without_last 13 (32 ∷ word) ≡ 32 ∷ word
space_before word n p = keeps_front (32 ∷ []) word p.some (keeps_digits word p.digits)

two_says : (a b : List ℕ) (n m : ℕ) → IsPlainNumber a n → IsPlainNumber b m → SaysEdge ((a ++ 32 ∷ b) ++ 10 ∷ []) (record { from = n; to = m; weight = 1 })
two_says a b n m p q =
    says_edge (a ++ 32 ∷ b) (record { from = n; to = m; weight = 1 })
    (no_line_feed-append a (32 ∷ b) (no_feed_in a p.digits) (refl, no_feed_in b q.digits))
    (let fa : length a ≤ 10 = p.few in let fb : length b ≤ 10 = q.few in omega (arith, length-append a (32 ∷ b)))
    (keeps_front a (32 ∷ b) (omega arith) (space_before b m q))
    (ap statement_of (words-space a b p.some p.digits ∙ ap (λ ws. a ∷ ws) (words-word b q.some q.digits)) ∙ says-two a b n m p q)

three_says : (a b c : List ℕ) (n m k : ℕ) → IsPlainNumber a n → IsPlainNumber b m → IsPlainNumber c k
    → SaysEdge ((a ++ 32 ∷ (b ++ 32 ∷ c)) ++ 10 ∷ []) (record { from = n; to = m; weight = k })
three_says a b c n m k p q r =
    says_edge (a ++ 32 ∷ (b ++ 32 ∷ c)) (record { from = n; to = m; weight = k })
    (no_line_feed-append a (32 ∷ (b ++ 32 ∷ c)) (no_feed_in a p.digits) (refl, no_line_feed-append b (32 ∷ c) (no_feed_in b q.digits) (refl, no_feed_in c r.digits)))
    (let fa : length a ≤ 10 = p.few in let fb : length b ≤ 10 = q.few in let fc : length c ≤ 10 = r.few in omega (arith, length-append a (32 ∷ (b ++ 32 ∷ c)), length-append b (32 ∷ c)))
    (keeps_front a (32 ∷ (b ++ 32 ∷ c)) (omega arith) (keeps_front (32 ∷ b) (32 ∷ c) (omega arith) (space_before c k r)))
    (ap statement_of (words-space a (b ++ 32 ∷ c) p.some p.digits ∙ ap (λ ws. a ∷ ws) (words-space b c q.some q.digits ∙ ap (λ ws. b ∷ ws) (words-word c r.some r.digits))) ∙ says-three a b c n m k p q r)

-- a text begins with a line that says an edge, and so many bytes are this line
abbrev pub EdgeAtFront : List ℕ → ℕ → Edge → Type 0
EdgeAtFront text end edge = (end ≤ length text) × SaysEdge (take end text) edge

at_front : (text body others : List ℕ) (end : ℕ) (edge : Edge) → text ≡ body ++ 10 ∷ others → end ≡ length text - length others → SaysEdge (body ++ 10 ∷ []) edge → EdgeAtFront text end edge
at_front text body others end edge is e says =
    let line : List ℕ = body ++ 10 ∷ []
    in let parts : text ≡ (body ++ 10 ∷ []) ++ others = is ∙ sym (append_assoc body (10 ∷ []) others)
    in let all : length text ≡ length (body ++ 10 ∷ []) + length others = ap length parts ∙ length-append (body ++ 10 ∷ []) others
    in let length_is : end ≡ length (body ++ 10 ∷ []) = omega (arith, all, e)
    in let front : take end text ≡ body ++ 10 ∷ [] = ap (λ n. take n text) length_is ∙ ap (λ l. take (length (body ++ 10 ∷ [])) l) parts ∙ take_front (body ++ 10 ∷ []) others
    in (omega (arith, all, length_is), subst (λ l. SaysEdge l edge) (sym front) says)
  where
    take_front : (xs ys : List ℕ) → take (length xs) (xs ++ ys) ≡ xs
    take_front [] ys = refl
    take_front (x ∷ xs) ys = ap (λ l. x ∷ l) (take_front xs ys)

pub edge_of_two : (text t u v others : List ℕ) (n m end : ℕ) → BeginsWithNumber text n t → t ≡ 32 ∷ u → BeginsWithNumber u m v → v ≡ 10 ∷ others → end ≡ length text - length others
    → EdgeAtFront text end (record { from = n; to = m; weight = 1 })
edge_of_two text t u v others n m end p e q f l =
    at_front text (p.word ++ 32 ∷ q.word) others end (record { from = n; to = m; weight = 1 })
    (p.is ∙ ap (λ s. p.word ++ s) (e ∙ ap (λ s. 32 ∷ s) (q.is ∙ ap (λ s. q.word ++ s) f)) ∙ sym (append_assoc p.word (32 ∷ q.word) (10 ∷ others)))
    l (two_says p.word q.word n m p.plain q.plain)

pub edge_of_three : (text t u v w x others : List ℕ) (n m k end : ℕ) → BeginsWithNumber text n t → t ≡ 32 ∷ u → BeginsWithNumber u m v → v ≡ 32 ∷ w → BeginsWithNumber w k x → x ≡ 10 ∷ others
    → end ≡ length text - length others → EdgeAtFront text end (record { from = n; to = m; weight = k })
edge_of_three text t u v w x others n m k end p e q f r g l =
    at_front text (p.word ++ 32 ∷ (q.word ++ 32 ∷ r.word)) others end (record { from = n; to = m; weight = k })
    (p.is ∙ ap (λ s. p.word ++ s) (e ∙ ap (λ s. 32 ∷ s) (q.is ∙ ap (λ s. q.word ++ s) (f ∙ ap (λ s. 32 ∷ s) (r.is ∙ ap (λ s. r.word ++ s) g)) ∙ sym (append_assoc q.word (32 ∷ r.word) (10 ∷ others)))) ∙ sym (append_assoc p.word (32 ∷ (q.word ++ 32 ∷ r.word)) (10 ∷ others)))
    l (three_says p.word q.word r.word n m k p.plain q.plain r.plain)
