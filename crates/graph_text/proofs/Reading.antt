-- What a reader has read, with a line or a piece more.
use Rattle.std.proofs.Common.{◌≡◌, ℕ, ◌+◌, ◌-◌, ◌<◌, ◌≤◌, Bool, true, false, cond, ◌||◌, List, [], ◌∷◌, ◌++◌, length, Option, Some, None, Result, Ok, Err, refl, sym, ◌∙◌, ap, subst, arith, append_assoc, nat_lt, length-append}
use Rattle.std.specs.Prelude.{option_map, flat_map, OnOk}
use Rattle.std.specs.List.{cons_option}
use Rattle.std.specs.Option.{option_or}
use Rattle.std.specs.Result.{result_ok}
use Rattle.std.proofs.lemmas.List.Elements.{filter_map-append}
use Rattle.graph_core.specs.declared.job.Job.{Job}
use Rattle.line_statements.specs.declared.why.Why.TheVariants as causes
use Rattle.graph_text.specs.declared.fault.TextFault.{TextFault}
use Rattle.graph_text.specs.declared.fault.TextFault.TheVariants as fault
use Rattle.line_statements.specs.declared.statement.Statement.{Statement}
use Rattle.text_lines.specs.Lines.{lines_of, whole_lines, last_line, HasNoLineFeed, IsOneLine, before_line_feed, is_too_long, words_of, MAX_INPUT}
use Rattle.text_lines.proofs.Cuts.{last_has_no_line_feed, without-same, lines_one}
use Rattle.text_lines.proofs.Growing.{no_line_feed-append, one_line-onto, whole-ends, last-ends, whole-held, last-held, lines-alone, lines-open}
use Rattle.text_lines.proofs.Lengths.{length_one, flat-push, long_first, length-text, few-open}
use Rattle.line_statements.specs.Statements.{statement_of}
use Rattle.graph_text.specs.Input.{BadLine, bad, statements_of, cause_among, cause_of, cause_shown, first_bad, shown_of, input_of, job_of_lines}
use Rattle.graph_text.specs.ReaderState.{LinesState, TextState}
use Rattle.graph_text.specs.Gathering.{Holds}
use Rattle.graph_text.specs.Reader.{HasLines, HasText, Answers, Gives}
use Rattle.graph_text.proofs.Cuts.{first_bad-append}
use Rattle.graph_text.proofs.Streams.{shown-ends, shown-held, shown_more, too_long_cause, or_none, cause-open, none_of_last}

-- the exit of a `?`
pub answer-exit : (r : Result (Unit {0}) TextFault) (f g : TextFault) (shown : Option BadLine) → r ≡ Err g → g ≡ f → Answers {A = Unit {0}} (Err f) shown → Answers r shown
answer-exit r f g shown e h a = subst (λ s. Answers s shown) (sym (e ∙ ap (λ x. Err x) h)) a

pub gives-exit : (r : Result Job TextFault) (f g : TextFault) (input : Result Job BadLine) → r ≡ Err g → g ≡ f → Gives (Err f) input → Gives r input
gives-exit r f g input e h a = subst (λ s. Gives s input) (sym (e ∙ ap (λ x. Err x) h)) a

-- One line more.

map_none : {A B : Type 0} (f : A → B) (o : Option A) → option_map f o ≡ None → o ≡ None
map_none f None h = refl
map_none f (Some x) h = absurd (let y : Some (f x) ≡ None = h in cc)

pub statements-push : (lines : List (List ℕ)) (line : List ℕ) (s : Statement) → statement_of (words_of line) ≡ Ok s → statements_of (lines ++ line ∷ []) ≡ statements_of lines ++ s ∷ []
statements-push lines line s e =
    filter_map-append (λ l. result_ok (statement_of (words_of l))) lines (line ∷ [])
    ∙ ap (λ r. statements_of lines ++ cons_option (result_ok r) []) e

none-push : (lines : List (List ℕ)) (line : List ℕ) → first_bad cause_of [] lines ≡ None → cause_of lines line ≡ None → first_bad cause_of [] (lines ++ line ∷ []) ≡ None
none-push lines line h e =
    first_bad-append cause_of [] lines (line ∷ [])
    ∙ ap (λ o. option_or o (first_bad cause_of lines (line ∷ []))) h
    ∙ or_none (option_map (bad (length lines + 1)) (cause_of lines line))
    ∙ ap (option_map (bad (length lines + 1))) e

pub cause-short : (lines : List (List ℕ)) (line : List ℕ) (s : Statement) → is_too_long lines line ≡ false → statement_of (words_of line) ≡ Ok s → cause_of lines line ≡ cause_among (statements_of lines) (Ok s)
cause-short lines line s h e = rw h (ap (cause_among (statements_of lines)) e)

pub lines-push : (w after : LinesState) (lines : List (List ℕ)) (line : List ℕ) (s : Statement) → HasLines w lines → statement_of (words_of line) ≡ Ok s → cause_of lines line ≡ None
    → after.count ≡ w.count + 1 → after.bytes ≡ w.bytes + length line → Holds after.gathered (statements_of lines ++ s ∷ []) → HasLines after (lines ++ line ∷ [])
lines-push w after lines line s h e none count bytes says = record {
  count = count ∙ ap (λ n. n + 1) h.count ∙ sym (length-append lines (line ∷ []));
  bytes = bytes ∙ ap (λ n. n + length line) h.bytes ∙ sym (flat-push lines line);
  says = subst (Holds after.gathered) (sym (statements-push lines line s e)) says;
  none_bad = none-push lines line h.none_bad none;
}

-- a line that was added after a test of its length
pub lines-added : (r : Result (Unit {0}) TextFault) (w after : LinesState) (line : List ℕ) (s : Statement)
    → ((ss : List Statement) → Holds w.gathered ss → Answers r (option_map (bad (w.count + 1)) (cause_among ss (Ok s))))
    → OnOk r (after.count ≡ w.count + 1) → OnOk r (after.bytes ≡ w.bytes + length line) → OnOk r ((ss : List Statement) → Holds w.gathered ss → Holds after.gathered (ss ++ s ∷ []))
    → statement_of (words_of line) ≡ Ok s → ((lines : List (List ℕ)) → HasLines w lines → is_too_long lines line ≡ false)
    → OnOk r ((lines : List (List ℕ)) → HasLines w lines → HasLines after (lines ++ line ∷ []))
lines-added (Err f) w after line s answer count bytes says e short = tt
lines-added (Ok u) w after line s answer count bytes says e short = λ lines h.
    lines-push w after lines line s h e
    (cause-short lines line s (short lines h) e ∙ map_none (bad (w.count + 1)) (cause_among (statements_of lines) (Ok s)) (answer (statements_of lines) h.says))
    count bytes (says (statements_of lines) h.says)

-- the test of a line's length
pub short-line : (w : LinesState) (lines : List (List ℕ)) (line : List ℕ) (shown : ℕ) (c : Bool) → HasLines w lines → shown ≡ length (before_line_feed line)
    → (nat_lt 4096 shown || nat_lt 268435456 (w.bytes + length line)) ≡ c → is_too_long lines line ≡ c
short-line w lines line shown c h e t =
    ap (λ n. nat_lt 4096 n || nat_lt 268435456 (length (flat_map (λ l. l) lines) + length line)) (sym e)
    ∙ ap (λ n. nat_lt 4096 shown || nat_lt 268435456 (n + length line)) (sym h.bytes)
    ∙ t

-- The end of a line.

pub shown-line : (t : TextState) (text end line : List ℕ) → HasText t text → IsOneLine end → line ≡ t.line ++ end
    → shown_of (text ++ end) ≡ option_map (bad (length (whole_lines text) + 1)) (cause_of (whole_lines text) line)
shown-line t text end line h o e =
    shown-ends text end o h.none_shown
    ∙ ap (λ l. option_map (bad (length (whole_lines text) + 1)) (cause_of (whole_lines text) l)) (ap (λ l. l ++ end) (sym h.line) ∙ sym e)

pub text-line : (t after : TextState) (text end line : List ℕ) → HasText t text → IsOneLine end → line ≡ t.line ++ end → after.line ≡ []
    → option_map (bad (length (whole_lines text) + 1)) (cause_of (whole_lines text) line) ≡ None → HasLines after.whole (whole_lines text ++ line ∷ []) → HasText after (text ++ end)
text-line t after text end line h o e empty none whole = record {
  whole = subst (HasLines after.whole) (ap (λ l. whole_lines text ++ l ∷ []) (e ∙ ap (λ l. l ++ end) h.line) ∙ sym (whole-ends text end o)) whole;
  line = empty ∙ sym (last-ends text end o);
  none_shown = shown-line t text end line h o e ∙ none;
}

-- the answer on a line is the answer on the text
pub answer-line : (r : Result (Unit {0}) TextFault) (t : TextState) (text end line : List ℕ) → HasText t text → IsOneLine end → line ≡ t.line ++ end
    → ((lines : List (List ℕ)) → HasLines t.whole lines → Answers r (option_map (bad (length lines + 1)) (cause_of lines line))) → Answers r (shown_of (text ++ end))
answer-line r t text end line h o e answer = subst (Answers r) (sym (shown-line t text end line h o e)) (answer (whole_lines text) h.whole)

pub text-taken : (r : Result (Unit {0}) TextFault) (t after : TextState) (end line : List ℕ) → IsOneLine end → line ≡ t.line ++ end → after.line ≡ []
    → ((lines : List (List ℕ)) → HasLines t.whole lines → Answers r (option_map (bad (length lines + 1)) (cause_of lines line)))
    → OnOk r ((lines : List (List ℕ)) → HasLines t.whole lines → HasLines after.whole (lines ++ line ∷ []))
    → OnOk r ((text : List ℕ) → HasText t text → HasText after (text ++ end))
text-taken (Err f) t after end line o e empty answer ok = tt
text-taken (Ok u) t after end line o e empty answer ok = λ text h. text-line t after text end line h o e empty (answer (whole_lines text) h.whole) (ok (whole_lines text) h.whole)

-- a line with more bytes than there is room for is too long
pub shown-long : (t : TextState) (text end : List ℕ) → HasText t text → IsOneLine end → 4097 - length t.line < length end
    → shown_of (text ++ end) ≡ Some (bad (t.whole.count + 1) causes.TooLong)
shown-long t text end h o n =
    let one : IsOneLine (last_line text ++ end) = one_line-onto (last_line text) end (last_has_no_line_feed text) o
    in let line : IsOneLine (t.line ++ end) = subst (λ l. IsOneLine (l ++ end)) (sym h.line) one
    in let long : is_too_long (whole_lines text) (t.line ++ end) ≡ true = long_first (whole_lines text) (t.line ++ end) (omega (arith, length_one (t.line ++ end) line, length-append t.line end, n))
    in shown-line t text end (t.line ++ end) h o refl
    ∙ ap (λ c. option_map (bad (length (whole_lines text) + 1)) (cond c (Some causes.TooLong) (cause_among (statements_of (whole_lines text)) (statement_of (words_of (t.line ++ end)))))) long
    ∙ ap (λ k. Some (bad (k + 1) causes.TooLong)) (sym h.whole.count)

-- Bytes of a line that goes on.

pub shown-more : (t : TextState) (text rest : List ℕ) (n : ℕ) → HasText t text → HasNoLineFeed rest → 0 < length rest → n ≡ length t.line + length rest
    → shown_of (text ++ rest) ≡ option_map (bad (t.whole.count + 1)) (too_long_cause (nat_lt 4096 n || nat_lt 268435456 (t.whole.bytes + n)))
shown-more t text rest n h o some e =
    let clean : HasNoLineFeed (last_line text ++ rest) = no_line_feed-append (last_line text) rest (last_has_no_line_feed text) o
    in let size : length (last_line text ++ rest) ≡ n = length-append (last_line text) rest ∙ ap (λ l. length l + length rest) (sym h.line) ∙ sym e
    in let before : length (before_line_feed (last_line text ++ rest)) ≡ n = ap length (without-same (last_line text ++ rest) clean) ∙ size
    in shown-held text rest o some h.none_shown
    ∙ ap (λ k. option_map (bad (k + 1)) (too_long_cause (is_too_long (whole_lines text) (last_line text ++ rest)))) (sym h.whole.count)
    ∙ ap (λ k. option_map (bad (t.whole.count + 1)) (too_long_cause (nat_lt 4096 k || nat_lt 268435456 (length (flat_map (λ l. l) (whole_lines text)) + length (last_line text ++ rest))))) before
    ∙ ap (λ k. option_map (bad (t.whole.count + 1)) (too_long_cause (nat_lt 4096 n || nat_lt 268435456 (k + length (last_line text ++ rest))))) (sym h.whole.bytes)
    ∙ ap (λ k. option_map (bad (t.whole.count + 1)) (too_long_cause (nat_lt 4096 n || nat_lt 268435456 (t.whole.bytes + k)))) size

pub shown-too_long : (t : TextState) (text rest : List ℕ) (n : ℕ) (c : Bool) → HasText t text → HasNoLineFeed rest → 0 < length rest → n ≡ length t.line + length rest
    → (nat_lt 4096 n || nat_lt 268435456 (t.whole.bytes + n)) ≡ c → shown_of (text ++ rest) ≡ option_map (bad (t.whole.count + 1)) (too_long_cause c)
shown-too_long t text rest n c h o some e k = shown-more t text rest n h o some e ∙ ap (λ b. option_map (bad (t.whole.count + 1)) (too_long_cause b)) k

pub text-held : (t after : TextState) (text rest : List ℕ) → HasText t text → HasNoLineFeed rest → after.whole ≡ t.whole → after.line ≡ t.line ++ rest → shown_of (text ++ rest) ≡ None → HasText after (text ++ rest)
text-held t after text rest h o whole line none = record {
  whole = subst (λ w. HasLines w (whole_lines (text ++ rest))) (sym whole) (subst (HasLines t.whole) (sym (whole-held text rest o)) h.whole);
  line = line ∙ ap (λ l. l ++ rest) h.line ∙ sym (last-held text rest o);
  none_shown = none;
}

-- a fault on a front is the fault on each text with that front
pub answers_more : (f : TextFault) (front rest : List ℕ) → Answers {A = Unit {0}} (Err f) (shown_of front) → Answers {A = Unit {0}} (Err f) (shown_of (front ++ rest))
answers_more (fault.Bad line why) front rest h = shown_more front rest (bad line why) h
answers_more fault.NoMemory front rest h = tt

-- A piece is what was taken, the next line and the others.
pub piece-front : (text taken end others rest piece : List ℕ) → taken ++ rest ≡ piece → end ++ others ≡ rest → ((text ++ taken) ++ end) ++ others ≡ text ++ piece
piece-front text taken end others rest piece e h =
    append_assoc (text ++ taken) end others ∙ append_assoc text taken (end ++ others) ∙ ap (λ l. text ++ (taken ++ l)) h ∙ ap (λ l. text ++ l) e

-- behind the lines of a piece comes its rest
pub text-rest : (r : Result (Unit {0}) TextFault) (t between after : TextState) (taken rest piece : List ℕ) → taken ++ rest ≡ piece → ((text : List ℕ) → HasText t text → HasText between (text ++ taken))
    → OnOk r ((text : List ℕ) → HasText between text → HasText after (text ++ rest)) → OnOk r ((text : List ℕ) → HasText t text → HasText after (text ++ piece))
text-rest (Err f) t between after taken rest piece e reads ok = tt
text-rest (Ok u) t between after taken rest piece e reads ok = λ text h. subst (HasText after) (append_assoc text taken rest ∙ ap (λ l. text ++ l) e) (ok (text ++ taken) (reads text h))

-- The end of the text.

pub first-last : (lines : List (List ℕ)) (line : List ℕ) → HasNoLineFeed line → 0 < length line → first_bad cause_of lines (lines_of line) ≡ option_map (bad (length lines + 1)) (cause_of lines line)
first-last lines line h n = ap (first_bad cause_of lines) (lines-open line h n) ∙ or_none (option_map (bad (length lines + 1)) (cause_of lines line))

pub lines-last : (r : Result (Unit {0}) TextFault) (w after : LinesState) (line : List ℕ) → HasNoLineFeed line → 0 < length line
    → OnOk r ((lines : List (List ℕ)) → HasLines w lines → HasLines after (lines ++ line ∷ [])) → OnOk r ((lines : List (List ℕ)) → HasLines w lines → HasLines after (lines ++ lines_of line))
lines-last (Err f) w after line o n ok = tt
lines-last (Ok u) w after line o n ok = λ lines h. subst (λ ls. HasLines after (lines ++ ls)) (sym (lines-open line o n)) (ok lines h)

-- the first bad line of a text whose front shows none
pub first-text : (t : TextState) (text : List ℕ) → HasText t text → first_bad cause_of [] (lines_of text) ≡ first_bad cause_of (whole_lines text) (lines_of t.line)
first-text t text h =
    ap (first_bad cause_of []) (lines-alone text)
    ∙ first_bad-append cause_of [] (whole_lines text) (lines_of (last_line text))
    ∙ ap (λ o. option_or o (first_bad cause_of (whole_lines text) (lines_of (last_line text)))) h.whole.none_bad
    ∙ ap (λ l. first_bad cause_of (whole_lines text) (lines_of l)) (sym h.line)

pub lines-text : (t : TextState) (text : List ℕ) → HasText t text → whole_lines text ++ lines_of t.line ≡ lines_of text
lines-text t text h = ap (λ l. whole_lines text ++ lines_of l) h.line ∙ sym (lines-alone text)

-- a fault of the last line is the fault of the text
pub gives_bad : (f : TextFault) (t : TextState) (text : List ℕ) → HasText t text → Answers {A = Unit {0}} (Err f) (first_bad cause_of (whole_lines text) (lines_of t.line)) → Gives (Err f) (input_of text)
gives_bad (fault.Bad line why) t text h a = ap (job_of_lines (lines_of text)) (first-text t text h ∙ a)
gives_bad fault.NoMemory t text h a = tt

pub gives_lines : (r : Result Job TextFault) (t : TextState) (text : List ℕ) → HasText t text → first_bad cause_of (whole_lines text) (lines_of t.line) ≡ None
    → Gives r (job_of_lines (whole_lines text ++ lines_of t.line) None) → Gives r (input_of text)
gives_lines r t text h none g =
    subst (Gives r) (ap (λ ls. job_of_lines ls None) (lines-text t text h) ∙ ap (job_of_lines (lines_of text)) (sym (first-text t text h ∙ none))) g

-- How long a text is that shows no bad line.

few-last : (before : List (List ℕ)) (line : List ℕ) → HasNoLineFeed line → length (flat_map (λ l. l) before) ≤ MAX_INPUT → first_bad cause_shown before (lines_of line) ≡ None
    → length (flat_map (λ l. l) before) + length line ≤ MAX_INPUT
few-last before [] o few h = omega (arith, few)
few-last before (b ∷ line) o few h =
    let none : cause_shown before (b ∷ line) ≡ None
    = map_none (bad (length before + 1)) (cause_shown before (b ∷ line)) (sym (or_none (option_map (bad (length before + 1)) (cause_shown before (b ∷ line)))) ∙ ap (first_bad cause_shown before) (sym (lines_one b line o)) ∙ h)
    in few-open before (b ∷ line) (not_long (is_too_long before (b ∷ line)) (sym (cause-open before (b ∷ line) o) ∙ none))
  where
    not_long : (c : Bool) → too_long_cause c ≡ None → c ≡ false
    not_long true k = absurd (let x : Some causes.TooLong ≡ None = k in cc)
    not_long false k = refl

pub few-text : (t : TextState) (text : List ℕ) → HasText t text → t.whole.bytes ≤ MAX_INPUT → length text ≤ MAX_INPUT
few-text t text h few =
    let whole : length (flat_map (λ l. l) (whole_lines text)) ≤ MAX_INPUT = omega (arith, h.whole.bytes, few)
    in let all : length (flat_map (λ l. l) (whole_lines text)) + length (last_line text) ≤ MAX_INPUT
    = few-last (whole_lines text) (last_line text) (last_has_no_line_feed text) whole (none_of_last text h.none_shown)
    in omega (arith, length-text text, all)
