-- What a text shows as it grows.
use Rattle.std.proofs.Common.{◌≡◌, ℕ, ◌+◌, ◌<◌, Bool, true, false, cond, ◌||◌, List, [], ◌∷◌, ◌++◌, length, Option, Some, None, refl, sym, ◌∙◌, ap}
use Rattle.std.specs.Prelude.{option_map}
use Rattle.std.specs.Option.{option_or}
use Rattle.line_statements.specs.declared.why.Why.{Why}
use Rattle.line_statements.specs.declared.why.Why.TheVariants as causes
use Rattle.text_lines.specs.Lines.{lines_of, whole_lines, last_line, HasNoLineFeed, IsOneLine, is_ended, is_too_long}
use Rattle.text_lines.proofs.Cuts.{lines-front, whole_are_ended, last_has_no_line_feed, not_ended, GoesOn, goes_on, too_long_stays, lines_one}
use Rattle.text_lines.proofs.Growing.{no_line_feed-append, one_line-onto, one_is_ended, lines-alone, lines-line, lines-open, length_ends}
use Rattle.graph_text.specs.Input.{BadLine, bad, cause_of, cause_shown, first_bad, shown_of}
use Rattle.graph_text.proofs.Cuts.{first_bad-append, first_bad-ended, cause_ended, cause_open}

-- What a text shows, by its whole lines and its last one.

pub or_none : {A : Type 0} (o : Option A) → option_or o None ≡ o
or_none None = refl
or_none (Some x) = refl

pub none_left : {A : Type 0} (a b : Option A) → option_or a b ≡ None → a ≡ None
none_left None b h = refl
none_left (Some x) b h = h

shown-parts : (front rest : List ℕ)
    → shown_of (front ++ rest) ≡ option_or (first_bad cause_shown [] (whole_lines front)) (first_bad cause_shown (whole_lines front) (lines_of (last_line front ++ rest)))
shown-parts front rest = ap (first_bad cause_shown []) (lines-front front rest) ∙ first_bad-append cause_shown [] (whole_lines front) (lines_of (last_line front ++ rest))

shown-alone : (front : List ℕ) → shown_of front ≡ option_or (first_bad cause_shown [] (whole_lines front)) (first_bad cause_shown (whole_lines front) (lines_of (last_line front)))
shown-alone front = ap (first_bad cause_shown []) (lines-alone front) ∙ first_bad-append cause_shown [] (whole_lines front) (lines_of (last_line front))

none_of_whole : (front : List ℕ) → shown_of front ≡ None → first_bad cause_shown [] (whole_lines front) ≡ None
none_of_whole front h = none_left (first_bad cause_shown [] (whole_lines front)) (first_bad cause_shown (whole_lines front) (lines_of (last_line front))) (sym (shown-alone front) ∙ h)

-- where nothing is shown, the last line shows nothing
pub none_of_last : (front : List ℕ) → shown_of front ≡ None → first_bad cause_shown (whole_lines front) (lines_of (last_line front)) ≡ None
none_of_last front h =
    ap (λ o. option_or o (first_bad cause_shown (whole_lines front) (lines_of (last_line front)))) (sym (none_of_whole front h)) ∙ sym (shown-alone front) ∙ h

-- where nothing is shown, no whole line is bad
pub none_bad : (front : List ℕ) → shown_of front ≡ None → first_bad cause_of [] (whole_lines front) ≡ None
none_bad front h = sym (first_bad-ended [] (whole_lines front) (whole_are_ended front)) ∙ none_of_whole front h

-- what is shown next is shown by the line that goes on
shown-next : (front rest line : List ℕ) → shown_of front ≡ None → lines_of (last_line front ++ rest) ≡ line ∷ []
    → shown_of (front ++ rest) ≡ option_map (bad (length (whole_lines front) + 1)) (cause_shown (whole_lines front) line)
shown-next front rest line h e =
    shown-parts front rest
    ∙ ap (λ o. option_or o (first_bad cause_shown (whole_lines front) (lines_of (last_line front ++ rest)))) (none_of_whole front h)
    ∙ ap (first_bad cause_shown (whole_lines front)) e
    ∙ or_none (option_map (bad (length (whole_lines front) + 1)) (cause_shown (whole_lines front) line))

pub shown-ends : (front end : List ℕ) → IsOneLine end → shown_of front ≡ None
    → shown_of (front ++ end) ≡ option_map (bad (length (whole_lines front) + 1)) (cause_of (whole_lines front) (last_line front ++ end))
shown-ends front end o h =
    let one : IsOneLine (last_line front ++ end) = one_line-onto (last_line front) end (last_has_no_line_feed front) o
    in shown-next front end (last_line front ++ end) h (lines-line (last_line front ++ end) one)
    ∙ ap (option_map (bad (length (whole_lines front) + 1))) (cause_ended (whole_lines front) (last_line front ++ end) (one_is_ended (last_line front ++ end) one))

-- why a line that goes on is bad so far
abbrev pub too_long_cause : Bool → Option Why
too_long_cause true = Some causes.TooLong
too_long_cause false = None

open_step : (c d : Bool) (o : Option Why) → c ≡ false → cond (c || d) (cond d (Some causes.TooLong) o) None ≡ too_long_cause d
open_step c true o e = rw e refl
open_step c false o e = rw e refl

pub cause-open : (before : List (List ℕ)) (line : List ℕ) → HasNoLineFeed line → cause_shown before line ≡ too_long_cause (is_too_long before line)
cause-open before line h = open_step (is_ended line) (is_too_long before line) _ (not_ended line h)

pub shown-held : (front rest : List ℕ) → HasNoLineFeed rest → 0 < length rest → shown_of front ≡ None
    → shown_of (front ++ rest) ≡ option_map (bad (length (whole_lines front) + 1)) (too_long_cause (is_too_long (whole_lines front) (last_line front ++ rest)))
shown-held front rest r n h =
    let clean : HasNoLineFeed (last_line front ++ rest) = no_line_feed-append (last_line front) rest (last_has_no_line_feed front) r
    in shown-next front rest (last_line front ++ rest) h (lines-open (last_line front ++ rest) clean (length_ends (last_line front) rest n))
    ∙ ap (option_map (bad (length (whole_lines front) + 1))) (cause-open (whole_lines front) (last_line front ++ rest) clean)

-- What a front shows is shown by every text with that front.

or_true : (a b : Bool) → b ≡ true → (a || b) ≡ true
or_true true b h = refl
or_true false b h = h

long_is_shown : (before : List (List ℕ)) (line : List ℕ) → is_too_long before line ≡ true → cause_shown before line ≡ Some causes.TooLong
long_is_shown before line h = rw (or_true (is_ended line) (is_too_long before line) h, h) refl

long_more : (before : List (List ℕ)) (line rest : List ℕ) (o : Option Why) (b : BadLine) → HasNoLineFeed line → GoesOn line rest → cause_shown before line ≡ o
    → option_or (option_map (bad (length before + 1)) o) None ≡ Some b → first_bad cause_shown before (lines_of (line ++ rest)) ≡ Some b
long_more before line rest None b clean g e h = absurd (let x : None ≡ Some b = h in cc)
long_more before line rest (Some cause) b clean g e h =
    let long : (is_too_long before line ≡ true) × (cause ≡ causes.TooLong) = cause_open before line cause (not_ended line clean) e
    in let shown : cause_shown before (line ++ g.start) ≡ Some causes.TooLong = long_is_shown before (line ++ g.start) (too_long_stays before line g.start clean long.0)
    in ap (first_bad cause_shown before) g.is
    ∙ ap (λ o. option_or (option_map (bad (length before + 1)) o) (first_bad cause_shown (before ++ (line ++ g.start) ∷ []) g.more)) shown
    ∙ ap (λ c. Some (bad (length before + 1) c)) (sym long.1)
    ∙ h

last_more : (before : List (List ℕ)) (last rest : List ℕ) (b : BadLine) → HasNoLineFeed last → first_bad cause_shown before (lines_of last) ≡ Some b
    → first_bad cause_shown before (lines_of (last ++ rest)) ≡ Some b
last_more before [] rest b clean h = absurd (let x : None ≡ Some b = h in cc)
last_more before (c ∷ last) rest b clean h =
    long_more before (c ∷ last) rest (cause_shown before (c ∷ last)) b clean (goes_on c last rest clean) refl (ap (first_bad cause_shown before) (sym (lines_one c last clean)) ∙ h)

more_step : (o p q : Option BadLine) (b : BadLine) → (p ≡ Some b → q ≡ Some b) → option_or o p ≡ Some b → option_or o q ≡ Some b
more_step None p q b f h = f h
more_step (Some x) p q b f h = h

pub shown_more : (front rest : List ℕ) (b : BadLine) → shown_of front ≡ Some b → shown_of (front ++ rest) ≡ Some b
shown_more front rest b h =
    shown-parts front rest
    ∙ more_step (first_bad cause_shown [] (whole_lines front)) (first_bad cause_shown (whole_lines front) (lines_of (last_line front))) (first_bad cause_shown (whole_lines front) (lines_of (last_line front ++ rest))) b
    (last_more (whole_lines front) (last_line front) rest b (last_has_no_line_feed front))
    (sym (shown-alone front) ∙ h)
