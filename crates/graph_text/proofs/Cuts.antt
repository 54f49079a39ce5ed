-- The first bad line of a text that is cut: that of its front, or else that of the rest.
use Rattle.std.proofs.Common.{◌≡◌, ℕ, ◌+◌, Bool, true, false, cond, ◌||◌, List, [], ◌∷◌, ◌++◌, length, Option, Some, None, refl, sym, ◌∙◌, ap, append_assoc, append-nil}
use Rattle.std.proofs.lemmas.Option.{same_Some}
use Rattle.std.specs.Prelude.{option_map}
use Rattle.std.specs.Option.{option_or}
use Rattle.line_statements.specs.declared.why.Why.{Why}
use Rattle.line_statements.specs.declared.why.Why.TheVariants as causes
use Rattle.text_lines.specs.Lines.{lines_of, whole_lines, last_line, HasNoLineFeed, is_ended, is_too_long}
use Rattle.text_lines.proofs.Cuts.{lines-front, AreEnded, whole_are_ended, last_has_no_line_feed, not_ended, GoesOn, goes_on, too_long_stays, lines_one}
use Rattle.graph_text.specs.Input.{BadLine, bad, cause_of, cause_shown, first_bad}

option_or_assoc : {A : Type 0} (a b c : Option A) → option_or a (option_or b c) ≡ option_or (option_or a b) c
option_or_assoc None b c = refl
option_or_assoc (Some x) b c = refl

-- the first bad line is the first one of the front, or else of the rest
pub first_bad-append : (cause : List (List ℕ) → List ℕ → Option Why) (before xs ys : List (List ℕ))
    → first_bad cause before (xs ++ ys) ≡ option_or (first_bad cause before xs) (first_bad cause (before ++ xs) ys)
first_bad-append cause before [] ys = ap (λ b. first_bad cause b ys) (sym (append-nil before))
first_bad-append cause before (x ∷ xs) ys =
    let o : Option BadLine = option_map (bad (length before + 1)) (cause before x)
    in let inner : first_bad cause (before ++ x ∷ []) (xs ++ ys) ≡ option_or (first_bad cause (before ++ x ∷ []) xs) (first_bad cause (before ++ x ∷ [] ++ xs) ys)
    = first_bad-append cause (before ++ x ∷ []) xs ys
    in let moved : before ++ x ∷ [] ++ xs ≡ before ++ (x ∷ xs) = append_assoc before (x ∷ []) xs
    in ap (option_or o) inner
    ∙ option_or_assoc o (first_bad cause (before ++ x ∷ []) xs) (first_bad cause (before ++ x ∷ [] ++ xs) ys)
    ∙ ap (λ b. option_or (option_or o (first_bad cause (before ++ x ∷ []) xs)) (first_bad cause b ys)) moved

pub cause_ended : (before : List (List ℕ)) (line : List ℕ) → is_ended line ≡ true → cause_shown before line ≡ cause_of before line
cause_ended before line e = rw e refl

-- of lines that have ended, what is bad so far is what is bad
pub first_bad-ended : (before lines : List (List ℕ)) → AreEnded lines → first_bad cause_shown before lines ≡ first_bad cause_of before lines
first_bad-ended before [] h = refl
first_bad-ended before (line ∷ lines) h =
    ap (λ o. option_or (option_map (bad (length before + 1)) o) (first_bad cause_shown (before ++ line ∷ []) lines)) (cause_ended before line h.0)
    ∙ ap (option_or (option_map (bad (length before + 1)) (cause_of before line))) (first_bad-ended (before ++ line ∷ []) lines h.1)

-- a line that goes on is bad so far only if it is too long
pub cause_open : (before : List (List ℕ)) (line : List ℕ) (why : Why) → is_ended line ≡ false → cause_shown before line ≡ Some why → (is_too_long before line ≡ true) × (why ≡ causes.TooLong)
cause_open before line why e h = open_step (is_ended line) (is_too_long before line) e refl h where
  open_step : (c d : Bool) → c ≡ false → is_too_long before line ≡ d → cond (c || d) (cause_of before line) None ≡ Some why → (is_too_long before line ≡ true) × (why ≡ causes.TooLong)
  open_step false false e f h = absurd (let x : None ≡ Some why = h in cc)
  open_step true d e f h = absurd (let x : true ≡ false = e in cc)
  open_step false true e f h = (f, sym (same_Some _ _ (sym (let t : cause_of before line ≡ Some causes.TooLong = rw f refl in t) ∙ h)))

-- The lines of a text whose front has these whole lines and this last one show the bad line of the front.
shown_whole : (whole more : List (List ℕ)) (b : BadLine) → AreEnded whole → first_bad cause_shown [] whole ≡ Some b → first_bad cause_of [] (whole ++ more) ≡ Some b
shown_whole whole more b ended h = first_bad-append cause_of [] whole more ∙ ap (λ o. option_or o (first_bad cause_of whole more)) (sym (first_bad-ended [] whole ended) ∙ h)

-- the first bad line of lines that go on where the last of the front is not whole
module _ (whole : List (List ℕ)) (line rest : List ℕ) (b : BadLine) (ended : AreEnded whole) (open_line : HasNoLineFeed line) (g : GoesOn line rest) where
  too_long_first : (o : Option Why) → cause_shown whole line ≡ o → first_bad cause_of [] whole ≡ None → option_or (option_map (bad (length whole + 1)) o) None ≡ Some b
      → first_bad cause_of [] (whole ++ lines_of (line ++ rest)) ≡ Some b
  too_long_first None e none h = absurd (let x : None ≡ Some b = h in cc)
  too_long_first (Some cause) e none h =
      let long : (is_too_long whole line ≡ true) × (cause ≡ causes.TooLong) = cause_open whole line cause (not_ended line open_line) e
      in let stays : is_too_long whole (line ++ g.start) ≡ true = too_long_stays whole line g.start open_line long.0
      in let first : cause_of whole (line ++ g.start) ≡ Some causes.TooLong = rw stays refl
      in let here : bad (length whole + 1) cause ≡ b = same_Some _ _ h
      in ap (λ ls. first_bad cause_of [] (whole ++ ls)) g.is
      ∙ first_bad-append cause_of [] whole ((line ++ g.start) ∷ g.more)
      ∙ ap (λ o. option_or o (first_bad cause_of whole ((line ++ g.start) ∷ g.more))) none
      ∙ ap (λ o. option_or (option_map (bad (length whole + 1)) o) (first_bad cause_of (whole ++ (line ++ g.start) ∷ []) g.more)) first
      ∙ ap (λ c. Some (bad (length whole + 1) c)) (sym long.1)
      ∙ ap Some here

  shown_step : (o : Option BadLine) → first_bad cause_shown [] whole ≡ o → option_or o (first_bad cause_shown whole (line ∷ [])) ≡ Some b
      → first_bad cause_of [] (whole ++ lines_of (line ++ rest)) ≡ Some b
  shown_step (Some first) e h = shown_whole whole (lines_of (line ++ rest)) b ended (e ∙ h)
  shown_step None e h = too_long_first (cause_shown whole line) refl (sym (first_bad-ended [] whole ended) ∙ e) h

  shown_open : first_bad cause_shown [] (whole ++ line ∷ []) ≡ Some b → first_bad cause_of [] (whole ++ lines_of (line ++ rest)) ≡ Some b
  shown_open h = shown_step (first_bad cause_shown [] whole) refl (sym (first_bad-append cause_shown [] whole (line ∷ [])) ∙ h)

shown_by_last : (whole : List (List ℕ)) (last rest : List ℕ) (b : BadLine) → AreEnded whole → HasNoLineFeed last
    → first_bad cause_shown [] (whole ++ lines_of (last ++ [])) ≡ Some b → first_bad cause_of [] (whole ++ lines_of (last ++ rest)) ≡ Some b
shown_by_last whole [] rest b ended h e = shown_whole whole (lines_of rest) b ended (ap (first_bad cause_shown []) (sym (append-nil whole)) ∙ e)
shown_by_last whole (c ∷ last) rest b ended h e =
    let one : lines_of (c ∷ last ++ []) ≡ (c ∷ last) ∷ [] = ap lines_of (append-nil (c ∷ last)) ∙ lines_one c last h
    in shown_open whole (c ∷ last) rest b ended h (goes_on c last rest h) (ap (λ ls. first_bad cause_shown [] (whole ++ ls)) (sym one) ∙ e)

-- what a front shows is the first bad line of a text with that front
pub shown_first : (front rest : List ℕ) (b : BadLine) → first_bad cause_shown [] (lines_of front) ≡ Some b → first_bad cause_of [] (lines_of (front ++ rest)) ≡ Some b
shown_first front rest b h =
    let alone : lines_of front ≡ whole_lines front ++ lines_of (last_line front ++ []) = ap lines_of (sym (append-nil front)) ∙ lines-front front []
    in ap (first_bad cause_of []) (lines-front front rest)
    ∙ shown_by_last (whole_lines front) (last_line front) rest b (whole_are_ended front) (last_has_no_line_feed front) (ap (first_bad cause_shown []) (sym alone) ∙ h)
