-- Where no line is bad, the statements are within the limits and none repeats another.
use Rattle.std.proofs.Common.{◌≡◌, ℕ, ◌+◌, Bool, true, false, cond, List, [], ◌∷◌, ◌++◌, length, Option, Some, None, Result, Ok, Err, refl, sym, subst, append_assoc, append-nil}
use Rattle.std.specs.Prelude.{⊤, option_map}
use Rattle.std.specs.List.{AllByRecursion, list_any, cons_option}
use Rattle.std.specs.Option.{option_or}
use Rattle.std.specs.Result.{result_ok}
use Rattle.std.proofs.lemmas.List.Elements.{filter_map-append}
use Rattle.line_statements.specs.declared.why.Why.{Why}
use Rattle.line_statements.specs.declared.why.Why.TheVariants as causes
use Rattle.text_lines.specs.Lines.{words_of, is_too_long}
use Rattle.line_statements.specs.declared.statement.Statement.{Statement}
use Rattle.line_statements.specs.Statements.{statement_of}
use Rattle.graph_text.specs.Input.{BadLine, bad, statements_of, repeats, are_too_many, cause_among, cause_of, first_bad}
use Rattle.line_statements.proofs.Ranges.{InRange, ok_in_range}

-- no statement repeats one before it
abbrev pub AreFresh : List Statement → List Statement → Type 0
AreFresh earlier [] = ⊤
AreFresh earlier (s ∷ ss) = (list_any (repeats s) earlier ≡ false) × AreFresh (earlier ++ s ∷ []) ss

pub record AreGood (ss : List Statement) : Type 0 where
  pub in_range : AllByRecursion InRange ss
  pub fresh : AreFresh [] ss
  pub few : are_too_many ss ≡ false

fresh-push : (earlier ss : List Statement) (s : Statement) → AreFresh earlier ss → list_any (repeats s) (earlier ++ ss) ≡ false → AreFresh earlier (ss ++ s ∷ [])
fresh-push earlier [] s f h = (subst (λ e. list_any (repeats s) e ≡ false) (append-nil earlier) h, tt)
fresh-push earlier (t ∷ ss) s f h = (f.0, fresh-push (earlier ++ t ∷ []) ss s f.1 (subst (λ e. list_any (repeats s) e ≡ false) (sym (append_assoc earlier (t ∷ []) ss)) h))

all-push : (ss : List Statement) (s : Statement) → AllByRecursion InRange ss → InRange s → AllByRecursion InRange (ss ++ s ∷ [])
all-push [] s h k = (k, tt)
all-push (t ∷ ss) s h k = (h.0, all-push ss s h.1 k)

choice : (c d : Bool) → cond c (Some causes.Twice) (cond d (Some causes.TooMany) None) ≡ None → (c ≡ false) × (d ≡ false)
choice true d e = absurd (let x : Some causes.Twice ≡ None = e in cc)
choice false true e = absurd (let x : Some causes.TooMany ≡ None = e in cc)
choice false false e = (refl, refl)

-- one more good line
good_step : (ss : List Statement) (words : List (List ℕ)) (r : Result Statement Why) → statement_of words ≡ r → AreGood ss → cause_among ss r ≡ None → AreGood (ss ++ cons_option (result_ok r) [])
good_step ss words (Err why) e g h = absurd (let x : Some why ≡ None = h in cc)
good_step ss words (Ok s) e g h =
    let c : (list_any (repeats s) ss ≡ false) × (are_too_many (ss ++ s ∷ []) ≡ false) = choice (list_any (repeats s) ss) (are_too_many (ss ++ s ∷ [])) h
    in record { in_range = all-push ss s g.in_range (ok_in_range s words e); fresh = fresh-push [] ss s g.fresh c.0; few = c.1 }

long_step : (c : Bool) (o : Option Why) → cond c (Some causes.TooLong) o ≡ None → o ≡ None
long_step true o e = absurd (let x : Some causes.TooLong ≡ None = e in cc)
long_step false o e = e

good_line : (before : List (List ℕ)) (line : List ℕ) → AreGood (statements_of before) → cause_of before line ≡ None → AreGood (statements_of (before ++ line ∷ []))
good_line before line g h =
    subst AreGood (sym (filter_map-append (λ l. result_ok (statement_of (words_of l))) before (line ∷ [])))
    (good_step (statements_of before) (words_of line) (statement_of (words_of line)) refl g
    (long_step (is_too_long before line) (cause_among (statements_of before) (statement_of (words_of line))) h))

none_step : (n : ℕ) (o : Option Why) (p : Option BadLine) → option_or (option_map (bad n) o) p ≡ None → (o ≡ None) × (p ≡ None)
none_step n None p e = (refl, e)
none_step n (Some why) p e = absurd (let x : Some (bad n why) ≡ None = e in cc)

-- lines of which none is bad
pub good_lines : (before lines : List (List ℕ)) → AreGood (statements_of before) → first_bad cause_of before lines ≡ None → AreGood (statements_of (before ++ lines))
good_lines before [] g h = subst (λ ls. AreGood (statements_of ls)) (sym (append-nil before)) g
good_lines before (line ∷ lines) g h =
    let n : (cause_of before line ≡ None) × (first_bad cause_of (before ++ line ∷ []) lines ≡ None)
    = none_step (length before + 1) (cause_of before line) (first_bad cause_of (before ++ line ∷ []) lines) h
    in subst (λ ls. AreGood (statements_of ls)) (append_assoc before (line ∷ []) lines)
    (good_lines (before ++ line ∷ []) lines (good_line before line g n.0) n.1)

pub good_text : (lines : List (List ℕ)) → first_bad cause_of [] lines ≡ None → AreGood (statements_of lines)
good_text lines h = good_lines [] lines (record { in_range = tt; fresh = tt; few = refl }) h
