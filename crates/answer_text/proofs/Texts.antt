-- What was written and what waits, as more text comes behind.
use Rattle.std.proofs.Common.{◌≡◌, ℕ, ◌+◌, ◌<◌, List, [], ◌∷◌, ◌++◌, Option, length, get_or, take, drop, flat_map, sym, ap, subst, ◌∙◌, append_assoc, append-nil}
use Rattle.std.proofs.lemmas.Grind.{flat_map-append}
use Rattle.std.proofs.lemmas.List.{take-append-drop, take_more}
use Rattle.grape_port.specs.Ports.{Appends, AppendsFront}
use Rattle.grape_port.proofs.Writes.{appends_both}
use Rattle.answer_text.specs.Waiting.{Puts}

-- a front of a text is a front of a longer one
pub front_of_more : (before after : Option (List ℕ)) (text more : List ℕ) → AppendsFront before text after → AppendsFront before (text ++ more) after
front_of_more before after text more f =
    (f.0, f.1 ++ more, ap (λ (t : List ℕ). t ++ more) f.2 ∙ append_assoc f.0 f.1 more, f.3)

-- a text is a front of itself
pub all_is_front : (before after : Option (List ℕ)) (text : List ℕ) → Appends before text after → AppendsFront before text after
all_is_front before after text a = (text, [], sym (append-nil text), a)

module _ (before middle after : Option (List ℕ)) (waiting text rest : List ℕ) (put : Puts before waiting text middle rest) where
  -- more comes behind what waits
  pub puts_more : (more : List ℕ) → Puts before waiting (text ++ more) middle (rest ++ more)
  puts_more more =
      (put.0, sym (append_assoc waiting text more) ∙ ap (λ (t : List ℕ). t ++ more) put.1 ∙ append_assoc put.0 rest more, put.2)

  -- what waits is written out, and more comes behind
  pub puts_after_room : (room more : List ℕ) → Puts middle rest [] after room → Puts before waiting (text ++ more) after (room ++ more)
  puts_after_room room more next = (
    put.0 ++ next.0,
    sym (append_assoc waiting text more) ∙ ap (λ (t : List ℕ). t ++ more) (put.1 ∙ ap (λ (t : List ℕ). put.0 ++ t) (sym (append-nil rest) ∙ next.1) ∙ sym (append_assoc put.0 next.0 room)) ∙ append_assoc (put.0 ++ next.0) room more,
    appends_both before middle after put.0 next.0 put.2 next.2,
  )

  -- a front of what waits is written
  pub puts_then_front : AppendsFront middle rest after → AppendsFront before (waiting ++ text) after
  puts_then_front f = (
    put.0 ++ f.0,
    f.1,
    put.1 ∙ ap (λ (t : List ℕ). put.0 ++ t) f.2 ∙ sym (append_assoc put.0 f.0 f.1),
    appends_both before middle after put.0 f.0 put.2 f.3,
  )

  -- all that waits is written
  pub puts_then_all : Appends middle rest after → Appends before (waiting ++ text) after
  puts_then_all a =
      subst (λ (t : List ℕ). Appends before t after) (sym put.1) (appends_both before middle after put.0 rest put.2 a)

  -- the same, with more behind
  pub puts_end-front : (more : List ℕ) → AppendsFront middle (rest ++ more) after → AppendsFront before ((waiting ++ text) ++ more) after
  puts_end-front more f = (
    put.0 ++ f.0,
    f.1,
    ap (λ (t : List ℕ). t ++ more) put.1 ∙ append_assoc put.0 rest more ∙ ap (λ (t : List ℕ). put.0 ++ t) f.2 ∙ sym (append_assoc put.0 f.0 f.1),
    appends_both before middle after put.0 f.0 put.2 f.3,
  )

  pub puts_end-all : (more : List ℕ) → Appends middle (rest ++ more) after → Appends before ((waiting ++ text) ++ more) after
  puts_end-all more a =
      let whole : (waiting ++ text) ++ more ≡ put.0 ++ (rest ++ more) = ap (λ (t : List ℕ). t ++ more) put.1 ∙ append_assoc put.0 rest more
      in subst (λ (t : List ℕ). Appends before t after) (sym whole) (appends_both before middle after put.0 (rest ++ more) put.2 a)

-- a front of the first lines is a front of all
pub front_of_lines : {X : Type 0} (line : X → List ℕ) (xs : List X) (i : ℕ) (before after : Option (List ℕ)) (waiting : List ℕ)
    → AppendsFront before (waiting ++ flat_map line (take i xs)) after → AppendsFront before (waiting ++ flat_map line xs) after
front_of_lines line xs i before after waiting f =
    let whole : (waiting ++ flat_map line (take i xs)) ++ flat_map line (drop i xs) ≡ waiting ++ flat_map line xs = append_assoc waiting (flat_map line (take i xs)) (flat_map line (drop i xs)) ∙ ap (λ (t : List ℕ). waiting ++ t) (sym (flat_map-append line (take i xs) (drop i xs)) ∙ ap (flat_map line) (take-append-drop i xs))
    in subst (λ (t : List ℕ). AppendsFront before t after) whole (front_of_more before after _ (flat_map line (drop i xs)) f)

-- the first lines, and one more
flat_map-next : {X : Type 0} (line : X → List ℕ) (xs : List X) (i : ℕ) (d : X) → i < length xs → flat_map line (take i xs) ++ line (get_or xs i d) ≡ flat_map line (take (i + 1) xs)
flat_map-next line xs i d within =
    ap (λ (t : List ℕ). flat_map line (take i xs) ++ t) (sym (append-nil (line (get_or xs i d)))) ∙ sym (flat_map-append line (take i xs) (get_or xs i d ∷ [])) ∙ ap (flat_map line) (sym (take_more xs i d within))

-- one more line is put, for which room was made
pub puts_line : {X : Type 0} (line : X → List ℕ) (xs : List X) (i : ℕ) (d : X) (before middle after : Option (List ℕ)) (waiting rest room now : List ℕ)
    → i < length xs → Puts before waiting (flat_map line (take i xs)) middle rest → Puts middle rest [] after room
    → now ≡ room ++ line (get_or xs i d) → Puts before waiting (flat_map line (take (i + 1) xs)) after now
puts_line line xs i d before middle after waiting rest room now within put made added =
    let next = puts_after_room before middle after waiting (flat_map line (take i xs)) rest put room (line (get_or xs i d)) made
    in subst (λ (t : List ℕ). Puts before waiting (flat_map line (take (i + 1) xs)) after t) (sym added)
    (subst (λ (t : List ℕ). Puts before waiting t after (room ++ line (get_or xs i d))) (flat_map-next line xs i d within) next)

-- one piece of text more behind what was there
pub behind_both : (before text more : List ℕ) (now next : List ℕ) → now ≡ before ++ text → next ≡ now ++ more → next ≡ before ++ (text ++ more)
behind_both before text more now next h g = g ∙ ap (λ (t : List ℕ). t ++ more) h ∙ append_assoc before text more
