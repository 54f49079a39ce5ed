-- What the command makes of words without a hyphen in front.
use Rattle.std.proofs.Common.{◌≡◌, ◌≢◌, ◌∙◌, ◌⊎◌, inl, inr, ⊎_elim, ◌&&◌, ◌||◌, ◌^◌, ℕ, suc, Bool, true, false, true≢false, append-nil, refl, sym, subst, ap, ap₂, List, [], ◌∷◌, ◌++◌, length, map, Option, Some, None, is_some, Result, codes, append_assoc, eqb-true, nat_le, nat_lt}
use Rattle.std.specs.Prelude.{if◌then◌else◌}
use Rattle.std.specs.Str.{bytes_eq}
use Rattle.std.specs.List.{fold, list_all, list_any}
use Rattle.std.specs.Option.{ok_or, option_and_then, option_map_or}
use Rattle.clap.specs.Lexer.{long_of, long_of_rest, short_of, short_of_rest, strip_byte}
use Rattle.clap.specs.Walk.{finished, Held, Row, Rule, Walk, Step, idle, long_or_other, positional, short_or_plain, trailing, value, nothing_held, walk, walk_from, walked, word_met}
use Rattle.clap.specs.Simple.{Shape, built, entered, matches_of}
use Rattle.clap.specs.Takes.{bundle_passes, default_passes, entered_passes, flag_word_passes, is_valid, other_passes, settle_passes, step_passes, takes, turn_passes, walk_passes}
use Rattle.clap.specs.declared.parser.matches.ValueSource.TheVariants.{CommandLine}
use Rattle.clap.specs.declared.builder.value_parser.Reading.TheVariants as reading
use Rattle.grape_port.specs.Decimal.{digits_value, number_of}
use Rattle.command_words.specs.Command.{Answers, is_dashed, mode_in, words_app}
use Rattle.command_words.specs.Grammar.{generated_by, mode_of}
use Rattle.command_words.specs.declared.words.Mode.{Mode}
use Rattle.command_words.specs.declared.words.WordFault.{WordFault}
use Rattle.command_words.specs.declared.words.WordFault.TheVariants as fault

abbrev rules : List Rule
rules = (built words_app).top.rules

-- such a word is no flag
not_last : (w : List ℕ) → is_dashed w ≡ false → bytes_eq w (45 ∷ 45 ∷ []) ≡ false
not_last [] plain = refl
not_last (x ∷ xs) plain = rw plain refl

no_long : (w : List ℕ) → is_dashed w ≡ false → long_of w ≡ None
no_long [] plain = refl
no_long (x ∷ xs) plain = ap (λ b. option_and_then long_of_rest (option_and_then (strip_byte 45) (if b then Some xs else None))) plain

no_short : (w : List ℕ) → is_dashed w ≡ false → short_of w ≡ None
no_short [] plain = refl
no_short (x ∷ xs) plain = ap (λ b. option_and_then short_of_rest (if b then Some xs else None)) plain

-- so it is the value of a positional
idle_word : (w : List ℕ) (h : Held) (p : ℕ) → is_dashed w ≡ false → word_met rules [] false idle p w h ≡ (h, value)
idle_word w h p plain =
    ap (λ b. if b then (h, trailing p) else long_or_other rules idle w (long_of w) h) (not_last w plain)
    ∙ ap (λ l. long_or_other rules idle w l h) (no_long w plain)
    ∙ ap (λ s. short_or_plain rules idle w s h) (no_short w plain)

positional_word : (w : List ℕ) (h : Held) (p : ℕ) → is_dashed w ≡ false → word_met rules [] false positional p w h ≡ (h, value)
positional_word w h p plain =
    ap (λ b. if b then (h, trailing p) else long_or_other rules positional w (long_of w) h) (not_last w plain)
    ∙ ap (λ l. long_or_other rules positional w l h) (no_long w plain)
    ∙ ap (λ s. short_or_plain rules positional w s h) (no_short w plain)

abbrev mode_row : List ℕ → Row
mode_row word = record { id = codes "mode"; values = word ∷ []; count = None; source = Some CommandLine; reading = reading.AsWritten }

abbrev rest_row : List (List ℕ) → Row
rest_row words = record { id = codes "rest"; values = words; count = None; source = Some CommandLine; reading = reading.AsWritten }

-- where the walk stands after the first word, and after others
abbrev first_held : List ℕ → Held
first_held word = record { rows = []; pending = Some (codes "mode", word ∷ []); skip = 0 }

abbrev at_first : List ℕ → Walk
at_first word = record { held = first_held word; waiting = idle; position = 2; is_trailing = false; stopped = None }

abbrev rest_held : List ℕ → List (List ℕ) → Held
rest_held word seen = record { rows = mode_row word ∷ []; pending = Some (codes "rest", seen); skip = 0 }

abbrev at_rest : List ℕ → List (List ℕ) → Walk
at_rest word seen = record { held = rest_held word seen; waiting = positional; position = 2; is_trailing = false; stopped = None }

first_walked : (word : List ℕ) → is_dashed word ≡ false → walked rules [] (walk_from nothing_held) word ≡ at_first word
unfolding walked
first_walked word plain = rw (idle_word word nothing_held 1 plain) refl

second_walked : (word next : List ℕ) → is_dashed next ≡ false → walked rules [] (at_first word) next ≡ at_rest word (next ∷ [])
unfolding walked
second_walked word next plain = rw (idle_word next (first_held word) 2 plain) refl

more_walked : (word next : List ℕ) (seen : List (List ℕ)) → is_dashed next ≡ false → walked rules [] (at_rest word seen) next ≡ at_rest word (seen ++ next ∷ [])
unfolding walked
more_walked word next seen plain = rw (positional_word next (rest_held word seen) 2 plain) refl

left : (a b : Bool) → (a || b) ≡ false → a ≡ false
left false b e = refl
left true b e = absurd (true≢false e)

right : (a b : Bool) → (a || b) ≡ false → b ≡ false
right false b e = e
right true b e = absurd (true≢false e)

rest_walked : (word : List ℕ) (seen more : List (List ℕ)) → list_any is_dashed more ≡ false → fold (walked rules []) (at_rest word seen) more ≡ at_rest word (seen ++ more)
rest_walked word seen [] plain = ap (at_rest word) (sym (append-nil seen))
rest_walked word seen (next ∷ more) plain =
    ap (λ w. fold (walked rules []) w more) (more_walked word next seen (left _ _ plain))
    ∙ rest_walked word (seen ++ next ∷ []) more (right (is_dashed next) _ plain)
    ∙ ap (at_rest word) (append_assoc seen (next ∷ []) more)

-- the walk over all words
walked_none : walk rules [] nothing_held [] ≡ walk_from nothing_held
walked_none = refl

walked_one : (word : List ℕ) → is_dashed word ≡ false → walk rules [] nothing_held (word ∷ []) ≡ at_first word
walked_one word plain = first_walked word plain

walked_all : (word next : List ℕ) (more : List (List ℕ)) → list_any is_dashed (word ∷ next ∷ more) ≡ false → walk rules [] nothing_held (word ∷ next ∷ more) ≡ at_rest word (next ∷ more)
walked_all word next more plain =
    let behind = right (is_dashed word) _ plain in
    ap (λ w. fold (walked rules []) w (next ∷ more)) (first_walked word (left _ _ plain))
    ∙ ap (λ w. fold (walked rules []) w more) (second_walked word next (left _ _ behind))
    ∙ rest_walked word (next ∷ []) more (right (is_dashed next) _ behind)

-- the values that the command finds are the words
pub read_back : (words : List (List ℕ)) → list_any is_dashed words ≡ false → mode_in (matches_of words_app words) ≡ mode_of words
read_back [] plain = refl
read_back (word ∷ []) plain = ap (λ (w : Walk). mode_in (finished rules w.held)) (walked_one word (left _ _ plain))
read_back (word ∷ next ∷ more) plain = ap (λ (w : Walk). mode_in (finished rules w.held)) (walked_all word next more plain)

-- ---- the command takes the words

abbrev top : Shape
top = (built words_app).top

plain_passes : (w : List ℕ) (h : Held) → is_dashed w ≡ false → other_passes top None w h ≡ true
plain_passes w h plain =
    ap (λ b. b || flag_word_passes rules top.args_override_self (long_of w) w h) (not_last w plain)
    ∙ ap (λ l. flag_word_passes rules top.args_override_self l w h) (no_long w plain)
    ∙ ap (λ s. option_map_or (λ flags. bundle_passes rules top.args_override_self flags h) s true) (no_short w plain)

first_turn : (word : List ℕ) → is_dashed word ≡ false → turn_passes top [] (walk_from nothing_held) word ≡ true
first_turn word plain = ap₂ (λ p (m : Held × Step). p && step_passes top 1 m.0 m.1) (plain_passes word nothing_held plain) (idle_word word nothing_held 1 plain)

second_turn : (word next : List ℕ) → is_dashed next ≡ false → turn_passes top [] (at_first word) next ≡ true
second_turn word next plain = ap₂ (λ p (m : Held × Step). p && step_passes top 2 m.0 m.1) (plain_passes next (first_held word) plain) (idle_word next (first_held word) 2 plain)

third_turn : (word second next : List ℕ) → is_dashed next ≡ false → turn_passes top [] (at_rest word (second ∷ [])) next ≡ true
third_turn word second next plain =
    let held = rest_held word (second ∷ []) in
    ap₂ (λ p (m : Held × Step). p && step_passes top 2 m.0 m.1) (plain_passes next held plain) (positional_word next held 2 plain)

one_passes : (word : List ℕ) → is_dashed word ≡ false → walk_passes top [] (walk_from nothing_held) (word ∷ []) ≡ true
unfolding walk_passes
one_passes word plain = ap (λ t. t && true) (first_turn word plain)

three_pass : (word second third : List ℕ) → is_dashed word ≡ false → is_dashed second ≡ false → is_dashed third ≡ false
    → walk_passes top [] (walk_from nothing_held) (word ∷ second ∷ third ∷ []) ≡ true
unfolding walk_passes
three_pass word second third a b c =
    ap₂ (λ t (w : Walk). t && walk_passes top [] w (second ∷ third ∷ [])) (first_turn word a) (first_walked word a)
    ∙ ap₂ (λ t (w : Walk). t && walk_passes top [] w (third ∷ [])) (second_turn word second b) (second_walked word second b)
    ∙ ap (λ t. t && true) (third_turn word second third c)

-- whether the command takes words, by what the walk over them comes to
abbrev ended : Bool → Walk → Bool
ended passes w = entered_passes (built words_app) w.stopped
    && (passes && (settle_passes rules top.args_override_self w.held
    && (list_all default_passes rules && is_valid top (finished rules w.held) (is_some (entered (built words_app) w.stopped)))))

one_taken : (word : List ℕ) → is_dashed word ≡ false → takes words_app (word ∷ []) ≡ true
one_taken word plain = ap₂ ended (one_passes word plain) (walked_one word plain)

three_taken : (word second third : List ℕ) → list_any is_dashed (word ∷ second ∷ third ∷ []) ≡ false → takes words_app (word ∷ second ∷ third ∷ []) ≡ true
three_taken word second third plain =
    let behind = right (is_dashed word) _ plain in
    let last = right (is_dashed second) _ behind in
    ap₂ ended (three_pass word second third (left _ _ plain) (left _ _ behind) (left _ _ last)) (walked_all word second (third ∷ []) plain)

-- ---- words with a hyphen in front ask for nothing

either : (a b : Bool) → (a || b) ≡ true → (a ≡ true) ⊎ (b ≡ true)
either true b e = inl refl
either false b e = inr e

never : (a b c : Bool) → (a && b && false && c) ≡ false
never true true c = refl
never true false c = refl
never false b c = refl

no_number : (text : List ℕ) → is_dashed text ≡ true → number_of text ≡ None
no_number [] dashed = refl
no_number (x ∷ xs) dashed =
    let hyphen : x ≡ 45 = eqb-true _ _ dashed in
    let value = digits_value (45 ∷ xs) in
    ap (λ n. number_of (n ∷ xs)) hyphen
    ∙ ap (λ b. if b then Some value else None) (never (nat_le 1 (suc (length xs))) (nat_le (suc (length xs)) 20) (nat_lt value (2 ^ 64)))

no_second : (o : Option ℕ) → generated_by o None ≡ None
no_second None = refl
no_second (Some n) = refl

no_mode : (b : Bool) (o : Option Mode) → o ≡ None → (if b then o else None) ≡ None
no_mode true o e = e
no_mode false o e = refl

dashed_alone : (word : List ℕ) → is_dashed word ≡ true → mode_of (word ∷ []) ≡ None
dashed_alone [] dashed = refl
dashed_alone (x ∷ xs) dashed = ap (λ n. mode_of ((n ∷ xs) ∷ [])) (eqb-true _ _ dashed)

dashed_first : (word second third : List ℕ) → is_dashed word ≡ true → mode_of (word ∷ second ∷ third ∷ []) ≡ None
dashed_first [] second third dashed = refl
dashed_first (x ∷ xs) second third dashed = ap (λ n. mode_of ((n ∷ xs) ∷ second ∷ third ∷ [])) (eqb-true _ _ dashed)

dashed_later : (word second third : List ℕ) → (is_dashed second ≡ true) ⊎ (is_dashed third ≡ true) → mode_of (word ∷ second ∷ third ∷ []) ≡ None
dashed_later word second third (inl dashed) = no_mode (bytes_eq word (codes "demo")) _ (ap (λ o. generated_by o (number_of third)) (no_number second dashed))
dashed_later word second third (inr dashed) = no_mode (bytes_eq word (codes "demo")) _ (ap (generated_by (number_of second)) (no_number third dashed) ∙ no_second (number_of second))

behind_last : (a b : Bool) → (a || (b || false)) ≡ true → (a ≡ true) ⊎ (b ≡ true)
behind_last true b e = inl refl
behind_last false true e = inr refl
behind_last false false e = absurd (true≢false (sym e))

pub dashed_asks_nothing : (words : List (List ℕ)) → list_any is_dashed words ≡ true → mode_of words ≡ None
dashed_asks_nothing [] dashed = refl
dashed_asks_nothing (word ∷ []) dashed = ⊎_elim (dashed_alone word) (λ e. absurd (true≢false (sym e))) (either _ _ dashed)
dashed_asks_nothing (word ∷ second ∷ []) dashed = refl
dashed_asks_nothing (word ∷ second ∷ third ∷ []) dashed =
    ⊎_elim (dashed_first word second third) (λ e. dashed_later word second third (behind_last _ _ e)) (either (is_dashed word) _ dashed)
dashed_asks_nothing (word ∷ second ∷ third ∷ fourth ∷ more) dashed = refl

-- ---- the words of the grammar are taken

not_true : (b : Bool) → (b ≡ true → ⊥) → b ≡ false
not_true true never_true = absurd (never_true refl)
not_true false never_true = refl

pub taken : (words : List (List ℕ)) → mode_of words ≢ None → takes words_app words ≡ true
taken [] some = absurd (some refl)
taken (word ∷ []) some = one_taken word (left _ false (not_true _ (λ dashed. some (dashed_asks_nothing (word ∷ []) dashed))))
taken (word ∷ second ∷ []) some = absurd (some refl)
taken (word ∷ second ∷ third ∷ []) some =
    three_taken word second third (not_true _ (λ dashed. some (dashed_asks_nothing (word ∷ second ∷ third ∷ []) dashed)))
taken (word ∷ second ∷ third ∷ fourth ∷ more) some = absurd (some refl)

-- ---- what the code asks, in the words of the above

pub dash_in_texts : {X : Type 0} (text : X → List ℕ) (xs : List X) → list_any (λ x. is_dashed (text x)) xs ≡ list_any is_dashed (map text xs)
dash_in_texts text [] = refl
dash_in_texts text (x ∷ xs) = ap (λ b. is_dashed (text x) || b) (dash_in_texts text xs)

-- the values that were found ask for what the words ask for
pub values_ask : (words : List (List ℕ)) (rows : List Row) → list_any is_dashed words ≡ false → rows ≡ matches_of words_app words → mode_in rows ≡ mode_of words
values_ask words rows plain found = ap mode_in found ∙ read_back words plain

pub answered : (asked : Option Mode) (result : Result Mode WordFault) → result ≡ ok_or asked fault.Bad → Answers asked result
answered None result e = subst (Answers None) (sym e) refl
answered (Some mode) result e = subst (Answers (Some mode)) (sym e) refl

-- words that the command refuses with memory at hand ask for nothing
pub refused_asks_nothing : (words : List (List ℕ)) → (takes words_app words ≡ true → ⊥) → mode_of words ≡ None
refused_asks_nothing words refused = none_of (mode_of words) (λ some. refused (taken words some))
  where
    none_of : (asked : Option Mode) → (asked ≢ None → ⊥) → asked ≡ None
    none_of None some = refl
    none_of (Some mode) some = absurd (some (λ e. absurd (true≢false (ap is_some e))))
