-- A statement has its numbers in their ranges.
use Rattle.std.proofs.Common.{◌≡◌, ℕ, suc, ◌<◌, ◌≤◌, ◌^◌, Bool, true, false, cond, ◌&&◌, ◌==◌, List, [], ◌∷◌, length, Option, Some, None, Result, Ok, Err, refl, sym, ◌∙◌, ap, subst, arith}
use Rattle.std.specs.Prelude.{⊤, IfOk, codes, bytes_eq, find}
use Rattle.std.specs.List.{AllByRecursion}
use Rattle.std.proofs.lemmas.Bool.Decides.{nat_tests}
use Rattle.std.proofs.lemmas.Option.{same_Some}
use Rattle.grape_port.specs.Decimal.{number_of}
use Rattle.graph_core.specs.declared.settings.Policy.TheVariants as policy
use Rattle.graph_core.specs.Graphs.{IsPolicy}
use Rattle.line_statements.specs.declared.why.Why.{Why}
use Rattle.line_statements.specs.declared.why.Why.TheVariants as causes
use Rattle.line_statements.specs.declared.statement.Question.{Question}
use Rattle.line_statements.specs.declared.statement.Question.TheVariants.{Distances, Labels, Reaches, Simulation}
use Rattle.line_statements.specs.declared.statement.Statement.{Statement}
use Rattle.line_statements.specs.declared.statement.Statement.TheVariants.{Nothing, Joins, Vertex, Asks, Node, Link, Fragments, Lanes, Snapshots, Cuts, Follows}
use Rattle.line_statements.specs.Statements.{Range, is_in, are_in, word32, node_number, fragment_count, lane_count, snapshot_period, rounds_ahead, batch_count, cons_number, numbers_of, statement_in, made_of, first, second, Form, completed, statement_by, edge_form, one_word_forms, query_forms, cut_forms, policy_forms, second_word_forms, statement_if, statement_among, keyword_statement, begins_with_digit, is_comment, statement_of}

abbrev pub AsksInRange : Question → Type 0
AsksInRange (Distances source) = source < 2 ^ 32
AsksInRange Labels = ⊤
AsksInRange (Reaches source) = source < 2 ^ 32
AsksInRange Simulation = ⊤

abbrev pub InRange : Statement → Type 0
InRange Nothing = ⊤
InRange (Joins edge) = (edge.from < 2 ^ 32) × (edge.to < 2 ^ 32) × (edge.weight < 2 ^ 32)
InRange (Vertex number label) = (number < 2 ^ 32) × (label < 2 ^ 32)
InRange (Asks q) = AsksInRange q
InRange (Node node) = (node.number < 64) × (node.label < 2 ^ 32)
InRange (Link link) = (link.from < 64) × (link.to < 64)
InRange (Fragments n) = (1 ≤ n) × (n ≤ 64)
InRange (Lanes n) = (1 ≤ n) × (n ≤ 16)
InRange (Snapshots n) = n < 2 ^ 32
InRange (Cuts c) = ⊤
InRange (Follows p) = IsPolicy p

pub OkInRange : Result Statement Why → Type 0
OkInRange r = IfOk r InRange

length_cons : (n : Option ℕ) (rest : Option (List ℕ)) (count : ℕ) (ns : List ℕ) → ((ms : List ℕ) → rest ≡ Some ms → length ms ≡ count) → cons_number n rest ≡ Some ns → length ns ≡ suc count
length_cons None rest count ns ih e = absurd (let x : None ≡ Some ns = e in cc)
length_cons (Some n) None count ns ih e = absurd (let x : None ≡ Some ns = e in cc)
length_cons (Some n) (Some ms) count ns ih e = ap length (sym (same_Some _ _ e)) ∙ ap suc (ih ms refl)

-- as many numbers as words
length_numbers : (words : List (List ℕ)) (ns : List ℕ) → numbers_of words ≡ Some ns → length ns ≡ length words
length_numbers [] ns e = ap length (sym (same_Some _ _ e))
length_numbers (word ∷ words) ns e = length_cons (number_of word) (numbers_of words) (length words) ns (λ ms h. length_numbers words ms h) e

pub Makes : List Range → (List ℕ → Statement) → Type 0
Makes ranges make = (ns : List ℕ) → length ns ≡ length ranges → are_in ranges ns ≡ true → InRange (make ns)

in_step : (c : Bool) (ranges : List Range) (make : List ℕ → Statement) (ns : List ℕ) → are_in ranges ns ≡ c → length ns ≡ length ranges → Makes ranges make → OkInRange (cond c (Ok (make ns)) (Err causes.Range))
unfolding Makes OkInRange
in_step true ranges make ns e l h = h ns l e
in_step false ranges make ns e l h = tt

made_in : (ranges : List Range) (make : List ℕ → Statement) (o : Option (List ℕ)) → ((ns : List ℕ) → o ≡ Some ns → length ns ≡ length ranges) → Makes ranges make → OkInRange (statement_in ranges make o)
unfolding OkInRange
made_in ranges make None l h = tt
made_in ranges make (Some ns) l h = in_step (are_in ranges ns) ranges make ns refl (l ns refl) h

made_step : (c : Bool) (ranges : List Range) (make : List ℕ → Statement) (words : List (List ℕ)) → (length words == length ranges) ≡ c → Makes ranges make → OkInRange (cond c (statement_in ranges make (numbers_of words)) (Err causes.Count))
unfolding OkInRange
made_step true ranges make words e h = made_in ranges make (numbers_of words) (λ ns k. length_numbers words ns k ∙ grind (arith, nat_tests, e)) h
made_step false ranges make words e h = tt

pub made_ok : (ranges : List Range) (make : List ℕ → Statement) (words : List (List ℕ)) → Makes ranges make → OkInRange (made_of ranges make words)
made_ok ranges make words h = made_step (length words == length ranges) ranges make words refl h

in_range : (r : Range) (n : ℕ) → is_in r n ≡ true → (r.low ≤ n) × (n ≤ r.high)
in_range r n h = (grind (arith, nat_tests, h), grind (arith, nat_tests, h))

and_left : (a b : Bool) → (a && b) ≡ true → a ≡ true
and_left true b h = refl
and_left false b h = h

and_right : (a b : Bool) → (a && b) ≡ true → b ≡ true
and_right true b h = h
and_right false b h = absurd (let x : false ≡ true = h in cc)

-- what the numbers of a statement are known by
makes_one : (r : Range) (make : List ℕ → Statement) → ((n : ℕ) → r.low ≤ n → n ≤ r.high → InRange (make (n ∷ []))) → Makes (r ∷ []) make
unfolding Makes
makes_one r make h [] l e = absurd (let x : 0 ≡ 1 = l in omega (arith, x))
makes_one r make h (n ∷ []) l e = let i : (r.low ≤ n) × (n ≤ r.high) = in_range r n (and_left (is_in r n) true e) in h n i.0 i.1
makes_one r make h (n ∷ m ∷ ns) l e = absurd (let x : suc (suc (length ns)) ≡ 1 = l in omega (arith, x))

makes_two : (r s : Range) (make : List ℕ → Statement) → ((n m : ℕ) → r.low ≤ n → n ≤ r.high → s.low ≤ m → m ≤ s.high → InRange (make (n ∷ m ∷ []))) → Makes (r ∷ s ∷ []) make
unfolding Makes
makes_two r s make h [] l e = absurd (let x : 0 ≡ 2 = l in omega (arith, x))
makes_two r s make h (n ∷ []) l e = absurd (let x : 1 ≡ 2 = l in omega (arith, x))
makes_two r s make h (n ∷ m ∷ []) l e =
    let i : (r.low ≤ n) × (n ≤ r.high) = in_range r n (and_left (is_in r n) (is_in s m && true) e)
    in let j : (s.low ≤ m) × (m ≤ s.high) = in_range s m (and_left (is_in s m) true (and_right (is_in r n) (is_in s m && true) e))
    in h n m i.0 i.1 j.0 j.1
makes_two r s make h (n ∷ m ∷ k ∷ ns) l e = absurd (let x : suc (suc (suc (length ns))) ≡ 2 = l in omega (arith, x))

makes_three : (r s t : Range) (make : List ℕ → Statement)
    → ((n m k : ℕ) → r.low ≤ n → n ≤ r.high → s.low ≤ m → m ≤ s.high → t.low ≤ k → k ≤ t.high → InRange (make (n ∷ m ∷ k ∷ []))) → Makes (r ∷ s ∷ t ∷ []) make
unfolding Makes
makes_three r s t make h [] l e = absurd (let x : 0 ≡ 3 = l in omega (arith, x))
makes_three r s t make h (n ∷ []) l e = absurd (let x : 1 ≡ 3 = l in omega (arith, x))
makes_three r s t make h (n ∷ m ∷ []) l e = absurd (let x : 2 ≡ 3 = l in omega (arith, x))
makes_three r s t make h (n ∷ m ∷ k ∷ []) l e =
    let i : (r.low ≤ n) × (n ≤ r.high) = in_range r n (and_left (is_in r n) (is_in s m && (is_in t k && true)) e)
    in let rest : (is_in s m && (is_in t k && true)) ≡ true = and_right (is_in r n) (is_in s m && (is_in t k && true)) e
    in let j : (s.low ≤ m) × (m ≤ s.high) = in_range s m (and_left (is_in s m) (is_in t k && true) rest)
    in let o : (t.low ≤ k) × (k ≤ t.high) = in_range t k (and_left (is_in t k) true (and_right (is_in s m) (is_in t k && true) rest))
    in h n m k i.0 i.1 j.0 j.1 o.0 o.1
makes_three r s t make h (n ∷ m ∷ k ∷ j ∷ ns) l e = absurd (let x : suc (suc (suc (suc (length ns)))) ≡ 3 = l in omega (arith, x))

-- each form of a table makes statements in range
abbrev pub FormMakes : Form → Type 0
FormMakes form = Makes form.ranges form.says

edge_makes : FormMakes edge_form
edge_makes = makes_three word32 word32 word32 edge_form.says (λ n m k a b c d e f. (omega (arith, b), omega (arith, d), omega (arith, f)))

queries_make : AllByRecursion FormMakes query_forms
unfolding Makes
queries_make = (
  makes_one word32 (λ ns. Asks (Distances (first ns))) (λ n a b. omega (arith, b)),
  ((λ ns l e. tt), (makes_one word32 (λ ns. Asks (Reaches (first ns))) (λ n a b. omega (arith, b)), ((λ ns l e. tt), tt))),
)

one_words_make : AllByRecursion FormMakes one_word_forms
one_words_make = (
  makes_two word32 word32 (λ ns. Vertex (first ns) (second ns)) (λ n m a b c d. (omega (arith, b), omega (arith, d))),
  (
    makes_two node_number word32 (λ ns. Node (record { number = first ns; label = second ns })) (λ n m a b c d. (omega (arith, b), omega (arith, d))),
    (
      makes_two node_number node_number (λ ns. Link (record { from = first ns; to = second ns })) (λ n m a b c d. (omega (arith, b), omega (arith, d))),
      (
        makes_one fragment_count (λ ns. Fragments (first ns)) (λ n a b. (a, b)),
        (
          makes_one lane_count (λ ns. Lanes (first ns)) (λ n a b. (a, b)),
          (makes_one snapshot_period (λ ns. Snapshots (first ns)) (λ n a b. omega (arith, b)), tt),
        ),
      ),
    ),
  ),
)

cuts_make : AllByRecursion FormMakes cut_forms
unfolding Makes
cuts_make = ((λ ns l e. tt), ((λ ns l e. tt), tt))

policies_make : AllByRecursion FormMakes policy_forms
unfolding Makes
policies_make = (
  (λ ns l e. tt),
  (
    (λ ns l e. tt),
    (
      makes_one rounds_ahead (λ ns. Follows (policy.Ssp (first ns))) (λ n a b. b),
      (makes_two rounds_ahead batch_count (λ ns. Follows (policy.Aap (first ns) (second ns))) (λ n m a b c d. (b, c, d)), tt),
    ),
  ),
)

found_step : (c : Bool) (form : Form) (o : Option Form) (words : List (List ℕ)) → FormMakes form → OkInRange (statement_if o words) → OkInRange (statement_if (cond c (Some form) o) words)
found_step true form o words h k = made_ok form.ranges form.says (completed form.last (length form.ranges) words) h
found_step false form o words h k = k

found_in : (test : Form → Bool) (forms : List Form) (words : List (List ℕ)) → AllByRecursion FormMakes forms → OkInRange (statement_if (find test forms) words)
unfolding OkInRange
found_in test [] words h = tt
found_in test (form ∷ forms) words h = found_step (test form) form (find test forms) words h.0 (found_in test forms words h.1)

among_in : (forms : List Form) (words : List (List ℕ)) → AllByRecursion FormMakes forms → OkInRange (statement_among forms words)
unfolding OkInRange
among_in forms [] h = tt
among_in forms (word ∷ words) h = found_in (λ form. bytes_eq word form.keyword) forms words h

keyword_step : (b c d : Bool) (word : List ℕ) (words : List (List ℕ)) → OkInRange (keyword_statement (cond b (Some query_forms) (cond c (Some cut_forms) (cond d (Some policy_forms) None))) word words)
keyword_step true c d word words = among_in query_forms words queries_make
keyword_step false true d word words = among_in cut_forms words cuts_make
keyword_step false false true word words = among_in policy_forms words policies_make
keyword_step false false false word words = among_in one_word_forms (word ∷ words) one_words_make

line_step : (b c : Bool) (word : List ℕ) (words : List (List ℕ)) → OkInRange (cond b (Ok Nothing) (cond c (statement_by edge_form (word ∷ words)) (keyword_statement (second_word_forms word) word words)))
unfolding OkInRange
line_step true c word words = tt
line_step false true word words = made_ok edge_form.ranges edge_form.says (completed edge_form.last 3 (word ∷ words)) edge_makes
line_step false false word words = keyword_step (bytes_eq word (codes "query")) (bytes_eq word (codes "cut")) (bytes_eq word (codes "policy")) word words

-- what a line says has its numbers in range
pub statement_is_in_range : (words : List (List ℕ)) → OkInRange (statement_of words)
unfolding OkInRange
statement_is_in_range [] = tt
statement_is_in_range (word ∷ words) = line_step (is_comment word) (begins_with_digit word) word words

pub ok_in_range : (s : Statement) (words : List (List ℕ)) → statement_of words ≡ Ok s → InRange s
unfolding OkInRange
ok_in_range s words e = subst OkInRange e (statement_is_in_range words)
