-- What a line says by itself, whatever the other lines are.
use Rattle.std.specs.Prelude.{ℕ, ◌+◌, ◌-◌, ◌^◌, ◌==◌, Bool, false, ◌&&◌, ◌||◌, nat_le, if◌then◌else◌, List, [], ◌∷◌, ◌++◌, length, slice_index, Option, Some, None, Result, Ok, Err, codes, bytes_eq, zip, find}
use Rattle.std.specs.List.{list_all}
use Rattle.grape_port.specs.Decimal.{is_digit, number_of}
use Rattle.graph_core.specs.declared.settings.Cut.TheVariants as cut
use Rattle.graph_core.specs.declared.settings.Policy.TheVariants as policy
use Rattle.line_statements.specs.declared.why.Why.{Why}
use Rattle.line_statements.specs.declared.why.Why.TheVariants as causes
use Rattle.line_statements.specs.declared.statement.Question.TheVariants.{Distances, Labels, Reaches, Simulation}
use Rattle.line_statements.specs.declared.statement.Statement.{Statement}
use Rattle.line_statements.specs.declared.statement.Statement.TheVariants.{Nothing, Joins, Vertex, Asks, Node, Link, Fragments, Lanes, Snapshots, Cuts, Follows}

-- the numbers from the first to the second one
pub record Range : Type 0 where
  pub low : ℕ
  pub high : ℕ

abbrev pub is_in : Range → ℕ → Bool
is_in r n = nat_le r.low n && nat_le n r.high

-- vertex numbers, labels and weights
abbrev pub word32 : Range
word32 = record { low = 0; high = 2 ^ 32 - 1 }

-- numbers of pattern nodes
abbrev pub node_number : Range
node_number = record { low = 0; high = 63 }

-- how many fragments there may be
abbrev pub fragment_count : Range
fragment_count = record { low = 1; high = 64 }

-- how many lanes there may be
abbrev pub lane_count : Range
lane_count = record { low = 1; high = 16 }

-- after how many Takes a snapshot may be due; 0 asks for none
abbrev pub snapshot_period : Range
snapshot_period = record { low = 0; high = 2 ^ 32 - 1 }

-- how many rounds a policy may let a fragment run ahead
abbrev pub rounds_ahead : Range
rounds_ahead = record { low = 0; high = 1000000 }

-- up to how many batches a policy may let mail gather
abbrev pub batch_count : Range
batch_count = record { low = 1; high = 1000000 }

-- the numbers that the words are, if each is one
abbrev pub cons_number : Option ℕ → Option (List ℕ) → Option (List ℕ)
cons_number None ns = None
cons_number (Some n) None = None
cons_number (Some n) (Some ns) = Some (n ∷ ns)

abbrev pub numbers_of : List (List ℕ) → Option (List ℕ)
numbers_of [] = Some []
numbers_of (word ∷ words) = cons_number (number_of word) (numbers_of words)

abbrev pub are_in : List Range → List ℕ → Bool
are_in ranges ns = list_all (λ p. is_in p.0 p.1) (zip ranges ns)

-- A statement made of one number in each range. The words are too many or too few, or else one is no number, or
-- else one lies outside its range, or else they make the statement.
abbrev pub statement_in : List Range → (List ℕ → Statement) → Option (List ℕ) → Result Statement Why
statement_in ranges make None = Err causes.Number
statement_in ranges make (Some ns) = if are_in ranges ns then Ok (make ns) else Err causes.Range

abbrev pub made_of : List Range → (List ℕ → Statement) → List (List ℕ) → Result Statement Why
made_of ranges make words = if length words == length ranges then statement_in ranges make (numbers_of words) else Err causes.Count

abbrev pub first : List ℕ → ℕ
first ns = slice_index ns 0

abbrev pub second : List ℕ → ℕ
second ns = slice_index ns 1

abbrev pub third : List ℕ → ℕ
third ns = slice_index ns 2

-- The form of a line: the keyword, the ranges of the numbers behind it, what the numbers say, and the word that
-- stands for the last number where that may be left out.
pub record Form : Type 0 where
  pub keyword : List ℕ
  pub ranges : List Range
  pub says : List ℕ → Statement
  pub last : Option (List ℕ)

-- the words, and the last one where it is left out
abbrev pub completed : Option (List ℕ) → ℕ → List (List ℕ) → List (List ℕ)
completed None count words = words
completed (Some last) count words = if length words + 1 == count then words ++ last ∷ [] else words

abbrev pub statement_by : Form → List (List ℕ) → Result Statement Why
statement_by form words = made_of form.ranges form.says (completed form.last (length form.ranges) words)

-- The tables of the keywords: a word without a row is refused as an unknown one.

-- an edge: two vertices and a weight, which is 1 where it is left out
abbrev pub edge_form : Form
edge_form =
    record {
      keyword = [];
      ranges = word32 ∷ word32 ∷ word32 ∷ [];
      says = λ ns. Joins (record { from = first ns; to = second ns; weight = third ns });
      last = Some (codes "1");
    }

-- the forms that the first word names alone: a vertex with its label, which is 0 where it is left out, a node of the
-- pattern with its label, a link from node to node, a count of fragments, one of lanes, and after how many Takes a
-- snapshot is due
abbrev pub one_word_forms : List Form
one_word_forms =
    record { keyword = codes "v"; ranges = word32 ∷ word32 ∷ []; says = λ ns. Vertex (first ns) (second ns); last = Some (codes "0") }
    ∷ record { keyword = codes "node"; ranges = node_number ∷ word32 ∷ []; says = λ ns. Node (record { number = first ns; label = second ns }); last = None }
    ∷ record { keyword = codes "link"; ranges = node_number ∷ node_number ∷ []; says = λ ns. Link (record { from = first ns; to = second ns }); last = None }
    ∷ record { keyword = codes "fragments"; ranges = fragment_count ∷ []; says = λ ns. Fragments (first ns); last = None }
    ∷ record { keyword = codes "lanes"; ranges = lane_count ∷ []; says = λ ns. Lanes (first ns); last = None }
    ∷ record { keyword = codes "snapshot"; ranges = snapshot_period ∷ []; says = λ ns. Snapshots (first ns); last = None }
    ∷ []

-- the forms that the word behind `query` names
abbrev pub query_forms : List Form
query_forms =
    record { keyword = codes "dist"; ranges = word32 ∷ []; says = λ ns. Asks (Distances (first ns)); last = None }
    ∷ record { keyword = codes "label"; ranges = []; says = λ ns. Asks Labels; last = None }
    ∷ record { keyword = codes "reach"; ranges = word32 ∷ []; says = λ ns. Asks (Reaches (first ns)); last = None }
    ∷ record { keyword = codes "sim"; ranges = []; says = λ ns. Asks Simulation; last = None }
    ∷ []

-- the forms that the word behind `cut` names
abbrev pub cut_forms : List Form
cut_forms =
    record { keyword = codes "range"; ranges = []; says = λ ns. Cuts cut.Range; last = None }
    ∷ record { keyword = codes "hash"; ranges = []; says = λ ns. Cuts cut.Hash; last = None }
    ∷ []

-- the forms that the word behind `policy` names
abbrev pub policy_forms : List Form
policy_forms =
    record { keyword = codes "bsp"; ranges = []; says = λ ns. Follows policy.Bsp; last = None }
    ∷ record { keyword = codes "ap"; ranges = []; says = λ ns. Follows policy.Ap; last = None }
    ∷ record { keyword = codes "ssp"; ranges = rounds_ahead ∷ []; says = λ ns. Follows (policy.Ssp (first ns)); last = None }
    ∷ record { keyword = codes "aap"; ranges = rounds_ahead ∷ batch_count ∷ []; says = λ ns. Follows (policy.Aap (first ns) (second ns)); last = None }
    ∷ []

-- the forms of the second word, behind a first word that needs one
abbrev pub second_word_forms : List ℕ → Option (List Form)
second_word_forms word =
    if bytes_eq word (codes "query") then Some query_forms
    else if bytes_eq word (codes "cut") then Some cut_forms
    else if bytes_eq word (codes "policy") then Some policy_forms
    else None

-- what the words say by the form that their first word names
abbrev pub statement_if : Option Form → List (List ℕ) → Result Statement Why
statement_if None words = Err causes.Word
statement_if (Some form) words = statement_by form words

abbrev pub statement_among : List Form → List (List ℕ) → Result Statement Why
statement_among forms [] = Err causes.Count
statement_among forms (word ∷ words) = statement_if (find (λ form. bytes_eq word form.keyword) forms) words

abbrev pub keyword_statement : Option (List Form) → List ℕ → List (List ℕ) → Result Statement Why
keyword_statement None word words = statement_among one_word_forms (word ∷ words)
keyword_statement (Some forms) word words = statement_among forms words

abbrev pub begins_with_digit : List ℕ → Bool
begins_with_digit [] = false
begins_with_digit (b ∷ word) = is_digit b

-- `#` or `%` at the front
abbrev pub is_comment : List ℕ → Bool
is_comment [] = false
is_comment (b ∷ word) = b == 35 || b == 37

-- what a line of these words says, or the first cause why it says nothing
abbrev pub statement_of : List (List ℕ) → Result Statement Why
statement_of [] = Ok Nothing
statement_of (word ∷ words) =
    if is_comment word then Ok Nothing
    else if begins_with_digit word then statement_by edge_form (word ∷ words)
    else keyword_statement (second_word_forms word) word words
