-- Lines that say an edge, written plainly.
use Rattle.std.specs.Prelude.{◌≡◌, ℕ, ◌≤◌, ◌<◌, ◌^◌, true, List, ◌++◌, length, Ok}
use Rattle.std.specs.List.{list_all}
use Rattle.grape_port.specs.Decimal.{is_digit, digits_value}
use Rattle.graph_core.specs.declared.edge.Edge.{Edge}
use Rattle.text_lines.specs.Lines.{IsOneLine, words_of}
use Rattle.line_statements.specs.declared.statement.Statement.TheVariants.{Joins}
use Rattle.line_statements.specs.Statements.{statement_of}

-- The word is one to ten digits, and the number below 2^32 that they stand for.
pub record IsPlainNumber (word : List ℕ) (number : ℕ) : Type 0 where
  pub some : 1 ≤ length word
  pub few : length word ≤ 10
  pub digits : list_all is_digit word ≡ true
  pub value : digits_value word ≡ number
  pub small : number < 2 ^ 32

-- The text is such a word, and the rest behind it.
pub record BeginsWithNumber (text : List ℕ) (number : ℕ) (rest : List ℕ) : Type 0 where
  pub word : List ℕ
  pub plain : IsPlainNumber word number
  pub is : text ≡ word ++ rest

-- One line that has ended and says this edge. Three numbers of ten digits, two spaces and a line feed are 33 bytes.
pub record SaysEdge (line : List ℕ) (edge : Edge) : Type 0 where
  pub one_line : IsOneLine line
  pub short : length line ≤ 33
  pub says : statement_of (words_of line) ≡ Ok (Joins edge)
