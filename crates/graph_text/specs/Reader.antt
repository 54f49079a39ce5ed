-- What a reader of lines has read.
use Rattle.std.specs.Prelude.{◌≡◌, ℕ, List, [], length, flat_map, Option, Some, None, Result, Ok, Err, ⊤}
use Rattle.graph_core.specs.declared.edge.Edge.{Edge}
use Rattle.graph_core.specs.declared.job.Job.{Job}
use Rattle.graph_text.specs.declared.fault.TextFault.{TextFault}
use Rattle.graph_text.specs.declared.fault.TextFault.TheVariants as fault
use Rattle.line_statements.specs.declared.statement.Statement.TheVariants.{Joins}
use Rattle.line_statements.specs.Statements.{statement_of}
use Rattle.text_lines.specs.Lines.{whole_lines, last_line, words_of}
use Rattle.graph_text.specs.Gathering.{Holds}
use Rattle.graph_text.specs.Input.{BadLine, bad, statements_of, first_bad, cause_of, shown_of}
use Rattle.graph_text.specs.ReaderState.{LinesState, TextState, ReaderState}

-- These are the whole lines, of which none is bad: how many, how long, and what they say.
pub record HasLines (w : LinesState) (lines : List (List ℕ)) : Type 0 where
  pub count : w.count ≡ length lines
  pub bytes : w.bytes ≡ length (flat_map (λ l. l) lines)
  pub says : Holds w.gathered (statements_of lines)
  pub none_bad : first_bad cause_of [] lines ≡ None

-- This is the text, which shows no bad line: its whole lines, and the bytes behind them.
pub record HasText (t : TextState) (text : List ℕ) : Type 0 where
  pub whole : HasLines t.whole (whole_lines text)
  pub line : t.line ≡ last_line text
  pub none_shown : shown_of text ≡ None

-- A reader that has answered no fault has some text.
abbrev pub IsSound : TextState → Option TextFault → Type 0
IsSound t None = (text : List ℕ) × HasText t text
IsSound t (Some f) = ⊤

-- The reader has read this text and no more, and has answered no fault.
pub record HasRead (r : ReaderState) (text : List ℕ) : Type 0 where
  pub reads : HasText r.text text
  pub no_fault : r.fault ≡ None

-- The reader has answered this fault.
abbrev pub HasFailed : ReaderState → TextFault → Type 0
HasFailed r f = r.fault ≡ Some f

-- a line that is known to say an edge says it
abbrev pub DoesSay : List ℕ → Option Edge → Type 0
DoesSay line None = ⊤
DoesSay line (Some edge) = statement_of (words_of line) ≡ Ok (Joins edge)

-- a fault is of this bad line, or memory ran out
abbrev pub IsFaultOf : TextFault → BadLine → Type 0
IsFaultOf (fault.Bad line why) b = b ≡ bad line why
IsFaultOf fault.NoMemory b = ⊤

-- no fault where no bad line is shown, and else a fault of that line; or memory ran out
abbrev pub Answers : {A : Type 0} → Result A TextFault → Option BadLine → Type 0
Answers (Ok a) shown = shown ≡ None
Answers (Err (fault.Bad line why)) shown = shown ≡ Some (bad line why)
Answers (Err fault.NoMemory) shown = ⊤

-- the job that the text is, or a fault of its first bad line; or memory ran out
abbrev pub Gives : Result Job TextFault → Result Job BadLine → Type 0
Gives (Ok job) input = input ≡ Ok job
Gives (Err (fault.Bad line why)) input = input ≡ Err (bad line why)
Gives (Err fault.NoMemory) input = ⊤
