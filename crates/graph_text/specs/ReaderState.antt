-- A reader of lines as its callers see it.
use Rattle.std.specs.Prelude.{ℕ, List, Option}
use Rattle.graph_core.specs.declared.edge.Edge.{Edge}
use Rattle.graph_core.specs.declared.pattern.PatternNode.{PatternNode}
use Rattle.graph_core.specs.declared.pattern.PatternLink.{PatternLink}
use Rattle.graph_core.specs.declared.settings.Cut.{Cut}
use Rattle.graph_core.specs.declared.settings.Policy.{Policy}
use Rattle.graph_text.specs.declared.fault.TextFault.{TextFault}
use Rattle.line_statements.specs.declared.statement.Question.{Question}
use Rattle.graph_text.specs.declared.gathered.Gathered.{Gathered}
use Rattle.graph_text.specs.declared.whole_lines.WholeLines.{WholeLines}
use Rattle.graph_text.specs.declared.open_text.OpenText.{OpenText}

-- what is kept of the statements
pub record GatheredState : Type 0 where
  pub query : Option Question
  pub fragments : Option ℕ
  pub lanes : Option ℕ
  pub cut : Option Cut
  pub policy : Option Policy
  pub snapshot : Option ℕ
  pub edges : List Edge
  pub nodes : List PatternNode
  pub links : List PatternLink
  pub numbers : List ℕ
  pub labels : List (ℕ × ℕ)
  pub labelled : List ℕ

abbrev pub gathered_state : Gathered → GatheredState
gathered_state g = record { query = g.query; fragments = g.fragments; lanes = g.lanes; cut = g.cut; policy = g.policy; snapshot = g.snapshot; edges = g.edges.items; nodes = g.nodes.items; links = g.links.items; numbers = g.numbers; labels = g.labels.items; labelled = g.labelled }

-- what is kept of the lines
pub record LinesState : Type 0 where
  pub count : ℕ
  pub bytes : ℕ
  pub gathered : GatheredState

abbrev pub lines_state : WholeLines → LinesState
lines_state w = record { count = w.count; bytes = w.bytes; gathered = gathered_state w.gathered }

-- what is kept of a text: its whole lines, and the bytes behind them
pub record TextState : Type 0 where
  pub whole : LinesState
  pub line : List ℕ

abbrev pub text_state : OpenText → TextState
text_state t = record { whole = lines_state t.whole; line = t.line.items }

pub record ReaderState : Type 0 where
  pub text : TextState
  pub fault : Option TextFault
