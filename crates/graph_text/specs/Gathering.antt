-- What has been gathered of the statements so far.
use Rattle.std.specs.Prelude.{◌≡◌, ℕ, ◌==◌, false, List, filter_map, Option, Some, None}
use Rattle.std.specs.List.{list_any}
use Rattle.graph_core.specs.declared.edge.Edge.{Edge}
use Rattle.line_statements.specs.declared.statement.Statement.{Statement}
use Rattle.line_statements.specs.declared.statement.Statement.TheVariants.{Vertex}
use Rattle.text_lines.specs.NumberSets.{is_among}
use Rattle.graph_text.specs.ReaderState.{GatheredState}
use Rattle.graph_text.specs.Input.{vertex_numbers, are_too_many, first_of, question_in, fragments_in, lanes_in, cut_in, policy_in, snapshot_in, edge_in, node_in, link_in}

-- the vertex and the label that a statement names
abbrev pub vertex_in : Statement → Option (ℕ × ℕ)
vertex_in (Vertex number label) = Some (number, label)
vertex_in s = None

-- edges, vertex numbers and labels that these statements give
pub record AreGiven (ss : List Statement) (edges : List Edge) (numbers : List ℕ) (labels : List (ℕ × ℕ)) : Type 0 where
  pub edges_given : edges ≡ filter_map edge_in ss
  pub numbers_given : numbers ≡ vertex_numbers ss
  pub labels_given : labels ≡ filter_map vertex_in ss

-- It holds the query and the settings, the edges, the pattern's nodes and links and the labels in their order, each
-- vertex number once, and which of them were given a label, of statements that are not too many.
pub record Holds (g : GatheredState) (ss : List Statement) : Type 0 where
  pub query : g.query ≡ first_of question_in ss
  pub fragments : g.fragments ≡ first_of fragments_in ss
  pub lanes : g.lanes ≡ first_of lanes_in ss
  pub cut : g.cut ≡ first_of cut_in ss
  pub policy : g.policy ≡ first_of policy_in ss
  pub snapshot : g.snapshot ≡ first_of snapshot_in ss
  pub edges : g.edges ≡ filter_map edge_in ss
  pub nodes : g.nodes ≡ filter_map node_in ss
  pub links : g.links ≡ filter_map link_in ss
  pub numbers : g.numbers ≡ vertex_numbers ss
  pub labels : g.labels ≡ filter_map vertex_in ss
  pub labelled : (k : ℕ) → is_among k g.labelled ≡ list_any (λ v. v.0 == k) g.labels
  pub few : are_too_many ss ≡ false
