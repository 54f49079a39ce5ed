-- What a pattern is: its nodes, with number and label, and its links from node number to node number.
use Rattle.std.specs.Prelude.{List}
use Rattle.graph_core.specs.declared.pattern.PatternNode.{PatternNode}
use Rattle.graph_core.specs.declared.pattern.PatternLink.{PatternLink}

pub record PatternGraph : Type 0 where
  pub nodes : List PatternNode
  pub links : List PatternLink
