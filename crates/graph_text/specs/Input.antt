-- Which texts are an input, and which job each of them is.
use Rattle.std.specs.Prelude.{ℕ, ◌+◌, ◌==◌, Bool, true, false, ◌&&◌, ◌||◌, nat_lt, if◌then◌else◌, List, [], ◌∷◌, ◌++◌, length, map, filter_map, count_by, Option, Some, None, unwrap_or, option_map, Result, Ok, Err}
use Rattle.std.specs.List.{list_any, list_all}
use Rattle.std.specs.Option.{option_or}
use Rattle.std.specs.Result.{result_ok}
use Rattle.graph_core.specs.declared.edge.Edge.{Edge}
use Rattle.graph_core.specs.declared.pattern.PatternNode.{PatternNode}
use Rattle.graph_core.specs.declared.pattern.PatternLink.{PatternLink}
use Rattle.graph_core.specs.declared.query.Query.{Query}
use Rattle.graph_core.specs.declared.query.Query.TheVariants as query
use Rattle.graph_core.specs.declared.settings.Cut.{Cut}
use Rattle.graph_core.specs.declared.settings.Cut.TheVariants as cut
use Rattle.graph_core.specs.declared.settings.Policy.{Policy}
use Rattle.graph_core.specs.declared.settings.Policy.TheVariants as policy
use Rattle.graph_core.specs.declared.settings.Settings.{Settings}
use Rattle.graph_core.specs.declared.job.Job.{Job}
use Rattle.graph_core.specs.PatternGraph.{PatternGraph}
use Rattle.graph_core.specs.Graphs.{graph_of, MAX_VERTICES, MAX_EDGES, MAX_LINKS}
use Rattle.line_statements.specs.declared.why.Why.{Why}
use Rattle.line_statements.specs.declared.why.Why.TheVariants as causes
use Rattle.text_lines.specs.Lines.{lines_of, words_of, is_ended, is_too_long}
use Rattle.line_statements.specs.declared.statement.Question.{Question}
use Rattle.line_statements.specs.declared.statement.Question.TheVariants.{Distances, Labels, Reaches, Simulation}
use Rattle.line_statements.specs.declared.statement.Statement.{Statement}
use Rattle.line_statements.specs.declared.statement.Statement.TheVariants.{Joins, Vertex, Asks, Node, Link, Fragments, Lanes, Snapshots, Cuts, Follows}
use Rattle.line_statements.specs.Statements.{statement_of}
use Rattle.text_lines.specs.NumberSets.{insert_number, is_among}

-- a line by its number, from 1, and why it is bad
pub record BadLine : Type 0 where
  pub line : ℕ
  pub why : Why

abbrev pub bad : ℕ → Why → BadLine
bad line why = record { line = line; why = why }

-- what the lines say, those that say nothing by themselves left out
abbrev pub statements_of : List (List ℕ) → List Statement
statements_of lines = filter_map (λ line. result_ok (statement_of (words_of line))) lines

-- The vertices: the numbers that stand in edge and vertex lines, in rising order, each once.

abbrev pub numbers_with : Statement → List ℕ → List ℕ
numbers_with (Joins edge) ns = insert_number edge.from (insert_number edge.to ns)
numbers_with (Vertex number label) ns = insert_number number ns
numbers_with s ns = ns

abbrev pub vertex_numbers : List Statement → List ℕ
vertex_numbers [] = []
vertex_numbers (s ∷ ss) = numbers_with s (vertex_numbers ss)

-- Each of these may stand on one line alone: the query, a setting, the label of a vertex, a node of the pattern.
abbrev pub repeats : Statement → Statement → Bool
repeats (Asks q) (Asks r) = true
repeats (Fragments m) (Fragments n) = true
repeats (Lanes m) (Lanes n) = true
repeats (Snapshots m) (Snapshots n) = true
repeats (Cuts c) (Cuts d) = true
repeats (Follows p) (Follows q) = true
repeats (Vertex m k) (Vertex n l) = m == n
repeats (Node m) (Node n) = m.number == n.number
repeats s t = false

abbrev pub is_edge : Statement → Bool
is_edge (Joins edge) = true
is_edge s = false

abbrev pub is_link : Statement → Bool
is_link (Link link) = true
is_link s = false

-- more edges, vertices or links than there may be
abbrev pub are_too_many : List Statement → Bool
are_too_many ss = nat_lt MAX_EDGES (count_by is_edge ss) || nat_lt MAX_VERTICES (length (vertex_numbers ss)) || nat_lt MAX_LINKS (count_by is_link ss)

-- why a line with such words is bad behind earlier statements
abbrev pub cause_among : List Statement → Result Statement Why → Option Why
cause_among earlier (Err why) = Some why
cause_among earlier (Ok s) =
    if list_any (repeats s) earlier then Some causes.Twice
    else if are_too_many (earlier ++ s ∷ []) then Some causes.TooMany
    else None

-- why a line is bad behind the lines before it, by the first cause that applies
abbrev pub cause_of : List (List ℕ) → List ℕ → Option Why
cause_of before line = if is_too_long before line then Some causes.TooLong else cause_among (statements_of before) (statement_of (words_of line))

-- the same, of a line that may go on
abbrev pub cause_shown : List (List ℕ) → List ℕ → Option Why
cause_shown before line = if is_ended line || is_too_long before line then cause_of before line else None

-- the first line that is bad, of the lines that stand behind those before
abbrev pub first_bad : (List (List ℕ) → List ℕ → Option Why) → List (List ℕ) → List (List ℕ) → Option BadLine
first_bad cause before [] = None
first_bad cause before (line ∷ lines) =
    option_or (option_map (bad (length before + 1)) (cause before line)) (first_bad cause (before ++ line ∷ []) lines)

-- what the first statement of a kind says
abbrev pub first_of : {X : Type 0} → (Statement → Option X) → List Statement → Option X
first_of what [] = None
first_of what (s ∷ ss) = option_or (what s) (first_of what ss)

abbrev pub question_in : Statement → Option Question
question_in (Asks q) = Some q
question_in s = None

abbrev pub edge_in : Statement → Option Edge
edge_in (Joins edge) = Some edge
edge_in s = None

abbrev pub node_in : Statement → Option PatternNode
node_in (Node node) = Some node
node_in s = None

abbrev pub link_in : Statement → Option PatternLink
link_in (Link link) = Some link
link_in s = None

abbrev pub fragments_in : Statement → Option ℕ
fragments_in (Fragments n) = Some n
fragments_in s = None

abbrev pub lanes_in : Statement → Option ℕ
lanes_in (Lanes n) = Some n
lanes_in s = None

abbrev pub snapshot_in : Statement → Option ℕ
snapshot_in (Snapshots n) = Some n
snapshot_in s = None

abbrev pub cut_in : Statement → Option Cut
cut_in (Cuts c) = Some c
cut_in s = None

abbrev pub policy_in : Statement → Option Policy
policy_in (Follows p) = Some p
policy_in s = None

abbrev pub label_in : ℕ → Statement → Option ℕ
label_in number (Vertex n label) = if n == number then Some label else None
label_in number s = None

-- The settings, with what holds where a line is missing: 4 fragments, cut by a hash, 2 lanes, a fragment runs at most 4
-- rounds ahead and lets mail gather up to 2 batches, and there are no snapshots.
abbrev pub settings_of : List Statement → Settings
settings_of ss =
    record {
      fragments = unwrap_or (first_of fragments_in ss) 4;
      lanes = unwrap_or (first_of lanes_in ss) 2;
      cut = unwrap_or (first_of cut_in ss) cut.Hash;
      policy = unwrap_or (first_of policy_in ss) (policy.Aap 4 2);
      snapshot = unwrap_or (first_of snapshot_in ss) 0;
    }

-- the label that a line gives to the vertex with this number, or 0
abbrev pub label_of : List Statement → ℕ → ℕ
label_of ss number = unwrap_or (first_of (label_in number) ss) 0

-- the vertices with their labels
abbrev pub vertices_of : List Statement → List (ℕ × ℕ)
vertices_of ss = map (λ number. (number, label_of ss number)) (vertex_numbers ss)

-- the pattern: its nodes and its links in the order of their lines
abbrev pub pattern_of : List Statement → PatternGraph
pattern_of ss = record { nodes = filter_map node_in ss; links = filter_map link_in ss }

-- what is asked, of this pattern where it is a simulation
abbrev pub query_of : PatternGraph → Question → Query
query_of pattern (Distances source) = query.Dist source
query_of pattern Labels = query.Label
query_of pattern (Reaches source) = query.Reach source
query_of pattern Simulation = query.Sim pattern

abbrev pub job_of : List Statement → Question → Job
job_of ss q = record { graph = graph_of (vertices_of ss) (filter_map edge_in ss); query = query_of (pattern_of ss) q; settings = settings_of ss }

-- the vertex that a query starts from, where no line names it
abbrev pub missing_source : List Statement → ℕ → Option Why
missing_source ss source = if is_among source (vertex_numbers ss) then None else Some causes.NoSource

abbrev pub has_node : List PatternNode → ℕ → Bool
has_node nodes number = list_any (λ node. node.number == number) nodes

abbrev pub joins_nodes : List PatternNode → PatternLink → Bool
joins_nodes nodes link = has_node nodes link.from && has_node nodes link.to

-- there is a node, and each link joins two
abbrev pub is_whole : PatternGraph → Bool
is_whole pattern = nat_lt 0 (length pattern.nodes) && list_all (joins_nodes pattern.nodes) pattern.links

abbrev pub missing_pattern : List Statement → Option Why
missing_pattern ss = if is_whole (pattern_of ss) then None else Some causes.NoPattern

-- what a query needs and the lines lack: its source among the vertices, or a pattern
abbrev pub missing_for : List Statement → Question → Option Why
missing_for ss (Distances source) = missing_source ss source
missing_for ss Labels = None
missing_for ss (Reaches source) = missing_source ss source
missing_for ss Simulation = missing_pattern ss

-- the job that good lines make, or the cause why they make none
abbrev pub job_unless : List Statement → Question → Option Why → Result Job Why
job_unless ss q None = Ok (job_of ss q)
job_unless ss q (Some why) = Err why

abbrev pub job_or_cause : List Statement → Option Question → Result Job Why
job_or_cause ss None = Err causes.NoQuery
job_or_cause ss (Some q) = job_unless ss q (missing_for ss q)

-- Where each line is good and they make no job, the line after the last one is bad.
abbrev pub job_or_bad : ℕ → Result Job Why → Result Job BadLine
job_or_bad count (Ok job) = Ok job
job_or_bad count (Err why) = Err (bad (count + 1) why)

abbrev pub job_of_lines : List (List ℕ) → Option BadLine → Result Job BadLine
job_of_lines lines (Some first) = Err first
job_of_lines lines None = job_or_bad (length lines) (job_or_cause (statements_of lines) (first_of question_in (statements_of lines)))

-- The job that a text is, or its first bad line.
abbrev pub input_of : List ℕ → Result Job BadLine
input_of text = job_of_lines (lines_of text) (first_bad cause_of [] (lines_of text))

-- The first bad line that the front of a text already shows, whatever follows: one that has ended, or is too long.
abbrev pub shown_of : List ℕ → Option BadLine
shown_of front = first_bad cause_shown [] (lines_of front)
