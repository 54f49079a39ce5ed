-- What is gathered, one statement more.
use Rattle.std.proofs.Common.{◌≡◌, ℕ, ◌+◌, ◌<◌, ◌≤◌, Bool, true, false, cond, ◌||◌, ◌==◌, List, [], ◌∷◌, ◌++◌, length, Option, Some, None, IsSome, Result, Ok, Err, refl, sym, ◌∙◌, ap, subst, arith, nat_lt}
use Rattle.std.specs.Prelude.{filter_map, count_by, is_some, option_map, OnOk, IfErr}
use Rattle.std.specs.List.{list_any, cons_option}
use Rattle.std.specs.Option.{option_or}
use Rattle.std.proofs.lemmas.Bool.Decides.{nat_tests}
use Rattle.std.proofs.lemmas.List.Elements.{filter_map-append}
use Rattle.std.proofs.lemmas.List.Folds.{list_any-append}
use Rattle.std.proofs.lemmas.List.Sums.{sum_by_push}
use Rattle.graph_core.specs.declared.edge.Edge.{Edge}
use Rattle.graph_core.specs.declared.pattern.PatternNode.{PatternNode}
use Rattle.graph_core.specs.declared.pattern.PatternLink.{PatternLink}
use Rattle.graph_core.specs.declared.settings.Cut.{Cut}
use Rattle.graph_core.specs.declared.settings.Policy.{Policy}
use Rattle.graph_core.specs.PatternGraph.{PatternGraph}
use Rattle.graph_core.specs.Graphs.{MAX_VERTICES, MAX_EDGES, MAX_LINKS}
use Rattle.line_statements.specs.declared.why.Why.TheVariants as causes
use Rattle.graph_text.specs.declared.fault.TextFault.{TextFault}
use Rattle.graph_text.specs.declared.fault.TextFault.TheVariants as fault
use Rattle.line_statements.specs.declared.statement.Question.{Question}
use Rattle.line_statements.specs.declared.statement.Statement.{Statement}
use Rattle.line_statements.specs.declared.statement.Statement.TheVariants.{Nothing, Joins, Vertex, Asks, Node, Link, Fragments, Lanes, Snapshots, Cuts, Follows}
use Rattle.text_lines.specs.NumberSets.{insert_number, is_among}
use Rattle.text_lines.proofs.Rising.{any-insert}
use Rattle.graph_text.specs.ReaderState.{GatheredState}
use Rattle.graph_text.specs.Input.{bad, numbers_with, vertex_numbers, repeats, is_edge, is_link, are_too_many, cause_among, first_of, question_in, fragments_in, lanes_in, cut_in, policy_in, snapshot_in, edge_in, node_in, link_in, pattern_of, has_node}
use Rattle.graph_text.specs.Gathering.{vertex_in, Holds}
use Rattle.graph_text.specs.Reader.{Answers}
use Rattle.graph_text.proofs.Jobs.{IsFew, few, count_edges, count_links}
use Rattle.graph_text.proofs.Numbers.{numbers-push}

-- Which statement repeats another.

pub asked : (ss : List Statement) (q : Question) → list_any (repeats (Asks q)) ss ≡ is_some (first_of question_in ss)
asked [] q = refl
asked (Asks r ∷ ss) q = refl
asked (s ∷ ss) q = asked ss q

pub divided : (ss : List Statement) (n : ℕ) → list_any (repeats (Fragments n)) ss ≡ is_some (first_of fragments_in ss)
divided [] n = refl
divided (Fragments m ∷ ss) n = refl
divided (s ∷ ss) n = divided ss n

pub was_laned : (ss : List Statement) (n : ℕ) → list_any (repeats (Lanes n)) ss ≡ is_some (first_of lanes_in ss)
was_laned [] n = refl
was_laned (Lanes m ∷ ss) n = refl
was_laned (s ∷ ss) n = was_laned ss n

pub was_cut : (ss : List Statement) (c : Cut) → list_any (repeats (Cuts c)) ss ≡ is_some (first_of cut_in ss)
was_cut [] c = refl
was_cut (Cuts d ∷ ss) c = refl
was_cut (s ∷ ss) c = was_cut ss c

pub had_policy : (ss : List Statement) (p : Policy) → list_any (repeats (Follows p)) ss ≡ is_some (first_of policy_in ss)
had_policy [] p = refl
had_policy (Follows q ∷ ss) p = refl
had_policy (s ∷ ss) p = had_policy ss p

pub had_period : (ss : List Statement) (n : ℕ) → list_any (repeats (Snapshots n)) ss ≡ is_some (first_of snapshot_in ss)
had_period [] n = refl
had_period (Snapshots m ∷ ss) n = refl
had_period (s ∷ ss) n = had_period ss n

pub was_labelled : (ss : List Statement) (n label : ℕ) → list_any (repeats (Vertex n label)) ss ≡ list_any (λ v. v.0 == n) (filter_map vertex_in ss)
was_labelled [] n label = refl
was_labelled (Vertex m l ∷ ss) n label = ap (λ b. b || list_any (repeats (Vertex n label)) ss) (flipped n m) ∙ ap (λ b. (m == n) || b) (was_labelled ss n label) where
  flipped : (a b : ℕ) → (a == b) ≡ (b == a)
  flipped a b = grind (arith, nat_tests)
was_labelled (s ∷ ss) n label = was_labelled ss n label

pub joins_again : (ss : List Statement) (edge : Edge) → list_any (repeats (Joins edge)) ss ≡ false
joins_again [] edge = refl
joins_again (s ∷ ss) edge = joins_again ss edge

pub was_named : (ss : List Statement) (node : PatternNode) → list_any (repeats (Node node)) ss ≡ has_node (filter_map node_in ss) node.number
was_named [] node = refl
was_named (Node other ∷ ss) node = ap (λ b. b || list_any (repeats (Node node)) ss) (flipped node.number other.number) ∙ ap (λ b. (other.number == node.number) || b) (was_named ss node) where
  flipped : (a b : ℕ) → (a == b) ≡ (b == a)
  flipped a b = grind (arith, nat_tests)
was_named (s ∷ ss) node = was_named ss node

pub links_again : (ss : List Statement) (link : PatternLink) → list_any (repeats (Link link)) ss ≡ false
links_again [] link = refl
links_again (s ∷ ss) link = links_again ss link

pub nothing_again : (ss : List Statement) → list_any (repeats Nothing) ss ≡ false
nothing_again [] = refl
nothing_again (s ∷ ss) = nothing_again ss

-- Why a statement is refused.

pub twice : (ss : List Statement) (s : Statement) → list_any (repeats s) ss ≡ true → cause_among ss (Ok s) ≡ Some causes.Twice
twice ss s h = rw h refl

pub too_many : (ss : List Statement) (s : Statement) → list_any (repeats s) ss ≡ false → are_too_many (ss ++ s ∷ []) ≡ true → cause_among ss (Ok s) ≡ Some causes.TooMany
too_many ss s h k = rw (h, k) refl

pub no_cause : (ss : List Statement) (s : Statement) → list_any (repeats s) ss ≡ false → are_too_many (ss ++ s ∷ []) ≡ false → cause_among ss (Ok s) ≡ None
no_cause ss s h k = rw (h, k) refl

-- How many edges, vertices and links there are.

edges-push : (ss : List Statement) (s : Statement) → count_by is_edge (ss ++ s ∷ []) ≡ count_by is_edge ss + cond (is_edge s) 1 0
edges-push ss s = sum_by_push (λ x. cond (is_edge x) 1 0) ss s

links-push : (ss : List Statement) (s : Statement) → count_by is_link (ss ++ s ∷ []) ≡ count_by is_link ss + cond (is_link s) 1 0
links-push ss s = sum_by_push (λ x. cond (is_link x) 1 0) ss s

over_first : (m n o a b c : ℕ) → m < a → (nat_lt m a || nat_lt n b || nat_lt o c) ≡ true
over_first m n o a b c h = grind (arith, nat_tests, h)

over_second : (m n o a b c : ℕ) → n < b → (nat_lt m a || nat_lt n b || nat_lt o c) ≡ true
over_second m n o a b c h = grind (arith, nat_tests, h)

over_third : (m n o a b c : ℕ) → o < c → (nat_lt m a || nat_lt n b || nat_lt o c) ≡ true
over_third m n o a b c h = grind (arith, nat_tests, h)

within : (m n o a b c : ℕ) → a ≤ m → b ≤ n → c ≤ o → (nat_lt m a || nat_lt n b || nat_lt o c) ≡ false
within m n o a b c h k l = grind (arith, nat_tests, h, k, l)

not_over : (ss : List Statement) → IsFew ss → are_too_many ss ≡ false
not_over ss f = within MAX_EDGES MAX_VERTICES MAX_LINKS (count_by is_edge ss) (length (vertex_numbers ss)) (count_by is_link ss) f.edges f.vertices f.links

pub many_edges : (ss : List Statement) (edge : Edge) → MAX_EDGES ≤ length (filter_map edge_in ss) → are_too_many (ss ++ Joins edge ∷ []) ≡ true
many_edges ss edge h =
    let after : List Statement = ss ++ Joins edge ∷ []
    in over_first MAX_EDGES MAX_VERTICES MAX_LINKS (count_by is_edge after) (length (vertex_numbers after)) (count_by is_link after) (omega (arith, edges-push ss (Joins edge), count_edges ss, h))

pub many_links : (ss : List Statement) (link : PatternLink) → MAX_LINKS ≤ length (filter_map link_in ss) → are_too_many (ss ++ Link link ∷ []) ≡ true
many_links ss link h =
    let after : List Statement = ss ++ Link link ∷ []
    in over_third MAX_EDGES MAX_VERTICES MAX_LINKS (count_by is_edge after) (length (vertex_numbers after)) (count_by is_link after) (omega (arith, links-push ss (Link link), count_links ss, h))

pub many_vertices : (ss : List Statement) (s : Statement) → MAX_VERTICES < length (vertex_numbers (ss ++ s ∷ [])) → are_too_many (ss ++ s ∷ []) ≡ true
many_vertices ss s h =
    let after : List Statement = ss ++ s ∷ []
    in over_second MAX_EDGES MAX_VERTICES MAX_LINKS (count_by is_edge after) (length (vertex_numbers after)) (count_by is_link after) h

-- an edge more, and few vertices still
pub few_enough : (ss : List Statement) (edge : Edge) → are_too_many ss ≡ false → length (filter_map edge_in ss) < MAX_EDGES → length (vertex_numbers (ss ++ Joins edge ∷ [])) ≤ MAX_VERTICES → are_too_many (ss ++ Joins edge ∷ []) ≡ false
few_enough ss edge before h k = not_over (ss ++ Joins edge ∷ []) (record {
  edges = omega (arith, edges-push ss (Joins edge), count_edges ss, h);
  vertices = k;
  links = omega (arith, links-push ss (Joins edge), (few ss before).links);
})

-- neither an edge nor a link more, and few vertices still
pub few_vertices : (ss : List Statement) (s : Statement) → is_edge s ≡ false → is_link s ≡ false → are_too_many ss ≡ false → length (vertex_numbers (ss ++ s ∷ [])) ≤ MAX_VERTICES → are_too_many (ss ++ s ∷ []) ≡ false
few_vertices ss s e l before h = not_over (ss ++ s ∷ []) (record {
  edges = omega (arith, edges-push ss s ∙ ap (λ b. count_by is_edge ss + cond b 1 0) e, (few ss before).edges);
  vertices = h;
  links = omega (arith, links-push ss s ∙ ap (λ b. count_by is_link ss + cond b 1 0) l, (few ss before).links);
})

same_vertices : (ss : List Statement) (s : Statement) → numbers_with s (vertex_numbers ss) ≡ vertex_numbers ss → are_too_many ss ≡ false → length (vertex_numbers (ss ++ s ∷ [])) ≤ MAX_VERTICES
same_vertices ss s h before = omega (arith, ap length (numbers-push ss s ∙ h), (few ss before).vertices)

-- neither an edge nor a link nor a vertex more
pub few_still : (ss : List Statement) (s : Statement) → is_edge s ≡ false → is_link s ≡ false → numbers_with s (vertex_numbers ss) ≡ vertex_numbers ss → are_too_many ss ≡ false → are_too_many (ss ++ s ∷ []) ≡ false
few_still ss s e l h before = few_vertices ss s e l before (same_vertices ss s h before)

-- a link more
pub few_links : (ss : List Statement) (link : PatternLink) → are_too_many ss ≡ false → length (filter_map link_in ss) < MAX_LINKS → are_too_many (ss ++ Link link ∷ []) ≡ false
few_links ss link before h = not_over (ss ++ Link link ∷ []) (record {
  edges = omega (arith, edges-push ss (Link link), (few ss before).edges);
  vertices = same_vertices ss (Link link) refl before;
  links = omega (arith, links-push ss (Link link), count_links ss, h);
})

-- What is held.

-- the numbers behind a statement
pub numbers-added : (ss : List Statement) (s : Statement) (before after : List ℕ) → before ≡ vertex_numbers ss → after ≡ numbers_with s before → after ≡ vertex_numbers (ss ++ s ∷ [])
numbers-added ss s before after h e = e ∙ ap (numbers_with s) h ∙ sym (numbers-push ss s)

pub or_none : {A : Type 0} (o : Option A) → option_or o None ≡ o
or_none None = refl
or_none (Some x) = refl

first-push : {X : Type 0} (what : Statement → Option X) (ss : List Statement) (s : Statement) → first_of what (ss ++ s ∷ []) ≡ option_or (first_of what ss) (what s)
first-push what [] s = or_none (what s)
first-push what (t ∷ ss) s = ap (option_or (what t)) (first-push what ss s) ∙ or_assoc (what t) (first_of what ss) (what s) where
  or_assoc : {Y : Type 0} (a b c : Option Y) → option_or a (option_or b c) ≡ option_or (option_or a b) c
  or_assoc None b c = refl
  or_assoc (Some x) b c = refl

first-added : {X : Type 0} (what : Statement → Option X) (ss : List Statement) (s : Statement) (before after : Option X) → before ≡ first_of what ss → after ≡ option_or before (what s) → after ≡ first_of what (ss ++ s ∷ [])
first-added what ss s before after h e = e ∙ ap (λ o. option_or o (what s)) h ∙ sym (first-push what ss s)

each-added : {X : Type 0} (what : Statement → Option X) (ss : List Statement) (s : Statement) (before after : List X) → before ≡ filter_map what ss → after ≡ before ++ cons_option (what s) [] → after ≡ filter_map what (ss ++ s ∷ [])
each-added what ss s before after h e = e ∙ ap (λ xs. xs ++ cons_option (what s) []) h ∙ sym (filter_map-append what ss (s ∷ []))

-- what is held with one statement more
pub holds-push : (g after : GatheredState) (ss : List Statement) (s : Statement) → Holds g ss
    → after.query ≡ option_or g.query (question_in s) → after.fragments ≡ option_or g.fragments (fragments_in s) → after.lanes ≡ option_or g.lanes (lanes_in s) → after.cut ≡ option_or g.cut (cut_in s) → after.policy ≡ option_or g.policy (policy_in s) → after.snapshot ≡ option_or g.snapshot (snapshot_in s)
    → after.edges ≡ g.edges ++ cons_option (edge_in s) [] → after.nodes ≡ g.nodes ++ cons_option (node_in s) [] → after.links ≡ g.links ++ cons_option (link_in s) [] → after.numbers ≡ numbers_with s g.numbers → after.labels ≡ g.labels ++ cons_option (vertex_in s) []
    → ((k : ℕ) → is_among k after.labelled ≡ list_any (λ v. v.0 == k) after.labels)
    → are_too_many (ss ++ s ∷ []) ≡ false → Holds after (ss ++ s ∷ [])
holds-push g after ss s h query fragments lanes cut policy snapshot edges nodes links numbers labels labelled few = record {
  query = first-added question_in ss s g.query after.query h.query query;
  fragments = first-added fragments_in ss s g.fragments after.fragments h.fragments fragments;
  lanes = first-added lanes_in ss s g.lanes after.lanes h.lanes lanes;
  cut = first-added cut_in ss s g.cut after.cut h.cut cut;
  policy = first-added policy_in ss s g.policy after.policy h.policy policy;
  snapshot = first-added snapshot_in ss s g.snapshot after.snapshot h.snapshot snapshot;
  edges = each-added edge_in ss s g.edges after.edges h.edges edges;
  nodes = each-added node_in ss s g.nodes after.nodes h.nodes nodes;
  links = each-added link_in ss s g.links after.links h.links links;
  numbers = numbers-added ss s g.numbers after.numbers h.numbers numbers;
  labels = each-added vertex_in ss s g.labels after.labels h.labels labels;
  labelled = labelled;
  few = few;
}

-- What may be said once.

-- what a keeper of such things answers
abbrev pub KeepsOnce : {A : Type 0} → Result (Unit {0}) TextFault → ℕ → Option A → Option A → A → Type 0
KeepsOnce r line before after said = OnOk r ((before ≡ None) × (after ≡ Some said)) × IfErr r (λ f. (f ≡ fault.Bad line causes.Twice) × IsSome before)

-- it is refused where it was said before
pub once-answers : {A : Type 0} (r : Result (Unit {0}) TextFault) (line : ℕ) (before after : Option A) (said : A) (ss : List Statement) (s : Statement) → KeepsOnce r line before after said
    → list_any (repeats s) ss ≡ is_some before → are_too_many (ss ++ s ∷ []) ≡ false → Answers r (option_map (bad line) (cause_among ss (Ok s)))
once-answers (Ok u) line before after said ss s k e few = ap (option_map (bad line)) (no_cause ss s (e ∙ ap is_some k.0.0) few)
once-answers (Err f) line before after said ss s k e few =
    subst (λ g. Answers {A = Unit {0}} (Err g) (option_map (bad line) (cause_among ss (Ok s)))) (sym k.1.0) (ap (option_map (bad line)) (twice ss s (e ∙ k.1.1)))

-- and else it is held
pub once-kept : {A : Type 0} (r : Result (Unit {0}) TextFault) (line : ℕ) (before after : Option A) (said : A) (Kept : Type 0) → KeepsOnce r line before after said
    → (after ≡ option_or before (Some said) → Kept) → OnOk r Kept
once-kept (Ok u) line before after said Kept k holds = holds (k.0.1 ∙ ap (λ o. option_or o (Some said)) (sym k.0.0))
once-kept (Err f) line before after said Kept k holds = tt

-- a vertex was labelled before where its number is among those that were
pub label_again : (ss : List Statement) (n label : ℕ) (g : GatheredState) → Holds g ss → list_any (repeats (Vertex n label)) ss ≡ is_among n g.labelled
label_again ss n label g h = was_labelled ss n label ∙ ap (list_any (λ v. v.0 == n)) (sym h.labels) ∙ sym (h.labelled n)

-- the numbers with a label, and one more
pub labelled-push : (n label : ℕ) (before after : List ℕ) (labels : List (ℕ × ℕ)) → ((k : ℕ) → is_among k before ≡ list_any (λ v. v.0 == k) labels) → after ≡ insert_number n before
    → (k : ℕ) → is_among k after ≡ list_any (λ v. v.0 == k) (labels ++ (n, label) ∷ [])
labelled-push n label before after labels h e k =
    ap (is_among k) e ∙ any-insert k n before ∙ ap (λ b. (n == k) || b) (h k) ∙ turned (n == k) (list_any (λ v. v.0 == k) labels)
    ∙ sym (list_any-append (λ (v : ℕ × ℕ). v.0 == k) labels ((n, label) ∷ []))
  where
    turned : (a b : Bool) → (a || b) ≡ (b || (a || false))
    turned true true = refl
    turned true false = refl
    turned false true = refl
    turned false false = refl

-- a node was named before where its number is among those of the nodes
pub node_again : (ss : List Statement) (node : PatternNode) (g : GatheredState) → Holds g ss → list_any (repeats (Node node)) ss ≡ has_node g.nodes node.number
node_again ss node g h = was_named ss node ∙ ap (λ nodes. has_node nodes node.number) (sym h.nodes)

-- The pattern that is held.

abbrev pub pattern_from : List PatternNode → List PatternLink → PatternGraph
pattern_from nodes links = record { nodes = nodes; links = links }

pub same_pattern : {nodes more_nodes : List PatternNode} {links more_links : List PatternLink} → nodes ≡ more_nodes → links ≡ more_links → pattern_from nodes links ≡ pattern_from more_nodes more_links
same_pattern {nodes} {more_nodes} {links} {more_links} e h = ap (λ ns. pattern_from ns links) e ∙ ap (pattern_from more_nodes) h

pub held_pattern : {g : GatheredState} {ss : List Statement} → Holds g ss → pattern_from g.nodes g.links ≡ pattern_of ss
held_pattern h = same_pattern h.nodes h.links
