use Rattle.std.proofs.Common.{sym, ◌∙◌, ap}
use Rattle.graph_text.specs.Input.{statements_of, query_of}
use Rattle.graph_text.proofs.Good.{good_text}
use Rattle.graph_text.proofs.Gatherings.{held_pattern}
use Rattle.graph_text.proofs.Jobs.{makes_graph, parts_are_job}
use Rattle.graph_text.proofs.gathered.Gathered.into_job.Goals as goal

pub graph_from-requires : goal.graph_from-requires
graph_from-requires c =
    let h = c.requires.1 in
    (statements_of c.requires.0, record { edges_given = h.edges; numbers_given = h.numbers; labels_given = c.deref.ensures.value ∙ h.labels }, makes_graph (statements_of c.requires.0) (good_text c.requires.0 c.requires.2))

pub returns-clause-job : goal.returns-clause-job
returns-clause-job c =
    parts_are_job c.in_ok-graph.graph c.query_of-query.result c.settings-settings.result (statements_of c.requires.0) c.in-Some.question (c.in_ok-graph.ensures.ok (statements_of c.requires.0) (record { edges_given = c.requires.1.edges; numbers_given = c.requires.1.numbers; labels_given = c.deref.ensures.value ∙ c.requires.1.labels }))
    (c.query_of-query.ensures ∙ ap (λ p. query_of p c.in-Some.question) (held_pattern c.requires.1))
    (c.settings-settings.ensures (statements_of c.requires.0) c.requires.1) (good_text c.requires.0 c.requires.2) (sym c.requires.1.query ∙ c.in-Some.is)
