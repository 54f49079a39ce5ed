use Rattle.std.proofs.Common.{inl, inr}
use Rattle.std.proofs.lemmas.List.{nil_from_length}
use Rattle.hub_engine.proofs.Opening.{no_fragments_left, no_parts_left}
use Rattle.hub_engine.proofs.open.desks_of.Goals as goal

pub returns : goal.returns
returns c =
    let fragments = c.parts.part-iterator.a.rest.now in
    let parts = c.parts.part-iterator.b.rest.now in
    elim c.in-None.ensures.steps [
      | inl e ↦ no_fragments_left c.args.order c.args.counters fragments parts c.parts.desks.items _ (nil_from_length fragments e.1.0) c.parts.invariant.1
      | inr e ↦ no_parts_left c.args.order c.args.counters fragments parts c.parts.desks.items _ (nil_from_length parts e.1.0) c.parts.invariant.1
    ]
