use Rattle.std.proofs.Common.{◌≡◌, ◌+◌, ◌*◌, ◌<◌, inl, inr, sym, ◌∙◌, ap, arith, length, slice_index, slice_index_or, []}
use Rattle.std.specs.Prelude.{slice_set}
use Rattle.std.proofs.lemmas.Bool.{cases_eq}
use Rattle.std.proofs.lemmas.List.{length-set}
use Rattle.pie_core.specs.Locals.{LocalValues}
use Rattle.pie_sim.specs.Counting.{counter_at, times_read}
use Rattle.pie_sim.proofs.Counts.{in_room, set_same, set_place, set_column}
use Rattle.pie_sim.proofs.counting.count_place.Goals as goal

pub nodes-preserved : goal.nodes-preserved
nodes-preserved c =
    let nodes = c.args.nodes.now in
    let n = length nodes in
    let start = c.args.local.now in
    let old = c.nodes.local in
    let new = c.set_counter.new.local in
    let q = c.args.place in
    let d = c.nodes.column in
    let row = slice_index_or c.args.part.now.readings q [] in
    let value = c.times_read-times.result in
    let so_far = c.nodes.invariant in
    let counters : new.counters ≡ slice_set old.counters (q * n + d) value = ap (λ (l : LocalValues). l.counters) c.set_counter.ensures in
    let room = in_room (length c.args.part.now.owned) n q d c.requires.place c.nodes-test.true in
    let inside : q * n + d < length old.counters = omega (arith, room, so_far.room, c.requires.room) in
    let values : c.values.result.now ≡ start.values = c.values.ensures.values ∙ ap (λ (l : LocalValues). l.values) so_far.rest in
    record {
      rest = c.set_counter.ensures ∙ ap (λ cs. let x : LocalValues = record old { counters = cs } in x) (sym counters) ∙ ap (λ (l : LocalValues). let x : LocalValues = record l { counters = new.counters } in x) so_far.rest;
      room = ap length counters ∙ length-set old.counters (q * n + d) value ∙ so_far.room;
      counts = λ k l. elim (cases_eq k d) [
        | inl e ↦
            ap (λ i. counter_at n new.counters q i) e
            ∙ ap (λ cs. counter_at n cs q d) counters
            ∙ set_same n old.counters q d value inside
            ∙ c.times_read-times.ensures
            ∙ ap (λ xs. times_read row xs (slice_index nodes d)) values
            ∙ sym (ap (λ i. times_read row start.values (slice_index nodes i)) e)
        | inr other ↦ ap (λ cs. counter_at n cs q k) counters ∙ set_column n old.counters q d value q k (omega (arith, l, c.nodes-test.true)) c.nodes-test.true other ∙ so_far.counts k (omega (arith, l, other))
      ];
      others = λ p k apart l. ap (λ cs. counter_at n cs p k) counters ∙ set_place n old.counters q d value p k l c.nodes-test.true apart ∙ so_far.others p k apart l;
    }
