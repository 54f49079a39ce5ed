use Rattle.std.proofs.Common.{◌≡◌, refl, sym, ◌∙◌, ap, subst, arith, List, length, count_by, None}
use Rattle.std.proofs.lemmas.Slice.Zip.{AllZip-long}
use Rattle.graph_core.specs.Equations.{Equations}
use Rattle.graph_core.specs.Queries.{equations_of}
use Rattle.grape_event.specs.JournalList.{JournalList}
use Rattle.grape_event.specs.contracts.journal.Journal.{the_view}
use Rattle.token_cut.specs.Parts.{SnapshotParts}
use Rattle.token_cut.specs.contracts.snapshot.Snapshot.{the_view as start_view}
use Rattle.base_machine.specs.Machine.{system_of}
use Rattle.base_machine.specs.Fitness.{IsInForm}
use Rattle.hub_engine.specs.declared.desk.Desk.{Desk}
use Rattle.hub_engine.specs.Desks.{Tables, is_out}
use Rattle.hub_engine.specs.Kinds.{IsLeastRound}
use Rattle.hub_engine.specs.Openings.{IsPartFor, new_desks}
use Rattle.hub_engine.proofs.Opening.{all_few, all_fit, few_fragments}
use Rattle.hub_engine.proofs.First.{opens, desks_many, all_here}
use Rattle.hub_engine.proofs.engine.Engine.open.Goals as goal

pub routes_of-requires : goal.routes_of-requires
routes_of-requires g c = all_few c.args.job.now c.requires.job c.args.fragments.now c.requires.fragments

pub desks_of-requires : goal.desks_of-requires
desks_of-requires g c = record { parts = all_fit c.args.job.now c.requires.job c.args.fragments.now c.args.start c.requires.fragments c.requires.start }

pub cut_of-requires-clause-few : goal.cut_of-requires-clause-few
cut_of-requires-clause-few g c = few_fragments c.args.job.now c.requires.job c.args.fragments.now c.requires.fragments

pub cut_of-requires-clause-places : goal.cut_of-requires-clause-places
cut_of-requires-clause-places g c = all_few c.args.job.now c.requires.job c.args.fragments.now c.requires.fragments

pub invariant_of-result : goal.invariant_of-result
invariant_of-result g c = c.journal.invariant

pub invariant_of-result-2 : goal.invariant_of-result-2
invariant_of-result-2 g c =
    let job = c.args.job.now in
    let fragments = c.args.fragments.now in
    let start = start_view c.start.inside in
    let order : c.order-order.result ≡ (equations_of job).order =
    c.order-order.ensures job c.requires.program ∙ ap (λ (e : Equations). e.order) (g.met.P.Pie.of_query c.args.program job c.requires.program) in
    let counters = c.counters-counters.ensures job c.requires.program in
    let begun = ap (λ (j : JournalList). j.events) c.journal.view_is ∙ (c.reserve.ensures.events ∙ ap (λ (j : JournalList). j.events) c.new-journal.ensures) in
    let room = c.in_ok-reserve.ensures.room in
    let spare = ap (λ (j : JournalList). j.spare) c.journal.view_is in
    let form = subst (λ (s : SnapshotParts). IsInForm (system_of job) s) (sym c.start.view_is) c.requires.start in
    let desks = c.in_ok-desks.ensures ∙ ap (λ (s : SnapshotParts). new_desks c.order-order.result c.counters-counters.result fragments s.parts) (sym c.start.view_is) in
    let t : Tables =
    record { routes = c.in_ok-routes_of.field-0.items; desks = c.in_ok-desks.desks.items; probe = c.new.result; cut = c.in_ok-cut_of.field-0; counts = record { epoch = c.start.inside.epoch; takes = 0; sealed = None }; turn = 0 } in
    let kept =
    opens (λ j. g.P.Pie.is_for c.args.program j) g.P.Pie.counters_for job c.in_ok-copy.field-0 start (the_view c.journal.inside) c.counters-counters.result c.order-order.result fragments t c.requires.job c.requires.program form c.requires.fragments order counters
    c.in_ok-routes_of.ensures desks c.new.ensures c.in_ok-cut_of.ensures refl refl c.in_ok-copy.ensures begun (omega (arith, room, spare)) in
    let fit = all_fit job c.requires.job fragments c.args.start c.requires.fragments c.requires.start in
    let many = ap length c.in_ok-desks.ensures ∙ desks_many c.order-order.result c.counters-counters.result fragments c.args.start.parts fit in
    let same = AllZip-long IsPartFor fragments c.args.start.parts fit in
    let places = c.in_ok-with_capacity.ensures.capacity in
    let here = ap (λ (l : List Desk). count_by is_out l) desks ∙ all_here c.order-order.result c.counters-counters.result fragments start.parts in (
      kept.0,
      kept.1,
      kept.2,
      c.in_ok-with_capacity.ensures.items,
      omega (arith, many, same, places),
      subst (λ (l : List Desk). IsLeastRound l c.least_round.result) c.deref.ensures.value c.least_round.ensures,
      sym here,
    )

pub returns-clause-hub : goal.returns-clause-hub
returns-clause-hub g c = (invariant_of-result-2 g c).1
