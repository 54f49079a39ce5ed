use Rattle.std.proofs.Common.{◌≡◌, not, sym, ◌∙◌, ap, subst}
use Rattle.std.specs.Prelude.{◌==◌, length}
use Rattle.graph_core.specs.declared.job.Job.{Job}
use Rattle.graph_core.specs.Queries.{equations_of}
use Rattle.graph_core.specs.Fragments.{fragments_of, fragment_of}
use Rattle.pie_core.specs.Locals.{LocalValues}
use Rattle.hub_engine.specs.declared.work.Next.{Next}
use Rattle.hub_engine.specs.States.{state_of}
use Rattle.hub_engine.specs.Desks.{has_taken}
use Rattle.hub_engine.specs.Calls.{Chooses, ReadyWhereTook, MayGive}
use Rattle.grape_hub.specs.LanedHub.{lane_at, answer_of, after_answer, after_give}
use Rattle.lane_loop.proofs.Parts.{worker_has_part, part_of_worker, evaluates, solves}
use Rattle.coordinator.proofs.Turns.{given_after_take}
use Rattle.count_falls.proofs.Alone.{next_stays, out_by_record}
use Rattle.count_falls.proofs.driving.serve.Goals as goal

pub bounds-fragments-work : goal.bounds-fragments-work
bounds-fragments-work g c =
    let old = c.args.hub.now.hub in
    let new = c.next.new.self.hub in
    let work = c.in-Took.work in
    let chosen = subst (λ (r : Next). Chooses old 0 r new) c.in-Took.is c.next.ensures.chosen in
    worker_has_part new 0 (not (has_taken work.worker (state_of old).past)) work c.args.fragments.now c.next.ensures.hub.0 chosen.2
    (c.requires.fragments ∙ ap (λ (job : Job). fragments_of job) (sym chosen.1.0))

pub evaluate-requires : goal.evaluate-requires
evaluate-requires g c =
    let old = c.args.hub.now.hub in
    let new = c.next.new.self.hub in
    let work = c.in-Took.work in
    let fresh = not (has_taken work.worker (state_of old).past) in
    let chosen = subst (λ (r : Next). Chooses old 0 r new) c.in-Took.is c.next.ensures.chosen in
    let ready = subst (λ (r : Next). ReadyWhereTook new r) c.in-Took.is c.next.ensures.ready in
    let parts = c.requires.fragments ∙ ap (λ (job : Job). fragments_of job) (sym chosen.1.0) in
    let is_for = subst (λ (job : Job). g.P.Pie.is_for c.args.program.now job) (sym chosen.1.0) c.requires.program in
    let part = part_of_worker new 0 fresh work c.args.fragments.now c.index-fragments-work.result c.next.ensures.hub.0 chosen.2 parts c.index-fragments-work.is in
    let counters : g.P.Pie.counters_for new.job ≡ new.counters = ap (λ (job : Job). g.P.Pie.counters_for job) chosen.1.0 ∙ (sym c.requires.counters ∙ sym chosen.1.1) in (
      new.job,
      is_for,
      evaluates new.job (equations_of new.job) (g.P.Pie.equations c.args.program.now new.job) (fragment_of new.job work.worker) c.index-fragments-work.result work.fresh work.local new.counters (g.P.Pie.counters_for new.job) work.hand
          (g.met.P.Pie.of_query c.args.program.now new.job is_for) part counters (c.works_go_round.ensures.evaluated new 0 fresh work c.next.ensures.hub.0 chosen.2 ready),
    )

pub give-requires-clause-out : goal.give-requires-clause-out
give-requires-clause-out g c =
    let old = c.args.hub.now in
    let new = c.next.new.self in
    out_by_record old new 0 (after_answer (answer_of c.next.result) (length new.hub.journal.events) (lane_at old 0)) c.requires.hub c.requires.hub.0.job.settings.lanes.0 c.next.ensures.record
    ∙ ap (λ (r : Next). answer_of r == 1) c.in-Took.is

pub give-requires-clause-work : goal.give-requires-clause-work
give-requires-clause-work g c =
    let old = c.args.hub.now.hub in
    let new = c.next.new.self.hub in
    let work = c.in-Took.work in
    let fresh = not (has_taken work.worker (state_of old).past) in
    let chosen = subst (λ (r : Next). Chooses old 0 r new) c.in-Took.is c.next.ensures.chosen in
    let ready = subst (λ (r : Next). ReadyWhereTook new r) c.in-Took.is c.next.ensures.ready in
    let parts = c.requires.fragments ∙ ap (λ (job : Job). fragments_of job) (sym chosen.1.0) in
    let is_for = subst (λ (job : Job). g.P.Pie.is_for c.args.program.now job) (sym chosen.1.0) c.requires.program in
    let part = part_of_worker new 0 fresh work c.args.fragments.now c.index-fragments-work.result c.next.ensures.hub.0 chosen.2 parts c.index-fragments-work.is in
    let counters : g.P.Pie.counters_for new.job ≡ new.counters = ap (λ (job : Job). g.P.Pie.counters_for job) chosen.1.0 ∙ (sym c.requires.counters ∙ sym chosen.1.1) in
    let same = g.met.P.Pie.of_query c.args.program.now new.job is_for in
    let may = evaluates new.job (equations_of new.job) (g.P.Pie.equations c.args.program.now new.job) (fragment_of new.job work.worker) c.index-fragments-work.result work.fresh work.local new.counters (g.P.Pie.counters_for new.job) work.hand
    same part counters (c.works_go_round.ensures.evaluated new 0 fresh work c.next.ensures.hub.0 chosen.2 ready) in
    let solved = solves (equations_of new.job) (g.P.Pie.equations c.args.program.now new.job) (fragment_of new.job work.worker) c.index-fragments-work.result work.local.values work.hand.values c.evaluate.new.local.values
    same part (c.evaluate.ensures.solution new.job is_for may) in
    subst (λ (l : LocalValues). MayGive new 0 (record work { local = l })) (sym c.add.ensures)
    (c.works_go_round.ensures.given new 0 fresh work c.evaluate.new.local c.next.ensures.hub.0 chosen.2 solved c.evaluate.ensures.before c.evaluate.ensures.counters)

pub returns-in-Took : goal.returns-in-Took
returns-in-Took g c =
    let old = c.args.hub.now.hub in
    let taken = c.next.new.self in
    let new = c.give.new.self in
    let i = c.in-Took.work.worker in
    let chosen = subst (λ (r : Next). Chooses old 0 r taken.hub) c.in-Took.is c.next.ensures.chosen in
    let given = given_after_take old taken.hub new.hub i 0 i chosen.1 c.give.ensures.given in
    record {
      same = (given.0 ∙ chosen.1.0, given.1 ∙ chosen.1.1);
      hub = c.give.ensures.hub;
      free = out_by_record taken new 0 (after_give (lane_at taken 0)) c.next.ensures.hub c.next.ensures.hub.0.job.settings.lanes.0 c.give.ensures.record;
    }

pub returns-in-Did : goal.returns-in-Did
returns-in-Did g c =
    let old = c.args.hub.now in
    let new = c.next.new.self in
    record {
      same = next_stays old.hub new.hub 0 c.next.result c.next.ensures.chosen;
      hub = c.next.ensures.hub;
      free = out_by_record old new 0 (after_answer (answer_of c.next.result) (length new.hub.journal.events) (lane_at old 0)) c.requires.hub c.requires.hub.0.job.settings.lanes.0 c.next.ensures.record
          ∙ ap (λ (r : Next). answer_of r == 1) c.in-Did.is;
    }

pub returns-in-Idle : goal.returns-in-Idle
returns-in-Idle g c =
    let old = c.args.hub.now in
    let new = c.next.new.self in
    record {
      same = next_stays old.hub new.hub 0 c.next.result c.next.ensures.chosen;
      hub = c.next.ensures.hub;
      free = out_by_record old new 0 (after_answer (answer_of c.next.result) (length new.hub.journal.events) (lane_at old 0)) c.requires.hub c.requires.hub.0.job.settings.lanes.0 c.next.ensures.record
          ∙ ap (λ (r : Next). answer_of r == 1) c.in-Idle.is;
    }

pub returns-in-Ended : goal.returns-in-Ended
returns-in-Ended g c =
    let old = c.args.hub.now in
    let new = c.next.new.self in
    record {
      same = next_stays old.hub new.hub 0 c.next.result c.next.ensures.chosen;
      hub = c.next.ensures.hub;
      free = out_by_record old new 0 (after_answer (answer_of c.next.result) (length new.hub.journal.events) (lane_at old 0)) c.requires.hub c.requires.hub.0.job.settings.lanes.0 c.next.ensures.record
          ∙ ap (λ (r : Next). answer_of r == 1) c.in-Ended.is;
    }

pub returns-in-NoMemory : goal.returns-in-NoMemory
returns-in-NoMemory g c =
    let old = c.args.hub.now in
    let new = c.next.new.self in
    record {
      same = next_stays old.hub new.hub 0 c.next.result c.next.ensures.chosen;
      hub = c.next.ensures.hub;
      free = out_by_record old new 0 (after_answer (answer_of c.next.result) (length new.hub.journal.events) (lane_at old 0)) c.requires.hub c.requires.hub.0.job.settings.lanes.0 c.next.ensures.record
          ∙ ap (λ (r : Next). answer_of r == 1) c.in-NoMemory.is;
    }
