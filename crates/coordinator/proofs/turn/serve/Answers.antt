use Rattle.std.proofs.Common.{◌≡◌, inl, inr, not, sym, ◌∙◌, ap, subst}
use Rattle.graph_core.specs.declared.job.Job.{Job}
use Rattle.graph_core.specs.Queries.{equations_of}
use Rattle.graph_core.specs.Fragments.{fragments_of, fragment_of}
use Rattle.hub_engine.specs.declared.work.Next.{Next}
use Rattle.hub_engine.specs.HubValues.{HubValues}
use Rattle.hub_engine.specs.States.{state_of}
use Rattle.hub_engine.specs.Desks.{has_taken}
use Rattle.hub_engine.specs.Calls.{Chooses, ReadyWhereTook}
use Rattle.grape_hub.specs.LanedHub.{lanes_after_answer}
use Rattle.grape_hub.specs.Theorems.{IsCalm}
use Rattle.coordinator.specs.Turns.{ServesOrStops}
use Rattle.lane_loop.proofs.Steps.{stops_after}
use Rattle.lane_loop.proofs.Parts.{worker_has_part, part_of_worker, evaluates, solves}
use Rattle.coordinator.proofs.Turns.{took_is_out, stopped_unchanged, given_after_take, ended_stays}
use Rattle.coordinator.proofs.turn.serve.Goals as goal

pub next-requires-clause-free : goal.next-requires-clause-free
next-requires-clause-free g c = (c.calm_is_empty.ensures c.args.hub.now c.requires.hub).0 c.requires.calm 0

pub bounds-fragments-work : goal.bounds-fragments-work
bounds-fragments-work g c =
    let old = c.args.hub.now.hub in
    let new = c.next.new.self.hub in
    let work = c.in-Took.work in
    let chosen = subst (λ (r : Next). Chooses old 0 r new) c.in-Took.is c.next.ensures.chosen in
    worker_has_part new 0 (not (has_taken work.worker (state_of old).past)) work c.args.fragments.now c.next.ensures.hub.0 chosen.2
    (c.requires.fragments ∙ ap (λ (job : Job). fragments_of job) (sym chosen.1.0))

pub evaluate-requires : goal.evaluate-requires
evaluate-requires g c =
    let old = c.args.hub.now.hub in
    let new = c.next.new.self.hub in
    let work = c.in-Took.work in
    let fresh = not (has_taken work.worker (state_of old).past) in
    let chosen = subst (λ (r : Next). Chooses old 0 r new) c.in-Took.is c.next.ensures.chosen in
    let ready = subst (λ (r : Next). ReadyWhereTook new r) c.in-Took.is c.next.ensures.ready in
    let parts = c.requires.fragments ∙ ap (λ (job : Job). fragments_of job) (sym chosen.1.0) in
    let is_for = subst (λ (job : Job). g.P.Pie.is_for c.args.program.now job) (sym chosen.1.0) c.requires.program in
    let part = part_of_worker new 0 fresh work c.args.fragments.now c.index-fragments-work.result c.next.ensures.hub.0 chosen.2 parts c.index-fragments-work.is in
    let counters : g.P.Pie.counters_for new.job ≡ new.counters = ap (λ (job : Job). g.P.Pie.counters_for job) chosen.1.0 ∙ (sym c.requires.counters ∙ sym chosen.1.1) in (
      new.job,
      is_for,
      evaluates new.job (equations_of new.job) (g.P.Pie.equations c.args.program.now new.job) (fragment_of new.job work.worker) c.index-fragments-work.result work.fresh work.local new.counters (g.P.Pie.counters_for new.job) work.hand
          (g.met.P.Pie.of_query c.args.program.now new.job is_for) part counters (c.works_go_round.ensures.evaluated new 0 fresh work c.next.ensures.hub.0 chosen.2 ready),
    )

pub give-requires-clause-out : goal.give-requires-clause-out
give-requires-clause-out g c = took_is_out c.args.hub.now c.next.new.self 0 c.in-Took.work c.requires.hub c.requires.hub.0.job.settings.lanes.0 (subst (λ (r : Next). c.next.new.self.lanes ≡ lanes_after_answer c.args.hub.now 0 r c.next.new.self.hub) c.in-Took.is c.next.ensures.record)

pub give-requires-clause-work : goal.give-requires-clause-work
give-requires-clause-work g c =
    let old = c.args.hub.now.hub in
    let new = c.next.new.self.hub in
    let work = c.in-Took.work in
    let fresh = not (has_taken work.worker (state_of old).past) in
    let chosen = subst (λ (r : Next). Chooses old 0 r new) c.in-Took.is c.next.ensures.chosen in
    let ready = subst (λ (r : Next). ReadyWhereTook new r) c.in-Took.is c.next.ensures.ready in
    let parts = c.requires.fragments ∙ ap (λ (job : Job). fragments_of job) (sym chosen.1.0) in
    let is_for = subst (λ (job : Job). g.P.Pie.is_for c.args.program.now job) (sym chosen.1.0) c.requires.program in
    let part = part_of_worker new 0 fresh work c.args.fragments.now c.index-fragments-work.result c.next.ensures.hub.0 chosen.2 parts c.index-fragments-work.is in
    let counters : g.P.Pie.counters_for new.job ≡ new.counters = ap (λ (job : Job). g.P.Pie.counters_for job) chosen.1.0 ∙ (sym c.requires.counters ∙ sym chosen.1.1) in
    let same = g.met.P.Pie.of_query c.args.program.now new.job is_for in
    let may = evaluates new.job (equations_of new.job) (g.P.Pie.equations c.args.program.now new.job) (fragment_of new.job work.worker) c.index-fragments-work.result work.fresh work.local new.counters (g.P.Pie.counters_for new.job) work.hand
    same part counters (c.works_go_round.ensures.evaluated new 0 fresh work c.next.ensures.hub.0 chosen.2 ready) in
    let solved = solves (equations_of new.job) (g.P.Pie.equations c.args.program.now new.job) (fragment_of new.job work.worker) c.index-fragments-work.result work.local.values work.hand.values c.evaluate.new.local.values
    same part (c.evaluate.ensures.solution new.job is_for may) in
    c.works_go_round.ensures.given new 0 fresh work c.evaluate.new.local c.next.ensures.hub.0 chosen.2 solved c.evaluate.ensures.before c.evaluate.ensures.counters

pub returns-in-Took-clause-calm : goal.returns-in-Took-clause-calm
returns-in-Took-clause-calm g c =
    let chosen = subst (λ (r : Next). Chooses c.args.hub.now.hub 0 r c.next.new.self.hub) c.in-Took.is c.next.ensures.chosen in
    c.turns_are_calm.ensures.turn c.args.hub.now.hub c.next.new.self.hub c.give.new.self.hub c.in-Took.work.worker 0 c.requires.hub.0 c.requires.calm chosen.1 c.next.ensures.hub.0
    (given_after_take c.args.hub.now.hub c.next.new.self.hub c.give.new.self.hub c.in-Took.work.worker 0 c.in-Took.work.worker chosen.1 c.give.ensures.given) c.give.ensures.hub.0

pub returns-in-Took-clause-goes_on : goal.returns-in-Took-clause-goes_on
returns-in-Took-clause-goes_on g c =
    let chosen = subst (λ (r : Next). Chooses c.args.hub.now.hub 0 r c.next.new.self.hub) c.in-Took.is c.next.ensures.chosen in
    let given = given_after_take c.args.hub.now.hub c.next.new.self.hub c.give.new.self.hub c.in-Took.work.worker 0 c.in-Took.work.worker chosen.1 c.give.ensures.given in
    inr (c.in-Took.work, c.next.new.self.hub, chosen, given)

pub returns-in-Did-clause-goes_on : goal.returns-in-Did-clause-goes_on
returns-in-Did-clause-goes_on g c = inl (c.in-Did.field-0, subst (λ (r : Next). Chooses c.args.hub.now.hub 0 r c.next.new.self.hub) c.in-Did.is c.next.ensures.chosen)

pub returns-in-Ended-clause-goes_on : goal.returns-in-Ended-clause-goes_on
returns-in-Ended-clause-goes_on g c =
    let chosen = subst (λ (r : Next). Chooses c.args.hub.now.hub 0 r c.next.new.self.hub) c.in-Ended.is c.next.ensures.chosen in
    ended_stays c.args.hub.now.hub c.next.new.self.hub chosen.0 chosen.1

pub returns-in-Did-clause-calm : goal.returns-in-Did-clause-calm
returns-in-Did-clause-calm g c =
    let chosen = subst (λ (r : Next). Chooses c.args.hub.now.hub 0 r c.next.new.self.hub) c.in-Did.is c.next.ensures.chosen in
    c.turns_are_calm.ensures.other c.args.hub.now.hub c.next.new.self.hub c.in-Did.field-0 c.requires.hub.0 c.requires.calm chosen.1 chosen.2 c.next.ensures.hub.0

pub returns-in-Ended-clause-calm : goal.returns-in-Ended-clause-calm
returns-in-Ended-clause-calm g c =
    let chosen = subst (λ (r : Next). Chooses c.args.hub.now.hub 0 r c.next.new.self.hub) c.in-Ended.is c.next.ensures.chosen in
    subst (λ (h : HubValues). IsCalm h) (sym chosen.0) c.requires.calm

pub returns-in-NoMemory : goal.returns-in-NoMemory
returns-in-NoMemory g c =
    let old = c.args.hub.now.hub in
    let same = subst (λ (r : Next). Chooses old 0 r c.next.new.self.hub) c.in-NoMemory.is c.next.ensures.chosen in
    let s = stopped_unchanged c.turns_are_calm.ensures.other old c.next.new.self.hub c.give_up.new.hub.hub c.requires.calm same c.next.ensures.hub.0 c.give_up.ensures.stopped c.give_up.ensures.hub.0 in
    record { same = s.same; hub = c.give_up.ensures.hub; calm = s.calm; goes_on = subst (λ b. ServesOrStops b old c.give_up.new.hub.hub) (sym c.give_up.ensures.stays) (stops_after old c.next.new.self.hub c.give_up.new.hub.hub same c.give_up.ensures.stopped) }

pub unreachable-requires : goal.unreachable-requires
unreachable-requires g c =
    let chosen = subst (λ (r : Next). Chooses c.args.hub.now.hub 0 r c.next.new.self.hub) c.in-Idle.is c.next.ensures.chosen in
    c.one_lane_goes_on.ensures c.args.hub.now.hub 0 c.requires.hub.0 c.requires.calm c.requires.duty.1 c.requires.duty.0 c.requires.hub.0.job.settings.lanes.0 c.requires.duty.2 chosen.0
