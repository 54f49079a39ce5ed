use Rattle.std.proofs.Common.{sym, refl}
use Rattle.graph_core.specs.Queries.{equations_of}
use Rattle.graph_core.specs.Fragments.{fragment_of}
use Rattle.grape_hub.proofs.Lanes.{works_may_be_evaluated, evaluated_may_be_given}
use Rattle.lane_loop.proofs.Parts.{worker_has_part, part_of_worker, evaluates, solves}
use Rattle.run_trials.proofs.Driving.{lane_gave, out_by_record}
use Rattle.run_trials.proofs.steps.give_back.Goals as goal

pub bounds-fragments-work : goal.bounds-fragments-work
bounds-fragments-work g c = worker_has_part c.args.hub.now.hub c.args.lane c.requires.out.0 c.args.work c.args.fragments.now c.requires.hub.0 c.requires.out.1 c.requires.fragments

pub evaluate-requires : goal.evaluate-requires
evaluate-requires g c =
    let h = c.args.hub.now.hub in
    let work = c.args.work in
    let out = c.requires.out in
    let part = part_of_worker h c.args.lane out.0 work c.args.fragments.now c.index-fragments-work.result c.requires.hub.0 out.1 c.requires.fragments c.index-fragments-work.is in (
      h.job,
      c.requires.program,
      evaluates h.job (equations_of h.job) (g.P.Pie.equations c.args.program.now h.job) (fragment_of h.job work.worker) c.index-fragments-work.result work.fresh work.local h.counters (g.P.Pie.counters_for h.job) work.hand
          (g.met.P.Pie.of_query c.args.program.now h.job c.requires.program) part (sym c.requires.counters) (works_may_be_evaluated h c.args.lane out.0 work c.requires.hub.0 out.1 out.2),
    )

pub give-requires-clause-out : goal.give-requires-clause-out
give-requires-clause-out g c = out_by_record c.args.hub.now c.args.lane c.requires.out.0 c.args.work c.requires.hub c.requires.going c.requires.out.1

pub give-requires-clause-work : goal.give-requires-clause-work
give-requires-clause-work g c =
    let h = c.args.hub.now.hub in
    let work = c.args.work in
    let out = c.requires.out in
    let part = part_of_worker h c.args.lane out.0 work c.args.fragments.now c.index-fragments-work.result c.requires.hub.0 out.1 c.requires.fragments c.index-fragments-work.is in
    let same = g.met.P.Pie.of_query c.args.program.now h.job c.requires.program in
    let may = evaluates h.job (equations_of h.job) (g.P.Pie.equations c.args.program.now h.job) (fragment_of h.job work.worker) c.index-fragments-work.result work.fresh work.local h.counters (g.P.Pie.counters_for h.job) work.hand
    same part (sym c.requires.counters) (works_may_be_evaluated h c.args.lane out.0 work c.requires.hub.0 out.1 out.2) in
    let solved = solves (equations_of h.job) (g.P.Pie.equations c.args.program.now h.job) (fragment_of h.job work.worker) c.index-fragments-work.result work.local.values work.hand.values c.evaluate.new.local.values
    same part (c.evaluate.ensures.solution h.job c.requires.program may) in
    evaluated_may_be_given h c.args.lane out.0 work c.evaluate.new.local c.requires.hub.0 out.1 solved c.evaluate.ensures.before c.evaluate.ensures.counters

pub returns : goal.returns
returns g c =
    let d = lane_gave c.args.hub.now.hub c.give.new.self.hub c.args.lane c.args.work c.args.work.worker c.requires.hub.0 c.requires.out c.requires.going refl c.give.ensures.given c.give.ensures.hub.0 in
    record { along = d.along; hub = c.give.ensures.hub; free = d.out; lanes = d.lanes }
