use Rattle.std.proofs.Common.{◌<◌, sym, ◌∙◌, ap, subst}
use Rattle.graph_core.specs.declared.job.Job.{Job}
use Rattle.graph_core.specs.Queries.{equations_of}
use Rattle.graph_core.specs.Fragments.{fragments_of, fragment_of}
use Rattle.noted_lock.specs.Sights.{seat_number, seat_note, inside_value}
use Rattle.grape_hub.specs.LanedHub.{LanedHub}
use Rattle.grape_hub.specs.Notes.{ground_in, calls_in, answer_in, note_of, HasNoWork}
use Rattle.lane_loop.proofs.Parts.{worker_has_part, part_of_worker, evaluates, solves}
use Rattle.lane_loop.proofs.Steps.{job_told, told_of, out_at}
use Rattle.lane_loop.proofs.turns.serve.Goals as goal

pub bounds-fragments-work : goal.bounds-fragments-work
bounds-fragments-work g c =
    let t = c.notes_tell.ensures in
    let (x, out, work, ready) = c.requires.out in
    let (job, start, ground, fragments, is_for, l) = c.requires.job in
    let told = job_told t.grounds t.begin x c.args.lane (seat_note c.args.seat) job start out.tells ground in
    worker_has_part x.hub c.args.lane c.args.work.fresh c.args.work c.args.fragments.now out.stands.0 work (fragments ∙ ap (λ (j : Job). fragments_of j) (sym told))

pub evaluate-requires : goal.evaluate-requires
evaluate-requires g c =
    let t = c.notes_tell.ensures in
    let (x, out, work, ready) = c.requires.out in
    let (job, start, ground, fragments, is_for, l) = c.requires.job in
    let told = job_told t.grounds t.begin x c.args.lane (seat_note c.args.seat) job start out.tells ground in
    let parts = fragments ∙ ap (λ (j : Job). fragments_of j) (sym told) in
    let program = subst (λ (j : Job). g.P.Pie.is_for c.args.program.now j) (sym told) is_for in
    let part = part_of_worker x.hub c.args.lane c.args.work.fresh c.args.work c.args.fragments.now c.index-fragments-work.result out.stands.0 work parts c.index-fragments-work.is in (
      x.hub.job,
      program,
      evaluates x.hub.job (equations_of x.hub.job) (g.P.Pie.equations c.args.program.now x.hub.job) (fragment_of x.hub.job c.args.work.worker) c.index-fragments-work.result c.args.work.fresh c.args.work.local x.hub.counters (g.P.Pie.counters_for x.hub.job) c.args.work.hand
          (g.met.P.Pie.of_query c.args.program.now x.hub.job program) part (sym out.counted) (c.works_go_round.ensures.evaluated x.hub c.args.lane c.args.work.fresh c.args.work out.stands.0 work ready),
    )

pub give_back-requires : goal.give_back-requires
give_back-requires g c =
    let t = c.notes_tell.ensures in
    let (x, out, work, ready) = c.requires.out in
    let (job, start, ground, fragments, is_for, l) = c.requires.job in
    let told = job_told t.grounds t.begin x c.args.lane (seat_note c.args.seat) job start out.tells ground in
    let parts = fragments ∙ ap (λ (j : Job). fragments_of j) (sym told) in
    let program = subst (λ (j : Job). g.P.Pie.is_for c.args.program.now j) (sym told) is_for in
    let part = part_of_worker x.hub c.args.lane c.args.work.fresh c.args.work c.args.fragments.now c.index-fragments-work.result out.stands.0 work parts c.index-fragments-work.is in
    let same = g.met.P.Pie.of_query c.args.program.now x.hub.job program in
    let may =
    evaluates x.hub.job (equations_of x.hub.job) (g.P.Pie.equations c.args.program.now x.hub.job) (fragment_of x.hub.job c.args.work.worker) c.index-fragments-work.result c.args.work.fresh c.args.work.local x.hub.counters (g.P.Pie.counters_for x.hub.job) c.args.work.hand
    same part (sym out.counted) (c.works_go_round.ensures.evaluated x.hub c.args.lane c.args.work.fresh c.args.work out.stands.0 work ready) in
    let solved = solves (equations_of x.hub.job) (g.P.Pie.equations c.args.program.now x.hub.job) (fragment_of x.hub.job c.args.work.worker) c.index-fragments-work.result c.args.work.local.values c.args.work.hand.values c.evaluate.new.local.values
    same part (c.evaluate.ensures.solution x.hub.job program may) in
    let found = told_of c.value.result.now (inside_value c.enter-inside.result) (seat_number c.args.seat) c.args.lane (seat_note c.args.seat) c.value.ensures.value c.requires.seat.1 c.enter-inside.ensures.note in
    record {
      evaluated = (
        x,
        out_at x g.P.Pie.counters_for c.args.lane (seat_note c.args.seat) (note_of c.value.result.now c.args.lane) found out,
        c.works_go_round.ensures.given x.hub c.args.lane c.args.work.fresh c.args.work c.evaluate.new.local out.stands.0 work solved c.evaluate.ensures.before c.evaluate.ensures.counters,
      );
    }

pub leave-requires : goal.leave-requires
leave-requires g c = record {
  others = λ k l ne.
      let same = c.enter-inside.ensures.same in
      c.give_back.ensures.others k (λ e. ne (e ∙ sym (same.1 ∙ c.requires.seat.1))) ∙ (ap (λ (h : LanedHub). note_of h k) c.value.ensures.value ∙ sym (c.enter-inside.ensures.entry k (subst (λ n. k < n) same.2 l)));
}

pub returns : goal.returns
returns g c =
    let same = c.enter-inside.ensures.same in
    let left = c.leave.ensures.same in
    let found = told_of c.value.result.now (inside_value c.enter-inside.result) (seat_number c.args.seat) c.args.lane (seat_note c.args.seat) c.value.ensures.value c.requires.seat.1 c.enter-inside.ensures.note in
    let now = c.leave.ensures.note ∙ ap (note_of c.give_back.new.hub) (same.1 ∙ c.requires.seat.1) in
    record {
      seat = (left.0 ∙ same.0, left.1 ∙ (same.1 ∙ c.requires.seat.1), left.2 ∙ same.2);
      ground = ap ground_in now ∙ (c.give_back.ensures.ground ∙ ap ground_in found);
      empty = subst HasNoWork (sym now) c.give_back.ensures.empty;
      calls = ap calls_in now ∙ (c.give_back.ensures.calls ∙ ap calls_in found);
      answer = ap answer_in now ∙ (c.give_back.ensures.answer ∙ ap answer_in found);
    }
