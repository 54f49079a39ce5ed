use Rattle.std.proofs.Common.{Some, None, refl, ◌∙◌, arith}
use Rattle.std.proofs.lemmas.Iterator.Adapters.{YieldsList-from_vec}
use Rattle.std.proofs.lemmas.Iterator.Consumers.{YieldsList-turn, YieldsList-end}
use Rattle.std.proofs.lemmas.List.{length_push}
use Rattle.graph_core.specs.Fragments.{fragment_of}
use Rattle.fragment_cut.specs.Halves.{whole}
use Rattle.fragment_cut.proofs.Joining.{push_more, half_turn, half_end, half_owned_inside, whole_is, whole_is_one}
use Rattle.fragment_cut.proofs.cutting.joined.Goals as goal

pub routes_by-requires : goal.routes_by-requires
routes_by-requires c =
    let job = c.args.job.now in
    let given = c.into_iter-half-iterator.ensures.into_iter_gives in
    let road = YieldsList-from_vec c.args.halves.items given.0 (given.1 ∙ c.args.halves.ok.0) in
    let turn = YieldsList-turn road c.loop-half.yielded c.loop-half.half-iterator c.loop-half.yielded_by (Some c.in-Some.half) c.next.new.self c.in-Some.half refl c.in-Some.ensures.steps in
    let half = half_turn job c.args.halves.items c.loop-half.yielded c.loop-half.number c.in-Some.half c.requires.halves c.loop-half.invariant.count turn in
    half_owned_inside job c.loop-half.number c.in-Some.half c.args.routes.now c.owned.result.now half.0 c.requires.routes c.owned.ensures

pub with_routes-requires : goal.with_routes-requires
with_routes-requires c =
    let job = c.args.job.now in
    let given = c.into_iter-half-iterator.ensures.into_iter_gives in
    let road = YieldsList-from_vec c.args.halves.items given.0 (given.1 ∙ c.args.halves.ok.0) in
    let turn = YieldsList-turn road c.loop-half.yielded c.loop-half.half-iterator c.loop-half.yielded_by (Some c.in-Some.half) c.next.new.self c.in-Some.half refl c.in-Some.ensures.steps in
    let half = half_turn job c.args.halves.items c.loop-half.yielded c.loop-half.number c.in-Some.half c.requires.halves c.loop-half.invariant.count turn in
    whole_is_one job c.loop-half.number (whole c.in-Some.half c.loop-half.number c.in_ok-own.own)
    (whole_is job c.loop-half.number c.in-Some.half c.args.routes.now c.owned.result.now c.in_ok-own.own half.0 c.requires.routes c.owned.ensures c.in_ok-own.ensures)

pub overflow_add-number : goal.overflow_add-number
overflow_add-number c =
    let job = c.args.job.now in
    let given = c.into_iter-half-iterator.ensures.into_iter_gives in
    let road = YieldsList-from_vec c.args.halves.items given.0 (given.1 ∙ c.args.halves.ok.0) in
    let turn = YieldsList-turn road c.loop-half.yielded c.loop-half.half-iterator c.loop-half.yielded_by (Some c.in-Some.half) c.next.new.self c.in-Some.half refl c.in-Some.ensures.steps in
    let half = half_turn job c.args.halves.items c.loop-half.yielded c.loop-half.number c.in-Some.half c.requires.halves c.loop-half.invariant.count turn in
    let below = half.1 in
    omega (arith, below, c.requires.job.settings.fragments.1)

pub loop-half-preserved : goal.loop-half-preserved
loop-half-preserved c =
    let job = c.args.job.now in
    let given = c.into_iter-half-iterator.ensures.into_iter_gives in
    let road = YieldsList-from_vec c.args.halves.items given.0 (given.1 ∙ c.args.halves.ok.0) in
    let turn = YieldsList-turn road c.loop-half.yielded c.loop-half.half-iterator c.loop-half.yielded_by (Some c.in-Some.half) c.next.new.self c.in-Some.half refl c.in-Some.ensures.steps in
    let half = half_turn job c.args.halves.items c.loop-half.yielded c.loop-half.number c.in-Some.half c.requires.halves c.loop-half.invariant.count turn in
    record {
      count = omega (arith, c.loop-half.invariant.count, length_push c.loop-half.yielded c.in-Some.half);
      made = push_more (fragment_of job) c.loop-half.number c.loop-half.fragments.items c.push.new.self.items c.with_routes.result c.in_ok-push.ensures.items c.loop-half.invariant.made
          (c.with_routes.ensures ∙ whole_is job c.loop-half.number c.in-Some.half c.args.routes.now c.owned.result.now c.in_ok-own.own half.0 c.requires.routes c.owned.ensures c.in_ok-own.ensures);
    }

pub returns : goal.returns
returns c =
    let job = c.args.job.now in
    let given = c.into_iter-half-iterator.ensures.into_iter_gives in
    let road = YieldsList-from_vec c.args.halves.items given.0 (given.1 ∙ c.args.halves.ok.0) in
    let end = YieldsList-end road c.loop-half.yielded c.loop-half.half-iterator c.loop-half.yielded_by None c.next.new.self refl c.in-None.ensures.steps in
    half_end job c.args.halves.items c.loop-half.yielded c.loop-half.number c.loop-half.fragments.items c.requires.halves c.loop-half.invariant.count end.1 c.loop-half.invariant.made
