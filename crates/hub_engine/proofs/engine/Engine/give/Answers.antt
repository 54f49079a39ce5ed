use Rattle.std.proofs.Common.{◌+◌, ◌≤◌, List, length, refl, sym, ap, subst, ◌∙◌, arith}
use Rattle.graph_core.specs.declared.fragment.Route.{Route}
use Rattle.graph_core.specs.Fragments.{piece_at}
use Rattle.hub_engine.specs.declared.desk.Desk.{Desk}
use Rattle.hub_engine.specs.declared.sender.Sender.{Sender}
use Rattle.hub_engine.specs.HubValues.{HubValues}
use Rattle.hub_engine.specs.States.{machine}
use Rattle.base_machine.specs.Machine.{posts_to}
use Rattle.pie_core.specs.Locals.{LocalValues}
use Rattle.pie_core.specs.LocalCalls.{settled}
use Rattle.hub_engine.specs.Kinds.{IsLeastRound}
use Rattle.hub_engine.specs.Posting.{LeadToDesks, AllCanReceive, ChangesAreValues, HasMailOf, posted, recorded_with}
use Rattle.hub_engine.proofs.Gives
use Rattle.hub_engine.proofs.engine.Engine.give.Goals as goal

pub push-requires : goal.push-requires
push-requires g c =
    Gives.one_spare c.self.invariant.1 c.self.invariant.2 (Gives.may_here c.self.view_is c.requires.work) (Gives.going_here c.self.view_is c.requires.going)

pub index-requires : goal.index-requires
index-requires g c =
    let r = Gives.desk_within c.self.invariant.1 c.self.invariant.2 (Gives.may_here c.self.view_is c.requires.work) (Gives.going_here c.self.view_is c.requires.going) in
    let n = c.self.inside.desks.ok.0 in
    omega (arith, r, n)

pub overflow_add-round : goal.overflow_add-round
overflow_add-round g c =
    let may = Gives.may_here c.self.view_is c.requires.work in
    let r = Gives.round_fits c.self.invariant.1 c.self.invariant.2 may (Gives.going_here c.self.view_is c.requires.going) c.index.result.now c.push.new.self.events c.push.ensures.events c.push.ensures.short in
    let e = ap (λ (d : Desk). d.round) c.index.ensures in
    omega (arith, r, e)

pub index-routes-requires : goal.index-routes-requires
index-routes-requires g c =
    let r = Gives.routes_within c.self.invariant.1 c.self.invariant.2 (Gives.may_here c.self.view_is c.requires.work) (Gives.going_here c.self.view_is c.requires.going) in
    let n = c.self.inside.routes.ok.0 in
    omega (arith, r, n)

pub post_changes-requires-clause-rows : goal.post_changes-requires-clause-rows
post_changes-requires-clause-rows g c =
    let may = Gives.may_here c.self.view_is c.requires.work in
    let going = Gives.going_here c.self.view_is c.requires.going in
    ap (λ (l : List (List Route)). length l) (c.index-routes.ensures ∙ Gives.routes_here c.self.invariant.1 c.self.invariant.2 may going c.index-routes.result.now)
    ∙ (Gives.rows_fit c.self.invariant.1 c.self.invariant.2 may going ∙ sym (ap (λ (l : LocalValues). length l.before) c.gather_fallen.ensures))

pub post_changes-requires-clause-lead : goal.post_changes-requires-clause-lead
post_changes-requires-clause-lead g c =
    let may = Gives.may_here c.self.view_is c.requires.work in
    let going = Gives.going_here c.self.view_is c.requires.going in
    let rows = c.index-routes.ensures ∙ Gives.routes_here c.self.invariant.1 c.self.invariant.2 may going c.index-routes.result.now in
    subst (λ (l : List (List Route)). LeadToDesks l c.deref_mut.result.now) (sym rows)
    (subst (LeadToDesks (piece_at (machine (record { job = c.self.inside.job; counters = g.P.Pie.counters_for c.self.inside.job; start = c.self.inside.start; journal = c.self.inside.journal })).pieces c.args.work.worker).routes) (sym c.deref_mut.ensures.value)
    (Gives.lead_to_desks c.self.invariant.1 c.self.invariant.2 may going))

pub post_changes-requires-clause-values : goal.post_changes-requires-clause-values
post_changes-requires-clause-values g c =
    subst (λ (l : LocalValues). ChangesAreValues l.before l.values) (sym c.gather_fallen.ensures)
    (Gives.changes_are_values c.self.invariant.1 c.self.invariant.2 (Gives.may_here c.self.view_is c.requires.work) (Gives.going_here c.self.view_is c.requires.going))

pub post_changes-requires-clause-receive : goal.post_changes-requires-clause-receive
post_changes-requires-clause-receive g c =
    let may = Gives.may_here c.self.view_is c.requires.work in
    let going = Gives.going_here c.self.view_is c.requires.going in
    subst (AllCanReceive c.len-place.result) (sym c.deref_mut.ensures.value)
    (Gives.can_receive c.self.invariant.1 c.self.invariant.2 may going c.len-place.result c.push.new.self.events c.len-place.ensures c.push.ensures.events c.push.ensures.short)

pub post_changes-requires-clause-few : goal.post_changes-requires-clause-few
post_changes-requires-clause-few g c =
    let may = Gives.may_here c.self.view_is c.requires.work in
    subst (λ (l : List Desk). length l ≤ 64) (sym c.deref_mut.ensures.value) (Gives.few_desks c.self.invariant.1 c.self.invariant.2 may (Gives.going_here c.self.view_is c.requires.going))

pub post_changes-requires-clause-parts : goal.post_changes-requires-clause-parts
post_changes-requires-clause-parts g c =
    let may = Gives.may_here c.self.view_is c.requires.work in
    subst (λ (l : List Desk). HasMailOf l c.self.inside.cut) (sym c.deref_mut.ensures.value) (Gives.has_mail_of c.self.invariant.1 c.self.invariant.2 may (Gives.going_here c.self.view_is c.requires.going))

pub carry_token-tagged-requires : goal.carry_token-tagged-requires
carry_token-tagged-requires g c = Gives.part_within c.self.invariant.1 c.self.invariant.2 (Gives.may_here c.self.view_is c.requires.work) (Gives.going_here c.self.view_is c.requires.going)

pub index_mut-requires : goal.index_mut-requires
index_mut-requires g c =
    let r = Gives.desk_within c.self.invariant.1 c.self.invariant.2 (Gives.may_here c.self.view_is c.requires.work) (Gives.going_here c.self.view_is c.requires.going) in
    let n = c.self.inside.desks.ok.0 in
    omega (arith, r, n)

pub invariant_of-self : goal.invariant_of-self
invariant_of-self g c =
    let may = Gives.may_here c.self.view_is c.requires.work in
    let going = Gives.going_here c.self.view_is c.requires.going in
    let new : HubValues = record { job = c.self.inside.job; counters = g.P.Pie.counters_for c.self.inside.job; start = c.self.inside.start; journal = c.push.new.self } in
    let rows = c.index-routes.ensures ∙ Gives.routes_here c.self.invariant.1 c.self.invariant.2 may going c.index-routes.result.now in
    let sender : Sender = record { place = c.len-place.result; round = c.index.result.now.round + 1; tagged = c.carry_token-tagged.result } in
    let sends = Gives.sender_is c.self.invariant.1 c.self.invariant.2 may going c.index.result.now c.len-place.result (c.index.result.now.round + 1) c.carry_token-tagged.result c.len-place.ensures (ap (λ (d : Desk). d.round + 1) c.index.ensures) c.carry_token-tagged.ensures in
    let posts = c.post_changes.ensures.desks ∙ ap (λ (l : LocalValues). posted sender l.before l.values c.index-routes.result.now c.deref_mut.result.now) c.gather_fallen.ensures in
    let late = c.post_changes.ensures.cut ∙ ap (λ (l : LocalValues). recorded_with sender (λ k. posts_to k l.before l.values c.index-routes.result.now) c.self.inside.cut) c.gather_fallen.ensures in
    let settles = c.settle.ensures ∙ ap settled c.gather_fallen.ensures in
    let long = Gives.written_length c.self.invariant.1 c.self.invariant.2 may going c.self.inside.desks.len c.post_changes.new.desks c.deref_mut.result.now c.index-routes.result.now
    sender c.rest.new.self posts c.deref_mut.ensures.value c.self.inside.desks.ok.0 in
    let room = c.self.invariant.4 in
    let after =
    Gives.tables_written c.self.invariant.1 c.self.invariant.2 may going new (refl, refl, c.push.ensures.events, refl) c.self.inside.desks.len c.post_changes.new.desks
    c.deref_mut.result.now c.index-routes.result.now c.settle.new.self c.index_mut.result.now sender c.rest.new.self c.post_changes.new.cut posts rows c.deref_mut.ensures.value c.self.inside.desks.ok.0 settles
    c.index_mut.ensures.value sends c.rest.ensures late in (
      c.self.invariant.0,
      Gives.hub_after c.self.invariant.1 c.self.invariant.2 may going new (refl, refl, c.push.ensures.events, refl) c.push.ensures.spare,
      after,
      c.self.invariant.3,
      omega (arith, long, room),
      subst (λ (l : List Desk). IsLeastRound l c.least_round-least.result) c.deref.ensures.value c.least_round-least.ensures,
      (let less = Gives.one_less_out c.self.invariant.1 c.self.invariant.2 may going new _ (refl, refl, c.push.ensures.events, refl) after in let o = c.self.invariant.6 in omega (arith, less, o)),
    )

pub returns-clause-hub : goal.returns-clause-hub
returns-clause-hub g c =
    let may = Gives.may_here c.self.view_is c.requires.work in
    let going = Gives.going_here c.self.view_is c.requires.going in
    let new : HubValues = record { job = c.self.inside.job; counters = g.P.Pie.counters_for c.self.inside.job; start = c.self.inside.start; journal = c.push.new.self } in
    Gives.hub_after c.self.invariant.1 c.self.invariant.2 may going new (refl, refl, c.push.ensures.events, refl) c.push.ensures.spare

pub overflow_sub-self : goal.overflow_sub-self
overflow_sub-self g c =
    let some = Gives.some_out c.self.invariant.1 c.self.invariant.2 (Gives.may_here c.self.view_is c.requires.work) (Gives.going_here c.self.view_is c.requires.going) in
    let out = c.self.invariant.6 in
    omega (arith, some, out)
