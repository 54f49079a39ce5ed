use Rattle.std.proofs.Common.{◌≡◌, ◌⊎◌, inl, inr, sym, ◌∙◌, ap, arith, [], ◌∷◌, length, length-append}
use Rattle.hub_engine.proofs.Finished.{one_more_local, all_locals}
use Rattle.hub_engine.proofs.desk.into_locals.Goals as goal

pub returns : goal.returns
returns c =
    let rest = c.desks.desk-iterator.a.rest in
    let more = c.desks.desk-iterator.b.rest in
    let none : (length rest.items ≡ 0) ⊎ (length more.items ≡ 0) = elim c.in-None.ensures.steps [ inl n ↦ inl (sym rest.ok.0 ∙ n.1.0) | inr n ↦ inr (sym more.ok.0 ∙ n.1.0) ] in
    all_locals c.args.desks.items rest.items c.args.given_up.items more.items c.desks.locals.items none (c.desks.invariant.0, c.desks.invariant.1)

pub desks-preserved : goal.desks-preserved
desks-preserved c =
    let h = c.in-Some.ensures.steps in
    let more = one_more_local c.args.desks.items _ _ c.args.given_up.items _ _ _ _ c.in-Some.desk c.in-Some.given c.into_local.result h.0.0 h.1.0 c.push_reserved.ensures.items c.into_local.ensures (c.desks.invariant.0, c.desks.invariant.1) in
    let long = ap length c.push_reserved.ensures.items in
    let rest = ap length h.0.0 in
    let room = c.desks.invariant.2 in
    let capacity = c.push_reserved.ensures.capacity in
    (more.0, more.1, omega (arith, long, rest, room, capacity, length-append c.desks.locals.items (c.into_local.result ∷ [])))
