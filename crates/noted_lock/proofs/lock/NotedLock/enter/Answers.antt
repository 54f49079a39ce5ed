use Rattle.std.proofs.Common.{rules, ◌≡◌, ◌<◌, ℕ, ◌∷◌, Some, sym, ap, ◌∙◌, subst}
use Rattle.atomic_table.specs.Table.{rest}
use Rattle.noted_lock.specs.Rule.{note_in}
use Rattle.noted_lock.proofs.Places.{note_in-notes_of}
use Rattle.noted_lock.proofs.Seating.{seated, is_outside}
use Rattle.noted_lock.proofs.lock.NotedLock.enter.Goals as goal

pub take_turn-requires-clause-outside : goal.take_turn-requires-clause-outside
take_turn-requires-clause-outside g c =
    is_outside _ _ _ (c.loop.invariant.1 ∙ seated c.args.seat.badge.views c.into_seat-place.result.me c.args.seat.outside c.into_seat-place.ensures.2 c.into_seat-place.ensures.3)

pub exchange-requires : goal.exchange-requires
exchange-requires g c = let took = c.take_turn.ensures.won (search rules) in
    (search rules, (_, took.1 ∙ ap (λ cs. (0, Some took.0) ∷ rest cs) (sym took.1)))

pub returns-then-take_turn-clause-entry : goal.returns-then-take_turn-clause-entry
returns-then-take_turn-clause-entry g c k l =
    let took = c.take_turn.ensures.won (search rules) in let n : ℕ = c.loop.place.me.0.seats in
    let same : took.0 ≡ c.unwrap-held.result = search rules in
    let is = c.loop.invariant.1 ∙ seated c.args.seat.badge.views c.into_seat-place.result.me c.args.seat.outside c.into_seat-place.ensures.2 c.into_seat-place.ensures.3 in
    let within_n : k < n = subst (λ (z : ℕ). k < z) (sym (ap (λ m. m.0.seats) is)) l in
    ap (λ m. note_in m.0.notes k) c.exchange.ensures.3 ∙ (ap (λ v. note_in v.notes k) took.2 ∙ (note_in-notes_of (g.T.Noted.note took.0) n k within_n ∙ ap (λ x. g.T.Noted.note x k) same))
