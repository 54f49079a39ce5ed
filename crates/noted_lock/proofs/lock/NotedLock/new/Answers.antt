use Rattle.std.proofs.Common.{rules, ◌++◌, ◌∷◌, [], Some, ap, ◌∙◌}
use Rattle.noted_lock.specs.Rule.{outside}
use Rattle.noted_lock.specs.Plays.{first_claim}
use Rattle.noted_lock.proofs.Keeps.{opens_turn}
use Rattle.noted_lock.proofs.Seating.{opens_with, is_maker, is_ground, all_seats}
use Rattle.noted_lock.proofs.lock.NotedLock.new.Goals as goal

pub new-requires : goal.new-requires
new-requires g c = opens_with g.T.Noted.note _ c.args.value _ _ (c.in_ok-push.ensures.items ∙ ap (λ l. l ++ Some c.args.value ∷ []) c.new-slots.ensures.items) c.of.ensures c.requires.count.0 c.requires.ground

pub make_others-requires-clause-maker : goal.make_others-requires-clause-maker
make_others-requires-clause-maker g c = is_maker _ _ _ c.requires.count.0 c.in-Ok.ensures.ok.4

pub store-requires : goal.store-requires
store-requires g c = (search rules, search rules, opens_turn g.T.Noted.note _ _ _ _ _ _ _ _ c.in_ok-made.ensures.maker c.requires.count.0)

pub returns-clause-seats : goal.returns-clause-seats
returns-clause-seats g c =
    let bare = is_ground _ _ _ 0 c.requires.count.0 c.in-Ok.ensures.ok.4 ∙ ap (λ y. g.T.Noted.note y 0) c.of.ensures in
    let out = c.store.ensures.2.1 ∙ ap (λ m. outside m.0.seats (first_claim m.0.claims)) c.in_ok-made.ensures.maker in
    all_seats _ _ _ _ _ _ _ c.in_ok-insert.ensures.items (search rules) (c.into_badge.ensures.2 ∙ ap (λ v. v ∷ []) out) c.in_ok-made.ensures.seats.0 c.in_ok-made.ensures.seats.1 bare
