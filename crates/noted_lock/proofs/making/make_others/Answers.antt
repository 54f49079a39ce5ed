use Rattle.std.proofs.Common.{rules, ap}
use Rattle.noted_lock.proofs.Keeps.{splits_seat}
use Rattle.noted_lock.proofs.making.make_others.Goals as goal

pub split_seat-next-requires : goal.split_seat-next-requires
split_seat-next-requires g c = (
  search rules,
  search rules,
  splits_seat g.T.Noted.note _ 0 _ _ _ _ _ _ (ap (λ m. m.0) c.loop.invariant.me) c.loop.invariant.low c.loop-test.true,
)
