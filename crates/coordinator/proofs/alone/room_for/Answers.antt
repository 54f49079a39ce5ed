use Rattle.std.proofs.Common.{sym, subst}
use Rattle.token_cut.specs.Shapes.{Starts, IsShape}
use Rattle.coordinator.proofs.Places.{in_limits}
use Rattle.coordinator.proofs.Sizing.{room_is_made}
use Rattle.coordinator.proofs.alone.room_for.Goals as goal

pub fresh-requires : goal.fresh-requires
fresh-requires c = subst (λ (s : Starts). IsShape s) (sym c.requires.shape) (in_limits c.args.job.now c.requires.job)

pub returns : goal.returns
returns c = room_is_made c.args.job.now c.args.shape.now c.fresh.result c.requires.shape c.fresh.ensures
