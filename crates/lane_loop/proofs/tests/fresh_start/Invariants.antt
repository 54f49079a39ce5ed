-- The parts so far.
use Rattle.std.proofs.Common.{◌≡◌, map, take}
use Rattle.lane_loop.specs.Meetings.{part_of}
use Rattle.lane_loop.proofs.tests.fresh_start.Given as goal

abbrev pub invariant-parts : goal.invariant-parts
invariant-parts g l = l.parts.items ≡ map (part_of l.job) (take l.part-index l.fragments)
