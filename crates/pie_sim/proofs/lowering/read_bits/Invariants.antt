use Rattle.std.proofs.Common.{◌≡◌, ℕ, take}
use Rattle.graph_core.specs.Queries.{has_bit}
use Rattle.pie_sim.specs.Falling.{is_read}
use Rattle.pie_sim.proofs.lowering.read_bits.Given as goal

-- the bits of the readings so far
abbrev pub invariant-row : goal.invariant-row
invariant-row l = (m : ℕ) → has_bit l.bits m ≡ is_read (take l.reading-index l.reading-items) l.values m
