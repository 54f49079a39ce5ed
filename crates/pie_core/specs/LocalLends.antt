-- What becomes of a fragment's values whose counters are lent.
use Rattle.std.specs.Prelude.{ℕ, List, length}
use Rattle.std.specs.List.{refill}
use Rattle.std.specs.Borrow.{Lends, MutBor, Fml, Array, u64}
use Rattle.pie_core.specs.Locals.{LocalValues}
use Rattle.pie_core.specs.contracts.local.Local.{the_row}

-- the counters end as what was written over them, and all else stays
abbrev pub LendsCounters : MutBor LocalValues → MutBor (List ℕ) → Fml
LendsCounters local lent = Lends the_row (Array u64 0) local lent (λ counters. record local.now { counters = refill (length local.now.counters) local.now.counters counters })
