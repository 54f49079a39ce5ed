-- What a history in memory keeps: what stands now is what the steps lead to, and there is room for it.
use Rattle.std.specs.Prelude.{◌≡◌, ◌≤◌, length, reverse, vec_capacity}
use Rattle.grape_disk.specs.Platters.{PlatterState, platter}
use Rattle.grape_disk.specs.MemDisks.{HistoryState}
use Rattle.grape_disk.specs.declared.history.History.TheInside.{Inside}

abbrev pub history_of : Inside → HistoryState
history_of h = record { start = h.start.items; done = reverse h.steps.items; room = h.room }

abbrev pub stands : Inside → PlatterState
stands h = record { stable = h.stable.items; read = h.read.items; pending = h.pending.items }

pub record IsHistory (h : Inside) : Type 0 where
  pub now : stands h ≡ platter h.start.items (reverse h.steps.items)
  pub fits : length h.read.items ≤ h.room
  pub room_stable : h.room ≤ vec_capacity h.stable
  pub room_read : h.room ≤ vec_capacity h.read
  pub room_pending : h.room ≤ vec_capacity h.pending
