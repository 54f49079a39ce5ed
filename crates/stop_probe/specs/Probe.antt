-- Flags and the probe: what may come next, and what it does.
use Rattle.std.specs.Prelude.{ℕ, Bool, true, false, not, ◌&&◌, ◌||◌, nat_lt, List, replicate, slice_index_or, slice_set}
use Rattle.std.specs.List.{list_all}
use Rattle.stop_probe.specs.ProbeValues.{ProbeValues}

-- ---- what may come next

abbrev pub is_worker : ℕ → ProbeValues → Bool
is_worker i p = nat_lt i p.workers

abbrev pub flag_is_up : ℕ → ProbeValues → Bool
flag_is_up i p = slice_index_or p.flags i false

abbrev pub has_answered : ℕ → ProbeValues → Bool
has_answered i p = slice_index_or p.answered i false

abbrev pub took_since_ask : ℕ → ProbeValues → Bool
took_since_ask i p = slice_index_or p.took i false

-- every worker of a list of flags or of answers
abbrev pub all_of : List Bool → Bool
all_of bits = list_all (λ bit. bit) bits

-- there was an Ask, and every worker has answered the last one with Ack
abbrev pub all_have_answered : ProbeValues → Bool
all_have_answered p = p.asked && all_of p.answered

-- from an Ask until a Nack, or until all have answered with Ack
abbrev pub is_open : ProbeValues → Bool
is_open p = p.asked && not p.nacked && not (all_have_answered p)

-- the flag of a worker is down
abbrev pub may_flag : ℕ → ProbeValues → Bool
may_flag i p = is_worker i p && not (flag_is_up i p)

-- all flags are up, and there was no Ask, or a Nack followed the last one
abbrev pub may_ask : ProbeValues → Bool
may_ask p = all_of p.flags && (not p.asked || p.nacked)

-- a probe is open, and the worker has not answered it
abbrev pub may_answer : ℕ → ProbeValues → Bool
may_answer i p = is_worker i p && is_open p && not (has_answered i p)

abbrev pub may_end : ProbeValues → Bool
may_end p = all_have_answered p

-- ---- what it does

-- before any event of so many workers
abbrev pub new_probe : ℕ → ProbeValues
new_probe n = record { workers = n; flags = replicate n false; asked = false; nacked = false; answered = replicate n false; took = replicate n false }

-- a Flag raises its worker's flag
abbrev pub after_flag : ℕ → ProbeValues → ProbeValues
after_flag i p = record { workers = p.workers; flags = slice_set p.flags i true; asked = p.asked; nacked = p.nacked; answered = p.answered; took = p.took }

-- an Ask forgets what came since the one before
abbrev pub after_ask : ProbeValues → ProbeValues
after_ask p = record { workers = p.workers; flags = p.flags; asked = true; nacked = false; answered = replicate p.workers false; took = replicate p.workers false }

abbrev pub after_ack : ℕ → ProbeValues → ProbeValues
after_ack i p = record { workers = p.workers; flags = p.flags; asked = p.asked; nacked = p.nacked; answered = slice_set p.answered i true; took = p.took }

-- a Nack lowers its worker's flag
abbrev pub after_nack : ℕ → ProbeValues → ProbeValues
after_nack i p = record { workers = p.workers; flags = slice_set p.flags i false; asked = p.asked; nacked = true; answered = p.answered; took = p.took }

-- and so does a Take
abbrev pub after_take : ℕ → ProbeValues → ProbeValues
after_take i p = record { workers = p.workers; flags = slice_set p.flags i false; asked = p.asked; nacked = p.nacked; answered = p.answered; took = slice_set p.took i true }
