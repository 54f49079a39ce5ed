-- What a source and a sink in memory hold, and what each of their calls does.
use Rattle.std.specs.Prelude.{ℕ, ◌-◌, ◌==◌, min, Bool, ◌&&◌, ◌||◌, nat_lt, nat_le, List, [], ◌++◌, length, take, drop}
use Rattle.std.specs.List.{list_any}
use Rattle.grape_port.specs.Ports.{one_more}

-- the call that comes after so many is one of those that fail
abbrev pub fails_next : List ℕ → ℕ → Bool
fails_next fails calls = list_any (λ n. n == one_more calls) fails

-- The bytes that are not yet read, how many a call gives at most, the numbers, from 1, of the calls that fail, and how many
-- calls were made and how many of them failed.
pub record SourceState : Type 0 where
  pub left : List ℕ
  pub most : ℕ
  pub fails : List ℕ
  pub calls : ℕ
  pub faults : ℕ

-- before the first call
abbrev pub new_source : List ℕ → ℕ → List ℕ → SourceState
new_source bytes most fails = record { left = bytes; most = most; fails = fails; calls = 0; faults = 0 }

-- how many bytes a call with so much room gives, if it doesn't fail
abbrev pub given_count : SourceState → ℕ → ℕ
given_count s room = min s.most (min (length s.left) room)

-- after a call that gave bytes
abbrev pub source_gave : SourceState → ℕ → SourceState
source_gave s room = record s { left = drop (given_count s room) s.left; calls = one_more s.calls }

-- after a call that failed
abbrev pub source_failed : SourceState → SourceState
source_failed s = record s { calls = one_more s.calls; faults = one_more s.faults }

-- The bytes that were written, how many of them are flushed, how many there is room for, how many a call takes at most, the
-- numbers, from 1, of the calls that fail, and how many calls were made and how many of them failed.
pub record SinkState : Type 0 where
  pub written : List ℕ
  pub flushed : ℕ
  pub room : ℕ
  pub most : ℕ
  pub fails : List ℕ
  pub calls : ℕ
  pub faults : ℕ

-- before the first call
abbrev pub new_sink : ℕ → ℕ → List ℕ → SinkState
new_sink room most fails = record { written = []; flushed = 0; room = room; most = most; fails = fails; calls = 0; faults = 0 }

-- how many of so many bytes a call takes, if it doesn't fail
abbrev pub taken_count : SinkState → ℕ → ℕ
taken_count s count = min s.most (min count (s.room - length s.written))

-- the next call fails if it brings so many bytes: by its number, or since the sink is full
abbrev pub refuses : SinkState → ℕ → Bool
refuses s count = fails_next s.fails s.calls || (nat_lt 0 count && nat_le s.room (length s.written))

-- after a call that took bytes
abbrev pub sink_took : SinkState → List ℕ → SinkState
sink_took s bytes = record s { written = s.written ++ take (taken_count s (length bytes)) bytes; calls = one_more s.calls }

-- after a flush
abbrev pub sink_flushed : SinkState → SinkState
sink_flushed s = record s { flushed = length s.written; calls = one_more s.calls }

-- after a call that failed
abbrev pub sink_failed : SinkState → SinkState
sink_failed s = record s { calls = one_more s.calls; faults = one_more s.faults }
