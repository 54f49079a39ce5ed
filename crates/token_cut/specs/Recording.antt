-- What the calls on a recording leave and answer.
use Rattle.std.specs.Prelude.{ℕ, Bool, true, false, ◌&&◌, length, replicate, slice_index, slice_index_or, slice_set}
use Rattle.std.specs.List.{list_all}
use Rattle.value_order.specs.declared.order.Order.{Order}
use Rattle.value_order.specs.Order.{meet_of}
use Rattle.token_cut.specs.Parts.{PartValues, SnapshotParts, part_at}
use Rattle.token_cut.specs.Shapes.{Starts, fresh_snapshot}
use Rattle.token_cut.specs.CutValues.{CutValues}

-- nothing was begun, and nobody is marked
abbrev pub new_cut : Starts → CutValues
new_cut shape =
    record {
      order = shape.order;
      epoch = 0;
      recording = false;
      marked = replicate (length shape.parts) false;
      parts = (fresh_snapshot shape).parts;
    }

abbrev pub is_marked : ℕ → CutValues → Bool
is_marked k c = slice_index_or c.marked k false

-- it is open, and every worker is marked
abbrev pub is_complete : CutValues → Bool
is_complete c = c.recording && list_all (λ mark. mark) c.marked

-- a recording of this epoch opens, and nobody is marked in it
abbrev pub after_begin : ℕ → CutValues → CutValues
after_begin epoch c =
    record { order = c.order; epoch = epoch; recording = true; marked = replicate (length c.parts) false; parts = c.parts }

-- worker k is marked, and this is recorded of it
abbrev pub after_mark : ℕ → PartValues → CutValues → CutValues
after_mark k part c =
    record { order = c.order; epoch = c.epoch; recording = c.recording; marked = slice_set c.marked k true; parts = slice_set c.parts k part }

-- the mail of mirror m is met with a value
abbrev pub with_value : Order → ℕ → ℕ → PartValues → PartValues
with_value o m value part =
    record { phase = part.phase; values = part.values; mail = slice_set part.mail m (meet_of o (slice_index part.mail m) value) }

-- a late value lowers what is recorded of the mail for mirror m of worker k
abbrev pub after_late : ℕ → ℕ → ℕ → CutValues → CutValues
after_late k m value c =
    record {
      order = c.order;
      epoch = c.epoch;
      recording = c.recording;
      marked = c.marked;
      parts = slice_set c.parts k (with_value c.order m value (part_at k c.parts));
    }

-- what is recorded, as a snapshot
abbrev pub sealed_of : CutValues → SnapshotParts
sealed_of c = record { epoch = c.epoch; parts = c.parts }

-- the recording closes
abbrev pub after_seal : CutValues → CutValues
after_seal c = record { order = c.order; epoch = c.epoch; recording = false; marked = c.marked; parts = c.parts }
