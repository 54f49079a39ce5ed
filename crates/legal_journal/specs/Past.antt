-- Words that the journal so far determines. It is written newest first, so that what happened last stands in front.
use Rattle.std.specs.Prelude.{ℕ, Bool, true, false, not, ◌==◌, ◌&&◌, ◌||◌, if◌then◌else◌, nat_lt, List, [], ◌∷◌, Option, Some, None, take_while, count_by, length}
use Rattle.std.specs.List.{list_any, list_all}
use Rattle.graph_core.specs.Fragments.{numbers_below}
use Rattle.grape_event.specs.declared.event.Event.{Event}
use Rattle.grape_event.specs.declared.event.Event.TheVariants.{Take, Stretch, Flag, Ask, Ack, Nack, Begin, Mark, Seal, Kept}
use Rattle.grape_event.specs.Events.{is_take, is_take_of, is_give_of}
pub use Rattle.grape_event.specs.Journals.{has_ended}

-- ---- Takes and Gives

-- how many Gives of i there were
abbrev pub gives_of : ℕ → List Event → ℕ
gives_of i past = count_by (is_give_of i) past

-- the same for each worker of a list
abbrev pub gives_of_each : List ℕ → List Event → List ℕ
gives_of_each [] past = []
gives_of_each (i ∷ is) past = gives_of i past ∷ gives_of_each is past

-- the lane of the last Take of i, where there was one
abbrev pub lane_of : ℕ → List Event → Option ℕ
lane_of i [] = None
lane_of i (Take j k ∷ past) = if i == j then Some k else lane_of i past
lane_of i (_ ∷ past) = lane_of i past

-- the Stretch of i since its last Take, where there was one: its turns and its place in the journal
abbrev pub stretch_of : ℕ → List Event → Option (ℕ × ℕ)
stretch_of i [] = None
stretch_of i (Take j k ∷ past) = if i == j then None else stretch_of i past
stretch_of i (Stretch j turns ∷ past) = if i == j then Some (turns, length past) else stretch_of i past
stretch_of i (_ ∷ past) = stretch_of i past

-- ---- flags and the probe

-- a flag rises by Flag, and falls by a Take or a Nack
abbrev pub flag_is_up : ℕ → List Event → Bool
flag_is_up i [] = false
flag_is_up i (Flag j ∷ past) = i == j || flag_is_up i past
flag_is_up i (Take j k ∷ past) = not (i == j) && flag_is_up i past
flag_is_up i (Nack j ∷ past) = not (i == j) && flag_is_up i past
flag_is_up i (_ ∷ past) = flag_is_up i past

abbrev pub is_ask : Event → Bool
is_ask Ask = true
is_ask _ = false

abbrev pub is_ack_of : ℕ → Event → Bool
is_ack_of i (Ack j) = i == j
is_ack_of i _ = false

abbrev pub is_nack : Event → Bool
is_nack (Nack j) = true
is_nack _ = false

abbrev pub was_asked : List Event → Bool
was_asked past = list_any is_ask past

-- the events since the last Ask
abbrev pub since_ask : List Event → List Event
since_ask past = take_while (λ e. not (is_ask e)) past

abbrev pub has_answered : ℕ → List Event → Bool
has_answered i past = list_any (is_ack_of i) (since_ask past)

abbrev pub took_since_ask : ℕ → List Event → Bool
took_since_ask i past = list_any (is_take_of i) (since_ask past)

abbrev pub nack_since_ask : List Event → Bool
nack_since_ask past = list_any is_nack (since_ask past)

-- each of n workers has answered with Ack since the last Ask
abbrev pub all_have_answered : ℕ → List Event → Bool
all_have_answered n past = was_asked past && list_all (λ i. has_answered i past) (numbers_below n)

-- a probe is open from an Ask until a Nack, or until all have answered with Ack
abbrev pub probe_is_open : ℕ → List Event → Bool
probe_is_open n past = was_asked past && not (nack_since_ask past) && not (all_have_answered n past)

-- ---- snapshots

abbrev pub is_begin : Event → Bool
is_begin (Begin e) = true
is_begin _ = false

-- the epoch of the last Begin, or that of the start
abbrev pub last_epoch : ℕ → List Event → ℕ
last_epoch first [] = first
last_epoch first (Begin e ∷ past) = e
last_epoch first (_ ∷ past) = last_epoch first past

-- how many Takes follow the last Begin, or the start
abbrev pub takes_since_begin : List Event → ℕ
takes_since_begin past = count_by is_take (take_while (λ e. not (is_begin e)) past)

-- a recording is open from a Begin until its Seal
abbrev pub recording_is_open : List Event → Bool
recording_is_open [] = false
recording_is_open (Begin e ∷ past) = true
recording_is_open (Seal e ∷ past) = false
recording_is_open (_ ∷ past) = recording_is_open past

-- there is a Mark of i since the last Begin
abbrev pub is_marked : ℕ → List Event → Bool
is_marked i [] = false
is_marked i (Mark j ∷ past) = i == j || is_marked i past
is_marked i (Begin e ∷ past) = false
is_marked i (_ ∷ past) = is_marked i past

abbrev pub all_are_marked : ℕ → List Event → Bool
all_are_marked n past = list_all (λ i. is_marked i past) (numbers_below n)

-- how many Gives of i there were before its last Mark
abbrev pub gives_before_mark : ℕ → List Event → ℕ
gives_before_mark i [] = 0
gives_before_mark i (Mark j ∷ past) = if i == j then gives_of i past else gives_before_mark i past
gives_before_mark i (_ ∷ past) = gives_before_mark i past

-- The batches of i's Give of this number are tagged: a recording is open, i is marked in it, and that Give follows the Mark. So a Seal leaves no batch tagged.
abbrev pub is_tagged : ℕ → ℕ → List Event → Bool
is_tagged i number past = recording_is_open past && is_marked i past && nat_lt (gives_before_mark i past) number

abbrev pub is_kept_of : ℕ → Event → Bool
is_kept_of e (Kept d) = e == d
is_kept_of e _ = false

abbrev pub is_seal_of : ℕ → Event → Bool
is_seal_of e (Seal d) = e == d
is_seal_of e _ = false

abbrev pub was_kept : ℕ → List Event → Bool
was_kept e past = list_any (is_kept_of e) past

abbrev pub was_sealed : ℕ → List Event → Bool
was_sealed e past = list_any (is_seal_of e) past

-- each Begin of begun has its Kept in past
abbrev pub all_kept_in : List Event → List Event → Bool
all_kept_in past [] = true
all_kept_in past (Begin e ∷ begun) = was_kept e past && all_kept_in past begun
all_kept_in past (_ ∷ begun) = all_kept_in past begun

-- every snapshot that was begun is kept
abbrev pub all_begun_are_kept : List Event → Bool
all_begun_are_kept past = all_kept_in past past
