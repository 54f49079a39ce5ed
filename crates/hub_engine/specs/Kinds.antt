-- The kinds of events that a lane looks for, as tests of a desk, of the probe, of the recording, and of what the hub saw over all desks.
use Rattle.std.specs.Prelude.{◌≡◌, ℕ, ◌-◌, ◌^◌, ◌≤◌, min, Bool, true, false, not, ◌&&◌, ◌||◌, nat_lt, nat_le, List, [], ◌∷◌, ◌++◌, Option, Some, None, length, slice_get, if◌then◌else◌}
use Rattle.std.specs.List.{range_with_len}
use Rattle.std.specs.Option.{is_some}
use Rattle.graph_core.specs.declared.settings.Policy.{Policy}
use Rattle.graph_core.specs.declared.settings.Policy.TheVariants.{Bsp, Ap, Ssp, Aap}
use Rattle.graph_core.specs.Fragments.{numbers_below}
use Rattle.message_buffer.specs.Buffers.{batches_in}
use Rattle.legal_journal.specs.Delays.{has_enough}
use Rattle.token_cut.specs.CutValues.{CutValues}
use Rattle.token_cut.specs.Recording.{is_marked}
use Rattle.stop_probe.specs.ProbeValues.{ProbeValues}
use Rattle.stop_probe.specs.Probe.{may_flag, may_answer, took_since_ask}
use Rattle.hub_engine.specs.declared.counts.Counts.{Counts}
use Rattle.hub_engine.specs.declared.desk.Delay.{Delay}
use Rattle.hub_engine.specs.declared.desk.Desk.{Desk}
use Rattle.hub_engine.specs.declared.kind.Kind.{Kind}
use Rattle.hub_engine.specs.declared.kind.Kind.TheVariants as kind
use Rattle.hub_engine.specs.declared.sight.Sight.{Sight}
use Rattle.hub_engine.specs.Desks.{is_fresh_at, rests_at, has_mail, is_out, is_busy_at}

-- ---- the least round

-- the least round of the desks that are busy, where one is
pub record IsLeastRound (desks : List Desk) (least : Option ℕ) : Type 0 where
  pub below : (i : ℕ) (d : Desk) → slice_get desks i ≡ Some d → is_busy_at d ≡ true → (r : ℕ) × (least ≡ Some r) × (r ≤ d.round)
  pub there : (r : ℕ) → least ≡ Some r → (i : ℕ) × (d : Desk) × (slice_get desks i ≡ Some d) × (is_busy_at d ≡ true) × (d.round ≡ r)

abbrev pub lesser : Option ℕ → ℕ → Option ℕ
lesser None round = Some round
lesser (Some least) round = Some (min least round)

-- a round is at most so far ahead of the least one
abbrev pub is_near : ℕ → Option ℕ → ℕ → Bool
is_near c None round = true
is_near c (Some least) round = nat_le (round - c) least

abbrev pub is_near_enough : Policy → Option ℕ → ℕ → Bool
is_near_enough Bsp least round = is_near 0 least round
is_near_enough Ap least round = true
is_near_enough (Ssp c) least round = is_near c least round
is_near_enough (Aap c l) least round = is_near c least round

-- ---- the delay

abbrev pub turns_are_over : Option Delay → ℕ → Bool
turns_are_over None clock = false
turns_are_over (Some delay) clock = nat_lt delay.turns (clock - delay.place)

abbrev pub is_over : Sight → Desk → Bool
is_over sight d = turns_are_over d.delay sight.clock || has_enough sight.policy (batches_in d.buffer)

-- ---- the recording

-- a snapshot is due after so many Takes, where some are said
abbrev pub is_due : ℕ → Counts → Bool
is_due every counts = nat_lt 0 every && nat_le every counts.takes && nat_lt counts.epoch (2 ^ 62 - 1)

-- a recording is open in which worker i isn't marked
abbrev pub is_unmarked : ℕ → CutValues → Bool
is_unmarked i cut = cut.recording && not (is_marked i cut)

-- ---- the tests

abbrev pub admits : Kind → Sight → ProbeValues → CutValues → ℕ → Desk → Bool
admits kind.Mark sight probe cut i d = is_unmarked i cut && not (is_out d)
admits kind.Take sight probe cut i d = (is_fresh_at d || ((rests_at d && has_mail d) && is_over sight d)) && is_near_enough sight.policy sight.least d.round && not sight.due && not (is_unmarked i cut && nat_lt 0 d.buffer.tagged_batches)
admits kind.Stretch sight probe cut i d = (rests_at d && has_mail d) && not (is_some d.delay)
admits kind.Ack sight probe cut i d = may_answer i probe && (rests_at d && not (has_mail d)) && not (took_since_ask i probe)
admits kind.Nack sight probe cut i d = may_answer i probe && rests_at d && (has_mail d || took_since_ask i probe)
admits kind.Flag sight probe cut i d = may_flag i probe && (rests_at d && not (has_mail d))
admits kind.Hold sight probe cut i d = is_some d.delay && not (is_over sight d)

-- ---- the search

-- the test of the desk with this number
abbrev pub holds_at : (ℕ → Desk → Bool) → List Desk → ℕ → Bool
holds_at test desks i = elim (slice_get desks i) [ None ↦ false | Some d ↦ test i d ]

-- the first number of a list that passes the test
abbrev pub first_where : (ℕ → Bool) → List ℕ → Option ℕ
first_where test [] = None
first_where test (i ∷ is) = if test i then Some i else first_where test is

-- the numbers of so many desks, from number turn on and then from 0
abbrev pub round_of : ℕ → ℕ → List ℕ
round_of count turn = range_with_len turn (count - turn) ++ numbers_below turn

-- the first desk that passes the test
abbrev pub first_desk : (ℕ → Desk → Bool) → List Desk → ℕ → Option ℕ
first_desk test desks turn = first_where (holds_at test desks) (round_of (length desks) turn)

-- the kinds in their order
abbrev pub kinds : List Kind
kinds = kind.Mark ∷ kind.Take ∷ kind.Stretch ∷ kind.Ack ∷ kind.Nack ∷ kind.Flag ∷ kind.Hold ∷ []

abbrev pub found_or : Kind → Option ℕ → Option (Kind × ℕ) → Option (Kind × ℕ)
found_or k None later = later
found_or k (Some i) later = Some (k, i)

-- the first of these kinds for which there is a desk, with the first such desk
abbrev pub first_of_kinds : Sight → ProbeValues → CutValues → List Desk → ℕ → List Kind → Option (Kind × ℕ)
first_of_kinds sight probe cut desks turn [] = None
first_of_kinds sight probe cut desks turn (k ∷ ks) = found_or k (first_desk (admits k sight probe cut) desks turn) (first_of_kinds sight probe cut desks turn ks)

-- ---- one desk

-- the first of these kinds that the desk admits
abbrev pub first_kind : Sight → ProbeValues → CutValues → ℕ → Desk → List Kind → Option Kind
first_kind sight probe cut i d [] = None
first_kind sight probe cut i d (k ∷ ks) = if admits k sight probe cut i d then Some k else first_kind sight probe cut i d ks

abbrev pub may_go_on : Sight → Desk → Bool
may_go_on sight d = is_near_enough sight.policy sight.least d.round && not sight.due

abbrev pub hold_of : Sight → Desk → Option Kind
hold_of sight d = if is_some d.delay && not (is_over sight d) then Some kind.Hold else None

-- for a worker that is marked, or needn't be
abbrev pub kind_with_mail : Sight → ProbeValues → ℕ → Desk → Option Kind
kind_with_mail sight probe i d =
    if is_over sight d && may_go_on sight d then Some kind.Take
    else (if not (is_some d.delay) then Some kind.Stretch else (if may_answer i probe then Some kind.Nack else hold_of sight d))

abbrev pub kind_without_mail : Sight → ProbeValues → ℕ → Desk → Option Kind
kind_without_mail sight probe i d =
    if may_answer i probe then (if took_since_ask i probe then Some kind.Nack else Some kind.Ack)
    else (if may_flag i probe then Some kind.Flag else hold_of sight d)

abbrev pub kind_of_fresh : Sight → Desk → Option Kind
kind_of_fresh sight d = if may_go_on sight d then Some kind.Take else hold_of sight d

-- ---- one pass over the desks

-- the place of a kind in the order
abbrev pub rank : Kind → ℕ
rank kind.Mark = 0
rank kind.Take = 1
rank kind.Stretch = 2
rank kind.Ack = 3
rank kind.Nack = 4
rank kind.Flag = 5
rank kind.Hold = 6

-- the first kind of the desk with this number
abbrev pub kind_at : Sight → ProbeValues → CutValues → List Desk → ℕ → Option Kind
kind_at sight probe cut desks i = elim (slice_get desks i) [ None ↦ None | Some d ↦ first_kind sight probe cut i d kinds ]

-- what is best with a desk more: an earlier kind, or else what was found before
abbrev pub better : Option (Kind × ℕ) → Option Kind → ℕ → Option (Kind × ℕ)
better best None i = best
better None (Some k) i = Some (k, i)
better (Some (other, j)) (Some k) i = if nat_lt (rank k) (rank other) then Some (k, i) else Some (other, j)

abbrev pub best_of : (ℕ → Option Kind) → List ℕ → Option (Kind × ℕ) → Option (Kind × ℕ)
best_of kind_of [] best = best
best_of kind_of (i ∷ is) best = best_of kind_of is (better best (kind_of i) i)
