use Rattle.std.proofs.Common.{◌≡◌, ◌<◌, ◌-◌, ◌^◌, ◌⊎◌}
use Rattle.noted_lock.specs.Sights.{seat_lock, seat_number, seat_count, seat_note}
use Rattle.grape_hub.specs.Notes.{ground_in, calls_in, HasNoWork}
use Rattle.lane_loop.proofs.lanes.lane.Given as goal

-- the seat is the lane's, of the same ground and with no Work, and each turn so far was counted
abbrev pub invariant-loop : goal.invariant-loop
invariant-loop g l = record {
  same : seat_lock l.seat ≡ seat_lock l.fn.seat;
  number : seat_number l.seat ≡ l.lane;
  count : seat_count l.seat ≡ seat_count l.fn.seat;
  ground : ground_in (seat_note l.seat) ≡ ground_in (seat_note l.fn.seat);
  empty : HasNoWork (seat_note l.seat);
  calls : (calls_in (seat_note l.fn.seat) ≡ calls_in (seat_note l.seat)) ⊎ ((calls_in (seat_note l.fn.seat) < calls_in (seat_note l.seat)) ⊎ (calls_in (seat_note l.seat) ≡ 2 ^ 64 - 1));
}
