use Rattle.std.proofs.Common.{◌≡◌, ◌≤◌, ◌*◌, ◌^◌, length, take}
use Rattle.std.specs.List.{sum}
use Rattle.answer_text.specs.Summary.{distances_in, greatest_of}
use Rattle.answer_text.proofs.totals.totals_of_rows.Given as goal

-- the totals are those of the rows so far, but for the count, which is that of all
abbrev pub invariant-loop-row : goal.invariant-loop-row
invariant-loop-row l = record {
  count : l.totals.count ≡ length l.rows;
  reached : l.totals.reached ≡ length (distances_in (take l.row-index l.rows));
  few : l.totals.reached ≤ l.row-index;
  sum_is : l.totals.sum ≡ sum (distances_in (take l.row-index l.rows));
  narrow : l.totals.sum ≤ l.row-index * 2 ^ 64;
  greatest : l.totals.greatest ≡ greatest_of (distances_in (take l.row-index l.rows));
}
