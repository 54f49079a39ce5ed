use Rattle.std.proofs.Common.{◌≡◌, ℕ, ◌*◌, ◌<◌, length, get_or}
use Rattle.grape_run.specs.Notes.{hex}
use Rattle.grape_run.proofs.notes.hex_of.Given as goal

-- two digits for each byte that was passed
abbrev pub invariant-digits : goal.invariant-digits
invariant-digits l = record {
  size : length l.digits ≡ 64;
  passed : (k : ℕ) → k < 2 * l.place → get_or l.digits k 0 ≡ get_or (hex l.fn.digest) k 0;
}
