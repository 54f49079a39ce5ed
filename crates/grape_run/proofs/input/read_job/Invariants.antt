use Rattle.std.proofs.Common.{◌≡◌, ℕ, ◌≤◌, List, length}
use Rattle.sha2.specs.Hashers.{Holds256}
use Rattle.grape_port.specs.Ports.{TakesFront}
use Rattle.text_lines.specs.Lines.{MAX_INPUT}
use Rattle.graph_text.specs.Reader.{HasRead}
use Rattle.grape_run.proofs.input.read_job.Given as goal

-- the reader has read what was taken from the source, at least a byte a turn
abbrev pub invariant-loop-turn : goal.invariant-loop-turn
invariant-loop-turn g l = record {
  text : List ℕ;
  hashed : Holds256 l.hasher text;
  has_read : HasRead l.reader text;
  taken : TakesFront (g.S.Source.left l.initial.input) text (g.S.Source.left l.input);
  turns : l.turn ≤ length text;
  few : length text ≤ MAX_INPUT;
  room : length l.piece ≡ 65536;
  faults_stay : g.S.Source.faults l.initial.input ≤ g.S.Source.faults l.input;
}
