use Rattle.std.proofs.Common.{◌≡◌, ℕ, ◌+◌, List, ◌++◌, take}
use Rattle.token_cut.specs.Shapes.{HaveShape}
use Rattle.snapshot_file.specs.Feeding.{HasRead}
use Rattle.snapshot_file.proofs.body_reader.BodyReader.read_bytes.Given as goal

abbrev pub invariant-loop-byte : goal.invariant-loop-byte
invariant-loop-byte l = record {
  same_shape : HaveShape l.shape.parts l.into.parts;
  fed : l.self.fed ≡ l.fn.self.fed + l.byte-index;
  base : l.self.base ≡ l.fn.self.base;
  slot : l.self.slot ≡ l.fn.self.slot;
  more : (bytes : List ℕ) → HasRead l.shape l.fn.self bytes l.fn.into → HasRead l.shape l.self (bytes ++ take l.byte-index l.piece) l.into;
}
