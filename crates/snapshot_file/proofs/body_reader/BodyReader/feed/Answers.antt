use Rattle.std.proofs.Common.{◌≡◌, ℕ, ◌++◌, Ok, sym, subst}
use Rattle.snapshot_file.specs.Bodies.{Form}
use Rattle.snapshot_file.specs.Feeding.{Shows, HasRead}
use Rattle.snapshot_file.specs.Reading.{decoded}
use Rattle.snapshot_file.proofs.Exits.{on_ok}
use Rattle.snapshot_file.proofs.Fed.{body_read, body_formed}
use Rattle.snapshot_file.proofs.NoneShown.{none_shown}
use Rattle.snapshot_file.proofs.body_reader.BodyReader.feed.Goals as goal

pub returns-clause-sound : goal.returns-clause-sound
returns-clause-sound c = λ bytes read.
    on_ok c.read_bytes.result (HasRead c.args.shape.now c.read_bytes.new.self (bytes ++ c.args.piece.now) c.read_bytes.new.into) ((place : ℕ) → Shows c.args.shape.now c.args.self.now.slot c.args.self.now.base (bytes ++ c.args.piece.now) place → ⊥)
    (λ has. λ place shows. none_shown c.args.shape.now c.read_bytes.new.self (bytes ++ c.args.piece.now) c.read_bytes.new.into has place
    (subst (λ (n : ℕ). Shows c.args.shape.now n c.read_bytes.new.self.base (bytes ++ c.args.piece.now) place) (sym c.read_bytes.ensures.slot)
    (subst (λ (n : ℕ). Shows c.args.shape.now c.args.self.now.slot n (bytes ++ c.args.piece.now) place) (sym c.read_bytes.ensures.base) shows)))
    (c.read_bytes.ensures.more bytes read)

pub returns-clause-whole : goal.returns-clause-whole
returns-clause-whole c = λ bytes read all.
    on_ok c.read_bytes.result (HasRead c.args.shape.now c.read_bytes.new.self (bytes ++ c.args.piece.now) c.read_bytes.new.into) (decoded c.args.shape.now c.args.self.now.slot c.args.self.now.base (bytes ++ c.args.piece.now) ≡ Ok c.read_bytes.new.into)
    (λ has. subst (λ (n : ℕ). decoded c.args.shape.now n c.args.self.now.base (bytes ++ c.args.piece.now) ≡ Ok c.read_bytes.new.into) c.read_bytes.ensures.slot
    (subst (λ (n : ℕ). decoded c.args.shape.now c.read_bytes.new.self.slot n (bytes ++ c.args.piece.now) ≡ Ok c.read_bytes.new.into) c.read_bytes.ensures.base
    (body_read c.args.shape.now c.read_bytes.new.self (bytes ++ c.args.piece.now) c.read_bytes.new.into c.read_bytes.ensures.same_shape has all)))
    (c.read_bytes.ensures.more bytes read)

pub returns-clause-form : goal.returns-clause-form
returns-clause-form c = λ bytes read all.
    on_ok c.read_bytes.result (HasRead c.args.shape.now c.read_bytes.new.self (bytes ++ c.args.piece.now) c.read_bytes.new.into) (Form c.args.shape.now c.args.self.now.slot (bytes ++ c.args.piece.now) c.read_bytes.new.into)
    (λ has. subst (λ (n : ℕ). Form c.args.shape.now n (bytes ++ c.args.piece.now) c.read_bytes.new.into) c.read_bytes.ensures.slot
    (body_formed c.args.shape.now c.read_bytes.new.self.slot c.read_bytes.new.self.base (bytes ++ c.args.piece.now) c.read_bytes.new.into all has.are_bytes
    (body_read c.args.shape.now c.read_bytes.new.self (bytes ++ c.args.piece.now) c.read_bytes.new.into c.read_bytes.ensures.same_shape has all)))
    (c.read_bytes.ensures.more bytes read)
