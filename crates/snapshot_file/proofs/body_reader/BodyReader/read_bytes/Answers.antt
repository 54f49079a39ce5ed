use Rattle.std.proofs.Common.{ℕ, ◌+◌, List, ◌∷◌, [], ◌++◌, take, drop, get_or, ap, sym, refl, ◌∙◌, subst, arith, append_assoc}
use Rattle.std.proofs.lemmas.List.{append-nil, take_more, take_all}
use Rattle.snapshot_file.specs.Feeding.{Shows, HasRead}
use Rattle.snapshot_file.proofs.Exits.{if_err}
use Rattle.snapshot_file.proofs.Fed.{shows_more, piece_joined}
use Rattle.snapshot_file.proofs.body_reader.BodyReader.read_bytes.Goals as goal

pub loop-byte-init : goal.loop-byte-init
loop-byte-init c = record {
  same_shape = c.requires.into;
  fed = omega arith;
  base = refl;
  slot = refl;
  more = λ bytes read. subst (λ (l : List ℕ). HasRead c.args.shape.now c.args.self.now l c.args.into.now) (sym (append-nil bytes)) read;
}

pub returns-in_err-read_byte-clause-damaged : goal.returns-in_err-read_byte-clause-damaged
returns-in_err-read_byte-clause-damaged c = λ bytes read.
    let i = c.loop-byte.byte-index in
    let shown = shows_more c.args.shape.now c.loop-byte.self.slot c.loop-byte.self.base ((bytes ++ take c.loop-byte.byte-index c.args.piece.now) ++ get_or c.args.piece.now c.loop-byte.byte-index 0 ∷ []) (drop (c.loop-byte.byte-index + 1) c.args.piece.now) (bytes ++ c.args.piece.now) c.in_err-read_byte.field-0.0.place
    (piece_joined bytes c.args.piece.now c.loop-byte.byte-index c.loop-byte-test.true) (c.in_err-read_byte.ensures.damaged (bytes ++ take c.loop-byte.byte-index c.args.piece.now) (c.loop-byte.invariant.more bytes read)) in
    if_err _ _ _ c.from_residual.ensures.1
    (subst (λ (n : ℕ). Shows c.args.shape.now n c.args.self.now.base (bytes ++ c.args.piece.now) c.in_err-read_byte.field-0.0.place) c.loop-byte.invariant.slot
    (subst (λ (n : ℕ). Shows c.args.shape.now c.loop-byte.self.slot n (bytes ++ c.args.piece.now) c.in_err-read_byte.field-0.0.place) c.loop-byte.invariant.base shown))

pub loop-byte-preserved : goal.loop-byte-preserved
loop-byte-preserved c = record {
  same_shape = c.in_ok-read_byte.ensures.same_shape;
  fed = omega (arith, c.in_ok-read_byte.ensures.fed, c.loop-byte.invariant.fed);
  base = c.in_ok-read_byte.ensures.base ∙ c.loop-byte.invariant.base;
  slot = c.in_ok-read_byte.ensures.slot ∙ c.loop-byte.invariant.slot;
  more = λ bytes read.
      subst (λ (l : List ℕ). HasRead c.args.shape.now c.read_byte.new.self l c.read_byte.new.into)
      (append_assoc bytes (take c.loop-byte.byte-index c.args.piece.now) (get_or c.args.piece.now c.loop-byte.byte-index 0 ∷ []) ∙ ap (λ (l : List ℕ). bytes ++ l) (sym (take_more c.args.piece.now c.loop-byte.byte-index 0 c.loop-byte-test.true)))
      (c.in_ok-read_byte.ensures.more (bytes ++ take c.loop-byte.byte-index c.args.piece.now) (c.loop-byte.invariant.more bytes read));
}

pub returns-clause-more : goal.returns-clause-more
returns-clause-more c = λ bytes read.
    subst (λ (l : List ℕ). HasRead c.args.shape.now c.loop-byte.self (bytes ++ l) c.loop-byte.into) (take_all c.loop-byte.byte-index c.args.piece.now (omega (arith, c.loop-byte-test.false))) (c.loop-byte.invariant.more bytes read)
