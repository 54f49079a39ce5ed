use Rattle.std.proofs.Common.{ℕ, ◌+◌, ap, sym, ◌∙◌}
use Rattle.snapshot_file.specs.Lengths.{parts_length}
use Rattle.snapshot_file.proofs.ReadBack.{length_body}
use Rattle.snapshot_file.proofs.lengths.body_len.Goals as goal

pub returns-clause-bodies : goal.returns-clause-bodies
returns-clause-bodies c = λ slot snapshot form.
    length_body c.args.shape.now slot snapshot form
    ∙ ap (λ (n : ℕ). 8 + n) (sym (c.parts_len.ensures.length ∙ ap parts_length (c.deref.ensures.value ∙ ap (λ s. s.parts) c.shape.view_is)))
