use Rattle.std.proofs.Common.{ℕ, List, ◌∷◌, [], ◌++◌, ap, ◌∙◌, subst}
use Rattle.token_cut.specs.Parts.{PartValues}
use Rattle.snapshot_file.specs.Bodies.{phase_byte, number_bytes}
use Rattle.snapshot_file.specs.Cuts.{Puts}
use Rattle.snapshot_file.proofs.Cutting.{both_next}
use Rattle.snapshot_file.proofs.pieces.put_part.Goals as goal

pub returns : goal.returns
returns c =
    let phase = c.phase_byte.ensures ∙ ap (λ (s : PartValues). phase_byte s.phase) c.part.view_is in
    let values = c.deref.ensures.value ∙ ap (λ (s : PartValues). s.values) c.part.view_is in
    let mail = c.deref-2.ensures.value ∙ ap (λ (s : PartValues). s.mail) c.part.view_is in
    let first = subst (λ (n : ℕ). Puts (n ∷ []) c.args.skip c.args.to.now c.put_bytes-phase.new.to c.put_bytes-phase.result) phase c.put_bytes-phase.ensures in
    let second = subst (λ (l : List ℕ). Puts (number_bytes c.args.part.now.values ++ number_bytes l) c.saturating_sub.result c.split_at_mut-rest.result.1.now c.put_both.new.to c.put_both.result) mail
    (subst (λ (l : List ℕ). Puts (number_bytes l ++ number_bytes c.deref-2.result.now) c.saturating_sub.result c.split_at_mut-rest.result.1.now c.put_both.new.to c.put_both.result) values c.put_both.ensures) in
    both_next (phase_byte c.args.part.now.phase ∷ []) (number_bytes c.args.part.now.values ++ number_bytes c.args.part.now.mail) c.args.skip c.saturating_sub.result c.args.to.now c.put_bytes-phase.new.to c.put_both.new.to
    c.split_at_mut-rest.result.0.now c.split_at_mut-rest.result.1.now c.put_bytes-phase.result c.put_both.result
    c.saturating_sub.ensures first c.split_at_mut-rest.ensures.front c.split_at_mut-rest.ensures.back second
