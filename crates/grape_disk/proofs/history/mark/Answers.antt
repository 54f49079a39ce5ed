use Rattle.std.proofs.Common.{arith, ℕ, ◌+◌, ◌-◌, Bool, true, drop, replicate, ap, ◌∙◌, length-take, length-drop}
use Rattle.std.proofs.lemmas.List.{length-replicate}
use Rattle.grape_disk.proofs.Overwritten.{put_in}
use Rattle.grape_disk.proofs.history.mark.Goals as goal

pub returns-clause-items : goal.returns-clause-items
returns-clause-items c =
    let size = rw c.unwrap.ensures at c.resize.ensures.len
    in let items = rw c.unwrap.ensures at c.resize.ensures.items
    in put_in true c.args.at _ _ _ c.max.result _ (replicate c.args.count true) _ c.args.pending.now.items _ _ size c.args.pending.now.ok.0 (omega (arith, c.max.ensures, c.len.ensures)) items c.deref_mut.ensures.value (c.fill.ensures.after (λ y e. e) ∙ ap (λ (n : ℕ). replicate n true) (omega (arith, size, c.max.ensures, c.len.ensures, c.deref_mut.ensures.len, length-take (c.args.at + c.args.count - c.args.at) (drop c.args.at c.deref_mut.result.now), length-drop c.args.at c.deref_mut.result.now))) (omega arith) (length-replicate {A = Bool} c.args.count true)
