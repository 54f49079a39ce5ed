-- What stands on the platter after one more step.
use Rattle.std.proofs.Common.{◌≡◌, ℕ, Bool, false, List, [], ◌∷◌, ◌++◌, length, reverse, replicate, sym, ap, ◌∙◌}
use Rattle.std.proofs.lemmas.List.{reverse-append}
use Rattle.grape_disk.specs.Images.{written}
use Rattle.grape_disk.specs.Platters.{Did, wrote, synced, PlatterState, after, marked, platter}

pub one_more_step : (start : List ℕ) (steps more : List (ℕ × Did)) (moment : ℕ) (call : Did) (p new : PlatterState) → p ≡ platter start (reverse steps)
    → more ≡ steps ++ (moment, call) ∷ [] → new ≡ after call p → new ≡ platter start (reverse more)
one_more_step start steps more moment call p new known is step =
    step ∙ ap (after call) known ∙ sym (ap (platter start) (ap reverse is ∙ reverse-append steps ((moment, call) ∷ [])))

-- the platter of these three lists
abbrev pub made_of : List ℕ → List ℕ → List Bool → PlatterState
made_of stable read pending = record { stable = stable; read = read; pending = pending }

pub after_sync : (p : PlatterState) (stable : List ℕ) (pending : List Bool) → stable ≡ p.read → pending ≡ replicate (length p.read) false → made_of stable p.read pending ≡ after synced p
after_sync p stable pending is marks = ap (λ s. made_of s p.read pending) is ∙ ap (made_of p.read p.read) marks

pub after_write : (p : PlatterState) (at : ℕ) (bytes read : List ℕ) (pending : List Bool) → read ≡ written at bytes p.read → pending ≡ marked at (length bytes) p.pending
    → made_of p.stable read pending ≡ after (wrote at bytes) p
after_write p at bytes read pending is marks = ap (λ r. made_of p.stable r pending) is ∙ ap (made_of p.stable (written at bytes p.read)) marks
