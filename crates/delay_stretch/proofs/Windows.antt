-- Windows of windows.
use Rattle.std.proofs.Common.{◌≡◌, ℕ, zero, suc, List, [], ◌∷◌, take, ap, refl}
use Rattle.std.specs.Prelude.{◌-◌, ◌*◌, ◌||◌, min, if◌then◌else◌, nat_lt, nat_le, length}
use Rattle.graph_core.specs.declared.settings.Policy.{Policy}
use Rattle.graph_core.specs.declared.settings.Policy.TheVariants.{Bsp, Ap, Ssp, Aap}
use Rattle.legal_journal.specs.Delays.{window, mean_gap, stretch_turns}

take-of-more : {X : Type 0} (n : ℕ) (xs : List X) → take n (take (suc n) xs) ≡ take n xs
take-of-more zero xs = refl
take-of-more (suc n) [] = refl
take-of-more (suc n) (x ∷ xs) = ap (λ l. x ∷ l) (take-of-more n xs)

take-cons-take : {X : Type 0} (n : ℕ) (x : X) (xs : List X) → take n (x ∷ take n xs) ≡ take n (x ∷ xs)
take-cons-take zero x xs = refl
take-cons-take (suc n) x xs = ap (λ l. x ∷ l) (take-of-more n xs)

take-take : {X : Type 0} (n : ℕ) (xs : List X) → take n (take n xs) ≡ take n xs
take-take zero xs = refl
take-take (suc n) [] = refl
take-take (suc n) (x ∷ xs) = ap (λ l. x ∷ l) (take-take n xs)

pub window-follows : (clock : ℕ) (arrivals : List ℕ) → window (clock ∷ window arrivals) ≡ window (clock ∷ arrivals)
window-follows clock arrivals = take-cons-take 8 clock arrivals

pub stretch_turns-window : (policy : Policy) (batches : ℕ) (arrivals : List ℕ) → stretch_turns policy batches (window arrivals) ≡ stretch_turns policy batches arrivals
stretch_turns-window (Aap c l) batches arrivals =
    ap (λ w. if nat_lt (length w) 2 || nat_le l batches then 0 else min 64 ((l - batches) * mean_gap w)) (take-take 8 arrivals)
stretch_turns-window Bsp batches arrivals = refl
stretch_turns-window Ap batches arrivals = refl
stretch_turns-window (Ssp c) batches arrivals = refl
