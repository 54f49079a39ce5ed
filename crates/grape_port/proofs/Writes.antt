-- What several writes, one behind the other, append together.
use Rattle.std.proofs.Common.{◌≡◌, ℕ, ◌+◌, ◌-◌, List, ◌++◌, Option, Some, None, length, take, drop, sym, ◌∙◌, ap, subst, append_assoc}
use Rattle.std.proofs.Math.Seq.{take-add}
use Rattle.std.proofs.lemmas.List.{take-append-drop, take_rest}
use Rattle.grape_port.specs.Ports.{Appends, AppendsFront}

-- what is appended behind what was appended
pub appends_both : (before middle after : Option (List ℕ)) (first second : List ℕ) → Appends before first middle → Appends middle second after
    → Appends before (first ++ second) after
appends_both None middle after first second p q = (subst (λ (m : Option (List ℕ)). Appends m second after) p q)
appends_both (Some bytes) middle after first second p q =
    subst (λ (m : Option (List ℕ)). Appends m second after) p q ∙ ap (λ (xs : List ℕ). Some xs) (append_assoc bytes first second)

-- the first n bytes, and then m of the rest
pub appends_next : (before middle after : Option (List ℕ)) (bytes : List ℕ) (n m : ℕ) → Appends before (take n bytes) middle
    → Appends middle (take m (take (length bytes - n) (drop n bytes))) after
    → Appends before (take (n + m) bytes) after
appends_next before middle after bytes n m p q =
    subst (λ (xs : List ℕ). Appends before xs after) (sym (take-add n m bytes)) (appends_both before middle after _ _ p
    (subst (λ (xs : List ℕ). Appends middle (take m xs) after) (take_rest bytes n) q))

-- the first n bytes are a front
pub appends_front : (before after same : Option (List ℕ)) (bytes : List ℕ) (n : ℕ) → Appends before (take n bytes) after → same ≡ after
    → AppendsFront before bytes same
appends_front before after same bytes n p e =
    (take n bytes, drop n bytes, sym (take-append-drop n bytes), subst (λ (a : Option (List ℕ)). Appends before (take n bytes) a) (sym e) p)
