use Rattle.std.proofs.Common.{◌≡◌, ℕ, zero, suc, [], ◌∷◌, slice_index, refl, subst, arith}
use Rattle.std.specs.Fmt.{digits}
use Rattle.graph_core.specs.Rows.{listed}
use Rattle.graph_core.specs.Fragments.{IsOwnedAt, pieces_of}
use Rattle.graph_core.proofs.RowLemmas.{detour_values}
use Rattle.answer_text.specs.AnswerText.{bits_of}
use Rattle.answer_text.specs.Assembled.{values_at}
use Rattle.answer_text.specs.Worked.{scattered, scattered_values}
use Rattle.answer_text.proofs.worked.rows.Goals as goal

pub returns-clause-text : goal.returns-clause-text
unfolding digits
returns-clause-text c = refl

pub returns-clause-bytes : goal.returns-clause-bytes
unfolding digits
returns-clause-bytes c = refl

pub returns-clause-empty : goal.returns-clause-empty
unfolding digits
returns-clause-empty c = refl

pub returns-clause-simulated : goal.returns-clause-simulated
unfolding digits bits_of
returns-clause-simulated c = refl

pub returns-clause-whole_answer : goal.returns-clause-whole_answer
unfolding digits
returns-clause-whole_answer c = record { values = listed (0 ∷ 5 ∷ 6 ∷ []); right = detour_values; spelled = refl }

pub returns-clause-none_simulated : goal.returns-clause-none_simulated
unfolding bits_of
returns-clause-none_simulated c = refl

owners : (i p v : ℕ) → IsOwnedAt (pieces_of scattered) i p v → listed (7 ∷ 5 ∷ 9 ∷ []) v ≡ slice_index (values_at scattered_values i) p
owners zero zero v o = subst (λ u. listed (7 ∷ 5 ∷ 9 ∷ []) u ≡ 5) o.1.1 refl
owners zero (suc p) v o = let h = o.1.0 in absurd (omega (arith, h))
owners (suc zero) zero v o = subst (λ u. listed (7 ∷ 5 ∷ 9 ∷ []) u ≡ 7) o.1.1 refl
owners (suc zero) (suc zero) v o = subst (λ u. listed (7 ∷ 5 ∷ 9 ∷ []) u ≡ 9) o.1.1 refl
owners (suc zero) (suc (suc p)) v o = let h = o.1.0 in absurd (omega (arith, h))
owners (suc (suc i)) p v o = let h = o.0 in absurd (omega (arith, h))

pub returns-clause-assembled : goal.returns-clause-assembled
returns-clause-assembled c = record { kind = refl; values = listed (7 ∷ 5 ∷ 9 ∷ []); owners = owners; rows = refl }
