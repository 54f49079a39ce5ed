-- Two trials of each fragment, one fragment behind the other.
use Rattle.std.proofs.Common.{◌≡◌, ℕ, zero, suc, ◌+◌, ◌*◌, ◌<◌, inl, inr, List, [], ◌∷◌, ◌++◌, length, slice_index_or, refl, sym, ◌∙◌, ap, subst, arith}
use Rattle.std.proofs.lemmas.Bool.{cases_eq}
use Rattle.std.proofs.lemmas.List.{length-append}
use Rattle.std.proofs.lemmas.List.FromFn.{get_or-map-range_with_len}
use Rattle.graph_core.specs.declared.job.Job.{Job}
use Rattle.graph_core.specs.Parts.{FragmentLists}
use Rattle.graph_core.specs.Equations.{Equations}
use Rattle.graph_core.specs.Fragments.{fragment_of, fragments_of}
use Rattle.pie_core.proofs.Starting.{part-count}
use Rattle.program_trials.specs.Trials.{AreTrialsOf, HasTrialsOf}
use Rattle.program_trials.specs.declared.trials_of_parts.Trial.{Trial}

at_front : (xs ys : List Trial) (k : ℕ) (d : Trial) → k < length xs → slice_index_or (xs ++ ys) k d ≡ slice_index_or xs k d
at_front [] ys k d h = absurd (omega (arith, h))
at_front (x ∷ xs) ys zero d h = refl
at_front (x ∷ xs) ys (suc k) d h = at_front xs ys k d (omega (arith, h))

at_end : (xs : List Trial) (y : Trial) (k : ℕ) (d : Trial) → k ≡ length xs → slice_index_or (xs ++ y ∷ []) k d ≡ y
at_end [] y zero d h = refl
at_end [] y (suc k) d h = absurd (omega (arith, h))
at_end (x ∷ xs) y zero d h = absurd (omega (arith, h))
at_end (x ∷ xs) y (suc k) d h = at_end xs y k d (omega (arith, h))

module _ (e : Equations) (part : ℕ → FragmentLists) where
  pub trials-none : HasTrialsOf e part 0 []
  trials-none k d l = absurd (omega (arith, l))

  both_are : (k n : ℕ) (a b first second : Trial) → k ≡ n → a ≡ first → b ≡ second → AreTrialsOf e (part n) first second → AreTrialsOf e (part k) a b
  both_are k n a b first second q f s h =
      subst (λ (m : ℕ). AreTrialsOf e (part m) a b) (sym q) (subst (λ (x : Trial). AreTrialsOf e (part n) x b) (sym f) (subst (λ (x : Trial). AreTrialsOf e (part n) first x) (sym s) h))

  grown : (n : ℕ) (old : List Trial) (first second : Trial) → length old ≡ 2 * n → HasTrialsOf e part n old → AreTrialsOf e (part n) first second → HasTrialsOf e part (n + 1) ((old ++ first ∷ []) ++ second ∷ [])
  grown n old first second len h both k d l =
      let more : length (old ++ first ∷ []) ≡ length old + 1 = length-append old (first ∷ []) in
      elim (cases_eq k n) [
        | inl q ↦ both_are k n _ _ first second q
            (at_front (old ++ first ∷ []) (second ∷ []) (2 * k) d (omega (arith, more, len, q)) ∙ at_end old first (2 * k) d (omega (arith, len, q)))
            (at_end (old ++ first ∷ []) second (2 * k + 1) d (omega (arith, more, len, q))) both
        | inr q ↦
            let low : k < n = omega (arith, l, q) in
            both_are k k _ _ (slice_index_or old (2 * k) d) (slice_index_or old (2 * k + 1) d) refl
            (at_front (old ++ first ∷ []) (second ∷ []) (2 * k) d (omega (arith, more, len, low)) ∙ at_front old (first ∷ []) (2 * k) d (omega (arith, len, low)))
            (at_front (old ++ first ∷ []) (second ∷ []) (2 * k + 1) d (omega (arith, more, len, low)) ∙ at_front old (first ∷ []) (2 * k + 1) d (omega (arith, len, low)))
            (h k d low)
      ]

  pub trials-more : (n : ℕ) (old new : List Trial) (first second : Trial) → length old ≡ 2 * n → HasTrialsOf e part n old → new ≡ (old ++ first ∷ []) ++ second ∷ [] → AreTrialsOf e (part n) first second → HasTrialsOf e part (n + 1) new
  trials-more n old new first second len h is both = subst (HasTrialsOf e part (n + 1)) (sym is) (grown n old first second len h both)

pub part-at : (job : Job) (parts : List FragmentLists) (i : ℕ) (part : FragmentLists) → parts ≡ fragments_of job → i < length parts → part ≡ slice_index_or parts i part → part ≡ fragment_of job i
part-at job parts i part all inside here =
    let n = job.settings.fragments in
    let small : i < n = omega (arith, inside, part-count job parts all) in
    here ∙ ap (λ ps. slice_index_or ps i part) all ∙ get_or-map-range_with_len (fragment_of job) 0 n i i part small (omega arith)
