-- Reading in pieces.
use Rattle.std.proofs.Common.{◌≡◌, ℕ, ◌≤◌, List, [], ◌∷◌, ◌++◌, length, Option, Some, None, Result, Err, inl, inr, refl, sym, ◌∙◌, ap, subst, arith, append_assoc}
use Rattle.grape_port.specs.Ports.{TakesFront, IsAtEnd, Rose}
use Rattle.graph_text.specs.declared.fault.TextFault.{TextFault}
use Rattle.graph_text.specs.declared.fault.TextFault.TheVariants as text_faults
use Rattle.graph_text.specs.Input.{shown_of, input_of}
use Rattle.graph_text.specs.Reader.{Answers, Gives}
use Rattle.grape_run.specs.declared.input.InputFault.{InputFault}
use Rattle.grape_run.specs.declared.input.InputFault.TheVariants as faults
use Rattle.grape_run.specs.declared.input.JobText.{JobText}
use Rattle.grape_run.specs.Runs.{FitsText, ReadsInput}

pub takes_front-append : (a b c : Option (List ℕ)) (x y : List ℕ) → TakesFront a x b → TakesFront b y c → TakesFront a (x ++ y) c
takes_front-append None b c x y t u = subst (λ o. TakesFront o y c) t u
takes_front-append (Some before) b c x y t u =
    let v : TakesFront (Some t.0) y c = subst (λ o. TakesFront o y c) t.2 u
    in (v.0, t.1 ∙ ap (λ r. x ++ r) v.1 ∙ sym (append_assoc x y v.0), v.2)

pub reads_bad : (a c : Option (List ℕ)) (text : List ℕ) (f : TextFault) → TakesFront a text c → Answers {A = Unit {0}} (Err f) (shown_of text) → ReadsInput a c (Err (faults.Text f))
reads_bad None c text f t h = t
reads_bad (Some before) c text (text_faults.Bad line why) t h = (text, t.0, t.1, t.2, inl h)
reads_bad (Some before) c text text_faults.NoMemory t h = (text, t.0, t.1, t.2, tt)

pub Rose-after : (a b c : ℕ) → a ≤ b → Rose b c → Rose a c
Rose-after a b c h (inl r) = inl (omega (arith, h, r))
Rose-after a b c h (inr r) = inr r

nil_behind : (x y : List ℕ) → [] ≡ x ++ y → y ≡ []
nil_behind [] y e = sym e
nil_behind (a ∷ x) y e = absurd (omega (arith, ap (λ (l : List ℕ). length l) e))

-- the end was come to
pub reads_whole : (a b c : Option (List ℕ)) (text piece : List ℕ) (r : Result JobText InputFault) → TakesFront a text b → IsAtEnd b → TakesFront b piece c → FitsText r text [] → ReadsInput a c r
reads_whole None b c text piece r t at_end u fits = subst (λ o. TakesFront o piece c) t u
reads_whole (Some before) b c text piece r t at_end u fits =
    let v : TakesFront (Some t.0) piece c = subst (λ o. TakesFront o piece c) t.2 u in
    let none : t.0 ≡ [] = subst IsAtEnd t.2 at_end in
    let left : v.0 ≡ [] = nil_behind piece v.0 (sym none ∙ v.1) in
    (text, [], t.1 ∙ ap (λ r. text ++ r) none, v.2 ∙ ap Some left, fits)

pub reads_failed : (a b c : Option (List ℕ)) (text : List ℕ) → TakesFront a text b → c ≡ b → shown_of text ≡ None → ReadsInput a c (Err faults.Failed)
reads_failed None b c text t same none = same ∙ t
reads_failed (Some before) b c text t same none = (text, t.0, t.1, same ∙ t.2, none)

-- what finishing the reader gave
pub fits_bad : (text : List ℕ) (f : TextFault) → Gives (Err f) (input_of text) → FitsText (Err (faults.Text f)) text []
fits_bad text (text_faults.Bad line why) h = inr (refl, h)
fits_bad text text_faults.NoMemory h = tt
