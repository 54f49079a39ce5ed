-- The event that ends a journal.
use Rattle.std.proofs.Common.{◌≡◌, ◌-◌, true, sym, ◌∙◌, ap, subst, arith, List, [], ◌∷◌, ◌++◌, length, reverse, slice_get, Some}
use mathlib.Core.List.{reverse-cons}
use Rattle.std.proofs.lemmas.List.{length-append, reverse-append, reverse-reverse}
use Rattle.std.proofs.lemmas.Option.{none-some, same_Some}
use Rattle.circular_buffer.proofs.Places.{slice_get-last}
use Rattle.grape_event.specs.declared.event.Event.{Event}
use Rattle.grape_event.specs.declared.event.Event.TheVariants.{End}
use Rattle.legal_journal.specs.Past.{has_ended}
use Rattle.coordinator.specs.Runs.{EndsBy}

ends_in : (past journal : List Event) (e : Event) → journal ≡ reverse past → slice_get journal (length journal - 1) ≡ Some e → EndsBy e journal
ends_in [] journal e same at = absurd (none-some e (subst (λ (es : List Event). slice_get es (length es - 1) ≡ Some e) same at))
ends_in (f ∷ past) journal e same at =
    let whole : journal ≡ reverse past ++ f ∷ [] = same ∙ reverse-cons f past in
    let long = ap (λ (es : List Event). length es) whole in
    let more = length-append (reverse past) (f ∷ []) in
    let found : slice_get journal (length journal - 1) ≡ Some f = ap (λ (es : List Event). slice_get es (length journal - 1)) whole ∙ slice_get-last (reverse past) f (length journal - 1) (omega (arith, long, more)) in
    let is : f ≡ e = same_Some f e (sym found ∙ at) in
    (reverse past, subst (λ (x : Event). journal ≡ reverse past ++ x ∷ []) is whole)

-- the event at the last place of a journal ends it
pub ends_by_last : (journal : List Event) (e : Event) → slice_get journal (length journal - 1) ≡ Some e → EndsBy e journal
ends_by_last journal e at = ends_in (reverse journal) journal e (sym (reverse-reverse journal)) at

pub has_ended_by : (journal : List Event) → EndsBy End journal → has_ended (reverse journal) ≡ true
has_ended_by journal ends = ap (λ (es : List Event). has_ended (reverse es)) ends.1 ∙ ap (λ (es : List Event). has_ended es) (reverse-append ends.0 (End ∷ []))
