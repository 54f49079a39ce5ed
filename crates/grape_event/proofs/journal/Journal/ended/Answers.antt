use Rattle.std.proofs.Common.{ap, subst, sym, ◌∙◌}
use Rattle.std.specs.Prelude.{reverse, None, Some}
use Rattle.grape_event.specs.JournalList.{JournalList}
use Rattle.grape_event.specs.Journals.{has_ended}
use Rattle.grape_event.specs.Packing.{expand, IsLast}
use Rattle.grape_event.proofs.Repeats.{none_ended, some_ended}
use Rattle.grape_event.proofs.journal.Journal.ended.Goals as goal

pub returns-in-Some : goal.returns-in-Some
returns-in-Some c =
    let j = c.self.inside in
    let events = expand j.places.items j.wides.items 0 j.repeats.items in
    let last : IsLast (Some c.in-Some.event) events = subst (λ l. IsLast l events) c.in-Some.is c.self.invariant.1 in
    c.is_last.ensures ∙ some_ended events c.in-Some.event last ∙ ap (λ (v : JournalList). has_ended (reverse v.events)) c.self.view_is

pub returns-in-None : goal.returns-in-None
returns-in-None c =
    let j = c.self.inside in
    let events = expand j.places.items j.wides.items 0 j.repeats.items in
    let last : IsLast None events = subst (λ l. IsLast l events) c.in-None.is c.self.invariant.1 in
    sym (none_ended events last) ∙ ap (λ (v : JournalList). has_ended (reverse v.events)) c.self.view_is
