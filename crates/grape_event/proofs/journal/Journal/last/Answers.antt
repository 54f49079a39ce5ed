use Rattle.std.proofs.Common.{◌≡◌, [], subst}
use Rattle.std.specs.Prelude.{◌↔◌, IsNone}
use Rattle.grape_event.specs.JournalList.{JournalList}
use Rattle.grape_event.specs.Packing.{expand}
use Rattle.grape_event.proofs.Repeats.{no_last}
use Rattle.grape_event.proofs.journal.Journal.last.Goals as goal

pub returns-clause-none : goal.returns-clause-none
returns-clause-none c =
    let j = c.self.inside in
    subst (λ (v : JournalList). IsNone j.last ↔ (v.events ≡ [])) c.self.view_is (no_last j.last (expand j.places.items j.wides.items 0 j.repeats.items) c.self.invariant.1)
