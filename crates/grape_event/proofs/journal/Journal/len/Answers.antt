use Rattle.std.proofs.Common.{length, sym, ap, ◌∙◌}
use Rattle.grape_event.specs.JournalList.{JournalList}
use Rattle.grape_event.proofs.Repeats.{length-expand}
use Rattle.grape_event.proofs.journal.Journal.len.Goals as goal

pub returns : goal.returns
returns c =
    let j = c.self.inside in
    c.self.invariant.0.counted ∙ sym (length-expand j.places.items j.wides.items 0 j.repeats.items) ∙ ap (λ (v : JournalList). length v.events) c.self.view_is
