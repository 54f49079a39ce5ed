use Rattle.std.proofs.Common.{◌≡◌, sym, slice_get, subst}
use Rattle.std.specs.Prelude.{Ok, Err, Some}
use Rattle.std.proofs.lemmas.List.Sorted.{searched}
use Rattle.std.proofs.lemmas.Option.{get_or_from_slice_get}
use Rattle.grape_event.specs.declared.event.Event.TheVariants as event
use Rattle.grape_event.specs.Packing.{wide_at}
use Rattle.grape_event.proofs.Repeats.{wide_at-none, wide_at-some, not_falling, differs}
use Rattle.grape_event.proofs.repeat.wide.Goals as goal

pub returns-in-Ok : goal.returns-in-Ok
returns-in-Ok c =
    let ps = c.args.places.now in
    let es = c.args.wides.now in
    let i = c.in-Ok.index in
    let at = searched ps c.args.place (Ok i) c.in-Ok.ensures.position (not_falling ps c.requires.rise) in
    let there : slice_get es i ≡ Some (wide_at ps es c.args.place) = subst (λ n. slice_get es i ≡ Some (wide_at ps es n)) at.1 (wide_at-some ps es i c.requires.paired c.requires.rise at.0) in
    get_or_from_slice_get es i (wide_at ps es c.args.place) (event.Take 0 0) there

pub returns-in-Err : goal.returns-in-Err
returns-in-Err c =
    let ps = c.args.places.now in
    let i = c.in-Err.field-0 in
    let at = searched ps c.args.place (Err i) c.in-Err.ensures.position (not_falling ps c.requires.rise) in
    sym (wide_at-none ps c.args.wides.now c.args.place (λ k h. differs ps c.args.place i k at.1 at.2 h))
