use Rattle.std.proofs.Common.{◌+◌, ◌-◌, ◌≤◌, drop, get_or, subst, sym, arith}
use Rattle.std.specs.Prelude.{Some, None}
use Rattle.std.proofs.lemmas.List.{at_drop_more, at_drop_all}
use Rattle.grape_event.specs.declared.packed.Packed.TheVariants.{Take}
use Rattle.grape_event.specs.declared.repeat.Repeat.{Repeat}
use Rattle.grape_event.specs.Packing.{IsFound}
use Rattle.grape_event.proofs.Repeats.{found_here, found_later}
use Rattle.grape_event.proofs.repeat.find.Goals as goal

any : Repeat
any = record { event = Take 0 0; more = 0 }

pub returns-then-rest-more : goal.returns-then-rest-more
unfolding any
returns-then-rest-more c =
    let repeat = get_or c.args.repeats.now c.repeats.repeat-index any in
    c.repeats.invariant (Some (repeat, c.repeats.rest))
    (subst (λ repeats. IsFound repeats c.repeats.rest (Some (repeat, c.repeats.rest))) (sym (at_drop_more (λ xs. xs) c.args.repeats.now c.repeats.repeat-index any c.repeats-test.true))
    (found_here repeat (drop (c.repeats.repeat-index + 1) c.args.repeats.now) c.repeats.rest (subst (λ n. c.repeats.rest ≤ n) c.from-more.ensures c.if-rest-more.true)))

pub repeats-preserved : goal.repeats-preserved
unfolding any
repeats-preserved c = λ found is.
    let repeat = get_or c.args.repeats.now c.repeats.repeat-index any in
    c.repeats.invariant found
    (subst (λ repeats. IsFound repeats c.repeats.rest found) (sym (at_drop_more (λ xs. xs) c.args.repeats.now c.repeats.repeat-index any c.repeats-test.true))
    (found_later repeat (drop (c.repeats.repeat-index + 1) c.args.repeats.now) c.repeats.rest (omega arith) found
    (subst (λ n. IsFound (drop (c.repeats.repeat-index + 1) c.args.repeats.now) (c.repeats.rest - (n + 1)) found) c.from-more.ensures is)))

pub returns : goal.returns
returns c =
    c.repeats.invariant None (subst (λ repeats. IsFound repeats c.repeats.rest None) (sym (at_drop_all (λ xs. xs) c.args.repeats.now c.repeats.repeat-index c.repeats-test.false)) (omega arith))
