use Rattle.std.proofs.Common.{length, ◌+◌, arith}
use Rattle.std.proofs.lemmas.List.{length-append, get_or-append-add}
use Rattle.fragment_cut.proofs.Pieces.{numbered_all, once_left, once_right}
use Rattle.fragment_cut.proofs.half.number_all.Goals as goal

pub number_places-requires-clause-once : goal.number_places-requires-clause-once
number_places-requires-clause-once c = once_left c.args.owned.now c.args.mirrors.now c.requires.once

pub number_places-requires-2-clause-inside : goal.number_places-requires-2-clause-inside
number_places-requires-2-clause-inside c = λ k d h.
    let o = c.args.owned.now in
    let m = c.args.mirrors.now in
    let r = c.requires.inside (length o + k) d (omega (arith, length-append o m, h)) in
    let e = get_or-append-add o m k d in
    omega (arith, r, e)

pub number_places-requires-2-clause-once : goal.number_places-requires-2-clause-once
number_places-requires-2-clause-once c = once_right c.args.owned.now c.args.mirrors.now c.requires.once

pub returns-clause-places : goal.returns-clause-places
returns-clause-places c =
    numbered_all c.args.owned.now c.args.mirrors.now c.args.places.now c.number_places.new.places c.number_places-2.new.places c.requires.once
    c.number_places.ensures.numbered c.number_places-2.ensures.numbered c.number_places-2.ensures.others
