use Rattle.std.proofs.Common.{◌≡◌, sym, ◌∙◌, ap, arith, ◌-◌}
use Rattle.std.specs.List.{range_with_len}
use Rattle.graph_core.specs.Fragments.{numbers_below}
use Rattle.hub_engine.specs.Kinds.{kind_at, best_of}
use Rattle.hub_engine.proofs.Passes.{two_rows}
use Rattle.hub_engine.proofs.choice.first_of_kinds.Goals as goal

pub returns : goal.returns
returns c =
    let f = kind_at c.args.sight.now c.args.probe.now c.args.cut.now c.args.desks.now in
    let t = c.args.turn in
    let whole : t - 0 ≡ t = omega arith in
    c.best_between.ensures
    ∙ ap (λ n. best_of f (range_with_len 0 n) c.best_between-later.result) whole
    ∙ ap (λ best. best_of f (numbers_below t) best) c.best_between-later.ensures
    ∙ sym (two_rows c.args.sight.now c.args.probe.now c.args.cut.now c.args.desks.now t)
