use Rattle.std.proofs.Common.{◌≡◌, refl, sym, ◌∙◌, ap, arith, ◌+◌, ◌-◌}
use Rattle.std.specs.List.{range_with_len}
use Rattle.hub_engine.specs.Kinds.{kind_at, best_of, better, first_kind, kinds}
use Rattle.hub_engine.proofs.Passes.{kind_there, no_desk_more, desk_more}
use Rattle.hub_engine.proofs.choice.best_between.Goals as goal

pub desks-init : goal.desks-init
desks-init c = record { same = refl }

pub desks-preserved : goal.desks-preserved
desks-preserved c =
    let f = kind_at c.args.sight.now c.args.probe.now c.args.cut.now c.args.desks.now in
    let i = c.desks.worker in
    let kind : f i ≡ c.first_kind-kind.result =
    kind_there c.args.sight.now c.args.probe.now c.args.cut.now c.args.desks.now i c.index-desks-worker.result (omega arith)
    ∙ ap (λ d. first_kind c.args.sight.now c.args.probe.now c.args.cut.now i d kinds) (sym c.index-desks-worker.is) ∙ sym c.first_kind-kind.ensures in
    let next : better c.desks.found (f i) i ≡ c.better-found.result = ap (λ k. better c.desks.found k i) kind ∙ sym c.better-found.ensures in
    record {
      same = c.desks.invariant.same ∙ desk_more f i c.args.to c.desks.found c.desks-test.true
          ∙ ap (λ best. best_of f (range_with_len (i + 1) (c.args.to - (i + 1))) best) next;
    }

pub returns : goal.returns
returns c = sym (c.desks.invariant.same ∙ no_desk_more (kind_at c.args.sight.now c.args.probe.now c.args.cut.now c.args.desks.now) c.desks.worker c.args.to c.desks.found (omega arith))
