use Rattle.std.proofs.Common.{◌≡◌, ◌≤◌, ◌+◌, false, ℕ, Option, if◌then◌else◌, reverse, refl, sym, ◌∙◌, ap, subst, arith}
use Rattle.std.specs.Option.{is_some}
use Rattle.legal_journal.specs.Past.{has_ended}
use Rattle.hub_engine.specs.HubValues.{HubValues}
use Rattle.hub_engine.specs.States.{workers_of, works_out, IsHub}
use Rattle.hub_engine.specs.Desks.{Tables}
use Rattle.hub_engine.specs.Calls.{MayKeep}
use Rattle.hub_engine.proofs.Snapshots.{may_keep}
use Rattle.hub_engine.proofs.Takings.{kept_hub, kept_tables}
use Rattle.hub_engine.proofs.engine.Engine.kept.Goals as goal

-- a Kept and a Stop are owed
owed : (h : HubValues) (epoch : ℕ) → IsHub h → has_ended (reverse h.journal.events) ≡ false → MayKeep h epoch → works_out (workers_of h) + 2 ≤ h.journal.spare
owed h epoch hub going may =
    let r = hub.room going in
    let k = ap {B = ℕ} (λ (o : Option ℕ). if is_some o then 1 else 0) may in
    omega (arith, r, k)

pub push-requires : goal.push-requires
push-requires g c =
    let old : HubValues = record { job = c.self.inside.job; counters = g.P.Pie.counters_for c.self.inside.job; start = c.self.inside.start; journal = c.self.inside.journal } in
    let may = subst (λ (h : HubValues). MayKeep h c.args.epoch) (sym c.self.view_is) c.requires in
    let o = owed old c.args.epoch c.self.invariant.1 (sym c.ended.ensures ∙ c.if-ended.false) may in
    omega (arith, o)

pub invariant_of-self : goal.invariant_of-self
invariant_of-self g c =
    let old : HubValues = record { job = c.self.inside.job; counters = g.P.Pie.counters_for c.self.inside.job; start = c.self.inside.start; journal = c.self.inside.journal } in
    let new : HubValues = record { job = c.self.inside.job; counters = g.P.Pie.counters_for c.self.inside.job; start = c.self.inside.start; journal = c.push.new.self } in
    let t : Tables = record { routes = c.self.inside.routes.items; desks = c.self.inside.desks.items; probe = c.self.inside.probe; cut = c.self.inside.cut; counts = c.self.inside.counts; turn = c.self.inside.turn } in
    let may = subst (λ (h : HubValues). MayKeep h c.args.epoch) (sym c.self.view_is) c.requires in
    let going = sym c.ended.ensures ∙ c.if-ended.false in
    let o = owed old c.args.epoch c.self.invariant.1 going may in
    let spare = c.push.ensures.spare in
    let a = may_keep old c.args.epoch c.self.invariant.1 going may in (
      c.self.invariant.0,
      kept_hub old new t c.args.epoch c.self.invariant.1 c.self.invariant.2 (refl, refl, c.push.ensures.events, refl) a (omega (arith, o, spare)),
      kept_tables old new t c.args.epoch c.self.invariant.1 c.self.invariant.2 (refl, refl, c.push.ensures.events, refl),
      c.self.invariant.3,
      c.self.invariant.4,
      c.self.invariant.5,
      c.self.invariant.6,
    )

pub returns-clause-hub : goal.returns-clause-hub
returns-clause-hub g c =
    let old : HubValues = record { job = c.self.inside.job; counters = g.P.Pie.counters_for c.self.inside.job; start = c.self.inside.start; journal = c.self.inside.journal } in
    let new : HubValues = record { job = c.self.inside.job; counters = g.P.Pie.counters_for c.self.inside.job; start = c.self.inside.start; journal = c.push.new.self } in
    let t : Tables = record { routes = c.self.inside.routes.items; desks = c.self.inside.desks.items; probe = c.self.inside.probe; cut = c.self.inside.cut; counts = c.self.inside.counts; turn = c.self.inside.turn } in
    let may = subst (λ (h : HubValues). MayKeep h c.args.epoch) (sym c.self.view_is) c.requires in
    let going = sym c.ended.ensures ∙ c.if-ended.false in
    let o = owed old c.args.epoch c.self.invariant.1 going may in
    let spare = c.push.ensures.spare in
    kept_hub old new t c.args.epoch c.self.invariant.1 c.self.invariant.2 (refl, refl, c.push.ensures.events, refl) (may_keep old c.args.epoch c.self.invariant.1 going may) (omega (arith, o, spare))
