use Rattle.std.proofs.Common.{◌≡◌, true, false, not, ◌&&◌, ◌+◌, Some, None, reverse, refl, sym, ◌∙◌, subst}
use Rattle.grape_event.specs.declared.event.Event.TheVariants.{Ask, Begin, Seal, End}
use Rattle.legal_journal.specs.Past.{has_ended}
use Rattle.legal_journal.specs.Choices.{duty_choice}
use Rattle.stop_probe.specs.Probe.{may_ask, may_end}
use Rattle.hub_engine.specs.HubValues.{HubValues}
use Rattle.hub_engine.specs.States.{machine, state_of, sealed_epoch}
use Rattle.hub_engine.specs.Desks.{Tables}
use Rattle.hub_engine.specs.Kinds.{is_due}
use Rattle.hub_engine.proofs.Duties.{hub_duty, once_closed}
use Rattle.hub_engine.proofs.engine.Engine.duty_event.Goals as goal

pub returns-then-complete-clause-choice : goal.returns-then-complete-clause-choice
returns-then-complete-clause-choice g c =
    let h : HubValues = record { job = c.self.inside.job; counters = g.P.Pie.counters_for c.self.inside.job; start = c.self.inside.start; journal = c.self.inside.journal } in
    let t : Tables = record { routes = c.self.inside.routes.items; desks = c.self.inside.desks.items; probe = c.self.inside.probe; cut = c.self.inside.cut; counts = c.self.inside.counts; turn = c.self.inside.turn } in
    let going = subst (λ (x : HubValues). has_ended (reverse x.journal.events) ≡ false) (sym c.self.view_is) c.requires.going in
    let none = subst (λ (x : HubValues). sealed_epoch (state_of x).past ≡ None) (sym c.self.view_is) c.requires.kept in
    subst (λ (x : HubValues). duty_choice (machine x) (state_of x) ≡ Some (Seal c.self.inside.counts.epoch)) c.self.view_is
    (hub_duty h t c.self.invariant.1 c.self.invariant.2 going none true (not c.self.inside.cut.recording && may_end c.self.inside.probe) (not c.self.inside.cut.recording && is_due c.self.inside.job.settings.snapshot c.self.inside.counts) (may_ask c.self.inside.probe) (sym c.complete.ensures ∙ c.if-complete.true) refl refl refl)

pub returns-then-may_once_closed-clause-choice : goal.returns-then-may_once_closed-clause-choice
returns-then-may_once_closed-clause-choice g c =
    let h : HubValues = record { job = c.self.inside.job; counters = g.P.Pie.counters_for c.self.inside.job; start = c.self.inside.start; journal = c.self.inside.journal } in
    let t : Tables = record { routes = c.self.inside.routes.items; desks = c.self.inside.desks.items; probe = c.self.inside.probe; cut = c.self.inside.cut; counts = c.self.inside.counts; turn = c.self.inside.turn } in
    let going = subst (λ (x : HubValues). has_ended (reverse x.journal.events) ≡ false) (sym c.self.view_is) c.requires.going in
    let none = subst (λ (x : HubValues). sealed_epoch (state_of x).past ≡ None) (sym c.self.view_is) c.requires.kept in
    subst (λ (x : HubValues). duty_choice (machine x) (state_of x) ≡ Some End) c.self.view_is
    (hub_duty h t c.self.invariant.1 c.self.invariant.2 going none false true (not c.self.inside.cut.recording && is_due c.self.inside.job.settings.snapshot c.self.inside.counts) (may_ask c.self.inside.probe) (sym c.complete.ensures ∙ c.if-complete.false) (once_closed c.recording-recording.result c.self.inside.cut.recording c.may_end.result (may_end c.self.inside.probe) c.may_once_closed.result true c.recording-recording.ensures c.may_end.ensures c.may_once_closed.ensures c.if-may_once_closed.true) refl refl)

pub returns-then-may_once_closed-2-clause-choice : goal.returns-then-may_once_closed-2-clause-choice
returns-then-may_once_closed-2-clause-choice g c =
    let h : HubValues = record { job = c.self.inside.job; counters = g.P.Pie.counters_for c.self.inside.job; start = c.self.inside.start; journal = c.self.inside.journal } in
    let t : Tables = record { routes = c.self.inside.routes.items; desks = c.self.inside.desks.items; probe = c.self.inside.probe; cut = c.self.inside.cut; counts = c.self.inside.counts; turn = c.self.inside.turn } in
    let going = subst (λ (x : HubValues). has_ended (reverse x.journal.events) ≡ false) (sym c.self.view_is) c.requires.going in
    let none = subst (λ (x : HubValues). sealed_epoch (state_of x).past ≡ None) (sym c.self.view_is) c.requires.kept in
    subst (λ (x : HubValues). duty_choice (machine x) (state_of x) ≡ Some (Begin (c.self.inside.counts.epoch + 1))) c.self.view_is
    (hub_duty h t c.self.invariant.1 c.self.invariant.2 going none false false true (may_ask c.self.inside.probe) (sym c.complete.ensures ∙ c.if-complete.false) (once_closed c.recording-recording.result c.self.inside.cut.recording c.may_end.result (may_end c.self.inside.probe) c.may_once_closed.result false c.recording-recording.ensures c.may_end.ensures c.may_once_closed.ensures c.if-may_once_closed.false) (once_closed c.recording-recording.result c.self.inside.cut.recording c.is_due-due.result (is_due c.self.inside.job.settings.snapshot c.self.inside.counts) c.may_once_closed-2.result true c.recording-recording.ensures c.is_due-due.ensures c.may_once_closed-2.ensures c.if-may_once_closed-2.true) refl)

pub returns-then-may_ask-clause-choice : goal.returns-then-may_ask-clause-choice
returns-then-may_ask-clause-choice g c =
    let h : HubValues = record { job = c.self.inside.job; counters = g.P.Pie.counters_for c.self.inside.job; start = c.self.inside.start; journal = c.self.inside.journal } in
    let t : Tables = record { routes = c.self.inside.routes.items; desks = c.self.inside.desks.items; probe = c.self.inside.probe; cut = c.self.inside.cut; counts = c.self.inside.counts; turn = c.self.inside.turn } in
    let going = subst (λ (x : HubValues). has_ended (reverse x.journal.events) ≡ false) (sym c.self.view_is) c.requires.going in
    let none = subst (λ (x : HubValues). sealed_epoch (state_of x).past ≡ None) (sym c.self.view_is) c.requires.kept in
    subst (λ (x : HubValues). duty_choice (machine x) (state_of x) ≡ Some Ask) c.self.view_is
    (hub_duty h t c.self.invariant.1 c.self.invariant.2 going none false false false true (sym c.complete.ensures ∙ c.if-complete.false) (once_closed c.recording-recording.result c.self.inside.cut.recording c.may_end.result (may_end c.self.inside.probe) c.may_once_closed.result false c.recording-recording.ensures c.may_end.ensures c.may_once_closed.ensures c.if-may_once_closed.false) (once_closed c.recording-recording.result c.self.inside.cut.recording c.is_due-due.result (is_due c.self.inside.job.settings.snapshot c.self.inside.counts) c.may_once_closed-2.result false c.recording-recording.ensures c.is_due-due.ensures c.may_once_closed-2.ensures c.if-may_once_closed-2.false) (sym c.may_ask.ensures ∙ c.if-may_ask.true))

pub returns-clause-choice : goal.returns-clause-choice
returns-clause-choice g c =
    let h : HubValues = record { job = c.self.inside.job; counters = g.P.Pie.counters_for c.self.inside.job; start = c.self.inside.start; journal = c.self.inside.journal } in
    let t : Tables = record { routes = c.self.inside.routes.items; desks = c.self.inside.desks.items; probe = c.self.inside.probe; cut = c.self.inside.cut; counts = c.self.inside.counts; turn = c.self.inside.turn } in
    let going = subst (λ (x : HubValues). has_ended (reverse x.journal.events) ≡ false) (sym c.self.view_is) c.requires.going in
    let none = subst (λ (x : HubValues). sealed_epoch (state_of x).past ≡ None) (sym c.self.view_is) c.requires.kept in
    subst (λ (x : HubValues). duty_choice (machine x) (state_of x) ≡ None) c.self.view_is
    (hub_duty h t c.self.invariant.1 c.self.invariant.2 going none false false false false (sym c.complete.ensures ∙ c.if-complete.false) (once_closed c.recording-recording.result c.self.inside.cut.recording c.may_end.result (may_end c.self.inside.probe) c.may_once_closed.result false c.recording-recording.ensures c.may_end.ensures c.may_once_closed.ensures c.if-may_once_closed.false) (once_closed c.recording-recording.result c.self.inside.cut.recording c.is_due-due.result (is_due c.self.inside.job.settings.snapshot c.self.inside.counts) c.may_once_closed-2.result false c.recording-recording.ensures c.is_due-due.ensures c.may_once_closed-2.ensures c.if-may_once_closed-2.false) (sym c.may_ask.ensures ∙ c.if-may_ask.false))
