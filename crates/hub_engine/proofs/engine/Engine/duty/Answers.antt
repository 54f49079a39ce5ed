use Rattle.std.proofs.Common.{◌≡◌, true, subst, ◌∙◌}
use Rattle.grape_event.specs.declared.event.Event.{Event}
use Rattle.legal_journal.specs.Legal.{is_admitted}
use Rattle.legal_journal.proofs.Choosing.{duties_are_exact}
use Rattle.hub_engine.specs.States.{machine, state_of}
use Rattle.hub_engine.proofs.Duties.{duty_notes}
use Rattle.hub_engine.proofs.engine.Engine.duty.Goals as goal

pub seal-requires-clause-admitted : goal.seal-requires-clause-admitted
seal-requires-clause-admitted g c =
    let found = (duties_are_exact (machine c.args.self.now) (state_of c.args.self.now)).0 c.in-Some.event (c.duty_event.ensures.choice ∙ c.in-Some.is) in
    subst (λ (e : Event). is_admitted (machine c.args.self.now) (state_of c.args.self.now) e ≡ true) c.in-Seal.is found.0

pub begin-requires : goal.begin-requires
begin-requires g c =
    let found = (duties_are_exact (machine c.args.self.now) (state_of c.args.self.now)).0 c.in-Some.event (c.duty_event.ensures.choice ∙ c.in-Some.is) in
    record { admitted = subst (λ (e : Event). is_admitted (machine c.args.self.now) (state_of c.args.self.now) e ≡ true) c.in-Begin.is found.0 }

pub note-requires : goal.note-requires
note-requires g c =
    let found = (duties_are_exact (machine c.args.self.now) (state_of c.args.self.now)).0 c.in-Some.event (c.duty_event.ensures.choice ∙ c.in-Some.is) in
    record { note = duty_notes c.in-Some.event found.1 c.in_default-event.not-Begin c.in_default-event.not-Seal; admitted = found.0 }
