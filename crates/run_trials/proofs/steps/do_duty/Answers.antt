use Rattle.std.proofs.Common.{subst}
use Rattle.hub_engine.specs.declared.work.Duty.{Duty}
use Rattle.hub_engine.specs.Calls.{ChoosesDuty, WritesSealed}
use Rattle.run_trials.proofs.Driving.{form_sizes, may_keep, duty_sealed, duty_did, duty_none, duty_failed}
use Rattle.run_trials.proofs.steps.do_duty.Goals as goal

pub duty-requires-clause-sizes : goal.duty-requires-clause-sizes
duty-requires-clause-sizes g c = form_sizes c.args.hub.now.hub c.args.into.now c.requires.into

pub kept-requires : goal.kept-requires
kept-requires g c = may_keep c.args.hub.now.hub c.duty.new.self.hub c.in-Sealed.epoch (subst (λ (r : Duty). ChoosesDuty c.args.hub.now.hub r c.duty.new.self.hub) c.in-Sealed.is c.duty.ensures.chosen)

pub returns-in-Sealed : goal.returns-in-Sealed
returns-in-Sealed g c =
    let chosen = subst (λ (r : Duty). ChoosesDuty c.args.hub.now.hub r c.duty.new.self.hub) c.in-Sealed.is c.duty.ensures.chosen in
    let written = subst (λ (r : Duty). WritesSealed r c.duty.new.self.hub c.args.into.now c.duty.new.into) c.in-Sealed.is c.duty.ensures.written in
    let d = duty_sealed c.args.hub.now.hub c.duty.new.self.hub c.kept.new.self.hub c.in-Sealed.epoch c.args.into.now c.duty.new.into chosen written c.duty.ensures.hub.0 c.kept.ensures.kept c.kept.ensures.hub.0 in
    record { along = d.along; hub = c.kept.ensures.hub; lanes = d.lanes; into = d.into }

pub returns-in-Did : goal.returns-in-Did
returns-in-Did g c =
    let chosen = subst (λ (r : Duty). ChoosesDuty c.args.hub.now.hub r c.duty.new.self.hub) c.in-Did.is c.duty.ensures.chosen in
    let written = subst (λ (r : Duty). WritesSealed r c.duty.new.self.hub c.args.into.now c.duty.new.into) c.in-Did.is c.duty.ensures.written in
    let d = duty_did c.args.hub.now.hub c.duty.new.self.hub c.in-Did.field-0 c.args.into.now c.duty.new.into chosen written c.duty.ensures.hub.0 c.requires.into in
    record { along = d.along; hub = c.duty.ensures.hub; lanes = d.lanes; into = d.into }

pub returns-in-Nothing : goal.returns-in-Nothing
returns-in-Nothing g c =
    let chosen = subst (λ (r : Duty). ChoosesDuty c.args.hub.now.hub r c.duty.new.self.hub) c.in-Nothing.is c.duty.ensures.chosen in
    let written = subst (λ (r : Duty). WritesSealed r c.duty.new.self.hub c.args.into.now c.duty.new.into) c.in-Nothing.is c.duty.ensures.written in
    let d = duty_none c.args.hub.now.hub c.duty.new.self.hub c.args.into.now c.duty.new.into chosen.1 written c.requires.into in
    record { along = d.along; hub = c.duty.ensures.hub; lanes = d.lanes; into = d.into }

pub returns-in-Ended : goal.returns-in-Ended
returns-in-Ended g c =
    let chosen = subst (λ (r : Duty). ChoosesDuty c.args.hub.now.hub r c.duty.new.self.hub) c.in-Ended.is c.duty.ensures.chosen in
    let written = subst (λ (r : Duty). WritesSealed r c.duty.new.self.hub c.args.into.now c.duty.new.into) c.in-Ended.is c.duty.ensures.written in
    let d = duty_none c.args.hub.now.hub c.duty.new.self.hub c.args.into.now c.duty.new.into chosen.0 written c.requires.into in
    record { along = d.along; hub = c.duty.ensures.hub; lanes = d.lanes; into = d.into }

pub returns-in-NoMemory : goal.returns-in-NoMemory
returns-in-NoMemory g c =
    let chosen = subst (λ (r : Duty). ChoosesDuty c.args.hub.now.hub r c.duty.new.self.hub) c.in-NoMemory.is c.duty.ensures.chosen in
    let written = subst (λ (r : Duty). WritesSealed r c.duty.new.self.hub c.args.into.now c.duty.new.into) c.in-NoMemory.is c.duty.ensures.written in
    let d = duty_failed c.args.hub.now.hub c.duty.new.self.hub c.args.into.now c.duty.new.into chosen written c.requires.into in
    record { along = d.along; hub = c.duty.ensures.hub; lanes = d.lanes; into = d.into }
