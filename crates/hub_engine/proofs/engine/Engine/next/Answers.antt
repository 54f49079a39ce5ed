use Rattle.std.proofs.Common.{refl, subst}
use Rattle.grape_event.specs.declared.event.Event.TheVariants.{Ack, Nack, Flag, Hold, Mark}
use Rattle.hub_engine.specs.declared.kind.Kind.TheVariants as kind
use Rattle.hub_engine.specs.States.{machine, state_of}
use Rattle.hub_engine.specs.Choices.{IsChoice}
use Rattle.hub_engine.proofs.Nexts.{is_found, event_admitted, stretch_admitted, take_idle, take_chosen, take_ready, stretch_chosen, did_chosen, none_chosen}
use Rattle.hub_engine.proofs.engine.Engine.next.Goals as goal

pub returns-in_default-clause-chosen : goal.returns-in_default-clause-chosen
returns-in_default-clause-chosen g c = (
  none_chosen c.args.self.now c.args.lane (subst (IsChoice (machine c.args.self.now) (state_of c.args.self.now) c.args.lane) c.in_default.is c.choice.ensures.choice),
  refl,
  c.requires.going,
)

pub mark-requires : goal.mark-requires
mark-requires g c =
    let found = is_found c.args.self.now c.args.lane c.in-Some.worker kind.Mark c.in-Some.kind c.choice.result c.in-Some.is c.in-Mark.is c.choice.ensures.choice in
    record { admitted = event_admitted c.args.self.now c.args.lane kind.Mark c.in-Some.worker found }

pub take-requires-clause-admitted : goal.take-requires-clause-admitted
take-requires-clause-admitted g c =
    let found = is_found c.args.self.now c.args.lane c.in-Some.worker kind.Take c.in-Some.kind c.choice.result c.in-Some.is c.in-Take.is c.choice.ensures.choice in
    event_admitted c.args.self.now c.args.lane kind.Take c.in-Some.worker found

pub take-requires-clause-idle : goal.take-requires-clause-idle
take-requires-clause-idle g c =
    let found = is_found c.args.self.now c.args.lane c.in-Some.worker kind.Take c.in-Some.kind c.choice.result c.in-Some.is c.in-Take.is c.choice.ensures.choice in
    take_idle c.args.self.now c.args.lane c.in-Some.worker found

pub stretch-requires : goal.stretch-requires
stretch-requires g c =
    let found = is_found c.args.self.now c.args.lane c.in-Some.worker kind.Stretch c.in-Some.kind c.choice.result c.in-Some.is c.in-Stretch.is c.choice.ensures.choice in
    record { admitted = stretch_admitted c.args.self.now c.args.lane c.in-Some.worker found }

pub did-requires-clause-admitted : goal.did-requires-clause-admitted
did-requires-clause-admitted g c =
    let found = is_found c.args.self.now c.args.lane c.in-Some.worker kind.Ack c.in-Some.kind c.choice.result c.in-Some.is c.in-Ack.is c.choice.ensures.choice in
    event_admitted c.args.self.now c.args.lane kind.Ack c.in-Some.worker found

pub did-requires-in-Nack-clause-admitted : goal.did-requires-in-Nack-clause-admitted
did-requires-in-Nack-clause-admitted g c =
    let found = is_found c.args.self.now c.args.lane c.in-Some.worker kind.Nack c.in-Some.kind c.choice.result c.in-Some.is c.in-Nack.is c.choice.ensures.choice in
    event_admitted c.args.self.now c.args.lane kind.Nack c.in-Some.worker found

pub did-requires-in-Flag-clause-admitted : goal.did-requires-in-Flag-clause-admitted
did-requires-in-Flag-clause-admitted g c =
    let found = is_found c.args.self.now c.args.lane c.in-Some.worker kind.Flag c.in-Some.kind c.choice.result c.in-Some.is c.in-Flag.is c.choice.ensures.choice in
    event_admitted c.args.self.now c.args.lane kind.Flag c.in-Some.worker found

pub did-requires-in-Hold-clause-admitted : goal.did-requires-in-Hold-clause-admitted
did-requires-in-Hold-clause-admitted g c =
    let found = is_found c.args.self.now c.args.lane c.in-Some.worker kind.Hold c.in-Some.kind c.choice.result c.in-Some.is c.in-Hold.is c.choice.ensures.choice in
    event_admitted c.args.self.now c.args.lane kind.Hold c.in-Some.worker found

pub returns-in-Mark-clause-chosen : goal.returns-in-Mark-clause-chosen
returns-in-Mark-clause-chosen g c =
    let found = is_found c.args.self.now c.args.lane c.in-Some.worker kind.Mark c.in-Some.kind c.choice.result c.in-Some.is c.in-Mark.is c.choice.ensures.choice in
    did_chosen c.args.self.now c.args.lane c.in-Some.worker kind.Mark (Mark c.in-Some.worker) refl refl found c.mark.result c.mark.new.self c.mark.ensures.did

pub returns-in-Take-clause-chosen : goal.returns-in-Take-clause-chosen
returns-in-Take-clause-chosen g c =
    let found = is_found c.args.self.now c.args.lane c.in-Some.worker kind.Take c.in-Some.kind c.choice.result c.in-Some.is c.in-Take.is c.choice.ensures.choice in
    take_chosen c.args.self.now c.args.lane c.in-Some.worker found c.take.result c.take.new.self c.take.ensures.taken

pub returns-in-Take-clause-ready : goal.returns-in-Take-clause-ready
returns-in-Take-clause-ready g c =
    let found = is_found c.args.self.now c.args.lane c.in-Some.worker kind.Take c.in-Some.kind c.choice.result c.in-Some.is c.in-Take.is c.choice.ensures.choice in
    take_ready c.args.self.now c.args.lane c.in-Some.worker found c.choice.ensures.hub c.take.result c.take.new.self c.take.ensures.taken

pub returns-in-Stretch-clause-chosen : goal.returns-in-Stretch-clause-chosen
returns-in-Stretch-clause-chosen g c =
    let found = is_found c.args.self.now c.args.lane c.in-Some.worker kind.Stretch c.in-Some.kind c.choice.result c.in-Some.is c.in-Stretch.is c.choice.ensures.choice in
    stretch_chosen c.args.self.now c.args.lane c.in-Some.worker found c.stretch.result c.stretch.new.self c.stretch.ensures.stretched

pub returns-in-Ack-clause-chosen : goal.returns-in-Ack-clause-chosen
returns-in-Ack-clause-chosen g c =
    let found = is_found c.args.self.now c.args.lane c.in-Some.worker kind.Ack c.in-Some.kind c.choice.result c.in-Some.is c.in-Ack.is c.choice.ensures.choice in
    did_chosen c.args.self.now c.args.lane c.in-Some.worker kind.Ack (Ack c.in-Some.worker) refl refl found c.did.result c.did.new.self c.did.ensures.did

pub returns-in-Nack-clause-chosen : goal.returns-in-Nack-clause-chosen
returns-in-Nack-clause-chosen g c =
    let found = is_found c.args.self.now c.args.lane c.in-Some.worker kind.Nack c.in-Some.kind c.choice.result c.in-Some.is c.in-Nack.is c.choice.ensures.choice in
    did_chosen c.args.self.now c.args.lane c.in-Some.worker kind.Nack (Nack c.in-Some.worker) refl refl found c.did-in-Nack.result c.did-in-Nack.new.self c.did-in-Nack.ensures.did

pub returns-in-Flag-clause-chosen : goal.returns-in-Flag-clause-chosen
returns-in-Flag-clause-chosen g c =
    let found = is_found c.args.self.now c.args.lane c.in-Some.worker kind.Flag c.in-Some.kind c.choice.result c.in-Some.is c.in-Flag.is c.choice.ensures.choice in
    did_chosen c.args.self.now c.args.lane c.in-Some.worker kind.Flag (Flag c.in-Some.worker) refl refl found c.did-in-Flag.result c.did-in-Flag.new.self c.did-in-Flag.ensures.did

pub returns-in-Hold-clause-chosen : goal.returns-in-Hold-clause-chosen
returns-in-Hold-clause-chosen g c =
    let found = is_found c.args.self.now c.args.lane c.in-Some.worker kind.Hold c.in-Some.kind c.choice.result c.in-Some.is c.in-Hold.is c.choice.ensures.choice in
    did_chosen c.args.self.now c.args.lane c.in-Some.worker kind.Hold (Hold c.in-Some.worker) refl refl found c.did-in-Hold.result c.did-in-Hold.new.self c.did-in-Hold.ensures.did
