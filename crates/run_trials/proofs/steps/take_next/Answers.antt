use Rattle.std.proofs.Common.{subst}
use Rattle.hub_engine.specs.declared.work.Next.{Next}
use Rattle.hub_engine.specs.Calls.{Chooses, ReadyWhereTook}
use Rattle.run_trials.proofs.Driving.{free_by_record, lane_took, lane_did, lane_none, lane_failed}
use Rattle.run_trials.proofs.steps.take_next.Goals as goal

pub next-requires-clause-free : goal.next-requires-clause-free
next-requires-clause-free g c = free_by_record c.args.hub.now c.args.lane c.requires.hub c.requires.free

pub returns-in-Took : goal.returns-in-Took
returns-in-Took g c =
    let chosen = subst (λ (r : Next). Chooses c.args.hub.now.hub c.args.lane r c.next.new.self.hub) c.in-Took.is c.next.ensures.chosen in
    let ready = subst (λ (r : Next). ReadyWhereTook c.next.new.self.hub r) c.in-Took.is c.next.ensures.ready in
    let d = lane_took c.args.hub.now.hub c.next.new.self.hub c.args.lane c.in-Took.work chosen ready c.next.ensures.hub.0 in
    record { along = d.along; hub = c.next.ensures.hub; out = d.out; lanes = d.lanes }

pub returns-in-Did : goal.returns-in-Did
returns-in-Did g c =
    let chosen = subst (λ (r : Next). Chooses c.args.hub.now.hub c.args.lane r c.next.new.self.hub) c.in-Did.is c.next.ensures.chosen in
    let d = lane_did c.args.hub.now.hub c.next.new.self.hub c.args.lane c.in-Did.field-0 chosen c.next.ensures.hub.0 c.requires.free in
    record { along = d.along; hub = c.next.ensures.hub; out = d.out; lanes = d.lanes }

pub returns-in-Idle : goal.returns-in-Idle
returns-in-Idle g c =
    let chosen = subst (λ (r : Next). Chooses c.args.hub.now.hub c.args.lane r c.next.new.self.hub) c.in-Idle.is c.next.ensures.chosen in
    let d = lane_none c.args.hub.now.hub c.next.new.self.hub c.args.lane chosen.1 c.requires.free in
    record { along = d.along; hub = c.next.ensures.hub; out = d.out; lanes = d.lanes }

pub returns-in-Ended : goal.returns-in-Ended
returns-in-Ended g c =
    let chosen = subst (λ (r : Next). Chooses c.args.hub.now.hub c.args.lane r c.next.new.self.hub) c.in-Ended.is c.next.ensures.chosen in
    let d = lane_none c.args.hub.now.hub c.next.new.self.hub c.args.lane chosen.0 c.requires.free in
    record { along = d.along; hub = c.next.ensures.hub; out = d.out; lanes = d.lanes }

pub returns-in-NoMemory : goal.returns-in-NoMemory
returns-in-NoMemory g c =
    let chosen = subst (λ (r : Next). Chooses c.args.hub.now.hub c.args.lane r c.next.new.self.hub) c.in-NoMemory.is c.next.ensures.chosen in
    let d = lane_failed c.args.hub.now.hub c.next.new.self.hub c.args.lane chosen c.requires.free in
    record { along = d.along; hub = c.next.ensures.hub; out = d.out; lanes = d.lanes }
