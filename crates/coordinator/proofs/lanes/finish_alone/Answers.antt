use Rattle.std.proofs.Common.{◌≡◌, false, sym, ◌∙◌, ap, subst, reverse}
use Rattle.std.proofs.lemmas.Bool.{MatchBool-at_false}
use Rattle.grape_event.specs.JournalList.{JournalList}
use Rattle.legal_journal.specs.Past.{has_ended}
use Rattle.coordinator.specs.Visits.{Finishes}
use Rattle.coordinator.specs.declared.leave.Leave.{Leave}
use Rattle.coordinator.proofs.Finishing.{leaves_none, finishes_ended, finishes_alone, finishes_stopped}
use Rattle.coordinator.proofs.lanes.finish_alone.Goals as goal

pub returns-then-ended-clause-finished : goal.returns-then-ended-clause-finished
returns-then-ended-clause-finished g c =
    let d = g.D.Disk in
    finishes_ended d.content d.images d.moment d.faults d.honest c.args.hub.now.hub.job c.kepts_follow_seals.ensures.kept c.args.hub.now.hub c.args.leave c.args.keeper.now c.args.disk.now c.requires.hub.0

pub returns-in-AllKept-clause-finished : goal.returns-in-AllKept-clause-finished
returns-in-AllKept-clause-finished g c =
    let d = g.D.Disk in
    let job = c.args.hub.now.hub.job in
    subst (λ (leave : Leave). Finishes d.content d.images d.moment d.faults d.honest job leave c.args.hub.now.hub c.args.keeper.now c.args.disk.now c.run_out.new.hub.hub c.run_out.new.keeper.kept.items c.run_out.new.disk) (sym c.in-AllKept.is)
    (finishes_alone d.content d.images d.moment d.faults d.honest job c.args.hub.now.hub c.run_out.new.hub.hub c.args.keeper.now c.run_out.new.keeper.kept.items c.args.disk.now c.run_out.new.disk c.run_out.ensures.over c.run_out.ensures.crash)

pub returns-in-Waits-clause-finished : goal.returns-in-Waits-clause-finished
returns-in-Waits-clause-finished g c =
    let d = g.D.Disk in
    let old = c.args.hub.now.hub in
    let going : has_ended (reverse old.journal.events) ≡ false = ap (λ (j : JournalList). has_ended (reverse j.events)) (sym c.journal.ensures.journal) ∙ (sym c.ended.ensures ∙ c.if-ended.false) in
    let more = MatchBool-at_false _ _ going c.stop.ensures.stopped in
    subst (λ (leave : Leave). Finishes d.content d.images d.moment d.faults d.honest old.job leave old c.args.keeper.now c.args.disk.now c.stop.new.self.hub c.args.keeper.now.kept.items c.args.disk.now) (sym c.in-Waits.is)
    (finishes_stopped d.content d.images d.moment d.faults d.honest old.job c.kepts_follow_seals.ensures.kept old c.stop.new.self.hub c.in-Waits.cause c.args.keeper.now c.args.disk.now c.stop.ensures.hub.0 more)

pub returns-then-ended-clause-unkept : goal.returns-then-ended-clause-unkept
returns-then-ended-clause-unkept g c none =
    let d = g.D.Disk in
    let so = c.requires.leaves in
    leaves_none d.content d.images d.moment d.faults d.honest c.args.hub.now.hub.job c.nothing_is_sealed.ensures c.args.hub.now.hub c.args.leave so.0 c.args.keeper.now so.1 c.args.disk.now c.requires.hub.0 none so.2

pub returns-in-AllKept-clause-unkept : goal.returns-in-AllKept-clause-unkept
returns-in-AllKept-clause-unkept g c none =
    let d = g.D.Disk in
    let so = c.requires.leaves in
    c.run_out.ensures.unkept none
    ∙ leaves_none d.content d.images d.moment d.faults d.honest c.args.hub.now.hub.job c.nothing_is_sealed.ensures c.args.hub.now.hub c.args.leave so.0 c.args.keeper.now so.1 c.args.disk.now c.requires.hub.0 none so.2
