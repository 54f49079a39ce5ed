use Rattle.std.proofs.Common.{[], refl, sym, subst}
use Rattle.graph_core.specs.declared.job.Job.{Job}
use Rattle.coordinator.specs.Runs.{HasUsed}
use Rattle.coordinator.specs.Keeping.{cuts_in, ComesTo}
use Rattle.coordinator.specs.Leaving.{LeavesHub}
use Rattle.coordinator.specs.declared.keeper.Keeper.{Keeper}
use Rattle.coordinator.proofs.Telling.{stopped_rose, not_stopped, keeps_by}
use Rattle.coordinator.proofs.lanes.run_shared.Goals as goal

pub share-requires-clause-calm : goal.share-requires-clause-calm
share-requires-clause-calm g c κs within = c.turns_are_calm.ensures.beginning c.in-Ok-open.hub.hub c.in-Ok-open.ensures.hub.0 c.in-Ok-open.ensures.beginning.0.2

pub finish_alone-requires-clause-leaves : goal.finish_alone-requires-clause-leaves
finish_alone-requires-clause-leaves g c =
    let D = g.D.Disk in
    let keeper : Keeper = record { store = c.args.entry.store; kept = c.new.result; into = c.in-Ok.into } in (
      keeper,
      c.args.disk.now,
      subst (λ (j : Job). LeavesHub D.content D.images D.moment D.faults D.honest j keeper c.args.disk.now c.in-Some.leave c.in-Some.hub.hub c.share.new.keeper c.share.new.disk) (sym c.in-Some.ensures.same.0) c.in-Some.ensures.leaves,
    )

pub returns-clause-crash : goal.returns-clause-crash
returns-clause-crash g c honest =
    let D = g.D.Disk in
    let job = c.args.job.now in
    let keeper : Keeper = record { store = c.args.entry.store; kept = c.new.result; into = c.in-Ok.into } in
    let same = c.in-Some.ensures.same.0 in
    let h = c.finish_alone.new.hub.hub in
    let kept = c.finish_alone.new.keeper.kept.items in
    let old = c.args.disk.now in
    let new = c.finish_alone.new.disk in
    let leaves = subst (λ (j : Job). LeavesHub D.content D.images D.moment D.faults D.honest j keeper old c.in-Some.leave c.in-Some.hub.hub c.share.new.keeper c.share.new.disk) (sym same) c.in-Some.ensures.leaves in
    let used = subst (λ (j : Job). HasUsed D.moment D.honest j old c.share.new.disk) (sym same) c.share.ensures.used in
    let end = c.finish_alone.ensures.finished keeper old leaves used c.share.ensures.digest in
    let comes = subst (λ (j : Job). ComesTo D.content D.images D.moment j [] keeper old (cuts_in h) kept new) same (end.1 honest) in
    keeps_by D.content D.images D.moment c.claims_add_up.ensures.begins c.claims_add_up.ensures.opened job h keeper c.args.entry.store kept c.ended.result old new refl c.new.ensures.items comes c.ended.ensures.story

pub returns-clause-disk_fault : goal.returns-clause-disk_fault
returns-clause-disk_fault g c =
    let D = g.D.Disk in
    let job = c.args.job.now in
    let keeper : Keeper = record { store = c.args.entry.store; kept = c.new.result; into = c.in-Ok.into } in
    let same = c.in-Some.ensures.same.0 in
    let h = c.finish_alone.new.hub.hub in
    let kept = c.finish_alone.new.keeper.kept.items in
    let old = c.args.disk.now in
    let new = c.finish_alone.new.disk in
    let leaves = subst (λ (j : Job). LeavesHub D.content D.images D.moment D.faults D.honest j keeper old c.in-Some.leave c.in-Some.hub.hub c.share.new.keeper c.share.new.disk) (sym same) c.in-Some.ensures.leaves in
    let used = subst (λ (j : Job). HasUsed D.moment D.honest j old c.share.new.disk) (sym same) c.share.ensures.used in
    let end = c.finish_alone.ensures.finished keeper old leaves used c.share.ensures.digest in
    stopped_rose job h kept (D.faults old) (D.faults new) c.ended.result end.0 c.ended.ensures.story

pub returns-clause-no_fault : goal.returns-clause-no_fault
returns-clause-no_fault g c =
    let D = g.D.Disk in
    let job = c.args.job.now in
    let keeper : Keeper = record { store = c.args.entry.store; kept = c.new.result; into = c.in-Ok.into } in
    let same = c.in-Some.ensures.same.0 in
    let h = c.finish_alone.new.hub.hub in
    let kept = c.finish_alone.new.keeper.kept.items in
    let old = c.args.disk.now in
    let new = c.finish_alone.new.disk in
    let leaves = subst (λ (j : Job). LeavesHub D.content D.images D.moment D.faults D.honest j keeper old c.in-Some.leave c.in-Some.hub.hub c.share.new.keeper c.share.new.disk) (sym same) c.in-Some.ensures.leaves in
    let used = subst (λ (j : Job). HasUsed D.moment D.honest j old c.share.new.disk) (sym same) c.share.ensures.used in
    let end = c.finish_alone.ensures.finished keeper old leaves used c.share.ensures.digest in
    not_stopped job h kept (D.faults old) (D.faults new) c.ended.result end.0 c.ended.ensures.story
