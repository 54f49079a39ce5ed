use Rattle.std.proofs.Common.{◌≡◌, true, false, refl, sym, ◌∙◌, ap, subst, arith, ℕ, List, length, slice_set, reverse}
use Rattle.grape_event.specs.declared.event.Event.TheVariants.{Give}
use Rattle.grape_event.specs.JournalList.{JournalList}
use Rattle.token_cut.specs.Parts.{part_at}
use Rattle.legal_journal.specs.Past.{has_ended}
use Rattle.hub_engine.specs.HubValues.{HubValues}
use Rattle.hub_engine.specs.Calls.{Appended, AppendedUnlessEnded, MayGive}
use Rattle.hub_engine.proofs.Hubs.{workers_are}
use Rattle.grape_hub.specs.declared.lane_record.LaneRecord.{LaneRecord}
use Rattle.grape_hub.specs.LanedHub.{LanedHub, is_out_at}
use Rattle.grape_hub.specs.Notes.{OthersStay}
use Rattle.grape_hub.proofs.LanesKept.{appended_going, give_keeps, end_give_keeps, one_given_up, start_fits, started_again}
use Rattle.grape_hub.proofs.hub.Hub.give.Goals as goal

pub start_values-start-requires : goal.start_values-start-requires
start_values-start-requires g c =
    let may = subst (λ (v : LanedHub). MayGive v.hub c.args.lane c.args.work) (sym c.self.view_is) c.requires.work in
    let within = may.out.in_range in
    let count = workers_are c.self.inside.engine.value c.self.invariant.0.0 in
    let same = ap (λ (h : HubValues). h.job.settings.fragments) c.deref-then-ended.ensures in
    omega (arith, within, count, same)

pub restarted-requires : goal.restarted-requires
restarted-requires g c =
    let may = subst (λ (v : LanedHub). MayGive v.hub c.args.lane c.args.work) (sym c.self.view_is) c.requires.work in
    let fits = start_fits c.self.inside.engine.value c.args.lane c.args.work c.self.invariant.0.0 may in
    let same = ap (λ (h : HubValues). length (part_at c.args.work.worker h.start.parts).values) c.deref-then-ended.ensures in
    let values = ap (λ (l : List ℕ). length l) c.start_values-start.ensures in
    values ∙ (same ∙ fits)

pub index_mut-requires-then-ended : goal.index_mut-requires-then-ended
index_mut-requires-then-ended g c =
    let may = subst (λ (v : LanedHub). MayGive v.hub c.args.lane c.args.work) (sym c.self.view_is) c.requires.work in
    let within = may.out.in_range in
    let count = c.self.invariant.1.count in
    omega (arith, within, count)

pub invariant_of-self : goal.invariant_of-self
invariant_of-self g c =
    let x : LanedHub = record { hub = c.self.inside.engine.value; lanes = c.self.inside.lanes.items } in
    let r : LaneRecord = record { calls = c.index_mut.result.now.calls; answer = c.index_mut.result.now.answer; length = c.index_mut.result.now.length; out = false } in
    let may = subst (λ (v : LanedHub). MayGive v.hub c.args.lane c.args.work) (sym c.self.view_is) c.requires.work in
    let out = subst (λ (v : LanedHub). is_out_at v c.args.lane ≡ true) (sym c.self.view_is) c.requires.out in
    let ended = ap (λ (h : HubValues). has_ended (reverse h.journal.events)) (sym c.deref.ensures) ∙ (ap (λ (j : JournalList). has_ended (reverse j.events)) (sym c.journal.ensures.journal) ∙ (sym c.ended.ensures ∙ c.if-ended.true)) in
    let keeps = end_give_keeps x c.args.lane r c.self.invariant.0 ended out refl in
    let local = started_again c.self.inside.engine.value c.args.lane c.args.work c.start_values-start.result.now c.restarted.result c.self.invariant.0.0 may (c.start_values-start.ensures ∙ ap (λ (h : HubValues). (part_at c.args.work.worker h.start.parts).values) c.deref-then-ended.ensures) c.restarted.ensures in
    (keeps.0, one_given_up x c.args.lane c.args.work r c.restarted.result c.self.inside.given_up.items c.self.invariant.0.0 ended may local c.self.invariant.1)

pub give-requires : goal.give-requires
give-requires g c = record {
  work = subst (λ (h : HubValues). MayGive h c.args.lane c.args.work) (sym c.deref_mut.ensures.value) (subst (λ (v : LanedHub). MayGive v.hub c.args.lane c.args.work) (sym c.self.view_is) c.requires.work);
  going = ap (λ (h : HubValues). has_ended (reverse h.journal.events)) (c.deref_mut.ensures.value ∙ sym c.deref.ensures) ∙ (ap (λ (j : JournalList). has_ended (reverse j.events)) (sym c.journal.ensures.journal) ∙ (sym c.ended.ensures ∙ c.if-ended.false));
}

pub invariant_of-self-else-ended : goal.invariant_of-self-else-ended
invariant_of-self-else-ended g c =
    let x : LanedHub = record { hub = c.self.inside.engine.value; lanes = c.self.inside.lanes.items } in
    let r : LaneRecord = record { calls = c.index_mut.result.now.calls; answer = c.index_mut.result.now.answer; length = c.index_mut.result.now.length; out = false } in
    let y : LanedHub = record { hub = c.give.new.self; lanes = slice_set c.self.inside.lanes.items c.args.lane r } in
    let may = subst (λ (v : LanedHub). MayGive v.hub c.args.lane c.args.work) (sym c.self.view_is) c.requires.work in
    let out = subst (λ (v : LanedHub). is_out_at v c.args.lane ≡ true) (sym c.self.view_is) c.requires.out in
    let keeps = give_keeps x y c.args.lane c.args.work r c.self.invariant.0 c.give.ensures.hub out may (subst (λ (h : HubValues). Appended h (Give c.args.work.worker) c.give.new.self) c.deref_mut.ensures.value c.give.ensures.given) refl refl in
    (keeps.stands, keeps.given c.self.inside.given_up.items c.self.invariant.1)

pub returns-then-ended-clause-others : goal.returns-then-ended-clause-others
returns-then-ended-clause-others g c =
    let x : LanedHub = record { hub = c.self.inside.engine.value; lanes = c.self.inside.lanes.items } in
    let r : LaneRecord = record { calls = c.index_mut.result.now.calls; answer = c.index_mut.result.now.answer; length = c.index_mut.result.now.length; out = false } in
    let y : LanedHub = record { hub = c.self.inside.engine.value; lanes = slice_set c.self.inside.lanes.items c.args.lane r } in
    let out = subst (λ (v : LanedHub). is_out_at v c.args.lane ≡ true) (sym c.self.view_is) c.requires.out in
    let ended = ap (λ (h : HubValues). has_ended (reverse h.journal.events)) (sym c.deref.ensures) ∙ (ap (λ (j : JournalList). has_ended (reverse j.events)) (sym c.journal.ensures.journal) ∙ (sym c.ended.ensures ∙ c.if-ended.true)) in
    let keeps = end_give_keeps x c.args.lane r c.self.invariant.0 ended out refl in
    subst (λ (v : LanedHub). OthersStay v c.args.lane y) c.self.view_is keeps.1

pub returns-then-ended-clause-hub : goal.returns-then-ended-clause-hub
returns-then-ended-clause-hub g c =
    let x : LanedHub = record { hub = c.self.inside.engine.value; lanes = c.self.inside.lanes.items } in
    let r : LaneRecord = record { calls = c.index_mut.result.now.calls; answer = c.index_mut.result.now.answer; length = c.index_mut.result.now.length; out = false } in
    let out = subst (λ (v : LanedHub). is_out_at v c.args.lane ≡ true) (sym c.self.view_is) c.requires.out in
    let ended = ap (λ (h : HubValues). has_ended (reverse h.journal.events)) (sym c.deref.ensures) ∙ (ap (λ (j : JournalList). has_ended (reverse j.events)) (sym c.journal.ensures.journal) ∙ (sym c.ended.ensures ∙ c.if-ended.true)) in
    let keeps = end_give_keeps x c.args.lane r c.self.invariant.0 ended out refl in
    keeps.0

pub returns-else-ended-clause-given : goal.returns-else-ended-clause-given
returns-else-ended-clause-given g c =
    let going = ap (λ (h : HubValues). has_ended (reverse h.journal.events)) (sym c.deref.ensures) ∙ (ap (λ (j : JournalList). has_ended (reverse j.events)) (sym c.journal.ensures.journal) ∙ (sym c.ended.ensures ∙ c.if-ended.false)) in
    subst (λ (v : LanedHub). AppendedUnlessEnded v.hub (Give c.args.work.worker) c.give.new.self) c.self.view_is (appended_going c.self.inside.engine.value c.give.new.self (Give c.args.work.worker) going (subst (λ (h : HubValues). Appended h (Give c.args.work.worker) c.give.new.self) c.deref_mut.ensures.value c.give.ensures.given))

pub returns-else-ended-clause-others : goal.returns-else-ended-clause-others
returns-else-ended-clause-others g c =
    let x : LanedHub = record { hub = c.self.inside.engine.value; lanes = c.self.inside.lanes.items } in
    let r : LaneRecord = record { calls = c.index_mut.result.now.calls; answer = c.index_mut.result.now.answer; length = c.index_mut.result.now.length; out = false } in
    let y : LanedHub = record { hub = c.give.new.self; lanes = slice_set c.self.inside.lanes.items c.args.lane r } in
    let may = subst (λ (v : LanedHub). MayGive v.hub c.args.lane c.args.work) (sym c.self.view_is) c.requires.work in
    let out = subst (λ (v : LanedHub). is_out_at v c.args.lane ≡ true) (sym c.self.view_is) c.requires.out in
    let keeps = give_keeps x y c.args.lane c.args.work r c.self.invariant.0 c.give.ensures.hub out may (subst (λ (h : HubValues). Appended h (Give c.args.work.worker) c.give.new.self) c.deref_mut.ensures.value c.give.ensures.given) refl refl in
    subst (λ (v : LanedHub). OthersStay v c.args.lane y) c.self.view_is keeps.others

pub returns-else-ended-clause-hub : goal.returns-else-ended-clause-hub
returns-else-ended-clause-hub g c =
    let x : LanedHub = record { hub = c.self.inside.engine.value; lanes = c.self.inside.lanes.items } in
    let r : LaneRecord = record { calls = c.index_mut.result.now.calls; answer = c.index_mut.result.now.answer; length = c.index_mut.result.now.length; out = false } in
    let y : LanedHub = record { hub = c.give.new.self; lanes = slice_set c.self.inside.lanes.items c.args.lane r } in
    let may = subst (λ (v : LanedHub). MayGive v.hub c.args.lane c.args.work) (sym c.self.view_is) c.requires.work in
    let out = subst (λ (v : LanedHub). is_out_at v c.args.lane ≡ true) (sym c.self.view_is) c.requires.out in
    let keeps = give_keeps x y c.args.lane c.args.work r c.self.invariant.0 c.give.ensures.hub out may (subst (λ (h : HubValues). Appended h (Give c.args.work.worker) c.give.new.self) c.deref_mut.ensures.value c.give.ensures.given) refl refl in
    keeps.stands
