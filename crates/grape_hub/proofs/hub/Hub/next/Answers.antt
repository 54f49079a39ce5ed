use Rattle.std.proofs.Common.{◌≡◌, ◌<◌, sym, ◌∙◌, ap, subst, false, List, Option, slice_set, reverse}
use Rattle.grape_event.specs.JournalList.{JournalList}
use Rattle.legal_journal.specs.Past.{has_ended}
use Rattle.legal_journal.specs.Legal.{has_work_out}
use Rattle.pie_core.specs.Locals.{LocalValues}
use Rattle.hub_engine.specs.HubValues.{HubValues}
use Rattle.hub_engine.specs.States.{state_of, IsHub}
use Rattle.hub_engine.specs.Calls.{Chooses}
use Rattle.grape_hub.specs.declared.lane_record.LaneRecord.{LaneRecord}
use Rattle.grape_hub.specs.LanedHub.{LanedHub, is_out_at}
use Rattle.grape_hub.specs.Notes.{OthersStay}
use Rattle.grape_hub.specs.GivenUp.{HoldsGivenUp}
use Rattle.grape_hub.proofs.LanesKept.{Keeps, is_free, ended_chosen, same_chosen, next_keeps}
use Rattle.grape_hub.proofs.hub.Hub.next.Given.{Over}
use Rattle.grape_hub.proofs.hub.Hub.next.Goals.{then-ended, else-ended}
use Rattle.grape_hub.proofs.hub.Hub.next.Goals as goal

-- the hub before and after the call
abbrev before : (g : Over) → goal.After-self-2-1 g → LanedHub
before g c = record { hub = c.self.inside.engine.value; lanes = c.self.inside.lanes.items }

abbrev after : (g : Over) → goal.After-self-2-1 g → LanedHub
after g c = record { hub = c.if-ended.self-inside.engine.value; lanes = slice_set c.if-ended.self-inside.lanes.items c.args.lane c.answered.new.self }

chosen : (g : Over) (c : goal.After-self-2-1 g) → Chooses c.self.inside.engine.value c.args.lane c.if-ended.answer c.if-ended.self-inside.engine.value
chosen g c = elim c.if-ended.branch [
  | then-ended w ↦ ended_chosen c.self.inside.engine.value c.if-ended.self-inside.engine.value c.args.lane c.if-ended.answer w.answer-is (λ t. (w.self-inside-is t).engine.value)
      (ap (λ (h : HubValues). has_ended (reverse h.journal.events)) (sym c.deref.ensures) ∙ (ap (λ (j : JournalList). has_ended (reverse j.events)) (sym c.journal.ensures.journal) ∙ (sym c.ended.ensures ∙ w.if-ended.true)))
  | else-ended w ↦ same_chosen c.self.inside.engine.value c.if-ended.self-inside.engine.value w.next-answer.new.self c.args.lane c.if-ended.answer w.next-answer.result w.answer-is (λ t. (w.self-inside-is t).engine.value) (subst (λ (h : HubValues). Chooses h c.args.lane w.next-answer.result w.next-answer.new.self) w.deref_mut.ensures.value w.next-answer.ensures.chosen)
]

keeps : (g : Over) (c : goal.After-self-2-1 g) → Keeps (before g c) c.args.lane (after g c)
keeps g c =
    let lanes : c.if-ended.self-inside.lanes.items ≡ c.self.inside.lanes.items = elim c.if-ended.branch [ then-ended w ↦ λ t. (w.self-inside-is t).lanes.items | else-ended w ↦ λ t. (w.self-inside-is t).lanes.items ] in
    next_keeps (before g c) (after g c) c.args.lane c.if-ended.answer c.answered.new.self c.index_mut.result.now c.len-long.result c.self.invariant.0
    (subst (λ (v : LanedHub). c.args.lane < v.hub.job.settings.lanes) (sym c.self.view_is) c.requires.lane) (subst (λ (v : LanedHub). is_out_at v c.args.lane ≡ false) (sym c.self.view_is) c.requires.free)
    (subst (λ (h : HubValues). IsHub h) c.deref-2.ensures c.journal-2.ensures.hub) (chosen g c) c.answered.ensures (ap (λ (rs : List LaneRecord). slice_set rs c.args.lane c.answered.new.self) lanes)

pub next-answer-requires-clause-going : goal.next-answer-requires-clause-going
next-answer-requires-clause-going g c = ap (λ (h : HubValues). has_ended (reverse h.journal.events)) (c.deref_mut.ensures.value ∙ sym c.deref.ensures) ∙ (ap (λ (j : JournalList). has_ended (reverse j.events)) (sym c.journal.ensures.journal) ∙ (sym c.ended.ensures ∙ c.if-ended.false))

pub next-answer-requires-clause-free : goal.next-answer-requires-clause-free
next-answer-requires-clause-free g c =
    let x : LanedHub = record { hub = c.self.inside.engine.value; lanes = c.self.inside.lanes.items } in
    let going = ap (λ (h : HubValues). has_ended (reverse h.journal.events)) (sym c.deref.ensures) ∙ (ap (λ (j : JournalList). has_ended (reverse j.events)) (sym c.journal.ensures.journal) ∙ (sym c.ended.ensures ∙ c.if-ended.false)) in
    let free = subst (λ (v : LanedHub). is_out_at v c.args.lane ≡ false) (sym c.self.view_is) c.requires.free in
    subst (λ (h : HubValues). has_work_out (state_of h) c.args.lane ≡ false) (sym c.deref_mut.ensures.value) (is_free x c.args.lane c.self.invariant.0.1 free going)

pub invariant_of-self : goal.invariant_of-self
invariant_of-self g c =
    let given : c.if-ended.self-inside.given_up.items ≡ c.self.inside.given_up.items = elim c.if-ended.branch [ then-ended w ↦ λ t. (w.self-inside-is t).given_up.items | else-ended w ↦ λ t. (w.self-inside-is t).given_up.items ] in
    let k = keeps g c in
    (k.stands, subst (λ (locals : List (Option LocalValues)). HoldsGivenUp (after g c) locals) (sym given) (k.given c.self.inside.given_up.items c.self.invariant.1))

pub returns-clause-others : goal.returns-clause-others
returns-clause-others g c = let k = keeps g c in subst (λ (v : LanedHub). OthersStay v c.args.lane (after g c)) c.self.view_is k.others

pub returns-clause-hub : goal.returns-clause-hub
returns-clause-hub g c = let k = keeps g c in k.stands
