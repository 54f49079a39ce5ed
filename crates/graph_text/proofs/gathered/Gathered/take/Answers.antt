use Rattle.std.proofs.Common.{ap, sym, refl, ◌∙◌, append-nil}
use Rattle.std.specs.Prelude.{option_map, is_some}
use Rattle.graph_text.specs.ReaderState.{gathered_state}
use Rattle.graph_text.specs.Input.{bad}
use Rattle.line_statements.specs.declared.statement.Statement.{Statement}
use Rattle.line_statements.specs.declared.statement.Statement.TheVariants.{Nothing, Asks, Fragments, Lanes, Snapshots, Cuts, Follows}
use Rattle.graph_text.proofs.Gatherings.{nothing_again, asked, divided, was_laned, was_cut, had_policy, had_period, no_cause, few_still, holds-push, or_none, once-answers, once-kept}
use Rattle.graph_text.proofs.gathered.Gathered.take.Goals as goal

pub returns-in-Nothing-clause-answer : goal.returns-in-Nothing-clause-answer
returns-in-Nothing-clause-answer c = λ ss h. rw c.in-Nothing.is (ap (option_map (bad c.args.line)) (no_cause ss Nothing (nothing_again ss) (few_still ss Nothing refl refl refl h.few)))

pub returns-in-Nothing-clause-ok : goal.returns-in-Nothing-clause-ok
returns-in-Nothing-clause-ok c = λ ss h.
    rw c.in-Nothing.is
    (holds-push (gathered_state c.args.self.now) (gathered_state c.args.self.now) ss Nothing h (sym (or_none _)) (sym (or_none _)) (sym (or_none _)) (sym (or_none _)) (sym (or_none _)) (sym (or_none _)) (sym (append-nil _)) (sym (append-nil _)) (sym (append-nil _)) refl (sym (append-nil _)) h.labelled
    (few_still ss Nothing refl refl refl h.few))

pub returns-in-Asks-clause-answer : goal.returns-in-Asks-clause-answer
returns-in-Asks-clause-answer c = λ ss h.
    let s : Statement = Asks c.in-Asks.question
    in rw c.in-Asks.is
    (once-answers c.keep_once.result c.args.line c.args.self.now.query c.keep_once.new.kept c.in-Asks.question ss s (c.keep_once.ensures.first, c.keep_once.ensures.second)
    (asked ss c.in-Asks.question ∙ ap is_some (sym h.query)) (few_still ss s refl refl refl h.few))

pub returns-in-Asks-clause-ok : goal.returns-in-Asks-clause-ok
returns-in-Asks-clause-ok c =
    let s : Statement = Asks c.in-Asks.question
    in rw c.in-Asks.is
    (once-kept c.keep_once.result c.args.line c.args.self.now.query c.keep_once.new.kept c.in-Asks.question _ (c.keep_once.ensures.first, c.keep_once.ensures.second)
    (λ kept ss h. holds-push (gathered_state c.args.self.now) _ ss s h kept (sym (or_none _)) (sym (or_none _)) (sym (or_none _)) (sym (or_none _)) (sym (or_none _)) (sym (append-nil _)) (sym (append-nil _)) (sym (append-nil _)) refl (sym (append-nil _)) h.labelled (few_still ss s refl refl refl h.few)))

pub returns-in-Fragments-clause-answer : goal.returns-in-Fragments-clause-answer
returns-in-Fragments-clause-answer c = λ ss h.
    let s : Statement = Fragments c.in-Fragments.count
    in let keep = c.keep_once-in-Fragments
    in rw c.in-Fragments.is
    (once-answers keep.result c.args.line c.args.self.now.fragments keep.new.kept c.in-Fragments.count ss s (keep.ensures.first, keep.ensures.second)
    (divided ss c.in-Fragments.count ∙ ap is_some (sym h.fragments)) (few_still ss s refl refl refl h.few))

pub returns-in-Fragments-clause-ok : goal.returns-in-Fragments-clause-ok
returns-in-Fragments-clause-ok c =
    let s : Statement = Fragments c.in-Fragments.count
    in let keep = c.keep_once-in-Fragments
    in rw c.in-Fragments.is
    (once-kept keep.result c.args.line c.args.self.now.fragments keep.new.kept c.in-Fragments.count _ (keep.ensures.first, keep.ensures.second)
    (λ kept ss h. holds-push (gathered_state c.args.self.now) _ ss s h (sym (or_none _)) kept (sym (or_none _)) (sym (or_none _)) (sym (or_none _)) (sym (or_none _)) (sym (append-nil _)) (sym (append-nil _)) (sym (append-nil _)) refl (sym (append-nil _)) h.labelled (few_still ss s refl refl refl h.few)))

pub returns-in-Lanes-clause-answer : goal.returns-in-Lanes-clause-answer
returns-in-Lanes-clause-answer c = λ ss h.
    let s : Statement = Lanes c.in-Lanes.count
    in let keep = c.keep_once-in-Lanes
    in rw c.in-Lanes.is
    (once-answers keep.result c.args.line c.args.self.now.lanes keep.new.kept c.in-Lanes.count ss s (keep.ensures.first, keep.ensures.second)
    (was_laned ss c.in-Lanes.count ∙ ap is_some (sym h.lanes)) (few_still ss s refl refl refl h.few))

pub returns-in-Lanes-clause-ok : goal.returns-in-Lanes-clause-ok
returns-in-Lanes-clause-ok c =
    let s : Statement = Lanes c.in-Lanes.count
    in let keep = c.keep_once-in-Lanes
    in rw c.in-Lanes.is
    (once-kept keep.result c.args.line c.args.self.now.lanes keep.new.kept c.in-Lanes.count _ (keep.ensures.first, keep.ensures.second)
    (λ kept ss h. holds-push (gathered_state c.args.self.now) _ ss s h (sym (or_none _)) (sym (or_none _)) kept (sym (or_none _)) (sym (or_none _)) (sym (or_none _)) (sym (append-nil _)) (sym (append-nil _)) (sym (append-nil _)) refl (sym (append-nil _)) h.labelled (few_still ss s refl refl refl h.few)))

pub returns-in-Snapshots-clause-answer : goal.returns-in-Snapshots-clause-answer
returns-in-Snapshots-clause-answer c = λ ss h.
    let s : Statement = Snapshots c.in-Snapshots.period
    in let keep = c.keep_once-in-Snapshots
    in rw c.in-Snapshots.is
    (once-answers keep.result c.args.line c.args.self.now.snapshot keep.new.kept c.in-Snapshots.period ss s (keep.ensures.first, keep.ensures.second)
    (had_period ss c.in-Snapshots.period ∙ ap is_some (sym h.snapshot)) (few_still ss s refl refl refl h.few))

pub returns-in-Snapshots-clause-ok : goal.returns-in-Snapshots-clause-ok
returns-in-Snapshots-clause-ok c =
    let s : Statement = Snapshots c.in-Snapshots.period
    in let keep = c.keep_once-in-Snapshots
    in rw c.in-Snapshots.is
    (once-kept keep.result c.args.line c.args.self.now.snapshot keep.new.kept c.in-Snapshots.period _ (keep.ensures.first, keep.ensures.second)
    (λ kept ss h. holds-push (gathered_state c.args.self.now) _ ss s h (sym (or_none _)) (sym (or_none _)) (sym (or_none _)) (sym (or_none _)) (sym (or_none _)) kept (sym (append-nil _)) (sym (append-nil _)) (sym (append-nil _)) refl (sym (append-nil _)) h.labelled (few_still ss s refl refl refl h.few)))

pub returns-in-Cuts-clause-answer : goal.returns-in-Cuts-clause-answer
returns-in-Cuts-clause-answer c = λ ss h.
    let s : Statement = Cuts c.in-Cuts.cut
    in let keep = c.keep_once-in-Cuts
    in rw c.in-Cuts.is
    (once-answers keep.result c.args.line c.args.self.now.cut keep.new.kept c.in-Cuts.cut ss s (keep.ensures.first, keep.ensures.second) (was_cut ss c.in-Cuts.cut ∙ ap is_some (sym h.cut)) (few_still ss s refl refl refl h.few))

pub returns-in-Cuts-clause-ok : goal.returns-in-Cuts-clause-ok
returns-in-Cuts-clause-ok c =
    let s : Statement = Cuts c.in-Cuts.cut
    in let keep = c.keep_once-in-Cuts
    in rw c.in-Cuts.is
    (once-kept keep.result c.args.line c.args.self.now.cut keep.new.kept c.in-Cuts.cut _ (keep.ensures.first, keep.ensures.second)
    (λ kept ss h. holds-push (gathered_state c.args.self.now) _ ss s h (sym (or_none _)) (sym (or_none _)) (sym (or_none _)) kept (sym (or_none _)) (sym (or_none _)) (sym (append-nil _)) (sym (append-nil _)) (sym (append-nil _)) refl (sym (append-nil _)) h.labelled (few_still ss s refl refl refl h.few)))

pub returns-in-Follows-clause-answer : goal.returns-in-Follows-clause-answer
returns-in-Follows-clause-answer c = λ ss h.
    let s : Statement = Follows c.in-Follows.policy
    in let keep = c.keep_once-in-Follows
    in rw c.in-Follows.is
    (once-answers keep.result c.args.line c.args.self.now.policy keep.new.kept c.in-Follows.policy ss s (keep.ensures.first, keep.ensures.second)
    (had_policy ss c.in-Follows.policy ∙ ap is_some (sym h.policy)) (few_still ss s refl refl refl h.few))

pub returns-in-Follows-clause-ok : goal.returns-in-Follows-clause-ok
returns-in-Follows-clause-ok c =
    let s : Statement = Follows c.in-Follows.policy
    in let keep = c.keep_once-in-Follows
    in rw c.in-Follows.is
    (once-kept keep.result c.args.line c.args.self.now.policy keep.new.kept c.in-Follows.policy _ (keep.ensures.first, keep.ensures.second)
    (λ kept ss h. holds-push (gathered_state c.args.self.now) _ ss s h (sym (or_none _)) (sym (or_none _)) (sym (or_none _)) (sym (or_none _)) kept (sym (or_none _)) (sym (append-nil _)) (sym (append-nil _)) (sym (append-nil _)) refl (sym (append-nil _)) h.labelled (few_still ss s refl refl refl h.few)))
