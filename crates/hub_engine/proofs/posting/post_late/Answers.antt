use Rattle.std.proofs.Common.{not, ◌&&◌, sym, ◌∙◌}
use Rattle.std.proofs.lemmas.Bool.{and_from, and_left, and_right}
use Rattle.token_cut.specs.Recording.{is_marked}
use Rattle.hub_engine.proofs.Mailing.{part_is_there, late_is_recorded, nothing_recorded}
use Rattle.hub_engine.proofs.posting.post_late.Goals as goal
use Rattle.hub_engine.proofs.posting.post_late.Goals.{else-not-sender-via-then-not-sender+then-recording+else-marked, else-not-sender-via-then-not-sender+else-recording, else-not-sender-via-else-not-sender}

pub marked-requires : goal.marked-requires
marked-requires c = (part_is_there c.args.cut.now.parts c.args.route (c.requires (sym c.recording.ensures ∙ c.if-recording.true))).0

pub late-requires-clause-worker : goal.late-requires-clause-worker
late-requires-clause-worker c = (part_is_there c.args.cut.now.parts c.args.route (c.requires (sym c.recording.ensures ∙ c.if-recording.true))).0

pub late-requires-clause-mirror : goal.late-requires-clause-mirror
late-requires-clause-mirror c = (part_is_there c.args.cut.now.parts c.args.route (c.requires (sym c.recording.ensures ∙ c.if-recording.true))).1

pub returns-then-marked : goal.returns-then-marked
returns-then-marked c =
    c.late.ensures
    ∙ late_is_recorded c.args.sender c.args.route c.args.value c.args.cut.now
    (and_from (c.args.cut.now.recording && is_marked c.args.route.fragment c.args.cut.now) (not c.args.sender.tagged)
    (and_from c.args.cut.now.recording (is_marked c.args.route.fragment c.args.cut.now) (sym c.recording.ensures ∙ c.if-recording.true) (sym c.marked.ensures ∙ c.if-marked.true))
    c.if-not-sender.true)

pub returns-else-not-sender : goal.returns-else-not-sender
returns-else-not-sender c =
    let recording = c.args.cut.now.recording in
    let marked = is_marked c.args.route.fragment c.args.cut.now in
    nothing_recorded c.args.sender c.args.route c.args.value c.args.cut.now
    (elim c.else-not-sender.branch [
      | else-not-sender-via-then-not-sender+then-recording+else-marked w ↦ and_left (recording && marked) (not c.args.sender.tagged) (and_right recording marked (sym w.marked.ensures ∙ w.if-marked.false))
      | else-not-sender-via-then-not-sender+else-recording w ↦ and_left (recording && marked) (not c.args.sender.tagged) (and_left recording marked (sym w.recording.ensures ∙ w.if-recording.false))
      | else-not-sender-via-else-not-sender w ↦ and_right (recording && marked) (not c.args.sender.tagged) w.if-not-sender.false
    ])
