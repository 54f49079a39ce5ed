use Rattle.std.proofs.Common.{ℕ, ◌+◌, ◌%◌, List, refl, ◌∙◌, ap, subst, arith}
use Rattle.token_cut.specs.Parts.{SnapshotParts}
use Rattle.grape_disk.specs.Images.{AtRest}
use Rattle.snapshot_file.specs.Bodies.{body_bytes}
use Rattle.snapshot_file.specs.Lengths.{body_length}
use Rattle.snapshot_file.proofs.ReadBack.{reads_back, length_body}
use Rattle.snapshot_store.specs.State.{slot_place, KeepsOrTakes}
use Rattle.snapshot_store.proofs.Moments.{leaves_then, leaves_only, within_then}
use Rattle.snapshot_store.proofs.Kept.{kept_once, ends_within}
use Rattle.snapshot_store.proofs.Put.{put_steps, gate_place}
use Rattle.snapshot_store.proofs.store.Store.put.Goals as goal

pub returns-in_err-close_gate-clause-any_moment : goal.returns-in_err-close_gate-clause-any_moment
returns-in_err-close_gate-clause-any_moment g c = λ honest file rest kept.
    let P = KeepsOrTakes c.args.shape.now c.args.self.now.digest c.args.snapshot.now file in
    let at_is = gate_place c.args.shape.now c.snapshot.inside.epoch c.args.snapshot.now.epoch c.slot_len.result (ap (λ (s : SnapshotParts). s.epoch) c.snapshot.view_is) c.slot_len.ensures.length in
    let long = length_body c.args.shape.now (c.args.snapshot.now.epoch % 2) c.args.snapshot.now c.requires.form in
    let reads = reads_back c.args.shape.now (c.args.snapshot.now.epoch % 2) (slot_place c.args.shape.now (c.args.snapshot.now.epoch % 2) + 1) (body_bytes c.args.snapshot.now) c.args.snapshot.now (record { bytes = refl; in_form = c.requires.form }) in
    let steps = put_steps c.args.shape.now c.args.self.now.digest c.args.snapshot.now c.args.self.now.last file _ (body_bytes c.args.snapshot.now) c.requires.next at_is refl long reads kept in
    let first = leaves_only g.D.Disk.content g.D.Disk.images g.D.Disk.moment _ _ _ P (c.close_gate.ensures.crash honest file rest) steps.closing in
    first

pub returns-in_err-write_body-clause-any_moment : goal.returns-in_err-write_body-clause-any_moment
returns-in_err-write_body-clause-any_moment g c = λ honest file rest kept.
    let P = KeepsOrTakes c.args.shape.now c.args.self.now.digest c.args.snapshot.now file in
    let at_is = gate_place c.args.shape.now c.snapshot.inside.epoch c.args.snapshot.now.epoch c.slot_len.result (ap (λ (s : SnapshotParts). s.epoch) c.snapshot.view_is) c.slot_len.ensures.length in
    let long = length_body c.args.shape.now (c.args.snapshot.now.epoch % 2) c.args.snapshot.now c.requires.form in
    let reads = reads_back c.args.shape.now (c.args.snapshot.now.epoch % 2) (slot_place c.args.shape.now (c.args.snapshot.now.epoch % 2) + 1) (body_bytes c.args.snapshot.now) c.args.snapshot.now (record { bytes = refl; in_form = c.requires.form }) in
    let steps = put_steps c.args.shape.now c.args.self.now.digest c.args.snapshot.now c.args.self.now.last file _ (body_bytes c.args.snapshot.now) c.requires.next at_is refl long reads kept in
    let first = leaves_only g.D.Disk.content g.D.Disk.images g.D.Disk.moment _ _ _ P (c.close_gate.ensures.crash honest file rest) steps.closing in
    let honest-2 = c.close_gate.ensures.honest ∙ honest in
    let rest-2 = c.in_ok-close_gate.ensures.done honest file rest in
    let second = leaves_then g.D.Disk.content g.D.Disk.images g.D.Disk.moment _ _ _ P _ P first (c.write_body.ensures.crash honest-2 _ rest-2) (λ f p. p) steps.behind in
    second

pub returns-in_err-write_synced-clause-any_moment : goal.returns-in_err-write_synced-clause-any_moment
returns-in_err-write_synced-clause-any_moment g c = λ honest file rest kept.
    let P = KeepsOrTakes c.args.shape.now c.args.self.now.digest c.args.snapshot.now file in
    let at_is = gate_place c.args.shape.now c.snapshot.inside.epoch c.args.snapshot.now.epoch c.slot_len.result (ap (λ (s : SnapshotParts). s.epoch) c.snapshot.view_is) c.slot_len.ensures.length in
    let long = length_body c.args.shape.now (c.args.snapshot.now.epoch % 2) c.args.snapshot.now c.requires.form in
    let reads = reads_back c.args.shape.now (c.args.snapshot.now.epoch % 2) (slot_place c.args.shape.now (c.args.snapshot.now.epoch % 2) + 1) (body_bytes c.args.snapshot.now) c.args.snapshot.now (record { bytes = refl; in_form = c.requires.form }) in
    let steps = put_steps c.args.shape.now c.args.self.now.digest c.args.snapshot.now c.args.self.now.last file _ (body_bytes c.args.snapshot.now) c.requires.next at_is refl long reads kept in
    let first = leaves_only g.D.Disk.content g.D.Disk.images g.D.Disk.moment _ _ _ P (c.close_gate.ensures.crash honest file rest) steps.closing in
    let honest-2 = c.close_gate.ensures.honest ∙ honest in
    let rest-2 = c.in_ok-close_gate.ensures.done honest file rest in
    let second = leaves_then g.D.Disk.content g.D.Disk.images g.D.Disk.moment _ _ _ P _ P first (c.write_body.ensures.crash honest-2 _ rest-2) (λ f p. p) steps.behind in
    let honest-3 = c.write_body.ensures.honest ∙ honest-2 in
    let rest-3 = c.in_ok-write_body.ensures.done honest-2 _ rest-2.told in
    let third = leaves_then g.D.Disk.content g.D.Disk.images g.D.Disk.moment _ _ _ P _ P second (c.write_synced.ensures.crash honest-3 _ rest-3) (λ f p. p) steps.opening in
    third

pub returns-clause-any_moment : goal.returns-clause-any_moment
returns-clause-any_moment g c = λ honest file rest kept.
    let P = KeepsOrTakes c.args.shape.now c.args.self.now.digest c.args.snapshot.now file in
    let at_is = gate_place c.args.shape.now c.snapshot.inside.epoch c.args.snapshot.now.epoch c.slot_len.result (ap (λ (s : SnapshotParts). s.epoch) c.snapshot.view_is) c.slot_len.ensures.length in
    let long = length_body c.args.shape.now (c.args.snapshot.now.epoch % 2) c.args.snapshot.now c.requires.form in
    let reads = reads_back c.args.shape.now (c.args.snapshot.now.epoch % 2) (slot_place c.args.shape.now (c.args.snapshot.now.epoch % 2) + 1) (body_bytes c.args.snapshot.now) c.args.snapshot.now (record { bytes = refl; in_form = c.requires.form }) in
    let steps = put_steps c.args.shape.now c.args.self.now.digest c.args.snapshot.now c.args.self.now.last file _ (body_bytes c.args.snapshot.now) c.requires.next at_is refl long reads kept in
    let first = leaves_only g.D.Disk.content g.D.Disk.images g.D.Disk.moment _ _ _ P (c.close_gate.ensures.crash honest file rest) steps.closing in
    let honest-2 = c.close_gate.ensures.honest ∙ honest in
    let rest-2 = c.in_ok-close_gate.ensures.done honest file rest in
    let second = leaves_then g.D.Disk.content g.D.Disk.images g.D.Disk.moment _ _ _ P _ P first (c.write_body.ensures.crash honest-2 _ rest-2) (λ f p. p) steps.behind in
    let honest-3 = c.write_body.ensures.honest ∙ honest-2 in
    let rest-3 = c.in_ok-write_body.ensures.done honest-2 _ rest-2.told in
    let third = leaves_then g.D.Disk.content g.D.Disk.images g.D.Disk.moment _ _ _ P _ P second (c.write_synced.ensures.crash honest-3 _ rest-3) (λ f p. p) steps.opening in
    third

pub returns-clause-kept : goal.returns-clause-kept
returns-clause-kept g c = λ honest file rest kept.
    let P = KeepsOrTakes c.args.shape.now c.args.self.now.digest c.args.snapshot.now file in
    let at_is = gate_place c.args.shape.now c.snapshot.inside.epoch c.args.snapshot.now.epoch c.slot_len.result (ap (λ (s : SnapshotParts). s.epoch) c.snapshot.view_is) c.slot_len.ensures.length in
    let long = length_body c.args.shape.now (c.args.snapshot.now.epoch % 2) c.args.snapshot.now c.requires.form in
    let reads = reads_back c.args.shape.now (c.args.snapshot.now.epoch % 2) (slot_place c.args.shape.now (c.args.snapshot.now.epoch % 2) + 1) (body_bytes c.args.snapshot.now) c.args.snapshot.now (record { bytes = refl; in_form = c.requires.form }) in
    let steps = put_steps c.args.shape.now c.args.self.now.digest c.args.snapshot.now c.args.self.now.last file _ (body_bytes c.args.snapshot.now) c.requires.next at_is refl long reads kept in
    let honest-2 = c.close_gate.ensures.honest ∙ honest in
    let rest-2 = c.in_ok-close_gate.ensures.done honest file rest in
    let honest-3 = c.write_body.ensures.honest ∙ honest-2 in
    let rest-3 = c.in_ok-write_body.ensures.done honest-2 _ rest-2.told in
    let rest-4 = c.in_ok-write_synced.ensures.done honest-3 _ rest-3.told in
    (_, rest-4, steps.done)

pub returns-in_err-write_body-clause-size : goal.returns-in_err-write_body-clause-size
returns-in_err-write_body-clause-size g c = λ honest most enough.
    let images = g.D.Disk.images in
    let moment = g.D.Disk.moment in
    let since = g.met.D.Disk.since_earlier in
    let at_is = gate_place c.args.shape.now c.snapshot.inside.epoch c.args.snapshot.now.epoch c.slot_len.result (ap (λ (s : SnapshotParts). s.epoch) c.snapshot.view_is) c.slot_len.ensures.length in
    let ends = ends_within c.args.shape.now c.args.snapshot.now.epoch _ (body_length c.args.shape.now) most at_is refl enough in
    let first = c.close_gate.ensures.size honest most (omega (arith, ends.gate)) in
    let honest-2 = c.close_gate.ensures.honest ∙ honest in
    let second = within_then images moment since _ _ _ most first (c.write_body.ensures.size honest-2 most (omega (arith, ends.body))) in
    second

pub returns-in_err-write_synced-clause-size : goal.returns-in_err-write_synced-clause-size
returns-in_err-write_synced-clause-size g c = λ honest most enough.
    let images = g.D.Disk.images in
    let moment = g.D.Disk.moment in
    let since = g.met.D.Disk.since_earlier in
    let at_is = gate_place c.args.shape.now c.snapshot.inside.epoch c.args.snapshot.now.epoch c.slot_len.result (ap (λ (s : SnapshotParts). s.epoch) c.snapshot.view_is) c.slot_len.ensures.length in
    let ends = ends_within c.args.shape.now c.args.snapshot.now.epoch _ (body_length c.args.shape.now) most at_is refl enough in
    let first = c.close_gate.ensures.size honest most (omega (arith, ends.gate)) in
    let honest-2 = c.close_gate.ensures.honest ∙ honest in
    let second = within_then images moment since _ _ _ most first (c.write_body.ensures.size honest-2 most (omega (arith, ends.body))) in
    let honest-3 = c.write_body.ensures.honest ∙ honest-2 in
    within_then images moment since _ _ _ most second (c.write_synced.ensures.size honest-3 most (omega (arith, ends.gate)))

pub returns-clause-size : goal.returns-clause-size
returns-clause-size g c = λ honest most enough.
    let images = g.D.Disk.images in
    let moment = g.D.Disk.moment in
    let since = g.met.D.Disk.since_earlier in
    let at_is = gate_place c.args.shape.now c.snapshot.inside.epoch c.args.snapshot.now.epoch c.slot_len.result (ap (λ (s : SnapshotParts). s.epoch) c.snapshot.view_is) c.slot_len.ensures.length in
    let ends = ends_within c.args.shape.now c.args.snapshot.now.epoch _ (body_length c.args.shape.now) most at_is refl enough in
    let first = c.close_gate.ensures.size honest most (omega (arith, ends.gate)) in
    let honest-2 = c.close_gate.ensures.honest ∙ honest in
    let second = within_then images moment since _ _ _ most first (c.write_body.ensures.size honest-2 most (omega (arith, ends.body))) in
    let honest-3 = c.write_body.ensures.honest ∙ honest-2 in
    within_then images moment since _ _ _ most second (c.write_synced.ensures.size honest-3 most (omega (arith, ends.gate)))

pub returns-clause-file : goal.returns-clause-file
returns-clause-file g c = λ honest file told.
    let at_is = gate_place c.args.shape.now c.snapshot.inside.epoch c.args.snapshot.now.epoch c.slot_len.result (ap (λ (s : SnapshotParts). s.epoch) c.snapshot.view_is) c.slot_len.ensures.length in
    let told-2 = c.in_ok-close_gate.ensures.told honest file told in
    let honest-2 = c.close_gate.ensures.honest ∙ honest in
    let rest-3 = c.in_ok-write_body.ensures.done honest-2 _ told-2 in
    let honest-3 = c.write_body.ensures.honest ∙ honest-2 in
    let rest-4 = c.in_ok-write_synced.ensures.done honest-3 _ rest-3.told in
    subst (λ (f : List ℕ). AtRest g.D.Disk.content g.D.Disk.images g.D.Disk.moment c.write_synced.new.disk f)
    (kept_once c.args.shape.now c.args.snapshot.now file _ (body_bytes c.args.snapshot.now) at_is refl) rest-4
