use Rattle.std.proofs.Common.{◌≡◌, ◌+◌, ◌≤◌, ℕ, length, take, drop, ap, ◌∙◌, subst, arith}
use Rattle.grape_disk.specs.Images.{Leaves, Torn}
use Rattle.snapshot_file.specs.Bodies.{body_bytes}
use Rattle.snapshot_store.proofs.Staged.{form_shape, write_crash, write_size, stages_more, stages_all}
use Rattle.snapshot_store.proofs.body.stage_body.Goals as goal

pub encode_piece-requires-clause-snapshot : goal.encode_piece-requires-clause-snapshot
encode_piece-requires-clause-snapshot g c = form_shape c.args.shape.now c.requires.form.0 c.args.snapshot.now c.requires.form.1

pub returns-in_err-write_at-clause-crash : goal.returns-in_err-write_at-clause-crash
returns-in_err-write_at-clause-crash g c = λ honest file rest.
    let body_is = c.body_len-end.ensures.bodies c.requires.form.0 c.args.snapshot.now c.requires.form.1 in
    let many : length c.encode_piece.new.to ≡ c.min-count.result = omega (arith, c.encode_piece.auto.to, c.split_at_mut-next.ensures.front_len) in
    let long : c.loop-done.done + length c.encode_piece.new.to ≤ length (body_bytes c.args.snapshot.now) = omega (arith, many, body_is, c.min-count.ensures, c.loop-done-test.true) in
    let leaves = write_crash g.D.Disk.content g.D.Disk.images g.D.Disk.moment g.D.Disk.faults g.D.Disk.honest c.args.at (body_bytes c.args.snapshot.now) c.args.disk.now c.loop-done.done (length c.encode_piece.new.to) c.loop-done.disk c.write_at.new.self
    c.loop-done.invariant long c.write_at.ensures.counts.later c.write_at.ensures.crash honest file rest in
    subst (λ (n : ℕ). Leaves g.D.Disk.images g.D.Disk.moment c.args.disk.now c.write_at.new.self (Torn c.args.at n file)) (body_is ∙ c.body_len-end.ensures.length) leaves.0

pub returns-in_err-write_at-clause-size : goal.returns-in_err-write_at-clause-size
returns-in_err-write_at-clause-size g c = λ honest most low.
    let body_is = c.body_len-end.ensures.bodies c.requires.form.0 c.args.snapshot.now c.requires.form.1 in
    let many : length c.encode_piece.new.to ≡ c.min-count.result = omega (arith, c.encode_piece.auto.to, c.split_at_mut-next.ensures.front_len) in
    let long : c.loop-done.done + length c.encode_piece.new.to ≤ length (body_bytes c.args.snapshot.now) = omega (arith, many, body_is, c.min-count.ensures, c.loop-done-test.true) in
    write_size g.D.Disk.content g.D.Disk.images g.D.Disk.moment g.D.Disk.faults g.D.Disk.honest c.args.at (body_bytes c.args.snapshot.now) c.args.disk.now c.loop-done.done (length c.encode_piece.new.to) c.loop-done.disk c.write_at.new.self
    c.loop-done.invariant long c.write_at.ensures.counts.later c.write_at.ensures.crash g.met.D.Disk.since_earlier honest most (omega (arith, low, body_is, c.body_len-end.ensures.length))

pub loop-done-preserved : goal.loop-done-preserved
loop-done-preserved g c =
    let body = body_bytes c.args.snapshot.now in
    let body_is = c.body_len-end.ensures.bodies c.requires.form.0 c.args.snapshot.now c.requires.form.1 in
    let many : length c.encode_piece.new.to ≡ c.min-count.result = omega (arith, c.encode_piece.auto.to, c.split_at_mut-next.ensures.front_len) in
    let front : length c.split_at_mut-next.result.0.now ≡ c.min-count.result = omega (arith, c.split_at_mut-next.ensures.front_len) in
    let is = c.encode_piece.ensures ∙ ap (λ (n : ℕ). take n (drop c.loop-done.done body)) front in
    stages_more g.D.Disk.content g.D.Disk.images g.D.Disk.moment g.D.Disk.faults g.D.Disk.honest c.args.at body c.encode_piece.new.to c.args.disk.now c.loop-done.done c.min-count.result c.loop-done.disk c.write_at.new.self
    g.met.D.Disk.since_earlier c.loop-done.invariant is many (omega (arith, body_is, c.min-count.ensures, c.loop-done-test.true)) c.write_at.ensures.counts.later c.write_at.ensures.crash
    c.in_ok-write_at.ensures.ok c.in_ok-write_at.ensures.counts.ok c.write_at.ensures.counts.as_honest

pub returns-clause-done : goal.returns-clause-done
returns-clause-done g c =
    let body_is = c.body_len-end.ensures.bodies c.requires.form.0 c.args.snapshot.now c.requires.form.1 in
    stages_all g.D.Disk.content g.D.Disk.images g.D.Disk.moment g.D.Disk.faults g.D.Disk.honest c.args.at (body_bytes c.args.snapshot.now) c.args.disk.now c.loop-done.done c.loop-done.disk c.loop-done.invariant
    (omega (arith, body_is, c.body_len-end.ensures.length)) (omega (arith, body_is, c.loop-done-test.false))
