use Rattle.std.proofs.Common.{◌≡◌, ◌++◌, [], ◌∷◌, ◌∙◌, ap}
use Rattle.token_cut.specs.Parts.{SnapshotParts}
use Rattle.recovery.proofs.Claims
use Rattle.recovery.proofs.keeping.keep.Goals as goal

pub returns-in_err-make_room-clause-crash : goal.returns-in_err-make_room-clause-crash
returns-in_err-make_room-clause-crash g c = Claims.on_err_of c.from_residual.result _
    (λ honest. Claims.not_put g.D.Disk.content g.D.Disk.images g.D.Disk.moment c.args.shape.now c.args.store.now.digest c.args.kept.now.items c.make_room.new.kept.items c.args.snapshot.now c.args.store.now.last c.args.disk.now c.make_room.ensures.same)

pub returns-in_err-put-clause-crash : goal.returns-in_err-put-clause-crash
returns-in_err-put-clause-crash g c = Claims.on_err_of c.from_residual-in_err-put.result _
    (λ honest. Claims.failed_put g.D.Disk.content g.D.Disk.images g.D.Disk.moment c.args.shape.now c.args.store.now.digest c.args.kept.now.items c.make_room.new.kept.items c.args.snapshot.now c.args.store.now.last c.args.disk.now c.put.new.disk
    c.make_room.ensures.same c.requires.next (c.put.ensures.any_moment honest))

pub returns-clause-one : goal.returns-clause-one
returns-clause-one g c = λ honest.
    let same : c.push_reserved.new.self.items ≡ c.args.kept.now.items ++ record { epoch = c.args.snapshot.now.epoch; moment = g.D.Disk.moment c.put.new.disk } ∷ [] =
    c.push_reserved.ensures.items ∙ (λ i. c.make_room.ensures.same i ++ record { epoch = ap (λ (s : SnapshotParts). s.epoch) c.snapshot.view_is i; moment = c.calls.ensures i } ∷ []) in
    let still = c.put.ensures.honest ∙ honest in
    Claims.noted_put g.D.Disk.content g.D.Disk.images g.D.Disk.moment c.args.shape.now c.args.store.now.digest c.args.kept.now.items c.push_reserved.new.self.items c.args.snapshot.now c.args.store.now.last c.args.disk.now c.put.new.disk
    (λ f told. g.met.D.Disk.reads_an_image c.put.new.disk f still told) (λ t f le image. g.met.D.Disk.since_earlier c.put.new.disk t (g.D.Disk.moment c.put.new.disk) f le image)
    same c.requires.next c.in_ok-put.ensures.moved (c.put.ensures.any_moment honest) (c.in_ok-put.ensures.kept honest)
