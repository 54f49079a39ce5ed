use Rattle.std.proofs.Common.{◌≡◌, ◌≤◌, ℕ, inl, [], List, Option, Some, IsTrue, OnOk, Result, ◌∙◌, sym, ap}
use Rattle.grape_disk.specs.Images.{AtRest}
use Rattle.recovery.specs.Crashes.{MayKeep}
use Rattle.recovery.proofs.Claims
use Rattle.recovery.proofs.Recovering
use Rattle.recovery.proofs.begin.recover.Goals as goal

pub start_over-requires-clause-empty : goal.start_over-requires-clause-empty
start_over-requires-clause-empty g c = λ file told.
    Recovering.opens_as c.args.shape.now c.args.digest.now file c.in_ok-store.field-0 _ c.in-Nothing.is (c.in_ok-store.ensures.answer file (sym c.open.ensures.same ∙ told))

pub returns-in-Last-clause-start : goal.returns-in-Last-clause-start
returns-in-Last-clause-start g c = λ file told.
    inl (Recovering.opens_as c.args.shape.now c.args.digest.now file c.in_ok-store.field-0 _ c.in-Last.is (c.in_ok-store.ensures.answer file told)).0

pub returns-in-Last-clause-crash : goal.returns-in-Last-clause-crash
returns-in-Last-clause-crash g c = λ honest file rest.
    Claims.opened_survives g.D.Disk.content g.D.Disk.images g.D.Disk.moment c.args.shape.now c.args.digest.now file c.args.disk.now c.open.new.disk (c.open.ensures.writes_nothing honest).1

pub returns-in-Last-clause-ready : goal.returns-in-Last-clause-ready
returns-in-Last-clause-ready g c = λ some honest file rest.
    let C = g.D.Disk.content in let I = g.D.Disk.images in let M = g.D.Disk.moment in let shape = c.args.shape.now in let digest = c.args.digest.now in
    let opened = Recovering.opens_as shape digest file c.in_ok-store.field-0 _ c.in-Last.is (c.in_ok-store.ensures.answer file rest.told) in
    Claims.may_begin C I M shape digest file c.in-Last.start.epoch c.args.disk.now c.open.new.disk (c.open.ensures.at_rest honest file rest) opened.1
    (Claims.opened_survives C I M shape digest file c.args.disk.now c.open.new.disk (c.open.ensures.writes_nothing honest).1)

pub returns-in-Nothing-clause-start : goal.returns-in-Nothing-clause-start
returns-in-Nothing-clause-start g c = λ file told.
    let shape = c.args.shape.now in let digest = c.args.digest.now in
    Recovering.starts_over shape digest file c.start_over.result
    (Recovering.opens_as shape digest file c.in_ok-store.field-0 _ c.in-Nothing.is (c.in_ok-store.ensures.answer file told)) c.start_over.ensures.start c.start_over.ensures.no_other

pub returns-in-Nothing-clause-crash : goal.returns-in-Nothing-clause-crash
returns-in-Nothing-clause-crash g c = λ honest file rest.
    let C = g.D.Disk.content in let I = g.D.Disk.images in let M = g.D.Disk.moment in let shape = c.args.shape.now in let digest = c.args.digest.now in
    Claims.joins C I M shape digest file file [] [] c.args.disk.now c.open.new.disk c.start_over.new.disk
    (Claims.opened_survives C I M shape digest file c.args.disk.now c.open.new.disk (c.open.ensures.writes_nothing honest).1)
    (Claims.entry_itself shape digest file) (c.start_over.ensures.crash (c.open.ensures.honest ∙ honest) file (c.open.ensures.at_rest honest file rest))

pub returns-in-Nothing-clause-ready : goal.returns-in-Nothing-clause-ready
returns-in-Nothing-clause-ready g c =
    let C = g.D.Disk.content in let I = g.D.Disk.images in let M = g.D.Disk.moment in let shape = c.args.shape.now in let digest = c.args.digest.now in
    Recovering.of_start shape
    (λ epoch. 1 ≤ c.args.snapshot → IsTrue (g.D.Disk.honest c.args.disk.now) → (file : List ℕ) → AtRest C I M c.args.disk.now file → MayKeep C I M shape digest [] [] file epoch c.args.disk.now c.start_over.new.disk)
    c.start_over.result c.start_over.ensures.start
    (Recovering.on_ok c.start_over.result c.start_over.ensures.ready (λ ready some honest file rest.
    Claims.may_keep_over C I M shape digest file 0 c.args.disk.now c.open.new.disk c.start_over.new.disk
    (Claims.opened_survives C I M shape digest file c.args.disk.now c.open.new.disk (c.open.ensures.writes_nothing honest).1)
    (ready some (c.open.ensures.honest ∙ honest) file (c.open.ensures.at_rest honest file rest))))
