use Rattle.std.proofs.Common.{◌≡◌, ℕ, ◌+◌, ◌*◌, List, [], ◌++◌, length, Option, Some, refl, sym, ◌∙◌, ap, subst, arith, append_assoc, length-append}
use Rattle.std.proofs.lemmas.List.{append-nil}
use Rattle.grape_disk.specs.Images.{piece}
use Rattle.snapshot_file.specs.Feeding.{Shows}
use Rattle.snapshot_store.specs.declared.fault.StoreFault.TheVariants.{Disk, NoMemory}
use Rattle.token_cut.specs.Parts.{PartValues}
use Rattle.token_cut.specs.Shapes.{HaveShape}
use Rattle.snapshot_store.proofs.Read.{fresh_has}
use Rattle.snapshot_store.proofs.SlotRead.{says_of, given_more, fed_first, fed_more, shows_at, place_at, slot_handed, tells_fault, tells_damaged, tells_all}
use Rattle.snapshot_store.proofs.Unchanged.{unwritten_none, unwritten_then}
use Rattle.snapshot_store.proofs.slots.read_slot.Goals as goal

pub returns-in_err-snapshot-clause-says : goal.returns-in_err-snapshot-clause-says
returns-in_err-snapshot-clause-says g c =
    tells_fault (g.D.Disk.content c.args.disk.now) c.args.shape.now _ c.args.number c.args.epoch.now (place_at c.args.shape.now c.args.number c.slot_len.result c.slot_len.ensures.length) c.from_residual.result
    (λ state. slot_handed state c.from_residual.result NoMemory c.from_residual.ensures.1 tt)

pub feed-requires-clause-into : goal.feed-requires-clause-into
feed-requires-clause-into g c = subst (λ (l : List PartValues). HaveShape c.args.shape.now.parts l) (sym (ap (λ s. s.parts) c.in_ok-snapshot.ensures)) (fresh_has c.args.shape.now.parts)

pub returns-in_err-feed-clause-says : goal.returns-in_err-feed-clause-says
returns-in_err-feed-clause-says g c =
    let shows = c.in_err-feed.ensures.damaged [] (c.new-reader.ensures.nothing c.args.shape.now c.in_ok-snapshot.snapshot) in
    tells_damaged (g.D.Disk.content c.args.disk.now) c.args.shape.now _ c.args.number c.args.epoch.now (place_at c.args.shape.now c.args.number c.slot_len.result c.slot_len.ensures.length) [] c.from_residual-in_err-feed.result c.in_err-feed.field-0.0.place
    (omega arith) (λ file is. refl)
    (shows_at c.args.shape.now _ _ c.args.number (65 + c.args.number * c.slot_len.result) (c.args.epoch.now ++ []) _ c.new-reader.ensures.slot c.new-reader.ensures.base
    (subst (λ (l : List ℕ). Shows c.args.shape.now c.new-reader.result.slot c.new-reader.result.base l c.in_err-feed.field-0.0.place) (sym (append-nil c.args.epoch.now)) shows))
    c.from_residual-in_err-feed.ensures.1

pub loop-done-init : goal.loop-done-init
loop-done-init g c =
    let nothing = c.new-reader.ensures.nothing c.args.shape.now c.in_ok-snapshot.snapshot in
    let feed = c.in_ok-feed.ensures in (
      fed_first (g.D.Disk.content c.args.disk.now) c.args.shape.now (65 + c.args.number * c.slot_len.result) c.args.number c.args.epoch.now c.feed.new.self c.feed.new.into (omega arith)
          (feed.fed ∙ omega (arith, c.new-reader.ensures.fed, c.requires.epoch))
          (says_of (g.D.Disk.content c.args.disk.now) c.args.shape.now (65 + c.args.number * c.slot_len.result) c.args.number c.args.epoch.now c.args.epoch.now c.new-reader.result.slot c.new-reader.result.base c.feed.new.self c.feed.new.into
          c.new-reader.ensures.slot c.new-reader.ensures.base (feed.more [] nothing) (feed.whole [] nothing) (feed.form [] nothing) feed.same_shape feed.base feed.slot),
      unwritten_none g.D.Disk.content g.D.Disk.images g.D.Disk.moment g.D.Disk.honest c.args.disk.now,
      refl,
    )

pub returns-in_err-read_at-clause-says : goal.returns-in_err-read_at-clause-says
returns-in_err-read_at-clause-says g c =
    tells_fault (g.D.Disk.content c.args.disk.now) c.args.shape.now _ c.args.number c.args.epoch.now (place_at c.args.shape.now c.args.number c.slot_len.result c.slot_len.ensures.length) c.from_residual-in_err-read_at.result
    (λ state. slot_handed state c.from_residual-in_err-read_at.result Disk c.from_residual-in_err-read_at.ensures.1 tt)

-- the bytes that were read now
next_is : (told old : Option (List ℕ)) (place done n : ℕ) (next : List ℕ) → old ≡ told → length next ≡ n → ((file : List ℕ) → old ≡ Some file → next ≡ piece (place + done) n file)
    → (file : List ℕ) → told ≡ Some file → next ≡ piece (place + done) (length next) file
next_is told old place done n next same many read file is = read file (same ∙ is) ∙ ap (λ (m : ℕ). piece (place + done) m file) (sym many)

pub returns-in_err-feed-2-clause-says : goal.returns-in_err-feed-2-clause-says
returns-in_err-feed-2-clause-says g c =
    let so_far = c.loop-done.invariant.0 in
    let next = c.read_at.new.to in
    let many : length c.read_at.new.to ≡ c.min-count.result = omega (arith, c.read_at.auto.to, c.split_at_mut-next.ensures.front_len) in
    let shows = c.in_err-feed-2.ensures.damaged (c.args.epoch.now ++ so_far.seen) so_far.has in
    tells_damaged (g.D.Disk.content c.args.disk.now) c.args.shape.now _ c.args.number c.args.epoch.now (place_at c.args.shape.now c.args.number c.slot_len.result c.slot_len.ensures.length) (so_far.seen ++ next) c.from_residual-in_err-feed-2.result c.in_err-feed-2.field-0.0.place
    (omega (arith, length-append so_far.seen next, so_far.many, many, c.min-count.ensures, c.loop-done-test.true, c.body_len-end.ensures.length))
    (given_more (g.D.Disk.content c.args.disk.now) c.args.shape.now (65 + c.args.number * c.slot_len.result) c.args.number c.args.epoch.now c.loop-done.done c.loop-done.reader c.loop-done.snapshot next so_far (next_is (g.D.Disk.content c.args.disk.now) (g.D.Disk.content c.loop-done.disk) (65 + c.args.number * c.slot_len.result) c.loop-done.done _ next c.loop-done.invariant.1.reads c.read_at.auto.to c.in_ok-read_at.ensures.bytes))
    (shows_at c.args.shape.now _ _ c.args.number (65 + c.args.number * c.slot_len.result) _ _ so_far.slot so_far.base
    (subst (λ (l : List ℕ). Shows c.args.shape.now c.loop-done.reader.slot c.loop-done.reader.base l c.in_err-feed-2.field-0.0.place) (append_assoc c.args.epoch.now so_far.seen next) shows))
    c.from_residual-in_err-feed-2.ensures.1

pub returns-in_err-feed-2-clause-unwritten : goal.returns-in_err-feed-2-clause-unwritten
returns-in_err-feed-2-clause-unwritten g c =
    unwritten_then g.D.Disk.content g.D.Disk.images g.D.Disk.moment g.D.Disk.honest c.args.disk.now c.loop-done.disk c.read_at.new.self c.loop-done.invariant.1
    (record { reads = c.read_at.ensures.same; crash = c.read_at.ensures.crash; later = c.read_at.ensures.counts.later; as_honest = c.read_at.ensures.counts.as_honest })

pub loop-done-preserved : goal.loop-done-preserved
loop-done-preserved g c =
    let so_far = c.loop-done.invariant.0 in
    let next = c.read_at.new.to in
    let feed = c.in_ok-feed-2.ensures in
    let bytes = c.args.epoch.now ++ so_far.seen in
    let many : length c.read_at.new.to ≡ c.min-count.result = omega (arith, c.read_at.auto.to, c.split_at_mut-next.ensures.front_len) in (
      fed_more (g.D.Disk.content c.args.disk.now) c.args.shape.now (65 + c.args.number * c.slot_len.result) c.args.number c.args.epoch.now c.loop-done.done c.min-count.result c.loop-done.reader c.feed-in-loop-done.new.self c.loop-done.snapshot c.feed-in-loop-done.new.into next so_far many
          (omega (arith, c.min-count.ensures, c.loop-done-test.true, c.body_len-end.ensures.length)) (feed.fed ∙ omega (arith, so_far.fed, many)) (next_is (g.D.Disk.content c.args.disk.now) (g.D.Disk.content c.loop-done.disk) (65 + c.args.number * c.slot_len.result) c.loop-done.done _ next c.loop-done.invariant.1.reads c.read_at.auto.to c.in_ok-read_at.ensures.bytes)
          (says_of (g.D.Disk.content c.args.disk.now) c.args.shape.now (65 + c.args.number * c.slot_len.result) c.args.number c.args.epoch.now (bytes ++ next) c.loop-done.reader.slot c.loop-done.reader.base c.feed-in-loop-done.new.self c.feed-in-loop-done.new.into
          so_far.slot so_far.base (feed.more bytes so_far.has) (feed.whole bytes so_far.has) (feed.form bytes so_far.has) feed.same_shape feed.base feed.slot),
      unwritten_then g.D.Disk.content g.D.Disk.images g.D.Disk.moment g.D.Disk.honest c.args.disk.now c.loop-done.disk c.read_at.new.self c.loop-done.invariant.1
          (record { reads = c.read_at.ensures.same; crash = c.read_at.ensures.crash; later = c.read_at.ensures.counts.later; as_honest = c.read_at.ensures.counts.as_honest }),
      c.in_ok-read_at.ensures.counts.ok ∙ c.loop-done.invariant.2,
    )

pub returns-clause-says : goal.returns-clause-says
returns-clause-says g c =
    tells_all (g.D.Disk.content c.args.disk.now) c.args.shape.now _ c.args.number c.args.epoch.now (place_at c.args.shape.now c.args.number c.slot_len.result c.slot_len.ensures.length) c.loop-done.done c.loop-done.reader c.loop-done.snapshot
    (omega (arith, c.loop-done-test.false, c.body_len-end.ensures.length)) c.requires.epoch c.loop-done.invariant.0
