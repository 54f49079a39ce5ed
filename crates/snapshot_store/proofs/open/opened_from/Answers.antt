use Rattle.std.proofs.Common.{Ok, Err, refl, sym, ap, ◌∙◌, subst}
use Rattle.token_cut.specs.Parts.{SnapshotParts}
use Rattle.snapshot_store.specs.Opening.{HeaderSays}
use Rattle.snapshot_store.specs.declared.opened.Opened.TheVariants.{Nothing}
use Rattle.snapshot_store.proofs.Opens.{opens_header, opens_slots, opens_no_memory, opens_nothing, opens_none, is_shut, is_whole, tells_header, tells_slots, tells_last, tells_names}
use Rattle.snapshot_store.proofs.open.opened_from.Goals as goal

pub returns-in_err-check_header-clause-opens : goal.returns-in_err-check_header-clause-opens
returns-in_err-check_header-clause-opens g c =
    tells_header (g.D.Disk.content c.args.disk.now) c.args.shape.now c.args.digest.now c.args.front.now c.split_at.result.0.now c.split_at.result.1.now c.args.size c.requires.long c.split_at.ensures.front c.from_residual.result (λ file same. opens_header c.args.shape.now c.args.digest.now file c.from_residual.result c.in_err-check_header.field-0.0 c.from_residual.ensures.1
    (subst (λ o. HeaderSays c.args.digest.now o (Err c.in_err-check_header.field-0.0)) (sym same) c.in_err-check_header.ensures))

pub returns-then-not-branch-clause-opens : goal.returns-then-not-branch-clause-opens
returns-then-not-branch-clause-opens g c =
    tells_header (g.D.Disk.content c.args.disk.now) c.args.shape.now c.args.digest.now c.args.front.now c.split_at.result.0.now c.split_at.result.1.now c.args.size c.requires.long c.split_at.ensures.front (Ok Nothing) (λ file same. opens_nothing c.args.shape.now c.args.digest.now file (same ∙ is_shut c.args.digest.now _ _ c.if-not-branch.true c.in_ok-check_header.ensures))

pub returns-in_err-piece-clause-opens : goal.returns-in_err-piece-clause-opens
returns-in_err-piece-clause-opens g c =
    tells_header (g.D.Disk.content c.args.disk.now) c.args.shape.now c.args.digest.now c.args.front.now c.split_at.result.0.now c.split_at.result.1.now c.args.size c.requires.long c.split_at.ensures.front c.from_residual-in_err-piece.result (λ file same. opens_no_memory c.args.shape.now c.args.digest.now file c.from_residual-in_err-piece.result c.from_residual-in_err-piece.ensures.1)

pub returns-in_err-snapshot-clause-opens : goal.returns-in_err-snapshot-clause-opens
returns-in_err-snapshot-clause-opens g c =
    tells_slots (g.D.Disk.content c.args.disk.now) c.args.shape.now c.args.digest.now c.args.front.now c.split_at.result.0.now c.split_at.result.1.now c.args.size c.requires.long c.split_at.ensures.front c.told-front c.split_at.ensures.back (is_whole c.args.digest.now _ _ c.if-not-branch.false c.in_ok-check_header.ensures) (Err c.in_err-snapshot.field-0.0) c.in_err-snapshot.ensures.says c.from_residual-in_err-snapshot.result
    (λ file whole heard. opens_slots c.args.shape.now c.args.digest.now file c.from_residual-in_err-snapshot.result c.in_err-snapshot.field-0.0 c.from_residual-in_err-snapshot.ensures.1 whole heard)

pub returns-in_err-snapshot-clause-names_both : goal.returns-in_err-snapshot-clause-names_both
returns-in_err-snapshot-clause-names_both g c =
    tells_names (g.D.Disk.content c.args.disk.now) c.args.shape.now c.args.digest.now c.args.front.now c.split_at.result.0.now c.split_at.result.1.now c.args.size c.requires.long c.split_at.ensures.front c.told-front c.split_at.ensures.back (is_whole c.args.digest.now _ _ c.if-not-branch.false c.in_ok-check_header.ensures) (Err c.in_err-snapshot.field-0.0) c.in_err-snapshot.ensures.says c.from_residual-in_err-snapshot.result c.in_err-snapshot.field-0.0 refl c.from_residual-in_err-snapshot.ensures.1

pub returns-in_default-clause-opens : goal.returns-in_default-clause-opens
returns-in_default-clause-opens g c =
    tells_slots (g.D.Disk.content c.args.disk.now) c.args.shape.now c.args.digest.now c.args.front.now c.split_at.result.0.now c.split_at.result.1.now c.args.size c.requires.long c.split_at.ensures.front c.told-front c.split_at.ensures.back (is_whole c.args.digest.now _ _ c.if-not-branch.false c.in_ok-check_header.ensures) (Ok c.in_ok-snapshot.field-0) c.in_ok-snapshot.ensures.says (Ok Nothing)
    (λ file whole heard. opens_none c.args.shape.now c.args.digest.now file c.in_ok-snapshot.field-0 c.in_default.is whole heard)

pub returns-clause-opens : goal.returns-clause-opens
returns-clause-opens g c =
    let tells = tells_last (g.D.Disk.content c.args.disk.now) c.args.shape.now c.args.digest.now c.args.front.now c.split_at.result.0.now c.split_at.result.1.now c.args.size c.requires.long c.split_at.ensures.front c.told-front c.split_at.ensures.back (is_whole c.args.digest.now _ _ c.if-not-branch.false c.in_ok-check_header.ensures) (Ok c.in_ok-snapshot.field-0) c.in_ok-snapshot.ensures.says c.in_ok-snapshot.field-0 c.in-Some.snapshot refl c.in-Some.is in
    record {
      reads = tells.reads;
      given = tells.given;
      once = tells.once;
      enough = λ file long agree size_is read. let both = tells.enough file long agree size_is read in (both.0, both.1, refl, ap (λ (s : SnapshotParts). s.epoch) c.snapshot.view_is);
    }
