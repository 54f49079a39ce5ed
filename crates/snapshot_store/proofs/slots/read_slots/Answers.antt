use Rattle.std.proofs.Common.{Some, None, Ok, Err, sym, ◌∙◌}
use Rattle.std.proofs.lemmas.Bool.{eq-eqb, ne_eqb}
use Rattle.snapshot_store.specs.declared.fault.StoreFault.TheVariants.{Disk}
use Rattle.snapshot_store.proofs.Assembled.{tells_anyway}
use Rattle.snapshot_store.proofs.Read.{slot_error, slots_handed, second_nine, tells_first, tells_second, tells_neither}
use Rattle.snapshot_store.proofs.slots.read_slots.Goals as goal

pub returns-in_err-read_at-clause-says : goal.returns-in_err-read_at-clause-says
returns-in_err-read_at-clause-says g c = tells_anyway _ _ _ _ (λ file long is. slots_handed _ c.from_residual.result Disk c.from_residual.ensures.1 tt)

pub returns-in_err-read_slot-clause-says : goal.returns-in_err-read_slot-clause-says
returns-in_err-read_slot-clause-says g c =
    tells_first (g.D.Disk.content c.args.disk.now) c.args.shape.now c.args.zero.now c.read_at.new.to c.read_at.auto.to
    (λ file told. second_nine c.args.shape.now c.slot_len-size.result file c.read_at.new.to c.slot_len-size.ensures.length (c.in_ok-read_at.ensures.bytes file told))
    c.from_residual-in_err-read_slot.result c.split_at.result.1.now (Err c.in_err-read_slot.field-0.0) c.split_at.ensures.back (sym c.is_first_newest.ensures ∙ c.if-is_first_newest.true)
    (λ state says. slots_handed state c.from_residual-in_err-read_slot.result c.in_err-read_slot.field-0.0 c.from_residual-in_err-read_slot.ensures.1 (slot_error state c.in_err-read_slot.field-0.0 says)) (g.D.Disk.content c.read_at.new.self) c.read_at.ensures.same c.in_err-read_slot.ensures.says

pub returns-in_ok-read_slot-clause-says : goal.returns-in_ok-read_slot-clause-says
returns-in_ok-read_slot-clause-says g c =
    tells_first (g.D.Disk.content c.args.disk.now) c.args.shape.now c.args.zero.now c.read_at.new.to c.read_at.auto.to
    (λ file told. second_nine c.args.shape.now c.slot_len-size.result file c.read_at.new.to c.slot_len-size.ensures.length (c.in_ok-read_at.ensures.bytes file told))
    (Ok (Some c.in_ok-read_slot.field-0)) c.split_at.result.1.now (Ok c.in_ok-read_slot.field-0) c.split_at.ensures.back (sym c.is_first_newest.ensures ∙ c.if-is_first_newest.true)
    (λ state is. is) (g.D.Disk.content c.read_at.new.self) c.read_at.ensures.same c.in_ok-read_slot.ensures.says

pub returns-in_err-read_slot-2-clause-says : goal.returns-in_err-read_slot-2-clause-says
returns-in_err-read_slot-2-clause-says g c =
    tells_second (g.D.Disk.content c.args.disk.now) c.args.shape.now c.args.zero.now c.read_at.new.to c.read_at.auto.to
    (λ file told. second_nine c.args.shape.now c.slot_len-size.result file c.read_at.new.to c.slot_len-size.ensures.length (c.in_ok-read_at.ensures.bytes file told))
    c.from_residual-in_err-read_slot-2.result c.split_at-2.result.1.now (Err c.in_err-read_slot-2.field-0.0) c.split_at-2.ensures.back (sym c.is_first_newest.ensures ∙ c.if-is_first_newest.false) (eq-eqb _ _ c.if-one-eq-OPEN.true)
    (λ state says. slots_handed state c.from_residual-in_err-read_slot-2.result c.in_err-read_slot-2.field-0.0 c.from_residual-in_err-read_slot-2.ensures.1 (slot_error state c.in_err-read_slot-2.field-0.0 says)) (g.D.Disk.content c.read_at.new.self) c.read_at.ensures.same c.in_err-read_slot-2.ensures.says

pub returns-in_ok-read_slot-2-clause-says : goal.returns-in_ok-read_slot-2-clause-says
returns-in_ok-read_slot-2-clause-says g c =
    tells_second (g.D.Disk.content c.args.disk.now) c.args.shape.now c.args.zero.now c.read_at.new.to c.read_at.auto.to
    (λ file told. second_nine c.args.shape.now c.slot_len-size.result file c.read_at.new.to c.slot_len-size.ensures.length (c.in_ok-read_at.ensures.bytes file told))
    (Ok (Some c.in_ok-read_slot-2.field-0)) c.split_at-2.result.1.now (Ok c.in_ok-read_slot-2.field-0) c.split_at-2.ensures.back (sym c.is_first_newest.ensures ∙ c.if-is_first_newest.false) (eq-eqb _ _ c.if-one-eq-OPEN.true)
    (λ state is. is) (g.D.Disk.content c.read_at.new.self) c.read_at.ensures.same c.in_ok-read_slot-2.ensures.says

pub returns-else-one-eq-OPEN-clause-says : goal.returns-else-one-eq-OPEN-clause-says
returns-else-one-eq-OPEN-clause-says g c =
    tells_neither (g.D.Disk.content c.args.disk.now) c.args.shape.now c.args.zero.now c.read_at.new.to c.read_at.auto.to
    (λ file told. second_nine c.args.shape.now c.slot_len-size.result file c.read_at.new.to c.slot_len-size.ensures.length (c.in_ok-read_at.ensures.bytes file told))
    (Ok None) (sym c.is_first_newest.ensures ∙ c.if-is_first_newest.false) (ne_eqb _ _ c.if-one-eq-OPEN.false) (λ state is. is)
