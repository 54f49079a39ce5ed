use Rattle.std.proofs.Common.{◌≡◌, ℕ, ◌+◌, ◌-◌, true, false, List, ◌∷◌, [], ◌++◌, take, set, ap, sym, ◌∙◌, subst, arith, length-take}
use Rattle.std.proofs.lemmas.List.{take_more_set, length-set}
use Rattle.token_cut.specs.Parts.{SnapshotParts}
use Rattle.token_cut.specs.Shapes.{PartStarts, Starts}
use Rattle.snapshot_file.specs.Feeding.{Shows, HasRead}
use Rattle.snapshot_file.specs.Pieces.{IsField, width_of, next_field}
use Rattle.snapshot_file.specs.ReaderState.{ReaderState}
use Rattle.snapshot_file.specs.declared.field.Field.{Field}
use Rattle.snapshot_file.proofs.Fed.{held_more, field_read, field_shown, field_comes}
use Rattle.snapshot_file.proofs.body_reader.BodyReader.read_byte.Goals as goal

pub returns-then-self-width-clause-more : goal.returns-then-self-width-clause-more
returns-then-self-width-clause-more c = λ bytes read.
    subst (λ (h : List ℕ). HasRead c.args.shape.now (record { base = c.self.inside.base; slot = c.self.inside.slot; fed = c.self.inside.fed + 1; field = c.self.inside.field; held = h; wrong = c.self.inside.wrong }) (bytes ++ c.args.byte ∷ []) c.args.into.now)
    (sym (take_more_set c.self.inside.held c.self.inside.len c.args.byte (omega (arith, c.self))))
    (held_more c.args.shape.now c.self.inside.base c.self.inside.slot c.self.inside.fed c.self.inside.field (take c.self.inside.len c.self.inside.held) c.self.inside.wrong bytes c.args.into.now c.args.byte (omega (arith, c.ranges.byte)) (subst (λ (r : ReaderState). HasRead c.args.shape.now r bytes c.args.into.now) (sym c.self.view_is) read)
    (omega (arith, length-take c.self.inside.len c.self.inside.held, c.if-self-width.true, c.width-width.ensures, c.self)))

pub returns-then-not-is_in-clause-more : goal.returns-then-not-is_in-clause-more
returns-then-not-is_in-clause-more c = λ bytes read.
    let shape_is = c.deref.ensures.value ∙ ap (λ (s : Starts). s.parts) c.shape.view_is in
    let here = subst (λ (r : ReaderState). IsField c.args.shape.now.parts r.field) (sym c.self.view_is) (field_comes c.args.shape.now c.args.self.now bytes c.args.into.now read c.requires.length) in
    let yes : c.is_in.result ≡ true = c.is_in.ensures.no (subst (λ (l : List PartStarts). IsField l c.self.inside.field) (sym shape_is) here) in
    absurd (let e : true ≡ false = sym yes ∙ c.if-not-is_in.true in cc)

pub returns-then-not-put-clause-damaged : goal.returns-then-not-put-clause-damaged
returns-then-not-put-clause-damaged c = λ bytes read.
    let shape_is = c.deref.ensures.value ∙ ap (λ (s : Starts). s.parts) c.shape.view_is in
    let here = subst (λ (l : List PartStarts). IsField l c.self.inside.field) shape_is (c.is_in.ensures.yes c.if-not-is_in.false) in
    let wide : width_of c.self.inside.field ≡ c.self.inside.len + 1 = omega (arith, c.if-self-width.false, c.width-width.ensures, (subst (λ (r : ReaderState). HasRead c.args.shape.now r bytes c.args.into.now) (sym c.self.view_is) read).begun, length-take c.self.inside.len c.self.inside.held, c.self) in
    let stands = ap (λ (n : ℕ). take n (set c.self.inside.held c.self.inside.len c.args.byte)) wide ∙ take_more_set c.self.inside.held c.self.inside.len c.args.byte (omega (arith, c.self)) in
    subst (λ (r : ReaderState). Shows c.args.shape.now r.slot r.base (bytes ++ c.args.byte ∷ []) (c.self.inside.base + (c.self.inside.fed + 1 - c.width-width.result))) c.self.view_is
    (field_shown c.args.shape.now c.self.inside.base c.self.inside.slot c.self.inside.fed c.self.inside.field (take c.self.inside.len c.self.inside.held) c.self.inside.wrong bytes c.args.into.now c.args.byte (omega (arith, c.ranges.byte)) (subst (λ (r : ReaderState). HasRead c.args.shape.now r bytes c.args.into.now) (sym c.self.view_is) read)
    (set c.self.inside.held c.self.inside.len c.args.byte) (omega (arith, length-set c.self.inside.held c.self.inside.len c.args.byte, c.self)) stands
    (omega (arith, length-take c.self.inside.len c.self.inside.held, wide, c.self)) here
    (c.self.inside.base + (c.self.inside.fed + 1 - c.width-width.result)) (ap (λ (w : ℕ). c.self.inside.base + (c.self.inside.fed + 1 - w)) c.width-width.ensures)
    (sym c.put.ensures.right ∙ c.if-not-put.true))

pub returns-clause-more : goal.returns-clause-more
returns-clause-more c = λ bytes read.
    let shape_is = c.deref.ensures.value ∙ ap (λ (s : Starts). s.parts) c.shape.view_is in
    let shape_is_2 = c.deref-2.ensures.value ∙ ap (λ (s : Starts). s.parts) c.shape.view_is in
    let here = subst (λ (l : List PartStarts). IsField l c.self.inside.field) shape_is (c.is_in.ensures.yes c.if-not-is_in.false) in
    let wide : width_of c.self.inside.field ≡ c.self.inside.len + 1 = omega (arith, c.if-self-width.false, c.width-width.ensures, (subst (λ (r : ReaderState). HasRead c.args.shape.now r bytes c.args.into.now) (sym c.self.view_is) read).begun, length-take c.self.inside.len c.self.inside.held, c.self) in
    let stands = ap (λ (n : ℕ). take n (set c.self.inside.held c.self.inside.len c.args.byte)) wide ∙ take_more_set c.self.inside.held c.self.inside.len c.args.byte (omega (arith, c.self)) in
    let next_is = c.next-self-inside.ensures ∙ ap (λ (l : List PartStarts). next_field l c.self.inside.field) shape_is_2 in
    subst (λ (f : Field). HasRead c.args.shape.now (record { base = c.self.inside.base; slot = c.self.inside.slot; fed = c.self.inside.fed + 1; field = f; held = []; wrong = c.self.inside.wrong }) (bytes ++ c.args.byte ∷ []) c.put.new.into) (sym next_is)
    (subst (λ (s : SnapshotParts). HasRead c.args.shape.now (record { base = c.self.inside.base; slot = c.self.inside.slot; fed = c.self.inside.fed + 1; field = next_field c.args.shape.now.parts c.self.inside.field; held = []; wrong = c.self.inside.wrong }) (bytes ++ c.args.byte ∷ []) s)
    (sym (c.put.ensures.put c.if-not-put.false))
    (field_read c.args.shape.now c.self.inside.base c.self.inside.slot c.self.inside.fed c.self.inside.field (take c.self.inside.len c.self.inside.held) c.self.inside.wrong bytes c.args.into.now c.args.byte (omega (arith, c.ranges.byte)) (subst (λ (r : ReaderState). HasRead c.args.shape.now r bytes c.args.into.now) (sym c.self.view_is) read)
    (set c.self.inside.held c.self.inside.len c.args.byte) (omega (arith, length-set c.self.inside.held c.self.inside.len c.args.byte, c.self)) stands
    (omega (arith, length-take c.self.inside.len c.self.inside.held, wide, c.self)) here
    c.requires.into (sym c.put.ensures.right ∙ c.if-not-put.false)))
