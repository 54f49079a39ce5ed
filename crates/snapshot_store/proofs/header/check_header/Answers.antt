use Rattle.std.proofs.Common.{ℕ, List, Option, Some, take, is_some, refl, sym, ap, ◌∙◌, arith}
use Rattle.snapshot_store.specs.State.{FileState, header, first_wrong}
use Rattle.snapshot_store.specs.State.FileState.{other}
use Rattle.snapshot_store.proofs.Read.{other_says, named_says, open_front, header_front}
use Rattle.snapshot_store.proofs.Wrong.{wrong_differs}
use Rattle.snapshot_store.proofs.header.check_header.Goals as goal

abbrev shown : List ℕ → Option FileState
shown kept = Some (other kept)

pub returns-then-is_some : goal.returns-then-is_some
returns-then-is_some c =
    let behind = c.split_at.ensures.back in
    let some = ap is_some (sym (c.first_wrong.ensures ∙ ap (first_wrong c.args.digest.now 8) behind)) ∙ sym c.is_some.ensures ∙ c.if-is_some.true in
    let kept = c.digest_at.ensures ∙ ap (take 32) behind in (
      other_says c.args.shape.now c.args.digest.now c.args.size c.args.head.now c.requires.size (open_front c.args.head.now c.if-head-ne-OPEN.false) some ∙ ap shown (sym kept),
      refl,
      λ same. wrong_differs c.args.digest.now _ 8 c.told-digest some (sym kept ∙ same),
    )

-- what the bytes behind the gate tell
pub returns-in-Some : goal.returns-in-Some
returns-in-Some c =
    let same = ap is_some (sym (c.first_wrong.ensures ∙ ap (first_wrong c.args.digest.now 8) c.split_at.ensures.back)) ∙ sym c.is_some.ensures ∙ c.if-is_some.false in
    let expected = c.split_at-2.ensures.front ∙ header_front c.args.shape.now c.args.digest.now _ _ c.told-digest c.slot_len.ensures.length c.front_of-front.ensures.bytes in
    let wrong = ap (first_wrong (header c.args.shape.now c.args.digest.now) 1) (sym c.split_at-3.ensures.back) ∙ ap (λ (l : List ℕ). first_wrong l 1 c.split_at-3.result.1.now) (sym expected) ∙ sym c.first_wrong-2.ensures ∙ c.in-Some.is in
    named_says c.args.shape.now c.args.digest.now c.args.size c.args.head.now _ c.requires.size (open_front c.args.head.now c.if-head-ne-OPEN.false) same (omega (arith, c.if-size-file_len.false, c.file_len.ensures.length)) wrong

pub returns-in-None : goal.returns-in-None
returns-in-None c =
    let same = ap is_some (sym (c.first_wrong.ensures ∙ ap (first_wrong c.args.digest.now 8) c.split_at.ensures.back)) ∙ sym c.is_some.ensures ∙ c.if-is_some.false in
    let expected = c.split_at-2.ensures.front ∙ header_front c.args.shape.now c.args.digest.now _ _ c.told-digest c.slot_len.ensures.length c.front_of-front.ensures.bytes in
    let wrong = ap (first_wrong (header c.args.shape.now c.args.digest.now) 1) (sym c.split_at-3.ensures.back) ∙ ap (λ (l : List ℕ). first_wrong l 1 c.split_at-3.result.1.now) (sym expected) ∙ sym c.first_wrong-2.ensures ∙ c.in-None.is in
    named_says c.args.shape.now c.args.digest.now c.args.size c.args.head.now _ c.requires.size (open_front c.args.head.now c.if-head-ne-OPEN.false) same (omega (arith, c.if-size-file_len.false, c.file_len.ensures.length)) wrong
