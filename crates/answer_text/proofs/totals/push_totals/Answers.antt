use Rattle.std.proofs.Common.{◌++◌, codes, decimal, ap, ◌∙◌}
use Rattle.answer_text.proofs.Texts.{behind_both}
use Rattle.answer_text.proofs.totals.push_totals.Goals as goal

pub returns : goal.returns
returns c =
    let t = c.args.totals.now in
    let one = codes "summary dist " in
    let two = one ++ decimal t.count in
    let three = two ++ codes " reached " in
    let four = three ++ decimal t.reached in
    let five = four ++ codes " sum " in
    let six = five ++ decimal t.sum in
    let seven = six ++ codes " greatest " in
    let eight = seven ++ decimal t.greatest in
    let p = c.args.piece.now in
    behind_both p eight (codes "\n") _ _
    (behind_both p seven (decimal t.greatest) _ _
    (behind_both p six (codes " greatest ") _ _
    (behind_both p five (decimal t.sum) _ _
    (behind_both p four (codes " sum ") _ _
    (behind_both p three (decimal t.reached) _ _
    (behind_both p two (codes " reached ") _ _ (behind_both p one (decimal t.count) _ _ c.push.ensures (c.push_number.ensures.digits ∙ ap (λ n. c.push.new.self ++ decimal n) c.from.ensures)) c.push-2.ensures)
    (c.push_number-2.ensures.digits ∙ ap (λ n. c.push-2.new.self ++ decimal n) c.from-2.ensures))
    c.push-3.ensures)
    c.push_wide_number.ensures.digits)
    c.push-4.ensures)
    c.push_number-3.ensures.digits)
    c.push-5.ensures
