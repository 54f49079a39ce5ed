use Rattle.std.proofs.Common.{◌++◌, ◌∷◌, [], sym, ap, ◌∙◌, append_assoc, slice_set}
use Rattle.text_lines.proofs.LabelLemmas.{set_label}
use Rattle.text_lines.proofs.labels.with_labels.Goals as goal

pub labels-preserved : goal.labels-preserved
labels-preserved c =
    let taken = c.labels.invariant.taken
    in record {
      taken = c.in-Some.vertex.now ∷ taken;
      back = sym (append_assoc c.in-Some.front.now (c.in-Some.vertex.now ∷ []) taken) ∙ ap (λ l. l ++ taken) (sym c.in-Some.ensures.cases.0) ∙ c.labels.invariant.back;
      set = ap (λ vs. slice_set vs c.place_of-place.result c.in-Some.vertex.now) c.labels.invariant.set
          ∙ set_label c.args.numbers.now taken c.place_of-place.result c.in-Some.vertex.now c.requires.rising c.place_of-place.ensures.place c.place_of-place.ensures.found;
    }
