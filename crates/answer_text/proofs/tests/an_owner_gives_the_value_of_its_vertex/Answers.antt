use Rattle.std.proofs.Common.{[], ◌∷◌, ap, sym, ◌∙◌}
use Rattle.graph_core.specs.Parts.{FragmentLists}
use Rattle.graph_core.specs.Fragments.{fragment_of, fragments_of}
use Rattle.answer_text.specs.Worked.{scattered}
use Rattle.answer_text.proofs.tests.an_owner_gives_the_value_of_its_vertex.Goals as goal

pub assemble-requires-clause-fragments : goal.assemble-requires-clause-fragments
assemble-requires-clause-fragments g c =
    ap (λ (first : FragmentLists). first ∷ c.in_ok-second_part.field-0 ∷ []) c.in_ok-first_part.ensures
    ∙ ap (λ (second : FragmentLists). fragment_of scattered 0 ∷ second ∷ []) c.in_ok-second_part.ensures ∙ ap fragments_of (sym c.in_ok-job.ensures.same)
