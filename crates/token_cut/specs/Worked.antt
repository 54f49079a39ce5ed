-- A worked recording, of the least numbers joined to the vertices 1 to 6 on three workers, where 1 2, 2 3, 5 6 and 6 1 are joined.
use Rattle.std.specs.Prelude.{List, [], ◌∷◌}
use Rattle.value_order.specs.declared.TheConstants.{NOTHING}
use Rattle.value_order.specs.declared.order.Order.TheVariants.{Least}
use Rattle.token_cut.specs.declared.phase.Phase.TheVariants.{Fresh, Rest}
use Rattle.token_cut.specs.Parts.{SnapshotParts}
use Rattle.token_cut.specs.Shapes.{Starts}
use Rattle.token_cut.specs.Steps.{Step, Marks, Comes}

-- worker 0 has the mirrors of 3 and 6, worker 1 that of 2, and worker 2 that of 1
abbrev pub six_vertices : Starts
six_vertices =
    record {
      order = Least;
      parts = record { owned = 1 ∷ 2 ∷ []; mirrors = 3 ∷ 6 ∷ [] } ∷ record { owned = 3 ∷ 4 ∷ []; mirrors = 2 ∷ [] }
          ∷ record { owned = 5 ∷ 6 ∷ []; mirrors = 1 ∷ [] } ∷ [];
    }

-- Worker 0 is marked before its first work, while the value 2 for vertex 3 waits for it. Then the value 1 for vertex 6 comes from worker 2, late. Then the others are marked.
abbrev pub steps : List Step
steps =
    Marks 0 (record { phase = Fresh; values = 1 ∷ 2 ∷ 3 ∷ 6 ∷ []; mail = 2 ∷ NOTHING ∷ [] })
    ∷ Comes (record { worker = 0; mirror = 1; value = 1 })
    ∷ Marks 1 (record { phase = Rest; values = 2 ∷ 4 ∷ 2 ∷ []; mail = NOTHING ∷ [] })
    ∷ Marks 2 (record { phase = Rest; values = 1 ∷ 1 ∷ 1 ∷ []; mail = NOTHING ∷ [] })
    ∷ []

abbrev pub sealed : SnapshotParts
sealed =
    record {
      epoch = 1;
      parts = record { phase = Fresh; values = 1 ∷ 2 ∷ 3 ∷ 6 ∷ []; mail = 2 ∷ 1 ∷ [] }
          ∷ record { phase = Rest; values = 2 ∷ 4 ∷ 2 ∷ []; mail = NOTHING ∷ [] }
          ∷ record { phase = Rest; values = 1 ∷ 1 ∷ 1 ∷ []; mail = NOTHING ∷ [] }
          ∷ [];
    }
