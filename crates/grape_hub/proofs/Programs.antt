-- Programs with the laws of Pie are confluent.
use Rattle.std.proofs.Common.{◌≡◌, sym, subst}
use Rattle.graph_core.specs.declared.job.Job.{Job}
use Rattle.graph_core.specs.Graphs.{IsJob}
use Rattle.graph_core.specs.Equations.{Equations, AreLawful}
use Rattle.graph_core.specs.Queries.{equations_of}
use Rattle.graph_core.specs.Fragments.{AreCutOf, pieces_of}
use Rattle.graph_core.proofs.Cutting.{fragments_cut}
use Rattle.base_machine.specs.Machine.{system_with}
use Rattle.base_machine.proofs.Kept.{fit_is_kept}
use Rattle.base_machine.proofs.Quiet.{confluence_from}
use Rattle.grape_hub.specs.Theorems.{IsConfluent}

pub confluent : (job : Job) (e : Equations) → IsJob job → AreLawful e → e ≡ equations_of job → IsConfluent e job
confluent job e h lawful of_query g start events ws greatest fit runs quiet i p v owned =
    let cut = subst (λ (q : Equations). AreCutOf q (pieces_of job)) (sym of_query) (fragments_cut job h) in
    confluence_from fit_is_kept (system_with e job) g (record { lawful = lawful; cut = cut }) greatest start events ws fit runs quiet i p v owned
