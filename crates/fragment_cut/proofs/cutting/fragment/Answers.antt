use Rattle.std.proofs.Common.{◌≡◌}
use Rattle.std.proofs.lemmas.Result.{IfOk-weaker}
use Rattle.graph_core.specs.Fragments.{fragments_of}
use Rattle.fragment_cut.specs.Cut.{EachEquationOnce}
use Rattle.fragment_cut.proofs.OnceEach.{once_each_at}
use Rattle.fragment_cut.proofs.cutting.fragment.Goals as goal

pub returns-clause-once : goal.returns-clause-once
returns-clause-once c =
    let job = c.args.job.now in
    IfOk-weaker c.joined.result (λ f. f.items ≡ fragments_of job) (λ f. EachEquationOnce job f.items) (λ f e. once_each_at job f.items c.requires e) c.joined.ensures
