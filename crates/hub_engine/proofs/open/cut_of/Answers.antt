use Rattle.std.proofs.Common.{◌≡◌, ◌≤◌, ◌∙◌, ap, arith, length, map}
use Rattle.std.proofs.lemmas.Result.{IfOk-weaker}
use Rattle.graph_core.specs.Parts.{place_count}
use Rattle.token_cut.specs.Shapes.{sizes_in}
use Rattle.hub_engine.specs.Openings.{IsEmptyCut}
use Rattle.hub_engine.proofs.Opening.{cut_is_empty}
use Rattle.hub_engine.proofs.open.cut_of.Goals as goal
use Rattle.hub_engine.proofs.open.cut_of.Goals.{then-job-gt0+in_ok-parts, else-job-gt0}

pub returns : goal.returns
returns c =
    let every = c.args.job.now.settings.snapshot in
    let fragments = c.args.fragments.now in
    let sizes : 1 ≤ every → sizes_in c.if-job-gt0.parts.items ≡ map (λ part. (place_count part, length part.mirrors)) fragments =
    elim c.if-job-gt0.branch [
      | then-job-gt0+in_ok-parts w ↦ λ h. ap (λ v. sizes_in v.items) w.parts-is ∙ w.in_ok-parts.ensures.sizes
      | else-job-gt0 w ↦ λ h. let none = w.if-job-gt0.false in absurd (omega (arith, h, none))
    ] in
    IfOk-weaker c.new.result _ (IsEmptyCut every c.args.order fragments) (cut_is_empty every c.args.order fragments c.if-job-gt0.parts.items sizes) c.new.ensures
