use Rattle.std.proofs.Common.{rules, arith, ◌≡◌, ◌*◌, ◌%◌, ◌^◌, bit_or, slice_index_or, sym, ◌∙◌, ap, subst, [], replicate}
use Rattle.std.specs.Prelude.{slice_set}
use Rattle.std.proofs.lemmas.List.{get_or_default}
use Rattle.graph_core.specs.declared.pattern.PatternLink.{PatternLink}
use Rattle.pie_sim.specs.SimJobs.{AreTargets}
use Rattle.pie_sim.proofs.Targets.{targets-none, targets-more}
use Rattle.pie_sim.proofs.nodes.targets_of.Goals as goal

pub links-init : goal.links-init
links-init c = let zeros : c.in_ok-targets.targets.items ≡ replicate 64 0 = search rules in subst (λ xs. AreTargets xs []) (sym zeros) targets-none

pub links-preserved : goal.links-preserved
links-preserved c =
    let links = c.args.links.now in
    let i = c.links.link-index in
    let none : PatternLink = record { from = 0; to = 0 } in
    let here = c.requires i none c.links-test.true in
    let from = (slice_index_or links i none).from in
    let targets = c.links.targets.items in
    let value = c.index_mut.ensures.value ∙ get_or_default targets from c.index_mut.result.now 0 (omega (arith, here.0, c.links.invariant.nodes)) in
    targets-more links i none c.links-test.true targets _ here.0 here.1 (ap (λ n. slice_set targets from (bit_or n (1 * 2 ^ (slice_index_or links i none).to % 2 ^ 64))) value) c.links.invariant
