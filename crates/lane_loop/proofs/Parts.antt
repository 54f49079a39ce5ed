-- The fragment of a Work, and its evaluation under other names.
use Rattle.std.proofs.Common.{◌≡◌, ℕ, ◌<◌, Bool, sym, ◌∙◌, ap, subst, arith, List, length, slice_index_or}
use Rattle.std.proofs.lemmas.List.FromFn.{length-map-range_with_len, get_or-map-range_with_len}
use Rattle.graph_core.specs.declared.job.Job.{Job}
use Rattle.graph_core.specs.Parts.{FragmentLists}
use Rattle.graph_core.specs.Equations.{Equations}
use Rattle.graph_core.specs.Fragments.{fragment_of, fragments_of}
use Rattle.message_buffer.specs.HandValues.{HandValues}
use Rattle.pie_core.specs.Locals.{LocalValues}
use Rattle.pie_core.specs.Solutions.{lowered, local_solution}
use Rattle.pie_core.specs.Evaluations.{MayEvaluate}
use Rattle.hub_engine.specs.declared.work.Work.{Work}
use Rattle.hub_engine.specs.HubValues.{HubValues}
use Rattle.hub_engine.specs.States.{IsHub}
use Rattle.hub_engine.specs.Calls.{IsWork}
use Rattle.hub_engine.proofs.Ready.{worker_in_range}

-- the fragment of a Work is there, and is its worker's
pub worker_has_part : (h : HubValues) (lane : ℕ) (fresh : Bool) (work : Work) (parts : List FragmentLists) → IsHub h → IsWork h lane fresh work → parts ≡ fragments_of h.job → work.worker < length parts
worker_has_part h lane fresh work parts hub w same =
    let l = worker_in_range h hub work.worker w.out.in_range in
    let n = ap (λ (ps : List FragmentLists). length ps) same ∙ length-map-range_with_len (fragment_of h.job) 0 h.job.settings.fragments in
    omega (arith, l, n)

pub part_of_worker : (h : HubValues) (lane : ℕ) (fresh : Bool) (work : Work) (parts : List FragmentLists) (part : FragmentLists) → IsHub h → IsWork h lane fresh work → parts ≡ fragments_of h.job →
    part ≡ slice_index_or parts work.worker part → part ≡ fragment_of h.job work.worker
part_of_worker h lane fresh work parts part hub w same at =
    at ∙ (ap (λ ps. slice_index_or ps work.worker part) same
    ∙ get_or-map-range_with_len (fragment_of h.job) 0 h.job.settings.fragments work.worker work.worker part (worker_in_range h hub work.worker w.out.in_range) (omega arith))

-- the same under other names for the equations, the fragment and the number of counters
pub evaluates : (job : Job) (e e' : Equations) (part part' : FragmentLists) (fresh : Bool) (local : LocalValues) (n n' : ℕ) (hand : HandValues) → e' ≡ e → part' ≡ part → n' ≡ n → MayEvaluate e job part fresh local n hand →
    MayEvaluate e' job part' fresh local n' hand
evaluates job e e' part part' fresh local n n' hand he hp hn m =
    subst (λ q. MayEvaluate q job part' fresh local n' hand) (sym he) (subst (λ q. MayEvaluate e job q fresh local n' hand) (sym hp) (subst (λ q. MayEvaluate e job part fresh local q hand) (sym hn) m))

pub solves : (e e' : Equations) (part part' : FragmentLists) (xs hand ys : List ℕ) → e' ≡ e → part' ≡ part → ys ≡ local_solution e' part'.owned part'.mirrors (lowered e' part'.owned xs hand) →
    ys ≡ local_solution e part.owned part.mirrors (lowered e part.owned xs hand)
solves e e' part part' xs hand ys he hp h =
    h ∙ (ap (λ q. local_solution q part'.owned part'.mirrors (lowered q part'.owned xs hand)) he ∙ ap (λ (q : FragmentLists). local_solution e q.owned q.mirrors (lowered e q.owned xs hand)) hp)
