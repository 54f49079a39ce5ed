-- A Work on its way through a lane.
use Rattle.std.proofs.Common.{◌≡◌, ℕ, Bool, sym, ◌∙◌, ap, List, length}
use Rattle.graph_core.specs.Queries.{equations_of}
use Rattle.graph_core.specs.Fragments.{Piece, piece_of}
use Rattle.message_buffer.specs.HandValues.{HandValues}
use Rattle.pie_core.specs.Solutions.{lowered, local_solution}
use Rattle.base_machine.specs.Machine.{worker_at, hand_of}
use Rattle.hub_engine.specs.declared.work.Work.{Work}
use Rattle.hub_engine.specs.HubValues.{HubValues}
use Rattle.hub_engine.specs.States.{workers_of, piece_of_worker, IsHub}
use Rattle.hub_engine.specs.Calls.{IsWork}
use Rattle.hub_engine.proofs.Ready.{piece_is}
use Rattle.hub_engine.proofs.Ready as ready
use Rattle.grape_hub.specs.Theorems.{WorksMayBeEvaluated, EvaluatedMayBeGiven}

-- the piece of a worker that is out is that of its fragment
own_piece : (h : HubValues) (lane : ℕ) (fresh : Bool) (work : Work) → IsHub h → IsWork h lane fresh work → piece_of_worker h work.worker ≡ piece_of h.job work.worker
own_piece h lane fresh work hub w = piece_is h work.worker (ready.worker_in_range h hub work.worker w.out.in_range)

pub works_may_be_evaluated : WorksMayBeEvaluated
works_may_be_evaluated h lane fresh work hub w r =
    let p = own_piece h lane fresh work hub w in
    record {
      is_job = hub.job;
      ready = r.first;
      solved = r.again;
      mirrors = w.sizes.mirrors ∙ ap (λ (q : Piece). length q.mirrors) p;
    }

pub evaluated_may_be_given : EvaluatedMayBeGiven
evaluated_may_be_given h lane fresh work local hub w solved before counters =
    let p = own_piece h lane fresh work hub w in
    let e = equations_of h.job in
    record {
      out = w.out;
      values = solved ∙ sym
          (ap (λ (q : Piece). local_solution e q.owned q.mirrors (lowered e q.owned (worker_at (workers_of h) work.worker).values (hand_of (worker_at (workers_of h) work.worker)))) p
          ∙ (ap (λ l. local_solution e (piece_of h.job work.worker).owned (piece_of h.job work.worker).mirrors (lowered e (piece_of h.job work.worker).owned l (hand_of (worker_at (workers_of h) work.worker)))) (sym w.values)
          ∙ ap (λ (q : HandValues). local_solution e (piece_of h.job work.worker).owned (piece_of h.job work.worker).mirrors (lowered e (piece_of h.job work.worker).owned work.local.values q.values)) (sym w.hand)));
      before = before ∙ w.before;
      order = ap (λ (q : HandValues). q.order) w.hand;
      sizes = record { owned = ap (λ (l : List ℕ). length l) before ∙ w.sizes.owned; room = counters ∙ w.sizes.room; mirrors = w.sizes.mirrors };
    }
