-- The workers of every hub are in the form of a snapshot, whatever start in the form it had.
use Rattle.std.proofs.Common.{◌≡◌, ℕ, zero, suc, ◌+◌, ◌<◌, refl, sym, subst, arith, List, [], ◌∷◌, ◌++◌, length}
use Rattle.std.specs.List.{AllZip}
use Rattle.graph_core.specs.declared.job.Job.{Job}
use Rattle.graph_core.specs.Graphs.{IsJob}
use Rattle.graph_core.specs.Fragments.{Piece, piece_at}
use Rattle.graph_core.proofs.Lawful.{lawful}
use Rattle.graph_core.proofs.Cutting.{fragments_cut}
use Rattle.base_machine.specs.Machine.{System, system_of, BaseState, BaseEvent, worker_at, base_state_of, base_after, part_of, parts_from}
use Rattle.base_machine.specs.Runs.{Runs}
use Rattle.base_machine.specs.Fitness.{IsPartInForm}
use Rattle.base_machine.specs.Theorems.{IsSound}
use Rattle.base_machine.proofs.Forming.{form_is_kept}
use Rattle.legal_journal.specs.BaseEvents.{base_of}
use Rattle.legal_journal.proofs.Journals.{journal_runs}
use Rattle.hub_engine.specs.HubValues.{HubValues}
use Rattle.hub_engine.specs.States.{machine, workers_of, IsHub}

-- the system of every job is sound
pub sound_of : (job : Job) → IsJob job → IsSound (system_of job)
sound_of job k = record { lawful = lawful job.graph job.query k.graph; cut = fragments_cut job k }

pub sound : (h : HubValues) → IsHub h → IsSound (machine h)
sound h hub = sound_of h.job hub.job

-- the Takes and Gives of the journal are a run of the base machine
pub hub_runs : (h : HubValues) → IsHub h → Runs (machine h) (base_state_of h.start) (base_of (length h.start.parts) h.journal.events) (workers_of h)
hub_runs h hub = journal_runs (machine h) h.start h.journal.events hub.legal

-- a run after a run
pub run_on : (sys : System) (es fs : List BaseEvent) (a b c : BaseState) → Runs sys a es b → Runs sys b fs c → Runs sys a (es ++ fs) c
run_on sys [] fs a b c r t = subst (λ (ws : BaseState). Runs sys ws fs c) (sym r) t
run_on sys (e ∷ es) fs a b c r t = (r.0, run_on sys es fs (base_after sys a e) b c r.1 t)

part_there : (sys : System) (a : ℕ) (pieces : List Piece) (ws : BaseState) → AllZip (IsPartInForm sys) pieces (parts_from sys a ws) → (i : ℕ) → i < length ws →
    IsPartInForm sys (piece_at pieces i) (part_of sys (piece_at sys.pieces (a + i)) (worker_at ws i))
part_there sys a pieces [] h i l = absurd (omega (arith, l))
part_there sys a [] (w ∷ ws) h i l = absurd h
part_there sys a (p ∷ pieces) (w ∷ ws) h zero l =
    let z : a ≡ a + 0 = omega arith in
    subst (λ n. IsPartInForm sys p (part_of sys (piece_at sys.pieces n) w)) z h.0
part_there sys a (p ∷ pieces) (w ∷ ws) h (suc i) l =
    let z : a + 1 + i ≡ a + suc i = omega arith in
    subst (λ n. IsPartInForm sys (piece_at pieces i) (part_of sys (piece_at sys.pieces n) (worker_at ws i))) z (part_there sys (a + 1) pieces ws h.1 i (omega (arith, l)))

-- the same after more base events
pub formed_after : (h : HubValues) → IsHub h → (events : List BaseEvent) (ws : BaseState) → Runs (machine h) (workers_of h) events ws → (i : ℕ) → i < length ws →
    IsPartInForm (machine h) (piece_at (machine h).pieces i) (part_of (machine h) (piece_at (machine h).pieces i) (worker_at ws i))
formed_after h hub events ws more i l =
    let sys = machine h in
    let first = base_of (length h.start.parts) h.journal.events in
    let run = run_on sys first events (base_state_of h.start) (workers_of h) ws (hub_runs h hub) more in
    let form = form_is_kept sys h.start (first ++ events) ws 0 (sound h hub) hub.start (omega arith) run in
    let z : 0 + i ≡ i = omega arith in
    subst (λ n. IsPartInForm sys (piece_at sys.pieces i) (part_of sys (piece_at sys.pieces n) (worker_at ws i))) z (part_there sys 0 sys.pieces ws form.parts i l)

-- The values of each worker lie below the starts, and equal them where it is fresh.
pub formed : (h : HubValues) → IsHub h → (i : ℕ) → i < length (workers_of h) →
    IsPartInForm (machine h) (piece_at (machine h).pieces i) (part_of (machine h) (piece_at (machine h).pieces i) (worker_at (workers_of h) i))
formed h hub i l = formed_after h hub [] (workers_of h) refl i l
