-- The fresh start is a start, and a hub's run is bounded and, where it is quiet, has the answer.
use Rattle.std.proofs.Common.{◌≡◌, ℕ, ◌+◌, ◌*◌, ◌≤◌, ◌⊎◌, inl, refl, subst, arith, List, [], ◌∷◌, length, map}
use Rattle.std.specs.List.{AllZip}
use Rattle.graph_core.specs.Equations.{Assignment, IsGreatest}
use Rattle.graph_core.specs.Queries.{equations_of}
use Rattle.graph_core.specs.Fragments.{Piece, places}
use Rattle.value_order.specs.Order.{Below}
use Rattle.value_order.specs.declared.TheConstants.{NOTHING}
use Rattle.pie_core.specs.Solutions.{starts_of}
use Rattle.pie_core.proofs.Lists.{AllBelow-refl}
use Rattle.base_machine.specs.Machine.{System, system_of, fresh_part, fresh_snapshot, base_state_of}
use Rattle.base_machine.specs.Fitness.{IsFit, IsInForm, IsPartInForm}
use Rattle.base_machine.specs.Bounds.{bound_of}
use Rattle.base_machine.proofs.Beginning.{fresh_is_fit}
use Rattle.base_machine.proofs.Kept.{fit_is_kept}
use Rattle.base_machine.proofs.Quiet.{fit_after, confluence_from}
use Rattle.legal_journal.specs.BaseEvents.{base_of}
use Rattle.legal_journal.proofs.Ledger.{events_are_bounded}
use Rattle.hub_engine.specs.HubValues.{HubValues}
use Rattle.hub_engine.specs.States.{machine, workers_of, IsHub}
use Rattle.hub_engine.proofs.Hubs.{piece_count}
use Rattle.hub_engine.proofs.Formed.{sound_of, sound, hub_runs}
use Rattle.grape_hub.specs.Theorems.{QuietIsTheAnswer, JournalIsBounded, FreshIsAStart}

-- ---- the beginning

no_mail : (sys : System) (vs : List ℕ) → AllZip (λ x top. (x ≡ NOTHING) ⊎ Below sys.equations.order x top) (map (λ v. NOTHING) vs) (starts_of sys.equations vs)
no_mail sys [] = tt
no_mail sys (v ∷ vs) = (inl refl, no_mail sys vs)

fresh_parts : (sys : System) (pieces : List Piece) → AllZip (IsPartInForm sys) pieces (map (fresh_part sys.equations) pieces)
fresh_parts sys [] = tt
fresh_parts sys (piece ∷ pieces) = (
  record { values = AllBelow-refl sys.equations.order (starts_of sys.equations (places piece)); fresh = λ e. refl; mail = no_mail sys piece.mirrors },
  fresh_parts sys pieces,
)

pub fresh_in_form : (sys : System) → IsInForm sys (fresh_snapshot sys)
fresh_in_form sys = record { epoch = omega arith; parts = fresh_parts sys sys.pieces }

pub fresh_is_a_start : FreshIsAStart
fresh_is_a_start job k = (fresh_in_form (system_of job), λ g greatest. fresh_is_fit (system_of job) g (sound_of job k) greatest)

-- ---- the run

-- from a fit start
pub fit : (h : HubValues) (g : Assignment) → IsHub h → IsGreatest (equations_of h.job) g → IsFit (machine h) g (base_state_of h.start) → IsFit (machine h) g (workers_of h)
fit h g hub greatest start =
    fit_after fit_is_kept (machine h) g (sound h hub) greatest (base_of (length h.start.parts) h.journal.events) (base_state_of h.start) (workers_of h)
    start (hub_runs h hub)

-- ---- the laws

pub quiet_is_the_answer : QuietIsTheAnswer
quiet_is_the_answer h g hub greatest start quiet i p v owned =
    confluence_from fit_is_kept (machine h) g (sound h hub) greatest h.start (base_of (length h.start.parts) h.journal.events) (workers_of h)
    start (hub_runs h hub) quiet i p v owned

pub hubs_are_bounded : JournalIsBounded
hubs_are_bounded h hub =
    let P : ℕ → Type 0 = λ n. length h.journal.events ≤ (140 + 2 * n) * (bound_of (machine h) + n) in
    let count = piece_count h in
    let some = hub.job.settings.fragments.0 in
    subst P count (events_are_bounded (machine h) h.start h.journal.events (sound h hub) hub.start (omega (arith, count, some)) hub.legal)
