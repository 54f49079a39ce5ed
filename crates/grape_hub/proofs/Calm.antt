-- One lane's turns leave nobody out.
use Rattle.std.proofs.Common.{◌≡◌, ◌≢◌, ℕ, zero, suc, ◌+◌, ◌<◌, inl, inr, false, if◌then◌else◌, refl, sym, ◌∙◌, ap, arith, List, [], ◌∷◌, length, map}
use Rattle.std.proofs.lemmas.Bool.{cases_eq, eq-eqb, ne_eqb, and_left, false≢true}
use Rattle.graph_core.specs.Fragments.{piece_at, numbers_below}
use Rattle.grape_event.specs.declared.event.Event.{Event}
use Rattle.grape_event.specs.declared.event.Event.TheVariants.{Take, Give, Stretch, Hold, Flag, Ask, Ack, Nack, Begin, Mark, Seal, Kept, End, Stop}
use Rattle.grape_event.specs.Events.{is_take}
use Rattle.token_cut.specs.Parts.{PartValues}
use Rattle.token_cut.specs.declared.phase.Phase.{Phase}
use Rattle.token_cut.specs.declared.phase.Phase.TheVariants.{Fresh as FreshPhase, Rest as RestPhase}
use Rattle.base_machine.specs.Machine.{System, Worker, BaseTake, BaseGive, Post, worker_at, is_running, after_taking, after_giving, after_receiving, sent_to, standing_of, worker_of}
use Rattle.base_machine.proofs.Swapping.{after-length, after-at}
use Rattle.legal_journal.specs.Past.{gives_of_each}
use Rattle.legal_journal.specs.Legal.{State, worker_count, state_after, state_at_end}
use Rattle.legal_journal.proofs.Choosing.{any_none}
use Rattle.hub_engine.specs.States.{machine, state_of}
use Rattle.hub_engine.proofs.Hubs.{state_grown}
use Rattle.grape_hub.specs.Theorems.{CalmIsFree, CalmAtBeginning, CalmAfterTurn, CalmAfterOther}

-- ---- nobody is out

pub calm_is_free : CalmIsFree
calm_is_free h lane calm = any_none _ (worker_count (state_of h)) (λ i l. and_left _ _ (calm i l))

-- ---- at the beginning

-- a worker begins fresh or at rest
pub begins_calm : (n : ℕ) (parts : List PartValues) (i : ℕ) → is_running (worker_at (map (worker_of n) parts) i) ≡ false
begins_calm n [] i = refl
begins_calm n (p ∷ parts) zero = of_phase p.phase
  where
    of_phase : (phase : Phase) → is_running (record (worker_of n p) { standing = standing_of phase }) ≡ false
    of_phase FreshPhase = refl
    of_phase RestPhase = refl
begins_calm n (p ∷ parts) (suc i) = begins_calm n parts i

pub calm_at_beginning : CalmAtBeginning
calm_at_beginning h hub none i l =
    ap (λ es. is_running (worker_at (state_at_end (machine h) h.start es).workers i)) none ∙ begins_calm (length h.start.parts) h.start.parts i

-- ---- after an event

received_runs : (j number : ℕ) (posts : List Post) (w : Worker) → is_running (after_receiving j number posts w) ≡ is_running w
received_runs j number [] w = refl
received_runs j number (p ∷ posts) w = refl

-- a Give leaves out only those who were out, and not the giver
pub after_give : (sys : System) (s : State) (i k : ℕ) → k < length s.workers → (k ≢ i → is_running (worker_at s.workers k) ≡ false) → is_running (worker_at (state_after sys s (Give i)).workers k) ≡ false
after_give sys s i k l idle =
    ap (λ (w : Worker). is_running w) (after-at sys s.workers (BaseGive i) k l)
    ∙ elim (cases_eq k i) [
      | inl e ↦ ap (λ b. is_running (if b then after_giving sys (piece_at sys.pieces i) (worker_at s.workers k) else after_receiving i ((worker_at s.workers i).gives + 1) (sent_to sys (piece_at sys.pieces i) (worker_at s.workers i) k) (worker_at s.workers k))) (eq-eqb k i e)
      | inr n ↦ ap (λ b. is_running (if b then after_giving sys (piece_at sys.pieces i) (worker_at s.workers k) else after_receiving i ((worker_at s.workers i).gives + 1) (sent_to sys (piece_at sys.pieces i) (worker_at s.workers i) k) (worker_at s.workers k))) (ne_eqb k i n)
          ∙ (received_runs i ((worker_at s.workers i).gives + 1) (sent_to sys (piece_at sys.pieces i) (worker_at s.workers i) k) (worker_at s.workers k) ∙ idle n)
    ]

-- a Take leaves the others
after_take : (sys : System) (s : State) (i lane k : ℕ) → k < length s.workers → k ≢ i → is_running (worker_at s.workers k) ≡ false → is_running (worker_at (state_after sys s (Take i lane)).workers k) ≡ false
after_take sys s i lane k l n idle =
    let upto = gives_of_each (numbers_below (worker_count s)) s.past in
    ap (λ (w : Worker). is_running w) (after-at sys s.workers (BaseTake i upto) k l)
    ∙ (ap (λ b. is_running (if b then after_taking sys (piece_at sys.pieces i) upto (worker_at s.workers k) else worker_at s.workers k)) (ne_eqb k i n) ∙ idle)

same_count : (sys : System) (s : State) (i lane : ℕ) → length (state_after sys s (Take i lane)).workers ≡ length s.workers
same_count sys s i lane = after-length sys s.workers (BaseTake i (gives_of_each (numbers_below (worker_count s)) s.past))

pub calm_after_turn : CalmAfterTurn
calm_after_turn old taken given i lane hub calm took hub-2 gave hub-3 k l =
    let s = state_of old in
    let t = state_of taken in
    let grown = state_grown old taken (Take i lane) took in
    let grown-2 = state_grown taken given (Give i) gave in
    let many = same_count (machine old) s i lane in
    let many-2 = after-length (machine taken) t.workers (BaseGive i) in
    let a = ap (λ (q : State). length q.workers) grown in
    let b = ap (λ (q : State). length q.workers) grown-2 in
    let below-t : k < length t.workers = omega (arith, l, b, many-2) in
    let below-s : k < length s.workers = omega (arith, below-t, a, many) in
    ap (λ (q : State). is_running (worker_at q.workers k)) grown-2
    ∙ after_give (machine taken) t i k below-t (λ n. ap (λ (q : State). is_running (worker_at q.workers k)) grown ∙ after_take (machine old) s i lane k below-s n (calm k below-s))

-- an event that is no Take leaves nobody out
still_calm : (sys : System) (s : State) (e : Event) → is_take e ≡ false → ((i : ℕ) → i < worker_count s → is_running (worker_at s.workers i) ≡ false) →
    (i : ℕ) → i < worker_count (state_after sys s e) → is_running (worker_at (state_after sys s e).workers i) ≡ false
still_calm sys s (Take j k) quiet calm i l = absurd (false≢true (sym quiet))
still_calm sys s (Give j) quiet calm i l =
    let many = after-length sys s.workers (BaseGive j) in
    let below : i < length s.workers = omega (arith, l, many) in
    after_give sys s j i below (λ n. calm i below)
still_calm sys s (Stretch j t) quiet calm i l = calm i l
still_calm sys s (Hold j) quiet calm i l = calm i l
still_calm sys s (Flag j) quiet calm i l = calm i l
still_calm sys s Ask quiet calm i l = calm i l
still_calm sys s (Ack j) quiet calm i l = calm i l
still_calm sys s (Nack j) quiet calm i l = calm i l
still_calm sys s (Begin e) quiet calm i l = calm i l
still_calm sys s (Mark j) quiet calm i l = calm i l
still_calm sys s (Seal e) quiet calm i l = calm i l
still_calm sys s (Kept e) quiet calm i l = calm i l
still_calm sys s End quiet calm i l = calm i l
still_calm sys s (Stop c) quiet calm i l = calm i l

pub calm_after_other : CalmAfterOther
calm_after_other old new e hub calm not_take more hub-2 k l =
    let grown = state_grown old new e more in
    let a = ap (λ (q : State). worker_count q) grown in
    ap (λ (q : State). is_running (worker_at q.workers k)) grown ∙ still_calm (machine old) (state_of old) e not_take calm k (omega (arith, l, a))
