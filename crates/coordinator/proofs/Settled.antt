-- What a run tells of a hub whose journal has ended.
use Rattle.std.proofs.Common.{◌≡◌, ℕ, zero, suc, ◌*◌, ◌<◌, inl, inr, false, not, ◌&&◌, refl, sym, ◌∙◌, ap, subst, arith, List, [], ◌∷◌, ◌++◌, length, map, reverse, slice_index_or, slice_get, Some, true, ◌-◌}
use mathlib.Core.List.{reverse-cons}
use Rattle.std.specs.List.{AllZip}
use Rattle.std.proofs.lemmas.Bool.{false≢true, and_parts, cases_Bool}
use Rattle.std.proofs.lemmas.List.{length-append, length-map, reverse-reverse}
use Rattle.std.proofs.lemmas.Option.{same_Some}
use Rattle.std.proofs.lemmas.List.FromFn.{length-map-range_with_len, get_or-map-range_with_len}
use Rattle.circular_buffer.proofs.Places.{slice_get-last}
use Rattle.graph_core.specs.declared.job.Job.{Job}
use Rattle.graph_core.specs.Parts.{FragmentLists, place_count}
use Rattle.graph_core.specs.Fragments.{Piece, piece_at, piece_of, fragment_of, fragments_of, numbers_below, places}
use Rattle.grape_event.specs.JournalList.{JournalList}
use Rattle.grape_event.specs.declared.event.Event.{Event}
use Rattle.grape_event.specs.declared.event.StopCause.{StopCause}
use Rattle.grape_event.specs.declared.event.Event.TheVariants.{Take, Give, Stretch, Hold, Flag, Ask, Ack, Nack, Begin, Mark, Seal, Kept, End, Stop}
use Rattle.pie_core.specs.Locals.{LocalValues}
use Rattle.token_cut.specs.Parts.{SnapshotParts}
use Rattle.base_machine.specs.Machine.{BaseState, Worker, worker_at, is_running, rests, batch_waits, no_worker, system_of}
use Rattle.base_machine.specs.Fitness.{is_quiet}
use Rattle.legal_journal.specs.Past.{has_ended}
use Rattle.legal_journal.proofs.Probes.{not_running}
use Rattle.legal_journal.specs.Legal.{IsLegal, state_at_end}
use Rattle.legal_journal.specs.Cuts.{sealed_snapshots, epochs_kept}
use Rattle.recovery.specs.Crashes.{kept_epochs}
use Rattle.recovery.specs.declared.kept_at.KeptAt.{KeptAt}
use Rattle.answer_text.specs.Assembled.{FitParts, values_at}
use Rattle.hub_engine.specs.HubValues.{HubValues}
use Rattle.hub_engine.specs.States.{machine, workers_of, IsHub}
use Rattle.hub_engine.specs.Calls.{HaveValues, HaveSizes}
use Rattle.grape_hub.specs.Theorems.{IsCalm}
use Rattle.grape_hub.proofs.Idling.{end_is_quiet}
use Rattle.pie_core.specs.Solutions.{starts_of}
use Rattle.base_machine.proofs.Giving.{below-length}
use Rattle.hub_engine.proofs.Formed.{formed}
use Rattle.hub_engine.proofs.Hubs.{workers_are}
use Rattle.hub_engine.proofs.Ready.{piece_is}
use Rattle.coordinator.specs.declared.story.Story.{Story}
use Rattle.coordinator.specs.Runs.{IsStoryOf, AreLocalsOf, LastEvent, EndsBy}
use Rattle.coordinator.specs.Endings.{IsStoryAt}

-- stands for a fragment past the last
abbrev no_lists : FragmentLists
no_lists = record { number = 0; owned = []; mirrors = []; readings = []; readers = []; routes = [] }

fit_each : (parts : List FragmentLists) (ws : BaseState) (locals : List LocalValues) → length parts ≡ length ws →
    ((i : ℕ) → i < length ws → length (slice_index_or ws i no_worker).values ≡ place_count (slice_index_or parts i no_lists)) →
    AllZip (λ (local : LocalValues) (w : Worker). local.values ≡ w.values) locals ws → FitParts parts locals
fit_each [] [] [] e h a = tt
fit_each [] [] (l ∷ ls) e h a = absurd a
fit_each [] (w ∷ ws) ls e h a = absurd (omega (arith, e))
fit_each (p ∷ ps) [] ls e h a = absurd (omega (arith, e))
fit_each (p ∷ ps) (w ∷ ws) [] e h a = absurd a
fit_each (p ∷ ps) (w ∷ ws) (l ∷ ls) e h a = (ap (λ (v : List ℕ). length v) a.0 ∙ h 0 (omega arith), fit_each ps ws ls (omega (arith, e)) (λ i k. h (suc i) (omega (arith, k))) a.1)

-- the values of worker i are those of Local i
pub same_values : (ws : BaseState) (locals : List LocalValues) → AllZip (λ (local : LocalValues) (w : Worker). local.values ≡ w.values) locals ws → (i : ℕ) → values_at locals i ≡ (slice_index_or ws i no_worker).values
same_values [] [] a i = refl
same_values [] (l ∷ ls) a i = absurd a
same_values (w ∷ ws) [] a i = absurd a
same_values (w ∷ ws) (l ∷ ls) a zero = a.0
same_values (w ∷ ws) (l ∷ ls) a (suc i) = same_values ws ls a.1 i

-- a worker has a value for each place of its fragment
places_each : (h : HubValues) → IsHub h → (i : ℕ) → i < length (workers_of h) → length (worker_at (workers_of h) i).values ≡ place_count (fragment_of h.job i)
places_each h hub i l =
    let n = workers_are h hub in
    let piece = piece_at (machine h).pieces i in
    let values = (worker_at (workers_of h) i).values in
    let long = below-length (machine h).equations.order values (starts_of (machine h).equations (places piece)) (formed h hub i l).values in
    long ∙ (length-map (places piece) (machine h).equations.start ∙ ap (λ (q : Piece). length (places q)) (piece_is h i (omega (arith, l, n))) ∙ length-append (fragment_of h.job i).owned (fragment_of h.job i).mirrors)

pub locals_fit : (h : HubValues) (parts : List FragmentLists) (locals : List LocalValues) → IsHub h → parts ≡ fragments_of h.job → AllZip (λ (local : LocalValues) (w : Worker). local.values ≡ w.values) locals (workers_of h) → FitParts parts locals
locals_fit h parts locals hub same have =
    let n = workers_are h hub in
    let long = ap (λ (ps : List FragmentLists). length ps) same ∙ length-map-range_with_len (fragment_of h.job) 0 h.job.settings.fragments in
    fit_each parts (workers_of h) locals (omega (arith, n, long))
    (λ i l. places_each h hub i l ∙ sym (ap (λ (q : FragmentLists). place_count q)
    (ap (λ (ps : List FragmentLists). slice_index_or ps i no_lists) same ∙ get_or-map-range_with_len (fragment_of h.job) 0 h.job.settings.fragments i i no_lists (omega (arith, l, n)) (omega arith))))
    have

owned_each : (job : Job) (counters : ℕ) (is : List ℕ) (locals : List LocalValues) →
    AllZip (λ (local : LocalValues) (piece : Piece). (length local.before ≡ length piece.owned) × (length local.counters ≡ length piece.owned * counters)) locals (map (piece_of job) is) →
    AllZip (λ (part : FragmentLists) (local : LocalValues). length local.before ≡ length part.owned) (map (fragment_of job) is) locals
owned_each job counters [] [] a = tt
owned_each job counters [] (l ∷ ls) a = absurd a
owned_each job counters (i ∷ is) [] a = absurd a
owned_each job counters (i ∷ is) (l ∷ ls) a = (a.0.0, owned_each job counters is ls a.1)

-- ---- nobody is out

rests_each : (ws : BaseState) → is_quiet ws ≡ true → (i : ℕ) → i < length ws → is_running (worker_at ws i) ≡ false
rests_each [] h i l = absurd (omega (arith, l))
rests_each (w ∷ ws) h zero l =
    elim (cases_Bool (is_running w)) [ inl r ↦ absurd (not_running w (and_parts _ _ (and_parts (rests w && not (batch_waits w)) _ h).0).0 r) | inr f ↦ f ]
rests_each (w ∷ ws) h (suc i) l = rests_each ws (and_parts (rests w && not (batch_waits w)) _ h).1 i (omega (arith, l))

-- where the journal ends by End nobody is out
pub ends_calm : (h : HubValues) → IsHub h → EndsBy End h.journal.events → IsCalm h
ends_calm h hub ends = rests_each (workers_of h) (end_is_quiet h ends.0 hub ends.1)

all_values : (ws : BaseState) (locals : List LocalValues) → ((i : ℕ) → i < length ws → is_running (worker_at ws i) ≡ false) → AllZip (λ (local : LocalValues) (w : Worker). is_running w ≡ false → local.values ≡ w.values) locals ws →
    AllZip (λ (local : LocalValues) (w : Worker). local.values ≡ w.values) locals ws
all_values [] [] calm a = tt
all_values [] (l ∷ ls) calm a = absurd a
all_values (w ∷ ws) [] calm a = absurd a
all_values (w ∷ ws) (l ∷ ls) calm a = (a.0 (calm 0 (omega arith)), all_values ws ls (λ i k. calm (suc i) (omega (arith, k))) a.1)

-- where nobody is out each Local has its worker's values
pub values_of : (h : HubValues) (locals : List LocalValues) → IsCalm h → HaveValues h locals → AllZip (λ (local : LocalValues) (w : Worker). local.values ≡ w.values) locals (workers_of h)
values_of h locals calm have = all_values (workers_of h) locals calm have

-- ---- the story

-- a story has a hub's start and journal, and this as kept
pub record Tells (h : HubValues) (kept : List KeptAt) (story : Story) : Type 0 where
  pub start : story.start ≡ h.start
  pub journal : story.journal ≡ h.journal
  pub kept_here : story.kept.items ≡ kept

pub story_of : (h : HubValues) (job : Job) (kept : List KeptAt) (story : Story) → IsHub h → h.job ≡ job → (more : List ℕ) → kept_epochs kept ≡ epochs_kept h.journal.events ++ more → Tells h kept story → IsStoryOf job h.start story
story_of h job kept story hub same more noted tells = record {
  starts = tells.start;
  legal = subst (λ (j : Job). IsLegal (system_of j) h.start story.journal.events) same (subst (λ (j : JournalList). IsLegal (machine h) h.start j.events) (sym tells.journal) hub.legal);
  noted = (more, ap (λ (ks : List KeptAt). kept_epochs ks) tells.kept_here ∙ (noted ∙ ap (λ (j : JournalList). epochs_kept j.events ++ more) (sym tells.journal)));
}

-- what the story sealed is what the hub did
pub cuts_told : (h : HubValues) (job : Job) (kept : List KeptAt) (story : Story) → h.job ≡ job → Tells h kept story → IsStoryAt job h kept story
cuts_told h job kept story same tells = record { cuts = λ t. sealed_snapshots (system_of (sym same t)) (tells.start t) (tells.journal t).events; kept_here = tells.kept_here }

pub locals_of : (h : HubValues) (job : Job) (parts : List FragmentLists) (kept : List KeptAt) (story : Story) (locals : List LocalValues) → IsHub h → h.job ≡ job → parts ≡ fragments_of job → Tells h kept story → AllZip (λ (local : LocalValues) (w : Worker). local.values ≡ w.values) locals (workers_of h) → HaveSizes h locals →
    AreLocalsOf job parts story locals
locals_of h job parts kept story locals hub same all tells values sizes =
    let here : parts ≡ fragments_of h.job = all ∙ ap (λ (j : Job). fragments_of j) (sym same) in
    let owned = subst (λ (ps : List FragmentLists). AllZip (λ (part : FragmentLists) (local : LocalValues). length local.before ≡ length part.owned) ps locals) (sym here) (owned_each h.job h.counters (numbers_below h.job.settings.fragments) locals sizes) in
    let at_end =
    subst (λ (s : SnapshotParts). AllZip (λ (local : LocalValues) (w : Worker). local.values ≡ w.values) locals (state_at_end (machine h) s story.journal.events).workers) (sym tells.start)
    (subst (λ (j : JournalList). AllZip (λ (local : LocalValues) (w : Worker). local.values ≡ w.values) locals (state_at_end (machine h) h.start j.events).workers) (sym tells.journal) values) in
    subst (λ (j : Job). AreLocalsOf j parts story locals) same (record { places = locals_fit h parts locals hub here values; owned = owned; values = at_end })

-- ---- the last event

-- what is last and no Stop is an End
pub end_is_last : (e : Event) (journal : List Event) → LastEvent journal e → ((cause : StopCause) → e ≡ Stop cause → ⊥) → EndsBy End journal
end_is_last (Take i k) journal last no_stop = absurd (false≢true last.1)
end_is_last (Give i) journal last no_stop = absurd (false≢true last.1)
end_is_last (Stretch i t) journal last no_stop = absurd (false≢true last.1)
end_is_last (Hold i) journal last no_stop = absurd (false≢true last.1)
end_is_last (Flag i) journal last no_stop = absurd (false≢true last.1)
end_is_last Ask journal last no_stop = absurd (false≢true last.1)
end_is_last (Ack i) journal last no_stop = absurd (false≢true last.1)
end_is_last (Nack i) journal last no_stop = absurd (false≢true last.1)
end_is_last (Begin e) journal last no_stop = absurd (false≢true last.1)
end_is_last (Mark i) journal last no_stop = absurd (false≢true last.1)
end_is_last (Seal e) journal last no_stop = absurd (false≢true last.1)
end_is_last (Kept e) journal last no_stop = absurd (false≢true last.1)
end_is_last End journal last no_stop = last.0
end_is_last (Stop cause) journal last no_stop = absurd (no_stop cause refl)

last_of : (past journal : List Event) (e : Event) → journal ≡ reverse past → Some e ≡ slice_get journal (length journal - 1) → has_ended past ≡ true → LastEvent journal e
last_of [] journal e same at ended = absurd (false≢true ended)
last_of (f ∷ past) journal e same at ended =
    let whole : journal ≡ reverse past ++ f ∷ [] = same ∙ reverse-cons f past in
    let long = ap (λ (es : List Event). length es) whole in
    let more = length-append (reverse past) (f ∷ []) in
    let found : slice_get journal (length journal - 1) ≡ Some f = ap (λ (es : List Event). slice_get es (length journal - 1)) whole ∙ slice_get-last (reverse past) f (length journal - 1) (omega (arith, long, more)) in
    let is : e ≡ f = same_Some e f (at ∙ found) in
    subst (λ (x : Event). LastEvent journal x) (sym is) ((reverse past, whole), ended)

-- the event at the last place of a journal that has ended
pub last_is : (journal : List Event) (e : Event) → Some e ≡ slice_get journal (length journal - 1) → has_ended (reverse journal) ≡ true → LastEvent journal e
last_is journal e at ended = last_of (reverse journal) journal e (sym (reverse-reverse journal)) at ended
