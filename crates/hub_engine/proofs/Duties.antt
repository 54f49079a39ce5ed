-- Which duty there is.
use Rattle.std.proofs.Common.{◌≡◌, ℕ, suc, ◌+◌, ◌<◌, Bool, true, false, not, ◌&&◌, nat_lt, nat_le, ◌-◌, ◌^◌, if◌then◌else◌, IsTrue, refl, sym, ◌∙◌, ap, arith, List, [], ◌∷◌, length, reverse, slice_index_or, Option, Some, None}
use Rattle.std.specs.List.{list_all, range_with_len}
use Rattle.std.proofs.lemmas.Bool.{eq-eqb, false≢true}
use Rattle.graph_core.specs.Fragments.{numbers_below}
use Rattle.grape_event.specs.declared.event.Event.{Event}
use Rattle.grape_event.specs.declared.event.Event.TheVariants.{Take, Give, Stretch, Hold, Flag, Ask, Ack, Nack, Begin, Mark, Seal, Kept, End, Stop}
use Rattle.token_cut.specs.Recording.{is_complete}
use Rattle.base_machine.specs.Machine.{System}
use Rattle.legal_journal.specs.Past.{has_ended, last_epoch, recording_is_open, all_are_marked, all_begun_are_kept}
use Rattle.legal_journal.specs.Past.{is_marked as was_marked}
use Rattle.legal_journal.specs.Legal.{State, worker_count, row_admits, is_admitted, may_seal, may_begin, snapshot_is_due}
use Rattle.legal_journal.specs.Choices.{first_admitted, is_duty, duty_choice}
use Rattle.stop_probe.specs.ProbeValues.{ProbeValues}
use Rattle.stop_probe.specs.Probe.{may_ask, may_end}
use Rattle.stop_probe.specs.Journals.{probe_at}
use Rattle.stop_probe.proofs.Following.{meets_the_table}
use Rattle.hub_engine.specs.HubValues.{HubValues}
use Rattle.hub_engine.specs.States.{machine, state_of, sealed_epoch, IsHub}
use Rattle.hub_engine.specs.Desks.{Tables, TablesFit}
use Rattle.hub_engine.specs.Kinds.{is_due}
use Rattle.hub_engine.specs.Calls.{IsNote}
use Rattle.hub_engine.proofs.Hubs.{ended_is}
use Rattle.hub_engine.proofs.Snapshots.{SnapshotsAreInTurn, snapshots_of, kept_is}

-- all marks are set where all numbers pass
marks_all : (f : ℕ → Bool) (a : ℕ) (marks : List Bool) → ((k : ℕ) → k < length marks → slice_index_or marks k false ≡ f (a + k)) → list_all (λ mark. mark) marks ≡ list_all f (range_with_len a (length marks))
marks_all f a [] h = refl
marks_all f a (m ∷ marks) h =
    let z : a + 0 ≡ a = omega arith in
    let first : m ≡ f a = h 0 (omega arith) ∙ ap f z in
    let rest = marks_all f (a + 1) marks (λ k l. let e : a + suc k ≡ a + 1 + k = omega arith in h (suc k) (omega (arith, l)) ∙ ap f e) in
    ap (λ b. b && list_all (λ mark. mark) marks) first ∙ ap (λ b. f a && b) rest

and_true : (b : Bool) → (b && true) ≡ b
and_true true = refl
and_true false = refl

and_swap : (a b : Bool) → (a && b) ≡ (b && a)
and_swap true true = refl
and_swap true false = refl
and_swap false true = refl
and_swap false false = refl

-- a recording is complete where it is open and all workers are marked
module _ (sys : System) (s : State) (counters : ℕ) (t : Tables) (fits : TablesFit sys s counters t) where
  pub marked_is : (o : Bool) → t.cut.recording ≡ o → is_complete t.cut ≡ (o && all_are_marked (worker_count s) s.past)
  marked_is false o = ap (λ b. b && list_all (λ mark. mark) t.cut.marked) o
  marked_is true o =
      let cut = fits.is_cut in
      let m = cut.marks o in
      ap (λ b. b && list_all (λ mark. mark) t.cut.marked) o
      ∙ (marks_all (λ i. was_marked i s.past) 0 t.cut.marked (λ k l. let e : k ≡ 0 + k = omega arith in cut.marked o k (omega (arith, l, m)) ∙ ap (λ i. was_marked i s.past) e)
      ∙ ap (λ n. list_all (λ i. was_marked i s.past) (numbers_below n)) m)

-- the first duty of those that may be
abbrev pub duty_by : Bool → Bool → Bool → Bool → ℕ → Option Event
duty_by seals ends begins asks epoch = if seals then Some (Seal epoch) else if ends then Some End else if begins then Some (Begin (epoch + 1)) else if asks then Some Ask else None

module _ (sys : System) (s : State) (counters : ℕ) (t : Tables) (fits : TablesFit sys s counters t) (turn : SnapshotsAreInTurn sys s) (going : has_ended s.past ≡ false) (none : sealed_epoch s.past ≡ None) where
  live : (b : Bool) → (not (has_ended s.past) && b) ≡ b
  live b = ap (λ q. not q && b) going

  pub seal_is : is_admitted sys s (Seal (last_epoch s.start.epoch s.past)) ≡ is_complete t.cut
  seal_is =
      let last = last_epoch s.start.epoch s.past in
      let marked = all_are_marked (worker_count s) s.past in
      live (may_seal s last)
      ∙ (ap (λ b. (recording_is_open s.past && marked) && b) (eq-eqb last last refl)
      ∙ (and_true (recording_is_open s.past && marked) ∙ sym (marked_is sys s counters t fits (recording_is_open s.past) fits.is_cut.recording)))

  kept_by : all_begun_are_kept s.past ≡ not t.cut.recording
  kept_by = kept_is sys s turn none ∙ ap (λ b. not b) (sym fits.is_cut.recording)

  pub end_is : is_admitted sys s End ≡ (not t.cut.recording && may_end t.probe)
  end_is =
      live (row_admits sys s End)
      ∙ ((meets_the_table sys s).end
      ∙ (ap (λ b. may_end (probe_at s) && b) kept_by
      ∙ (ap (λ (q : ProbeValues). may_end q && not t.cut.recording) (sym fits.is_probe) ∙ and_swap (may_end t.probe) (not t.cut.recording))))

  due_is : snapshot_is_due sys s ≡ is_due sys.settings.snapshot t.counts
  due_is =
      ap (λ n. nat_lt 0 sys.settings.snapshot && nat_le sys.settings.snapshot n && nat_lt (last_epoch s.start.epoch s.past) (2 ^ 62 - 1)) (sym fits.are_counts.takes)
      ∙ ap (λ n. nat_lt 0 sys.settings.snapshot && nat_le sys.settings.snapshot t.counts.takes && nat_lt n (2 ^ 62 - 1)) (sym fits.are_counts.epoch)

  pub begin_is : is_admitted sys s (Begin (last_epoch s.start.epoch s.past + 1)) ≡ (not t.cut.recording && is_due sys.settings.snapshot t.counts)
  begin_is =
      let next = last_epoch s.start.epoch s.past + 1 in
      live (may_begin sys s next)
      ∙ (ap (λ b. (snapshot_is_due sys s && all_begun_are_kept s.past) && b) (eq-eqb next next refl)
      ∙ (and_true (snapshot_is_due sys s && all_begun_are_kept s.past)
      ∙ (ap (λ b. b && all_begun_are_kept s.past) due_is
      ∙ (ap (λ b. is_due sys.settings.snapshot t.counts && b) kept_by ∙ and_swap (is_due sys.settings.snapshot t.counts) (not t.cut.recording)))))

  pub ask_is : is_admitted sys s Ask ≡ may_ask t.probe
  ask_is = live (row_admits sys s Ask) ∙ ((meets_the_table sys s).ask ∙ ap (λ (q : ProbeValues). may_ask q) (sym fits.is_probe))

  pub duty_is : duty_choice sys s ≡ duty_by (is_complete t.cut) (not t.cut.recording && may_end t.probe) (not t.cut.recording && is_due sys.settings.snapshot t.counts) (may_ask t.probe) t.counts.epoch
  duty_is =
      let last = last_epoch s.start.epoch s.past in
      let seals = is_complete t.cut in
      let ends = not t.cut.recording && may_end t.probe in
      let begins = not t.cut.recording && is_due sys.settings.snapshot t.counts in
      ap (λ b. if b then Some (Seal last) else first_admitted sys s (End ∷ Begin (last + 1) ∷ Ask ∷ [])) seal_is
      ∙ (ap (λ b. if seals then Some (Seal last) else (if b then Some End else first_admitted sys s (Begin (last + 1) ∷ Ask ∷ []))) end_is
      ∙ (ap (λ b. if seals then Some (Seal last) else if ends then Some End else (if b then Some (Begin (last + 1)) else first_admitted sys s (Ask ∷ []))) begin_is
      ∙ (ap (λ b. if seals then Some (Seal last) else if ends then Some End else if begins then Some (Begin (last + 1)) else (if b then Some Ask else None)) ask_is
      ∙ ap (λ n. duty_by seals ends begins (may_ask t.probe) n) (sym fits.are_counts.epoch))))

-- the duty of a hub, by what its tables say
pub hub_duty : (h : HubValues) (t : Tables) → IsHub h → TablesFit (machine h) (state_of h) h.counters t → has_ended (reverse h.journal.events) ≡ false → sealed_epoch (state_of h).past ≡ None →
    (seals ends begins asks : Bool) → is_complete t.cut ≡ seals → (not t.cut.recording && may_end t.probe) ≡ ends → (not t.cut.recording && is_due h.job.settings.snapshot t.counts) ≡ begins → may_ask t.probe ≡ asks →
    duty_choice (machine h) (state_of h) ≡ duty_by seals ends begins asks t.counts.epoch
hub_duty h t k fits going none seals ends begins asks a b c d =
    let n = t.counts.epoch in
    let e = not t.cut.recording && may_end t.probe in
    let s = not t.cut.recording && is_due h.job.settings.snapshot t.counts in
    duty_is (machine h) (state_of h) h.counters t fits (snapshots_of h k) (ended_is h ∙ going) none
    ∙ (ap (λ x. duty_by x e s (may_ask t.probe) n) a
    ∙ (ap (λ x. duty_by seals x s (may_ask t.probe) n) b
    ∙ (ap (λ x. duty_by seals ends x (may_ask t.probe) n) c ∙ ap (λ x. duty_by seals ends begins x n) d)))

-- what a test of closed recordings answers, said of the tables
pub once_closed : (asked opened may_it may answer value : Bool) → asked ≡ opened → may_it ≡ may → answer ≡ (not asked && may_it) → answer ≡ value → (not opened && may) ≡ value
once_closed asked opened may_it may answer value o m is v = ap (λ b. not b && may) (sym o) ∙ (ap (λ b. not asked && b) (sym m) ∙ (sym is ∙ v))

-- a duty that is no Begin and no Seal changes no worker
pub duty_notes : (e : Event) → IsTrue (is_duty e) → ((epoch : ℕ) → e ≡ Begin epoch → ⊥) → ((epoch : ℕ) → e ≡ Seal epoch → ⊥) → IsNote e
duty_notes (Take i k) d b s = absurd (false≢true d)
duty_notes (Give i) d b s = absurd (false≢true d)
duty_notes (Stretch i n) d b s = absurd (false≢true d)
duty_notes (Hold i) d b s = tt
duty_notes (Flag i) d b s = tt
duty_notes Ask d b s = tt
duty_notes (Ack i) d b s = tt
duty_notes (Nack i) d b s = tt
duty_notes (Begin epoch) d b s = absurd (b epoch refl)
duty_notes (Mark i) d b s = absurd (false≢true d)
duty_notes (Seal epoch) d b s = absurd (s epoch refl)
duty_notes (Kept epoch) d b s = absurd (false≢true d)
duty_notes End d b s = tt
duty_notes (Stop c) d b s = absurd (false≢true d)
