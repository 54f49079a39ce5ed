-- A Begin and a Mark keep the hub's tables fitting the state.
use Rattle.std.proofs.Common.{◌≡◌, ℕ, zero, suc, ◌<◌, ◌≤◌, inl, inr, Bool, true, false, ◌&&◌, ◌||◌, nat_lt, if◌then◌else◌, IsTrue, refl, sym, ◌∙◌, ap, subst, arith, List, [], ◌∷◌, length, slice_set, slice_index_or, length-set}
use Rattle.std.specs.List.{AllByRecursion}
use Rattle.std.proofs.lemmas.Bool.{eq-eqb, ne_eqb, cases_eq, le-ltb, false≢true}
use Rattle.std.proofs.lemmas.List.{length-map, length-replicate, get_or-replicate, get_or-set_same, get_or-set_other}
use Rattle.std.proofs.lemmas.Option.{slice_get_within}
use Rattle.graph_core.specs.Fragments.{Piece, places}
use Rattle.grape_event.specs.declared.event.Event.TheVariants.{Begin, Mark}
use Rattle.token_cut.specs.Parts.{PartValues, part_at}
use Rattle.token_cut.specs.Shapes.{size_of, sizes_of}
use Rattle.token_cut.specs.Recording.{after_begin, after_mark}
use Rattle.base_machine.specs.Machine.{System, Batch, worker_at}
use Rattle.legal_journal.specs.Past.{is_tagged, recording_is_open, gives_before_mark, gives_of}
use Rattle.legal_journal.specs.Past.{is_marked as was_marked}
use Rattle.legal_journal.specs.Legal.{State, worker_count, no_part, part_at_mark, state_after}
use Rattle.legal_journal.proofs.Journals.{AreCounted}
use Rattle.legal_journal.proofs.Ledger.{takes-more}
use Rattle.hub_engine.specs.Desks.{Tables, TablesFit}
use Rattle.hub_engine.proofs.Classes.{buffer_kept}
use Rattle.hub_engine.proofs.Steps.{same_desk, probe_fits}

-- ---- a Begin

-- no batch has a token before a Begin, or after it
none_tagged : (s : State) (epoch j : ℕ) (bs : List Batch) → recording_is_open s.past ≡ false → AllByRecursion (λ (b : Batch). is_tagged j b.number (Begin epoch ∷ s.past) ≡ is_tagged j b.number s.past) bs
none_tagged s epoch j [] closed = tt
none_tagged s epoch j (b ∷ bs) closed =
    (sym (ap (λ o. o && was_marked j s.past && nat_lt (gives_before_mark j s.past) b.number) closed), none_tagged s epoch j bs closed)

-- the tables in which a recording of this epoch opens
abbrev pub begun_in : ℕ → Tables → Tables
begun_in epoch t =
    record { routes = t.routes; desks = t.desks; probe = t.probe; cut = after_begin epoch t.cut; counts = record { epoch = epoch; takes = 0; sealed = t.counts.sealed }; turn = t.turn }

module _ (sys : System) (s : State) (counters : ℕ) (t : Tables) (epoch : ℕ) (fits : TablesFit sys s counters t) (closed : recording_is_open s.past ≡ false) (asked : 1 ≤ sys.settings.snapshot) (pieces : length sys.pieces ≡ worker_count s) where
  parts_count : length t.cut.parts ≡ worker_count s
  parts_count =
      let a = length-map t.cut.parts size_of in
      let b = ap (λ (l : List (ℕ × ℕ)). length l) (fits.is_cut.sizes asked) in
      let c = length-map {B = ℕ × ℕ} sys.pieces (λ (piece : Piece). (length (places piece), length piece.mirrors)) in
      omega (arith, a, b, c, pieces)

  pub begin_fits : TablesFit sys (state_after sys s (Begin epoch)) counters (begun_in epoch t)
  begin_fits = record {
    are_routes = fits.are_routes;
    count = fits.count;
    is_probe = probe_fits sys s (Begin epoch) t.probe fits.is_probe;
    is_cut = record {
      order = fits.is_cut.order;
      sizes = fits.is_cut.sizes;
      asked = λ on. asked;
      recording = refl;
      epoch = λ on. refl;
      marks = λ on. length-replicate (length t.cut.parts) false ∙ parts_count;
      marked = λ on i l. get_or-replicate (length t.cut.parts) i false false (let n = parts_count in omega (arith, l, n));
      parts = λ on i l k. absurd (false≢true k);
    };
    are_counts = record { epoch = refl; takes = sym (takes-more (Begin epoch) s.past); sealed = fits.are_counts.sealed };
    is_turn = fits.is_turn;
    fit = λ j d here. same_desk sys s (state_after sys s (Begin epoch)) counters j d refl refl refl refl refl refl refl (buffer_kept sys s (Begin epoch) j refl (λ k. none_tagged s epoch k (slice_index_or (worker_at s.workers j).mail k []) closed)) (fits.fit j d here);
  }

-- ---- a Mark

-- the batches that worker i sent before its Mark have no token after it
mark_leaves : (s : State) (i j : ℕ) (bs : List Batch) → was_marked i s.past ≡ false → (j ≡ i → AllByRecursion (λ (b : Batch). b.number ≤ gives_of i s.past) bs) →
    AllByRecursion (λ (b : Batch). is_tagged j b.number (Mark i ∷ s.past) ≡ is_tagged j b.number s.past) bs
mark_leaves s i j [] unmarked low = tt
mark_leaves s i j (b ∷ bs) unmarked low = (
  elim (cases_eq j i) [
    | inl e ↦
        let l = (low e).0 in
        let old : is_tagged j b.number s.past ≡ false = tagged_unmarked (recording_is_open s.past) (was_marked j s.past) (nat_lt (gives_before_mark j s.past) b.number) (ap (λ k. was_marked k s.past) e ∙ unmarked) in
        let before : gives_before_mark j (Mark i ∷ s.past) ≡ gives_of j s.past = ap (λ c. if c then gives_of j s.past else gives_before_mark j s.past) (eq-eqb j i e) in
        let late : nat_lt (gives_before_mark j (Mark i ∷ s.past)) b.number ≡ false = ap (λ n. nat_lt n b.number) (before ∙ ap (λ k. gives_of k s.past) e) ∙ le-ltb (gives_of i s.past) b.number l in
        tagged_early (recording_is_open s.past) (was_marked j (Mark i ∷ s.past)) (nat_lt (gives_before_mark j (Mark i ∷ s.past)) b.number) late ∙ sym old
    | inr n ↦
        ap (λ c. recording_is_open s.past && (c || was_marked j s.past) && nat_lt (if c then gives_of j s.past else gives_before_mark j s.past) b.number) (ne_eqb j i n)
  ],
  mark_leaves s i j bs unmarked (λ e. (low e).1),
)
  where
    tagged_unmarked : (o m n : Bool) → m ≡ false → (o && m && n) ≡ false
    tagged_unmarked true m n h = ap (λ c. c && n) h
    tagged_unmarked false m n h = refl

    tagged_early : (o m n : Bool) → n ≡ false → (o && m && n) ≡ false
    tagged_early true true n h = h
    tagged_early true false n h = refl
    tagged_early false m n h = refl

-- the tables in which worker i is marked, and this is recorded of it
abbrev pub marked_in : ℕ → PartValues → Tables → Tables
marked_in i part t = record { routes = t.routes; desks = t.desks; probe = t.probe; cut = after_mark i part t.cut; counts = t.counts; turn = t.turn }

sizes_set : (parts : List PartValues) (i : ℕ) (part : PartValues) → size_of part ≡ size_of (part_at i parts) → sizes_of (slice_set parts i part) ≡ sizes_of parts
sizes_set [] i part h = refl
sizes_set (p ∷ parts) zero part h = ap (λ z. z ∷ sizes_of parts) h
sizes_set (p ∷ parts) (suc i) part h = ap (λ l. size_of p ∷ l) (sizes_set parts i part h)

module _ (sys : System) (s : State) (counters : ℕ) (t : Tables) (i : ℕ) (part : PartValues) (counted : AreCounted (worker_count s) s) (fits : TablesFit sys s counters t) (inside : i < worker_count s) (recorded : worker_count s ≡ length s.recorded)
    (opened : recording_is_open s.past ≡ true) (unmarked : was_marked i s.past ≡ false) (is : part ≡ part_at_mark sys s i) (parts : length t.cut.parts ≡ worker_count s) (size : size_of part ≡ size_of (part_at i t.cut.parts)) where
  on : IsTrue t.cut.recording
  on = fits.is_cut.recording ∙ opened

  marks_at : (j : ℕ) → j < worker_count s → slice_index_or (slice_set t.cut.marked i true) j false ≡ was_marked j (Mark i ∷ s.past)
  marks_at j l = elim (cases_eq j i) [
    | inl e ↦
        (let n = fits.is_cut.marks on in subst (λ k. slice_index_or (slice_set t.cut.marked i true) k false ≡ true) (sym e) (get_or-set_same t.cut.marked i true false (omega (arith, n, inside))))
        ∙ sym (ap (λ c. c || was_marked j s.past) (eq-eqb j i e))
    | inr n ↦ get_or-set_other t.cut.marked i j true false n ∙ (fits.is_cut.marked on j l ∙ sym (ap (λ c. c || was_marked j s.past) (ne_eqb j i n)))
  ]

  parts_at : (j : ℕ) → j < worker_count s → was_marked j (Mark i ∷ s.past) ≡ true → part_at j (slice_set t.cut.parts i part) ≡ slice_index_or (slice_set s.recorded i (part_at_mark sys s i)) j no_part
  parts_at j l k = elim (cases_eq j i) [
    | inl e ↦
        subst (λ q. part_at q (slice_set t.cut.parts i part) ≡ slice_index_or (slice_set s.recorded i (part_at_mark sys s i)) q no_part) (sym e)
        (get_or-set_same t.cut.parts i part _ (omega (arith, parts, inside)) ∙ (is ∙ sym (get_or-set_same s.recorded i (part_at_mark sys s i) no_part (omega (arith, recorded, inside)))))
    | inr n ↦
        get_or-set_other t.cut.parts i j part _ n
        ∙ (fits.is_cut.parts on j l (sym (ap (λ c. c || was_marked j s.past) (ne_eqb j i n)) ∙ k) ∙ sym (get_or-set_other s.recorded i j (part_at_mark sys s i) no_part n))
  ]

  pub mark_fits : TablesFit sys (state_after sys s (Mark i)) counters (marked_in i part t)
  mark_fits = record {
    are_routes = fits.are_routes;
    count = fits.count;
    is_probe = probe_fits sys s (Mark i) t.probe fits.is_probe;
    is_cut = record {
      order = fits.is_cut.order;
      sizes = λ asked. sizes_set t.cut.parts i part size ∙ fits.is_cut.sizes asked;
      asked = fits.is_cut.asked;
      recording = fits.is_cut.recording;
      epoch = fits.is_cut.epoch;
      marks = λ o. length-set t.cut.marked i true ∙ fits.is_cut.marks o;
      marked = λ o j l. marks_at j l;
      parts = λ o j l k. parts_at j l k;
    };
    are_counts = record { epoch = fits.are_counts.epoch; takes = fits.are_counts.takes ∙ sym (let m = takes-more (Mark i) s.past in omega (arith, m)); sealed = fits.are_counts.sealed };
    is_turn = fits.is_turn;
    fit = λ j d here.
        let l = slice_get_within t.desks j d here in
        let c = fits.count in
        same_desk sys s (state_after sys s (Mark i)) counters j d refl refl refl refl refl refl refl
        (buffer_kept sys s (Mark i) j refl
        (λ k. mark_leaves s i k (slice_index_or (worker_at s.workers j).mail k []) unmarked
        (λ e. subst (λ q. AllByRecursion (λ (b : Batch). b.number ≤ gives_of i s.past) (slice_index_or (worker_at s.workers j).mail q [])) (sym e) ((counted.mail j (omega (arith, l, c))).numbers i inside))))
        (fits.fit j d here);
  }
