-- The first tables of a hub show the state in which its run begins.
use Rattle.std.proofs.Common.{◌≡◌, ℕ, zero, suc, ◌+◌, ◌*◌, ◌<◌, ◌≤◌, Bool, true, false, if◌then◌else◌, IsTrue, refl, sym, ◌∙◌, ap, subst, arith, List, [], ◌∷◌, ◌++◌, length, map, filter, flat_map, take, replicate, slice_get, slice_index_or, append-nil, count_by, cond, None, Some}
use Rattle.std.specs.List.{AllZip, range_with_len}
use Rattle.std.proofs.lemmas.Bool.{true≢false}
use Rattle.std.proofs.lemmas.Option.{slice_get_within}
use Rattle.std.proofs.lemmas.List.{length-append, length-replicate, length-take-le, get_or-map, get_or-replicate}
use Rattle.std.proofs.lemmas.List.Sums.{sum_by-cons}
use Rattle.std.proofs.lemmas.List.FromFn.{length-map-range_with_len, get_or-map-range_with_len}
use Rattle.std.proofs.lemmas.Slice.Zip.{AllZip-long}
use Rattle.value_order.specs.declared.order.Order.{Order}
use Rattle.value_order.specs.declared.TheConstants.{NOTHING}
use Rattle.value_order.specs.Order.{meet_all}
use Rattle.graph_core.specs.declared.fragment.Route.{Route}
use Rattle.graph_core.specs.declared.job.Job.{Job}
use Rattle.graph_core.specs.Graphs.{IsJob}
use Rattle.graph_core.specs.Parts.{FragmentLists, place_count}
use Rattle.graph_core.specs.Queries.{equations_of}
use Rattle.graph_core.specs.Fragments.{Piece, no_piece, piece_at, piece_of, places, numbers_below, fragment_of, fragments_of, owned_of, mirrors_of}
use Rattle.grape_event.specs.declared.event.Event.{Event}
use Rattle.grape_event.specs.JournalList.{JournalList}
use Rattle.token_cut.specs.declared.phase.Phase.{Phase}
use Rattle.token_cut.specs.declared.phase.Phase.TheVariants.{Fresh as FreshPhase, Rest as RestPhase}
use Rattle.token_cut.specs.Parts.{PartValues, SnapshotParts, no_part}
use Rattle.token_cut.specs.CutValues.{CutValues}
use Rattle.legal_journal.specs.Past.{is_tagged}
use Rattle.legal_journal.specs.Delays.{window}
use Rattle.legal_journal.specs.Legal.{start_state, mail_with}
use Rattle.legal_journal.proofs.Probes.{start_length}
use Rattle.legal_journal.proofs.Journals.{no_mail}
use Rattle.stop_probe.specs.Probe.{new_probe}
use Rattle.stop_probe.specs.Journals.{probe_of}
use Rattle.stop_probe.proofs.Following.{follows_events}
use Rattle.message_buffer.specs.BufferValues.{BufferValues}
use Rattle.message_buffer.specs.Buffers.{new_buffer, with_batch}
use Rattle.message_buffer.specs.Posted.{same_class}
use Rattle.base_machine.specs.Machine.{System, system_of, Worker, Batch, Post, no_worker, worker_at, is_fresh, is_running, standing_of, worker_of, base_state_of, posts_from, posts_in, values_for, met_posts, is_empty}
use Rattle.base_machine.specs.Fitness.{IsInForm}
use Rattle.hub_engine.specs.declared.desk.Desk.{Desk}
use Rattle.hub_engine.specs.HubValues.{HubValues}
use Rattle.hub_engine.specs.States.{machine, state_of, works_out, IsHub}
use Rattle.hub_engine.specs.Desks.{HasSizes, DeskFits, CutFits, CountsFit, Tables, TablesFit, is_out}
use Rattle.hub_engine.specs.Posting.{with_posts}
use Rattle.hub_engine.specs.Openings.{IsPartFor, IsEmptyCut, is_fresh_phase, with_start_mail, new_desk, new_desks}
use Rattle.hub_engine.proofs.Mail.{no_posts_met}
use Rattle.hub_engine.proofs.Receipts.{plain_posts}
use Rattle.hub_engine.proofs.Opening.{all_fit}

-- ---- what is posted to an empty buffer

mail_with-none : (o : Order) (posts : List Post) (a m : ℕ) → mail_with o a posts (replicate m NOTHING) ≡ map (λ q. meet_all o NOTHING (values_for q posts)) (range_with_len a m)
mail_with-none o posts a zero = refl
mail_with-none o posts a (suc m) = ap (λ l. meet_all o NOTHING (values_for a posts) ∷ l) (mail_with-none o posts (a + 1) m)

-- ---- the mail of a worker that begins

-- the mail of a worker in a state, where these batches wait beside that of the start
abbrev buffer_with : Order → ℕ → List Post → List Batch → List Batch → BufferValues
buffer_with o mirrors posts plain tagged =
    record {
      order = o;
      plain = met_posts o mirrors (posts ++ posts_in plain);
      tagged = met_posts o mirrors (posts_in tagged);
      plain_batches = (if is_empty posts then 0 else 1) + length plain;
      tagged_batches = length tagged;
    }

posted_at_start : (o : Order) (m : ℕ) (posts : List Post) → (if is_empty posts then new_buffer o m else with_posts false posts (with_batch false (new_buffer o m))) ≡ buffer_with o m posts [] []
posted_at_start o m [] =
    let none = no_posts_met o m in
    λ t. record { order = o; plain = sym none t; tagged = sym none t; plain_batches = 0; tagged_batches = 0 }
posted_at_start o m (p ∷ posts) =
    let none = no_posts_met o m in
    let met : mail_with o 0 (p ∷ posts) (replicate m NOTHING) ≡ met_posts o m ((p ∷ posts) ++ []) = mail_with-none o (p ∷ posts) 0 m ∙ ap (λ l. met_posts o m l) (sym (append-nil (p ∷ posts))) in
    plain_posts (p ∷ posts) (with_batch false (new_buffer o m)) ∙ λ t. record { order = o; plain = met t; tagged = sym none t; plain_batches = 1; tagged_batches = 0 }

none_wait : (test : ℕ → Batch → Bool) (n : ℕ) (js : List ℕ) → flat_map (λ j. filter (test j) (slice_index_or {A = List Batch} (replicate n []) j [])) js ≡ []
none_wait test n [] = refl
none_wait test n (j ∷ js) = ap (λ l. filter (test j) l ++ flat_map (λ k. filter (test k) (slice_index_or {A = List Batch} (replicate n []) k [])) js) (no_mail n j) ∙ none_wait test n js

-- the batches that wait for a worker with these queues in a class
abbrev waiting_from : Bool → List (List Batch) → List Event → ℕ → List Batch
waiting_from tagged mail past n = flat_map (λ j. filter (λ b. same_class tagged (is_tagged j b.number past)) (slice_index_or mail j [])) (numbers_below n)

abbrev buffer_from : Order → Piece → ℕ → Worker → BufferValues
buffer_from o piece n w = buffer_with o (length piece.mirrors) w.start_posts (waiting_from false w.mail [] n) (waiting_from true w.mail [] n)

buffer_is : (o : Order) (piece : Piece) (count n : ℕ) (part : PartValues) → with_start_mail part.mail (new_buffer o (length piece.mirrors)) ≡ buffer_from o piece n (worker_of count part)
buffer_is o piece count n part =
    let plain : waiting_from false (replicate count []) [] n ≡ [] = none_wait (λ j b. same_class false (is_tagged j b.number [])) count (numbers_below n) in
    let tagged : waiting_from true (replicate count []) [] n ≡ [] = none_wait (λ j b. same_class true (is_tagged j b.number [])) count (numbers_below n) in
    posted_at_start o (length piece.mirrors) (posts_from 0 part.mail) ∙ λ t. buffer_with o (length piece.mirrors) (posts_from 0 part.mail) (sym plain t) (sym tagged t)

-- ---- a worker that begins

not_running : (n : ℕ) (part : PartValues) → is_running (worker_of n part) ≡ false
not_running n part = go part.phase
  where
    go : (p : Phase) → is_running (record { standing = standing_of p; values = part.values; gives = 0; start_posts = posts_from 0 part.mail; mail = replicate n [] }) ≡ false
    go FreshPhase = refl
    go RestPhase = refl

same_phase : (n : ℕ) (part : PartValues) → is_fresh_phase part.phase ≡ is_fresh (worker_of n part)
same_phase n part = go part.phase
  where
    go : (p : Phase) → is_fresh_phase p ≡ is_fresh (record { standing = standing_of p; values = part.values; gives = 0; start_posts = posts_from 0 part.mail; mail = replicate n [] })
    go FreshPhase = refl
    go RestPhase = refl

-- ---- the first desks

module _ (job : Job) (start : SnapshotParts) (counters i : ℕ) (i_in : i < job.settings.fragments) (parts_in : i < length start.parts) (part : PartValues) (here : slice_index_or start.parts i no_part ≡ part) (sized : IsPartFor (fragment_of job i) part) where
  abbrev sys : System
  sys = system_of job

  abbrev piece : Piece
  piece = piece_of job i

  abbrev count : ℕ
  count = length start.parts

  piece_here : piece_at sys.pieces i ≡ piece
  piece_here = get_or-map-range_with_len (piece_of job) 0 job.settings.fragments i i no_piece i_in (omega arith)

  worker_here : worker_at (base_state_of start) i ≡ worker_of count part
  worker_here = get_or-map (worker_of count) start.parts i no_part no_worker parts_in ∙ ap (worker_of count) here

  -- the owned values of a new Local
  abbrev blank : List ℕ
  blank = replicate (length piece.owned) 0

  blank_length : length blank ≡ length piece.owned
  blank_length = length-replicate (length piece.owned) 0

  sizes : HasSizes piece counters (take (length blank) part.values) (replicate (length piece.owned * counters) 0) (replicate (length piece.mirrors) NOTHING)
  sizes =
      let all = sized.values in
      let owned = blank_length in
      record {
        owned = length-take-le (length blank) part.values (omega (arith, all, owned)) ∙ owned;
        room = length-replicate (length piece.owned * counters) 0;
        mirrors = length-replicate (length piece.mirrors) NOTHING;
      }

  before_is : take (length blank) part.values ≡ take (length piece.owned) part.values
  before_is = ap (λ n. take n part.values) blank_length

  pub desk_fits : DeskFits sys (start_state start) counters i (new_desk (equations_of job).order counters (fragment_of job i) part)
  desk_fits =
      let before = take (length blank) part.values in
      let counts : List ℕ = replicate (length piece.owned * counters) 0 in
      let hand = replicate (length piece.mirrors) NOTHING in
      let there = sym worker_here in
      let piece_there = sym piece_here in
      record {
        seat = (
          subst (λ (w : Worker). is_running w ≡ false) there (not_running count part),
          subst (λ (w : Worker). is_fresh_phase part.phase ≡ is_fresh w) there (same_phase count part),
          subst (λ (w : Worker). part.values ≡ w.values) there refl,
          subst (λ (w : Worker). before ≡ take (length (piece_at sys.pieces i).owned) w.values) there (subst (λ (p : Piece). before ≡ take (length p.owned) part.values) piece_there before_is),
          refl,
          subst (λ (p : Piece). HasSizes p counters before counts hand) piece_there sizes,
        );
        delay = refl;
        round = sym (get_or-replicate count i 0 0 parts_in);
        pulse = ap (λ (l : List ℕ). window l) (sym (get_or-replicate {A = List ℕ} count i [] [] parts_in));
        buffer = buffer_is sys.equations.order piece count (length (base_state_of start)) part ∙ λ t. buffer_from sys.equations.order (piece_there t) (length (base_state_of start)) (there t);
        begun = refl;
      }

-- each desk is that of its fragment and its part
each_desk : (order : Order) (counters : ℕ) (f : FragmentLists) (fragments : List FragmentLists) (parts : List PartValues) (i : ℕ) (d : Desk) → AllZip IsPartFor fragments parts → slice_get (new_desks order counters fragments parts) i ≡ Some d →
    (i < length fragments) × (i < length parts) × IsPartFor (slice_index_or fragments i f) (slice_index_or parts i no_part) × (d ≡ new_desk order counters (slice_index_or fragments i f) (slice_index_or parts i no_part))
each_desk order counters f [] [] i d h found = absurd (let l = slice_get_within (new_desks order counters [] []) i d found in omega (arith, l))
each_desk order counters f [] (p ∷ parts) i d h found = absurd h
each_desk order counters f (g ∷ fragments) [] i d h found = absurd h
each_desk order counters f (g ∷ fragments) (p ∷ parts) zero d h found = (omega arith, omega arith, h.0, cc)
each_desk order counters f (g ∷ fragments) (p ∷ parts) (suc i) d h found =
    let k = each_desk order counters f fragments parts i d h.1 found in
    let a = k.0 in
    let b = k.1 in
    (omega (arith, a), omega (arith, b), k.2, k.3)

pub desks_many : (order : Order) (counters : ℕ) (fragments : List FragmentLists) (parts : List PartValues) → AllZip IsPartFor fragments parts → length (new_desks order counters fragments parts) ≡ length parts
desks_many order counters [] [] h = refl
desks_many order counters [] (p ∷ parts) h = absurd h
desks_many order counters (f ∷ fragments) [] h = absurd h
desks_many order counters (f ∷ fragments) (p ∷ parts) h = let k = desks_many order counters fragments parts h.1 in omega (arith, k)

pub all_here : (order : Order) (counters : ℕ) (fragments : List FragmentLists) (parts : List PartValues) → count_by is_out (new_desks order counters fragments parts) ≡ 0
all_here order counters [] parts = refl
all_here order counters (f ∷ fragments) [] = refl
all_here order counters (f ∷ fragments) (p ∷ parts) =
    let more = sum_by-cons (λ (d : Desk). cond (is_out d) 1 0) (new_desk order counters f p) (new_desks order counters fragments parts) in
    let again = all_here order counters fragments parts in
    omega (arith, more, again)

-- ---- the first tables

same_routes : (job : Job) (is : List ℕ) → map (λ (part : FragmentLists). part.routes) (map (fragment_of job) is) ≡ map (λ (piece : Piece). piece.routes) (map (piece_of job) is)
same_routes job [] = refl
same_routes job (i ∷ is) = ap (λ (l : List (List (List Route))). (fragment_of job i).routes ∷ l) (same_routes job is)

same_sizes : (job : Job) (is : List ℕ) → map {B = ℕ × ℕ} (λ (part : FragmentLists). (place_count part, length part.mirrors)) (map (fragment_of job) is) ≡ map {B = ℕ × ℕ} (λ (piece : Piece). (length (places piece), length piece.mirrors)) (map (piece_of job) is)
same_sizes job [] = refl
same_sizes job (i ∷ is) =
    let all = length-append (owned_of job i) (mirrors_of job i) in
    let more = same_sizes job is in
    λ t. (sym all t, length (mirrors_of job i)) ∷ more t

cut_fits : (job : Job) (start : SnapshotParts) (cut : CutValues) → IsEmptyCut job.settings.snapshot (equations_of job).order (fragments_of job) cut → CutFits (system_of job) (start_state start) cut
cut_fits job start cut empty =
    let open_not : IsTrue cut.recording → ⊥ = λ h. true≢false (sym h ∙ empty.closed) in
    record {
      order = empty.meets;
      sizes = λ h. empty.sizes h ∙ same_sizes job (numbers_below job.settings.fragments);
      asked = λ h. absurd (open_not h);
      recording = empty.closed;
      epoch = λ h. absurd (open_not h);
      marks = λ h. absurd (open_not h);
      marked = λ h. absurd (open_not h);
      parts = λ h. absurd (open_not h);
    }

module _ (job : Job) (start : SnapshotParts) (is_job : IsJob job) (form : IsInForm (system_of job) start) where
  abbrev n : ℕ
  n = job.settings.fragments

  fragment_count : length (fragments_of job) ≡ n
  fragment_count = length-map-range_with_len (fragment_of job) 0 n

  fit : AllZip IsPartFor (fragments_of job) start.parts
  fit = all_fit job is_job (fragments_of job) start refl form

  parts_are : length start.parts ≡ n
  parts_are = AllZip-long IsPartFor (fragments_of job) start.parts fit ∙ fragment_count

  workers_count : length (base_state_of start) ≡ n
  workers_count = start_length start ∙ parts_are

  pub tables_fit : (counters : ℕ) (t : Tables) → t.routes ≡ map (λ part. part.routes) (fragments_of job) → t.desks ≡ new_desks (equations_of job).order counters (fragments_of job) start.parts → t.probe ≡ new_probe job.settings.fragments →
      IsEmptyCut job.settings.snapshot (equations_of job).order (fragments_of job) t.cut → t.counts ≡ record { epoch = start.epoch; takes = 0; sealed = None } → t.turn ≡ 0 → TablesFit (system_of job) (start_state start) counters t
  tables_fit counters t routes_are desks_are probe_is cut_is counts_are turn_is =
      let order = (equations_of job).order in
      record {
        are_routes = routes_are ∙ same_routes job (numbers_below n);
        count = ap (λ (l : List Desk). length l) desks_are ∙ (desks_many order counters (fragments_of job) start.parts fit ∙ sym (start_length start));
        is_probe = probe_is ∙ (sym (follows_events n).0 ∙ ap (λ m. probe_of m []) (sym workers_count));
        is_cut = cut_fits job start t.cut cut_is;
        are_counts = subst (CountsFit (start_state start)) (sym counts_are) (record { epoch = refl; takes = refl; sealed = refl });
        is_turn = turn_is;
        fit = λ i d found.
            let none = fragment_of job n in
            let k = each_desk order counters none (fragments_of job) start.parts i d fit (ap (λ (l : List Desk). slice_get l i) (sym desks_are) ∙ found) in
            let inside = k.0 in
            let count = fragment_count in
            let i_in : i < n = omega (arith, inside, count) in
            let part = slice_index_or start.parts i no_part in
            let fragment : slice_index_or (fragments_of job) i none ≡ fragment_of job i = get_or-map-range_with_len (fragment_of job) 0 n i i none i_in (omega arith) in
            subst (DeskFits (system_of job) (start_state start) counters i) (sym (k.3 ∙ ap (λ (f : FragmentLists). new_desk order counters f part) fragment))
            (desk_fits job start counters i i_in k.1 part refl (subst (λ (f : FragmentLists). IsPartFor f part) fragment k.2));
      }

-- ---- the first hub

nobody_out : (n : ℕ) (parts : List PartValues) → works_out (map (worker_of n) parts) ≡ 0
nobody_out n [] = refl
nobody_out n (part ∷ parts) =
    let more = sum_by-cons (λ (w : Worker). if is_running w then 1 else 0) (worker_of n part) (map (worker_of n) parts) in
    let idle = ap {B = ℕ} (λ b. if b then 1 else 0) (not_running n part) in
    let again = nobody_out n parts in
    omega (arith, more, idle, again)

pub first_is_hub : (job : Job) (counters spare : ℕ) (start : SnapshotParts) → IsJob job → IsInForm (system_of job) start → 1 ≤ spare → IsHub (record { job = job; counters = counters; start = start; journal = record { events = []; spare = spare } })
first_is_hub job counters spare start is_job form one =
    let none = nobody_out (length start.parts) start.parts in
    record { job = is_job; start = form; legal = refl; room = λ going. omega (arith, none, one) }

-- What a hub keeps holds of a first one, whose parts were made as this says. The program is for a job and has so many counters for it.
pub opens : (is_for : Job → Type 0) (counters_for : Job → ℕ) (job copy : Job) (start : SnapshotParts) (journal : JournalList) (counters : ℕ) (order : Order) (fragments : List FragmentLists) (t : Tables) →
    IsJob job → is_for job → IsInForm (system_of job) start → fragments ≡ fragments_of job → order ≡ (equations_of job).order → counters ≡ counters_for job →
    t.routes ≡ map (λ part. part.routes) fragments → t.desks ≡ new_desks order counters fragments start.parts → t.probe ≡ new_probe job.settings.fragments → IsEmptyCut job.settings.snapshot order fragments t.cut →
    t.counts ≡ record { epoch = start.epoch; takes = 0; sealed = None } → t.turn ≡ 0 → copy ≡ job → journal.events ≡ [] → 1 ≤ journal.spare →
    let h : HubValues = record { job = copy; counters = counters_for copy; start = start; journal = journal } in
    is_for copy × IsHub h × TablesFit (machine h) (state_of h) (counters_for copy) t
opens is_for counters_for job copy start journal counters order fragments t is_job for_job form parts same_order same_counters routes_are desks_are probe_is cut_is counts_are turn_is same_job no_events one =
    let Kept : Job → List Event → Type 0 =
    λ j es. is_for j × IsHub (record { job = j; counters = counters_for j; start = start; journal = record { events = es; spare = journal.spare } })
    × TablesFit (machine (record { job = j; counters = counters_for j; start = start; journal = record { events = es; spare = journal.spare } })) (state_of (record { job = j; counters = counters_for j; start = start; journal = record { events = es; spare = journal.spare } })) (counters_for j) t in
    let made : t.desks ≡ new_desks (equations_of job).order (counters_for job) (fragments_of job) start.parts = desks_are ∙ λ k. new_desks (same_order k) (same_counters k) (parts k) start.parts in
    let empty : IsEmptyCut job.settings.snapshot (equations_of job).order (fragments_of job) t.cut =
    subst (λ (o : Order). IsEmptyCut job.settings.snapshot o (fragments_of job) t.cut) same_order (subst (λ (fs : List FragmentLists). IsEmptyCut job.settings.snapshot order fs t.cut) parts cut_is) in
    let first : Kept job [] = (
      for_job,
      first_is_hub job (counters_for job) journal.spare start is_job form one,
      tables_fit job start is_job form (counters_for job) t (routes_are ∙ ap (map (λ (part : FragmentLists). part.routes)) parts) made probe_is empty counts_are turn_is,
    ) in
    subst (λ j. Kept j journal.events) (sym same_job) (subst (Kept job) (sym no_events) first)
