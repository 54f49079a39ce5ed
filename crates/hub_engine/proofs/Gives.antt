-- A hub that gets a Work back.
use Rattle.std.proofs.Common.{◌≡◌, ℕ, ◌+◌, ◌-◌, ◌^◌, ◌<◌, ◌≤◌, Bool, false, not, ◌&&◌, if◌then◌else◌, IsTrue, refl, sym, ◌∙◌, ap, subst, arith, List, [], ◌∷◌, ◌++◌, length, length-append, length-set, take, drop, reverse, slice_get, slice_set, slice_index, slice_index_or, count_by, Some}
use Rattle.std.specs.Option.{is_some}
use Rattle.std.proofs.lemmas.Bool.{and_from, not_from_false, lt-ltb}
use Rattle.std.proofs.lemmas.List.{length-map, length-reverse, append-nil, take_all}
use Rattle.std.proofs.lemmas.Option.{slice_get-get_or}
use Rattle.graph_core.specs.declared.fragment.Route.{Route}
use Rattle.graph_core.specs.Fragments.{piece_at}
use Rattle.grape_event.specs.declared.event.Event.{Event}
use Rattle.grape_event.specs.declared.event.Event.TheVariants.{Give}
use Rattle.token_cut.specs.Parts.{PartValues}
use Rattle.token_cut.specs.CutValues.{CutValues}
use Rattle.token_cut.specs.Recording.{is_marked}
use Rattle.pie_core.specs.Locals.{LocalValues}
use Rattle.pie_core.specs.LocalCalls.{settled}
use Rattle.base_machine.specs.Machine.{System, posts_to}
use Rattle.legal_journal.specs.Past.{has_ended}
use Rattle.legal_journal.specs.Legal.{State, start_state, state_after, worker_count, is_admitted, is_worker, may_give}
use Rattle.legal_journal.proofs.Walks.{kept_along}
use Rattle.hub_engine.specs.declared.desk.Desk.{Desk}
use Rattle.hub_engine.specs.declared.sender.Sender.{Sender}
use Rattle.hub_engine.specs.declared.work.Work.{Work}
use Rattle.hub_engine.specs.HubValues.{HubValues}
use Rattle.hub_engine.specs.States.{machine, state_of, works_out, sealed_epoch, IsHub}
use Rattle.hub_engine.specs.Desks.{Tables, TablesFit, rested_desk, is_out}
use Rattle.hub_engine.specs.Posting.{posted, LeadToDesks, ChangesAreValues, AllCanReceive, HasMailOf, recorded_with}
use Rattle.hub_engine.specs.Calls.{Appended, MayGive}
use Rattle.hub_engine.proofs.Hubs.{past_of, ended_is, counted_of, piece_count, workers_are, few_workers, same_machine, state_grown, hub_grown}
use Rattle.hub_engine.proofs.Formed.{sound, formed}
use Rattle.hub_engine.proofs.Waiting.{FewWait, few_kept, few_begin, some_take, one_back}
use Rattle.hub_engine.proofs.Clocks.{in_time}
use Rattle.hub_engine.proofs.Given
use Rattle.hub_engine.proofs.Given.{CanGive, posted_length}
use Rattle.hub_engine.proofs.Totals

-- no more batches wait than there are events
few_of : (h : HubValues) → IsHub h → FewWait (state_of h)
few_of h hub = kept_along (machine h) FewWait (λ s e a few. few_kept (machine h) s e few) h.journal.events (start_state h.start) hub.legal (few_begin h.start)

-- ---- the desks as they were written

written_whole : (n : ℕ) (xs ys : List Desk) → length xs ≡ length ys → n ≡ length ys → take n (xs ++ drop (length xs) ys) ≡ xs
written_whole n xs ys e f = ap (λ l. take n (xs ++ l)) (no_rest xs ys e) ∙ (ap (λ l. take n l) (append-nil xs) ∙ take_all n xs (omega (arith, e, f)))
  where
    no_rest : (xs ys : List Desk) → length xs ≡ length ys → drop (length xs) ys ≡ []
    no_rest [] [] e = refl
    no_rest [] (y ∷ ys) e = absurd (omega (arith, e))
    no_rest (x ∷ xs) [] e = refl
    no_rest (x ∷ xs) (y ∷ ys) e = no_rest xs ys (omega (arith, e))

-- ---- the Give of a Work

pub may_here : {h now : HubValues} {lane : ℕ} {work : Work} → h ≡ now → MayGive now lane work → MayGive h lane work
may_here {lane = lane} {work = work} e may = subst (λ (h : HubValues). MayGive h lane work) (sym e) may

pub going_here : {h now : HubValues} → h ≡ now → has_ended (reverse now.journal.events) ≡ false → has_ended (reverse h.journal.events) ≡ false
going_here e going = ap (λ (h : HubValues). has_ended (reverse h.journal.events)) e ∙ going

-- ---- what is owed

some_owed : (a k n : ℕ) → a + k + 1 ≤ n → 1 ≤ n
some_owed a k n h = omega (arith, h)

owed_less : (a b k m n : ℕ) → a + 1 ≡ b → b + k + 1 ≤ m → n + 1 ≡ m → a + k + 1 ≤ n
owed_less a b k m n back room spare = omega (arith, back, room, spare)

-- for the Kept of a sealed snapshot
abbrev kept_owed : State → ℕ
kept_owed s = if is_some (sealed_epoch s.past) then 1 else 0

-- the sender of a Give
abbrev pub sender_of : HubValues → Tables → ℕ → Sender
sender_of h t i = record { place = length (state_of h).past; round = slice_index (state_of h).rounds i + 1; tagged = t.cut.recording && is_marked i t.cut }

module _ {h : HubValues} (hub : IsHub h) {t : Tables} (fits : TablesFit (machine h) (state_of h) h.counters t) {lane : ℕ} {work : Work} (may : MayGive h lane work) (going : has_ended (reverse h.journal.events) ≡ false) where
  abbrev s : State
  s = state_of h

  abbrev i : ℕ
  i = work.worker

  abbrev rows_here : List (List Route)
  rows_here = (piece_at (machine h).pieces i).routes

  abbrev sent_now : List Desk
  sent_now = posted (sender_of h t i) work.local.before work.local.values rows_here t.desks

  can : CanGive (machine h) s h.counters t i work.local work.hand
  can =
      record {
        sound = sound h hub;
        workers = workers_are h hub ∙ sym (piece_count h);
        form = formed h hub i may.out.in_range;
        counted = counted_of h hub;
        fits = fits;
        in_range = may.out.in_range;
        values = may.values;
        before = may.before;
        order = may.order;
        sizes = may.sizes;
      }

  pub one_spare : 1 ≤ h.journal.spare
  one_spare = some_owed (works_out s.workers) (kept_owed s) h.journal.spare (hub.room going)

  pub few_desks : length t.desks ≤ 64
  few_desks = let a = fits.count in let b = few_workers h hub in omega (arith, a, b)

  pub desk_within : i < length t.desks
  desk_within = let a = fits.count in let b = may.out.in_range in omega (arith, a, b)

  -- where a recording is open it has a part for the worker
  pub part_within : IsTrue t.cut.recording → i < length t.cut.parts
  part_within on =
      let a = ap (λ (l : List ℕ). length l) (Given.has_mail_of can on) in
      let b = length-map t.cut.parts (λ (part : PartValues). length part.mail) in
      let c = length-map t.desks (λ (d : Desk). length d.buffer.plain) in
      let d = desk_within in
      omega (arith, a, b, c, d)

  pub has_mail_of : HasMailOf t.desks t.cut
  has_mail_of = Given.has_mail_of can

  pub routes_within : i < length t.routes
  routes_within = Given.routes_within can

  pub routes_here : (d : List (List Route)) → slice_index_or t.routes i d ≡ rows_here
  routes_here = Given.routes_here can

  pub rows_fit : length rows_here ≡ length work.local.before
  rows_fit = Given.rows_fit can

  pub lead_to_desks : LeadToDesks rows_here t.desks
  lead_to_desks = Given.lead_to_desks can

  pub changes_are_values : ChangesAreValues work.local.before work.local.values
  changes_are_values = Given.changes_are_values can

  -- ---- the place and the round

  past_length : length s.past ≡ length h.journal.events
  past_length = ap (λ (l : List Event). length l) (past_of h) ∙ length-reverse h.journal.events

  desk_here : (d : Desk) → slice_get t.desks i ≡ Some (slice_index_or t.desks i d)
  desk_here d = slice_get-get_or t.desks i d desk_within

  round_here : (d : Desk) → (slice_index_or t.desks i d).round ≡ slice_index s.rounds i
  round_here d = (fits.fit i (slice_index_or t.desks i d) (desk_here d)).round

  short_past : (events : List Event) → events ≡ h.journal.events ++ Give i ∷ [] → length events < 2 ^ 64 → length s.past < 2 ^ 64 - 1
  short_past events e l =
      let a = ap (λ (l : List Event). length l) e in
      let b = length-append h.journal.events (Give i ∷ []) in
      let c = past_length in
      omega (arith, a, b, c, l)

  -- the round after the Give
  pub round_fits : (d : Desk) (events : List Event) → events ≡ h.journal.events ++ Give i ∷ [] → length events < 2 ^ 64 → (slice_index_or t.desks i d).round + 1 < 2 ^ 64
  round_fits d events e l =
      let a = round_here d in
      let b = (in_time h hub).rounds i in
      let c = short_past events e l in
      omega (arith, a, b, c)

  pub sender_is : (d : Desk) (place round : ℕ) (tagged : Bool) → place ≡ length h.journal.events → round ≡ (slice_index_or t.desks i d).round + 1 → tagged ≡ (t.cut.recording && is_marked i t.cut) →
      record { place = place; round = round; tagged = tagged } ≡ sender_of h t i
  sender_is d place round tagged p r g =
      let a = p ∙ sym past_length in
      let b = r ∙ ap (λ n. n + 1) (round_here d) in
      λ k. record { place = a k; round = b k; tagged = g k }

  pub can_receive : (place : ℕ) (events : List Event) → place ≡ length h.journal.events → events ≡ h.journal.events ++ Give i ∷ [] → length events < 2 ^ 64 → AllCanReceive place t.desks
  can_receive place events p e l =
      subst (λ n. AllCanReceive n t.desks) (past_length ∙ sym p) (Given.can_receive can (few_of h hub) (in_time h hub) (some_take i lane s.past may.out.by_lane) (short_past events e l))

  -- ---- the hub after it

  admitted : IsTrue (is_admitted (machine h) s (Give i))
  admitted =
      and_from (not (has_ended s.past)) (is_worker s i && may_give s i) (not_from_false (has_ended s.past) (ended_is h ∙ going))
      (and_from (is_worker s i) (may_give s i) (lt-ltb i (worker_count s) may.out.in_range) may.out.running)

  pub hub_after : (new : HubValues) → Appended h (Give i) new → new.journal.spare + 1 ≡ h.journal.spare → IsHub new
  hub_after new more spare =
      hub_grown h new (Give i) more hub admitted
      (λ last. owed_less (works_out (state_after (machine h) s (Give i)).workers) (works_out s.workers) (kept_owed s) h.journal.spare new.journal.spare (one_back (machine h) s.workers i may.out.in_range may.out.running) (hub.room going) spare)

  pub some_out : 1 ≤ count_by is_out t.desks
  some_out = Totals.some_out h t i may.out.in_range may.out.running fits

  pub one_less_out : (new : HubValues) (after : Tables) → Appended h (Give i) new → TablesFit (machine new) (state_of new) h.counters after → count_by is_out after.desks + 1 ≡ count_by is_out t.desks
  one_less_out new after more now = Totals.one_less h new t after i may.out.in_range may.out.running fits more now

  -- the tables after it
  abbrev pub tables_with : List Desk → CutValues → Tables
  tables_with after cut = record { routes = t.routes; desks = after; probe = t.probe; cut = cut; counts = t.counts; turn = t.turn }

  abbrev cut_now : CutValues
  cut_now = recorded_with (sender_of h t i) (λ k. posts_to k work.local.before work.local.values rows_here) t.cut

  pub tables_after : (new : HubValues) → Appended h (Give i) new → (d : Desk) → slice_get sent_now i ≡ Some d →
      TablesFit (machine new) (state_of new) h.counters (tables_with (slice_set sent_now i (rested_desk (slice_index s.rounds i + 1) (settled work.local) work.hand d)) cut_now)
  tables_after new more d there =
      let after = tables_with (slice_set sent_now i (rested_desk (slice_index s.rounds i + 1) (settled work.local) work.hand d)) cut_now in
      let now = Given.give_fits can d there in
      subst (λ (sys : System). TablesFit sys (state_of new) h.counters after) (sym (same_machine h new (Give i) more))
      (subst (λ (x : State). TablesFit (machine h) x h.counters after) (sym (state_grown h new (Give i) more)) now)

  -- the same for the desks as they are written over the old ones
  pub tables_written : (new : HubValues) → Appended h (Give i) new → (n : ℕ) (sent olds : List Desk) (rows : List (List Route)) (local : LocalValues) (d : Desk) (sender : Sender) (rested : Desk) (cut : CutValues) →
      sent ≡ posted sender work.local.before work.local.values rows olds → rows ≡ rows_here → olds ≡ t.desks → n ≡ length t.desks → local ≡ settled work.local → d ≡ slice_index_or (take n (sent ++ drop (length sent) t.desks)) i d →
      sender ≡ sender_of h t i → rested ≡ rested_desk sender.round local work.hand d → cut ≡ recorded_with sender (λ k. posts_to k work.local.before work.local.values rows) t.cut →
      TablesFit (machine new) (state_of new) h.counters (tables_with (slice_set (take n (sent ++ drop (length sent) t.desks)) i rested) cut)
  tables_written new more n sent olds rows local d sender rested cut posts er eo en el ed es ef ec =
      let is : sent ≡ sent_now =
      posts
      ∙ (ap (λ l. posted sender work.local.before work.local.values l olds) er
      ∙ (ap (posted sender work.local.before work.local.values rows_here) eo ∙ ap (λ (x : Sender). posted x work.local.before work.local.values rows_here t.desks) es)) in
      let count : length sent_now ≡ length t.desks = posted_length (sender_of h t i) 0 work.local.before work.local.values rows_here t.desks in
      let long : length sent ≡ length t.desks = ap (λ (l : List Desk). length l) is ∙ count in
      let whole = written_whole n sent t.desks long en ∙ is in
      let there : slice_get sent_now i ≡ Some d =
      (let l = desk_within in slice_get-get_or sent_now i d (omega (arith, count, l)) ∙ ap (λ x. Some x) (sym (ed ∙ ap (λ (l : List Desk). slice_index_or l i d) whole))) in
      let put : rested ≡ rested_desk (slice_index s.rounds i + 1) (settled work.local) work.hand d =
      ef ∙ (ap (λ (x : Sender). rested_desk x.round local work.hand d) es ∙ ap (λ (v : LocalValues). rested_desk (slice_index s.rounds i + 1) v work.hand d) el) in
      let late : cut ≡ cut_now =
      ec
      ∙ (ap (λ (l : List (List Route)). recorded_with sender (λ k. posts_to k work.local.before work.local.values l) t.cut) er
      ∙ ap (λ (x : Sender). recorded_with x (λ k. posts_to k work.local.before work.local.values rows_here) t.cut) es) in
      subst (λ (l : List Desk). TablesFit (machine new) (state_of new) h.counters (tables_with (slice_set l i rested) cut)) (sym whole)
      (subst (λ (x : Desk). TablesFit (machine new) (state_of new) h.counters (tables_with (slice_set sent_now i x) cut)) (sym put)
      (subst (λ (c : CutValues). TablesFit (machine new) (state_of new) h.counters (tables_with (slice_set sent_now i (rested_desk (slice_index s.rounds i + 1) (settled work.local) work.hand d)) c)) (sym late) (tables_after new more d there)))

  pub written_length : (n : ℕ) (sent olds : List Desk) (rows : List (List Route)) (sender : Sender) (d : Desk) → sent ≡ posted sender work.local.before work.local.values rows olds → olds ≡ t.desks → n ≡ length t.desks →
      length (slice_set (take n (sent ++ drop (length sent) t.desks)) i d) ≡ length t.desks
  written_length n sent olds rows sender d posts eo en =
      let long : length sent ≡ length t.desks = ap (λ (l : List Desk). length l) posts ∙ (posted_length sender 0 work.local.before work.local.values rows olds ∙ ap (λ (l : List Desk). length l) eo) in
      length-set (take n (sent ++ drop (length sent) t.desks)) i d ∙ (ap (λ (l : List Desk). length l) (written_whole n sent t.desks long en) ∙ long)
