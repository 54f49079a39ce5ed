-- What a hub finds is the choice of its lane.
use Rattle.std.proofs.Common.{◌≡◌, ℕ, ◌+◌, ◌<◌, ◌≤◌, Bool, true, false, IsTrue, nat_lt, if◌then◌else◌, refl, sym, ◌∙◌, ap, subst, arith, List, [], ◌∷◌, length, reverse, Option}
use Rattle.std.proofs.lemmas.Bool.{ltb-true}
use Rattle.std.proofs.lemmas.List.{length-map, length-reverse}
use Rattle.graph_core.specs.Fragments.{Piece, places}
use Rattle.grape_event.specs.declared.event.Event.{Event}
use Rattle.grape_event.specs.declared.event.Event.TheVariants.{Take, Give, Stretch, Hold, Flag, Ask, Ack, Nack, Begin, Mark, Seal, Kept, End, Stop}
use Rattle.legal_journal.specs.Past.{has_ended}
use Rattle.legal_journal.specs.Legal.{worker_count, has_work_out}
use Rattle.legal_journal.specs.Choices.{first_in_turn}
use Rattle.token_cut.specs.Shapes.{size_of}
use Rattle.hub_engine.specs.declared.desk.Desk.{Desk}
use Rattle.hub_engine.specs.declared.kind.Kind.{Kind}
use Rattle.hub_engine.specs.declared.sight.Sight.{Sight}
use Rattle.hub_engine.specs.HubValues.{HubValues}
use Rattle.hub_engine.specs.States.{machine, state_of, IsHub}
use Rattle.hub_engine.specs.Choices.{IsChoice}
use Rattle.hub_engine.specs.Desks.{Tables, TablesFit}
use Rattle.hub_engine.specs.Kinds.{IsLeastRound, is_due, first_of_kinds, kinds}
use Rattle.hub_engine.proofs.Hubs.{past_of, ended_is, counted_of, piece_count, workers_are, few_workers}
use Rattle.hub_engine.proofs.Scan.{due_is, is_choice}

-- the turn is that of a worker, or 0
turn_within : (n : ℕ) (past : List Event) → first_in_turn n past ≤ n
turn_within n [] = omega arith
turn_within n (Take i k ∷ past) = go (nat_lt (i + 1) n) refl
  where
    go : (b : Bool) → nat_lt (i + 1) n ≡ b → (if b then i + 1 else 0) ≤ n
    go true e = let l = ltb-true (i + 1) n e in omega (arith, l)
    go false e = omega arith
turn_within n (Give i ∷ past) = turn_within n past
turn_within n (Stretch i t ∷ past) = turn_within n past
turn_within n (Hold i ∷ past) = turn_within n past
turn_within n (Flag i ∷ past) = turn_within n past
turn_within n (Ask ∷ past) = turn_within n past
turn_within n (Ack i ∷ past) = turn_within n past
turn_within n (Nack i ∷ past) = turn_within n past
turn_within n (Begin e ∷ past) = turn_within n past
turn_within n (Mark i ∷ past) = turn_within n past
turn_within n (Seal e ∷ past) = turn_within n past
turn_within n (Kept e ∷ past) = turn_within n past
turn_within n (End ∷ past) = turn_within n past
turn_within n (Stop c ∷ past) = turn_within n past

module _ (h : HubValues) (t : Tables) (kept : IsHub h) (fits : TablesFit (machine h) (state_of h) h.counters t) where
  pub few_desks : length t.desks ≤ 64
  few_desks = let c = fits.count in let f = few_workers h kept in omega (arith, c, f)

  pub turn_in : t.turn ≤ length t.desks
  turn_in = let c = fits.count in let q = fits.is_turn in let w = turn_within (worker_count (state_of h)) (state_of h).past in omega (arith, c, q, w)

  -- while a recording is open there is a part for each worker
  pub parts_are : IsTrue t.cut.recording → length t.cut.parts ≡ length t.desks
  parts_are recording =
      let sizes = ap {B = ℕ} (λ (l : List (ℕ × ℕ)). length l) (fits.is_cut.sizes (fits.is_cut.asked recording)) in
      let parts = length-map t.cut.parts size_of in
      let pieces = length-map {B = ℕ × ℕ} (machine h).pieces (λ (piece : Piece). (length (places piece), length piece.mirrors)) in
      let count = piece_count h in
      let workers = workers_are h kept in
      let desks = fits.count in
      omega (arith, sizes, parts, pieces, count, workers, desks)

  pub choice_found : (lane : ℕ) → lane < h.job.settings.lanes → has_work_out (state_of h) lane ≡ false → has_ended (reverse h.journal.events) ≡ false →
      (sight : Sight) → sight.policy ≡ h.job.settings.policy → sight.clock ≡ length h.journal.events → sight.due ≡ is_due h.job.settings.snapshot t.counts → (looked : List Desk) → looked ≡ t.desks →
      IsLeastRound t.desks sight.least → (found : Option (Kind × ℕ)) → found ≡ first_of_kinds sight t.probe t.cut looked t.turn kinds → IsChoice (machine h) (state_of h) lane found
  choice_found lane below free going sight policy clock due looked same least found f =
      subst (IsChoice (machine h) (state_of h) lane) (sym (f ∙ ap (λ ds. first_of_kinds sight t.probe t.cut ds t.turn kinds) same))
      (is_choice (machine h) (state_of h) (counted_of h kept) h.counters t fits (ended_is h ∙ going) sight policy (clock ∙ sym (ap (λ (past : List Event). length past) (past_of h) ∙ length-reverse h.journal.events))
      least (due ∙ due_is (machine h) (state_of h) t.counts fits.are_counts) lane below free)
