-- The values that a hub hands back at the end.
use Rattle.std.proofs.Common.{◌≡◌, ℕ, zero, suc, ◌*◌, ◌<◌, ◌⊎◌, inl, inr, true, false, IsSome, refl, sym, ◌∙◌, ap, subst, arith, List, [], ◌∷◌, ◌++◌, length, append_assoc, append-nil, slice_get, slice_index_or, Option, Some, None}
use Rattle.std.specs.List.{AllZip}
use Rattle.std.proofs.lemmas.Bool.{false≢true}
use Rattle.std.proofs.lemmas.Option.{slice_get_within}
use Rattle.graph_core.specs.Fragments.{Piece, no_piece}
use Rattle.token_cut.specs.Parts.{part_at}
use Rattle.pie_core.specs.Locals.{LocalValues}
use Rattle.base_machine.specs.Machine.{BaseState, Worker, worker_at, is_running, no_worker}
use Rattle.hub_engine.specs.declared.desk.Desk.{Desk}
use Rattle.hub_engine.specs.declared.desk.Seat.{Seat}
use Rattle.hub_engine.specs.declared.desk.Seat.TheVariants.{Here, Out}
use Rattle.hub_engine.specs.HubValues.{HubValues}
use Rattle.hub_engine.specs.States.{machine, state_of, workers_of, piece_of_worker}
use Rattle.hub_engine.specs.Calls.{IsGivenUp, AreGivenUp, HaveValues, HaveStartValues, HaveSizes}
use Rattle.hub_engine.specs.Desks.{SeatFits, Tables, TablesFit, IsHereOr, AreHereOr, HasLocalOr, HaveLocalsOr}

-- one desk more was emptied
pub one_more_local : (desks was rest : List Desk) (given had more : List (Option LocalValues)) (locals longer : List LocalValues) (d : Desk) (g : Option LocalValues) (local : LocalValues) →
    was ≡ d ∷ rest → had ≡ g ∷ more → longer ≡ locals ++ local ∷ [] → HasLocalOr d.seat g local → AreHereOr was had × ((ls : List LocalValues) → HaveLocalsOr was had ls → HaveLocalsOr desks given (locals ++ ls)) →
    AreHereOr rest more × ((ls : List LocalValues) → HaveLocalsOr rest more ls → HaveLocalsOr desks given (longer ++ ls))
one_more_local desks was rest given had more locals longer d g local w q e h before =
    let both = subst (λ (ds : List Desk). AreHereOr ds (g ∷ more) × ((ls : List LocalValues) → HaveLocalsOr ds (g ∷ more) ls → HaveLocalsOr desks given (locals ++ ls))) w
    (subst (λ (gs : List (Option LocalValues)). AreHereOr was gs × ((ls : List LocalValues) → HaveLocalsOr was gs ls → HaveLocalsOr desks given (locals ++ ls))) q before) in (
      both.0.1,
      λ ls k. subst (λ (l : List LocalValues). HaveLocalsOr desks given (l ++ ls)) (sym e) (subst (HaveLocalsOr desks given) (sym (append_assoc locals (local ∷ []) ls)) (both.1 (local ∷ ls) (h, k))),
    )

none_left : (desks : List Desk) (given : List (Option LocalValues)) → AreHereOr desks given → (length desks ≡ 0) ⊎ (length given ≡ 0) → desks ≡ []
none_left [] given h n = refl
none_left (d ∷ desks) [] h n = absurd h
none_left (d ∷ desks) (g ∷ given) h (inl n) = absurd (omega (arith, n))
none_left (d ∷ desks) (g ∷ given) h (inr n) = absurd (omega (arith, n))

-- none is left
pub all_locals : (desks rest : List Desk) (given more : List (Option LocalValues)) (locals : List LocalValues) → (length rest ≡ 0) ⊎ (length more ≡ 0) →
    AreHereOr rest more × ((ls : List LocalValues) → HaveLocalsOr rest more ls → HaveLocalsOr desks given (locals ++ ls)) → HaveLocalsOr desks given locals
all_locals desks rest given more locals none before =
    subst (HaveLocalsOr desks given) (append-nil locals) (before.1 [] (subst (λ (ds : List Desk). HaveLocalsOr ds more []) (sym (none_left rest more before.0 none)) tt))

here_each : (desks : List Desk) (given : List (Option LocalValues)) → length given ≡ length desks → ((i : ℕ) (d : Desk) → slice_get desks i ≡ Some d → IsHereOr d.seat (slice_index_or given i None)) → AreHereOr desks given
here_each [] [] e h = tt
here_each [] (g ∷ given) e h = absurd (omega (arith, e))
here_each (d ∷ desks) [] e h = absurd (omega (arith, e))
here_each (d ∷ desks) (g ∷ given) e h = (h 0 d refl, here_each desks given (omega (arith, e)) (λ i x q. h (suc i) x q))

values_each : (desks : List Desk) (given : List (Option LocalValues)) (ws : BaseState) (locals : List LocalValues) → length desks ≡ length ws →
    ((i : ℕ) (d : Desk) (local : LocalValues) → slice_get desks i ≡ Some d → HasLocalOr d.seat (slice_index_or given i None) local → is_running (slice_index_or ws i no_worker) ≡ false → local.values ≡ (slice_index_or ws i no_worker).values) →
    HaveLocalsOr desks given locals → AllZip (λ (local : LocalValues) (w : Worker). is_running w ≡ false → local.values ≡ w.values) locals ws
values_each [] given [] [] e h k = tt
values_each [] given [] (l ∷ ls) e h k = absurd k
values_each [] given (w ∷ ws) locals e h k = absurd (omega (arith, e))
values_each (d ∷ desks) given [] locals e h k = absurd (omega (arith, e))
values_each (d ∷ desks) [] (w ∷ ws) locals e h k = absurd k
values_each (d ∷ desks) (g ∷ given) (w ∷ ws) [] e h k = absurd k
values_each (d ∷ desks) (g ∷ given) (w ∷ ws) (l ∷ ls) e h k = (h 0 d l refl k.0, values_each desks given ws ls (omega (arith, e)) (λ i x y q r. h (suc i) x y q r) k.1)

sizes_each : (desks : List Desk) (given : List (Option LocalValues)) (pieces : List Piece) (locals : List LocalValues) (counters : ℕ) → length desks ≡ length pieces →
    ((i : ℕ) (d : Desk) (local : LocalValues) → slice_get desks i ≡ Some d → HasLocalOr d.seat (slice_index_or given i None) local → (length local.before ≡ length (slice_index_or pieces i no_piece).owned) × (length local.counters ≡ length (slice_index_or pieces i no_piece).owned * counters)) →
    HaveLocalsOr desks given locals → AllZip (λ (local : LocalValues) (piece : Piece). (length local.before ≡ length piece.owned) × (length local.counters ≡ length piece.owned * counters)) locals pieces
sizes_each [] given [] [] counters e h k = tt
sizes_each [] given [] (l ∷ ls) counters e h k = absurd k
sizes_each [] given (p ∷ ps) locals counters e h k = absurd (omega (arith, e))
sizes_each (d ∷ desks) given [] locals counters e h k = absurd (omega (arith, e))
sizes_each (d ∷ desks) [] (p ∷ ps) locals counters e h k = absurd k
sizes_each (d ∷ desks) (g ∷ given) (p ∷ ps) [] counters e h k = absurd k
sizes_each (d ∷ desks) (g ∷ given) (p ∷ ps) (l ∷ ls) counters e h k = (h 0 d l refl k.0, sizes_each desks given ps ls counters (omega (arith, e)) (λ i x y q r. h (suc i) x y q r) k.1)

-- the Local at a place of these desks, where there is a place
local_at : (desks : List Desk) (given : List (Option LocalValues)) (locals : List LocalValues) (i : ℕ) (z : LocalValues) → i < length desks → HaveLocalsOr desks given locals →
    (d : Desk) × (slice_get desks i ≡ Some d) × HasLocalOr d.seat (slice_index_or given i None) (slice_index_or locals i z)
local_at [] given locals i z l k = absurd (omega (arith, l))
local_at (d ∷ desks) [] locals i z l k = absurd k
local_at (d ∷ desks) (g ∷ given) [] i z l k = absurd k
local_at (d ∷ desks) (g ∷ given) (local ∷ locals) zero z l k = (d, refl, k.0)
local_at (d ∷ desks) (g ∷ given) (local ∷ locals) (suc i) z l k = local_at desks given locals i z (omega (arith, l)) k.1

is_given : (g : Option LocalValues) (local : LocalValues) → g ≡ Some local → IsSome g
is_given None local e = absurd (cc)
is_given (Some x) local e = refl

one_given : (x y : LocalValues) → Some x ≡ Some y → x ≡ y
one_given x y e = cc

module _ (h : HubValues) (t : Tables) (fits : TablesFit (machine h) (state_of h) h.counters t) (given : List (Option LocalValues)) (are : AreGivenUp h given) where
  -- the Local that was given up for a worker that is out
  from_given : (i : ℕ) → i < length (workers_of h) → is_running (worker_at (workers_of h) i) ≡ true → (local : LocalValues) → slice_index_or given i None ≡ Some local → IsGivenUp h i local
  from_given i l out local e = let g = are.each i l out in subst (IsGivenUp h i) (one_given g.0 local (sym g.1 ∙ e)) g.2

  within : (i : ℕ) (d : Desk) → slice_get t.desks i ≡ Some d → i < length (workers_of h)
  within i d g = let l = slice_get_within t.desks i d g in let c = fits.count in omega (arith, l, c)

  pub all_here : AreHereOr t.desks given
  all_here = here_each t.desks given (are.count ∙ sym fits.count) (λ i d g. seated i d.seat (within i d g) (fits.fit i d g).seat)
    where
      seated : (i : ℕ) (seat : Seat) → i < length (workers_of h) → SeatFits (machine h) (state_of h) h.counters i seat → IsHereOr seat (slice_index_or given i None)
      seated i (Here fresh local hand) l k = tt
      seated i (Out lane place) l k = let g = are.each i l k.0 in is_given (slice_index_or given i None) g.0 g.1

  pub have_values : (locals : List LocalValues) → HaveLocalsOr t.desks given locals → HaveValues h locals
  have_values locals k = values_each t.desks given (workers_of h) locals fits.count (λ i d local g q. seated i d.seat local (fits.fit i d g).seat q) k
    where
      seated : (i : ℕ) (seat : Seat) (local : LocalValues) → SeatFits (machine h) (state_of h) h.counters i seat → HasLocalOr seat (slice_index_or given i None) local → is_running (worker_at (workers_of h) i) ≡ false →
          local.values ≡ (worker_at (workers_of h) i).values
      seated i (Here fresh own hand) local k q idle = ap (λ (l : LocalValues). l.values) q ∙ k.2
      seated i (Out lane place) local k q idle = absurd (false≢true (sym idle ∙ k.0))

  pub have_start_values : (locals : List LocalValues) → HaveLocalsOr t.desks given locals → HaveStartValues h locals
  have_start_values locals k i z l out =
      let c = fits.count in
      let f = local_at t.desks given locals i z (omega (arith, l, c)) k in seated f.0.seat (fits.fit i f.0 f.1).seat f.2
    where
      seated : (seat : Seat) → SeatFits (machine h) (state_of h) h.counters i seat → HasLocalOr seat (slice_index_or given i None) (slice_index_or locals i z) → (slice_index_or locals i z).values ≡ (part_at i h.start.parts).values
      seated (Here fresh own hand) k q = absurd (false≢true (sym k.0 ∙ out))
      seated (Out lane place) k q = (from_given i l out (slice_index_or locals i z) q).values

  pub have_sizes : length (machine h).pieces ≡ length (workers_of h) → (locals : List LocalValues) → HaveLocalsOr t.desks given locals → HaveSizes h locals
  have_sizes same locals k = sizes_each t.desks given (machine h).pieces locals h.counters (fits.count ∙ sym same) (λ i d local g q. seated i d.seat local (within i d g) (fits.fit i d g).seat q) k
    where
      seated : (i : ℕ) (seat : Seat) (local : LocalValues) → i < length (workers_of h) → SeatFits (machine h) (state_of h) h.counters i seat → HasLocalOr seat (slice_index_or given i None) local →
          (length local.before ≡ length (piece_of_worker h i).owned) × (length local.counters ≡ length (piece_of_worker h i).owned * h.counters)
      seated i (Here fresh own hand) local l k q = (ap (λ (l : LocalValues). length l.before) q ∙ k.5.owned, ap (λ (l : LocalValues). length l.counters) q ∙ k.5.room)
      seated i (Out lane place) local l k q = let g = from_given i l k.0 local q in (g.owned, g.counters)
