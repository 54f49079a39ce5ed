-- Relaxed values of a fragment are the local solution of least equations.
use Rattle.std.proofs.Common.{◌≡◌, ℕ, zero, suc, ◌+◌, ◌<◌, ◌≤◌, inl, inr, refl, sym, ap, subst, arith, List, [], ◌∷◌, ◌++◌, length, map, take, drop, slice_index, Contains}
use Rattle.std.proofs.lemmas.Bool.{cases_lt}
use Rattle.std.proofs.lemmas.List.{length-map, length-append, get_or-map, get_or_past}
use Rattle.std.proofs.lemmas.List.Elements.{length_all_zip}
use Rattle.value_order.specs.declared.order.Order.TheVariants.{Least, Mask}
use Rattle.graph_core.specs.declared.TheConstants.{FAR}
use Rattle.graph_core.specs.declared.query.Query.{Query}
use Rattle.graph_core.specs.declared.query.Query.TheVariants.{Dist, Label, Reach, Sim}
use Rattle.graph_core.specs.declared.job.Job.{Job}
use Rattle.graph_core.specs.Digraph.{Digraph}
use Rattle.graph_core.specs.Graphs.{count_of, number_at, IsGraph, IsJob}
use Rattle.graph_core.specs.Parts.{FragmentLists, place_count}
use Rattle.graph_core.specs.Equations.{Equations}
use Rattle.graph_core.specs.Queries.{Read, reads_of, start_value, order_of, least_of, equations_of}
use Rattle.graph_core.specs.Fragments.{owned_of, mirrors_of, places_of, fragment_of, StandsAt}
use Rattle.graph_core.proofs.Lists.{least-le, le-least}
use Rattle.graph_core.proofs.Sources.{zero-at_most}
use Rattle.graph_core.proofs.Cutting.{stands_left}
use Rattle.value_order.specs.Order.{Below}
use Rattle.message_buffer.specs.HandValues.{HandValues}
use Rattle.pie_core.specs.Locals.{LocalValues, FitsPart}
use Rattle.pie_core.specs.Solutions.{value_at, AllBelow, OwnEquationsHold, IsLocalSolution, IsReadyFor, IsReadyAgain, starts_of, met, lowered}
use Rattle.pie_core.proofs.Lists.{drop-same}
use Rattle.pie_core.proofs.Starting.{few-places}
use Rattle.pie_core.proofs.Bridge.{Reads, in_readers_row, from_readers_row, value-at_place, read_stands}
use Rattle.pie_lowering.specs.LeastEquations.{least_equations, IsLeastJob}
use Rattle.pie_lowering.specs.Lowering.{LieBelow, AreAtMostFar, HoldsAllReaders, IsSettled, HasFallen, with_mirrors}
use Rattle.pie_lowering.proofs.Mirrors.{lowered-length}

-- ---- lists place by place

pub below-at : (xs ys : List ℕ) → AllBelow Least xs ys → LieBelow xs ys
below-at [] [] h q = omega arith
below-at [] (y ∷ ys) h q = absurd h
below-at (x ∷ xs) [] h q = absurd h
below-at (x ∷ xs) (y ∷ ys) h zero = h.0
below-at (x ∷ xs) (y ∷ ys) h (suc q) = below-at xs ys h.1 q

pub below-from : (xs ys : List ℕ) → length xs ≡ length ys → LieBelow xs ys → AllBelow Least xs ys
below-from [] [] e h = tt
below-from [] (y ∷ ys) e h = absurd (omega (arith, e))
below-from (x ∷ xs) [] e h = absurd (omega (arith, e))
below-from (x ∷ xs) (y ∷ ys) e h = (h 0, below-from xs ys (omega (arith, e)) (λ q. h (suc q)))

-- ---- the least equations of a job

module _ (cost : ℕ → ℕ) (job : Job) where
  abbrev start : ℕ → ℕ
  start = start_value job.graph job.query

  abbrev least : Equations
  least = least_equations cost job.graph job.query

  module _ (is_job : IsJob job) (i : ℕ) (in_job : i < job.settings.fragments) where
    abbrev whole : FragmentLists
    whole = fragment_of job i

    places-length : length (places_of job i) ≡ place_count whole
    places-length = length-append (owned_of job i) (mirrors_of job i)

    -- relaxed values that lie below the starts lie below their own equations
    pub relaxed-hold : (xs : List ℕ) → AllBelow Least xs (starts_of least (places_of job i)) → HoldsAllReaders cost whole xs → OwnEquationsHold least (owned_of job i) (mirrors_of job i) xs
    relaxed-hold xs low relaxed p l =
        let v = slice_index (owned_of job i) p in
        let here : StandsAt (owned_of job i) p v = (l, refl) in
        let there : StandsAt (places_of job i) p v = stands_left (owned_of job i) (mirrors_of job i) p v here in
        let first = get_or-map start (places_of job i) p 0 0 there.0 in
        let under = below-at xs (starts_of least (places_of job i)) low p in
        let at : start (slice_index (places_of job i) p) ≡ start v = ap start there.1 in
        let x = value_at (places_of job i) xs in
        let reads : List Read = reads_of job.graph job.query v in
        let each : (r : Read) → Contains reads r → slice_index xs p ≤ x r.vertex + cost r.weight = λ r c.
        let s = read_stands job i is_job in_job p v r here c in
        let read : Reads job i is_job in_job p s.0 r.weight = record { vertex = v; read = r; stands = here; is_read = c; at = s.1; weighs = refl } in
        let row = in_readers_row job i is_job in_job p s.0 r.weight read in
        let k = s.1.0 in
        let h = relaxed s.0 (omega (arith, k, places-length)) (record { place = p; weight = r.weight }) row in
        omega (arith, h, value-at_place job i is_job in_job xs s.0 r.vertex s.1) in
        le-least (start v) (λ (r : Read). x r.vertex + cost r.weight) reads (slice_index xs p) (omega (arith, under, first, at)) each

    -- values that lie below their own equations are relaxed
    pub hold-relaxed : (xs : List ℕ) → OwnEquationsHold least (owned_of job i) (mirrors_of job i) xs → HoldsAllReaders cost whole xs
    hold-relaxed xs hold q l e c =
        let reads : Reads job i is_job in_job e.place q e.weight = from_readers_row job i is_job in_job q e (omega (arith, l, places-length)) c in
        let v = reads.vertex in
        let r : Read = reads.read in
        let x = value_at (places_of job i) xs in
        let own : slice_index xs e.place ≤ least_of (start v) (map (λ (r : Read). x r.vertex + cost r.weight) (reads_of job.graph job.query v)) =
        subst (λ u. slice_index xs e.place ≤ least_of (start u) (map (λ (r : Read). x r.vertex + cost r.weight) (reads_of job.graph job.query u))) reads.stands.1 (hold e.place reads.stands.0) in
        let low = least-le (start v) (λ (r : Read). x r.vertex + cost r.weight) (reads_of job.graph job.query v) r reads.is_read in
        omega (arith, own, low, value-at_place job i is_job in_job xs q r.vertex reads.at, ap cost reads.weighs)

    -- so values that fell as far as they had to are the local solution
    pub fallen-solution : (old new : LocalValues) → AllBelow Least old.values (starts_of least (places_of job i)) → HasFallen cost whole old new → HoldsAllReaders cost whole new.values
        → IsLocalSolution least (owned_of job i) (mirrors_of job i) old.values new.values
    fallen-solution old new low fell relaxed =
        let starts = starts_of least (places_of job i) in
        let n = length_all_zip (λ a b. a ≤ b) old.values starts low in
        let e = fell.places in
        let under : AllBelow Least new.values starts = below-from new.values starts (omega (arith, e, n)) (λ q. omega (arith, fell.below q, below-at old.values starts low q)) in
        record {
          candidate = record {
            below = below-from new.values old.values e fell.below;
            mirrors_stay = drop-same (length (owned_of job i)) new.values old.values e fell.mirrors;
            equations = relaxed-hold new.values under relaxed;
          };
          greatest = λ zs c.
              let m = length_all_zip (λ a b. a ≤ b) zs old.values c.below in
              below-from zs new.values (omega (arith, m, e)) (fell.above zs (hold-relaxed zs c.equations) (below-at zs old.values c.below));
        }

met-below : (xs hand : List ℕ) → LieBelow (met Least xs hand) xs
met-below [] hand q = omega arith
met-below (x ∷ xs) [] q = omega arith
met-below (x ∷ xs) (a ∷ hand) zero = omega arith
met-below (x ∷ xs) (a ∷ hand) (suc q) = met-below xs hand q

lowered-below : (n : ℕ) (xs hand : List ℕ) → LieBelow (take n xs ++ met Least (drop n xs) hand) xs
lowered-below zero xs hand q = met-below xs hand q
lowered-below (suc n) [] hand q = omega arith
lowered-below (suc n) (x ∷ xs) hand zero = omega arith
lowered-below (suc n) (x ∷ xs) hand (suc q) = lowered-below n xs hand q

pub lowered-far : (n : ℕ) (xs hand : List ℕ) → AreAtMostFar xs → AreAtMostFar (take n xs ++ met Least (drop n xs) hand)
lowered-far n xs hand h q = omega (arith, lowered-below n xs hand q, h q)

-- ---- start values

-- the number of a vertex is a word, and that of no vertex is 0
number-small : (g : Digraph) (v : ℕ) → IsGraph g → number_at g v ≤ FAR
number-small g v h = elim (cases_lt v (count_of g)) [
  | inl l ↦ let w = (h.words v (0, 0) l).0 in omega (arith, w)
  | inr l ↦ omega (arith, ap (λ (vertex : ℕ × ℕ). vertex.0) (get_or_past g.vertices v (0, 0) l))
]

start-far : (g : Digraph) (q : Query) (v : ℕ) → IsGraph g → order_of q ≡ Least → start_value g q v ≤ FAR
start-far g (Dist source) v h e = zero-at_most g (source ∷ []) v FAR
start-far g Label v h e = number-small g v h
start-far g (Reach source) v h e = omega (arith, zero-at_most g (source ∷ []) v 1)
start-far g (Sim pattern) v h e = absurd (let x : Mask ≡ Least = e in cc)

below-far : (f : ℕ → ℕ) (vs xs : List ℕ) → ((v : ℕ) → f v ≤ FAR) → AllBelow Least xs (map f vs) → AreAtMostFar xs
below-far f [] [] far h q = omega arith
below-far f [] (x ∷ xs) far h q = absurd h
below-far f (v ∷ vs) [] far h q = absurd h
below-far f (v ∷ vs) (x ∷ xs) far h zero = omega (arith, h.0, far v)
below-far f (v ∷ vs) (x ∷ xs) far h (suc q) = below-far f vs xs far h.1 q

-- ---- what evaluation is given

pub ready-fits : (job : Job) → IsJob job → (part : FragmentLists) (local : LocalValues) (n : ℕ) → IsReadyFor (equations_of job) job part local n → FitsPart part local
ready-fits job is_job part local n ready =
    let values = length_all_zip (Below (equations_of job).order) local.values (starts_of (equations_of job) (part.owned ++ part.mirrors)) ready.below_start in
    let starts = length-map (part.owned ++ part.mirrors) (equations_of job).start in
    let places = length-append part.owned part.mirrors in
    record {
      few = few-places job is_job part ready.is_part;
      places = omega (arith, values, starts, places);
      owned = ready.owned;
    }

module _ (cost : ℕ → ℕ) (job : Job) (is_least : IsLeastJob cost job) where
  -- as the equations of this form have it
  low-least : (vs xs : List ℕ) → AllBelow (equations_of job).order xs (starts_of (equations_of job) vs) → AllBelow Least xs (starts_of (least_equations cost job.graph job.query) vs)
  low-least vs xs = subst (λ (e : Equations). AllBelow e.order xs (starts_of e vs)) is_least.equations

  pub ready-far : (part : FragmentLists) (local : LocalValues) (n : ℕ) → IsReadyFor (equations_of job) job part local n → AreAtMostFar local.values
  ready-far part local n ready =
      let order : order_of job.query ≡ Least = ap (λ (e : Equations). e.order) is_least.equations in
      below-far (start_value job.graph job.query) (part.owned ++ part.mirrors) local.values (λ v. start-far job.graph job.query v is_least.is_job.graph order) (low-least (part.owned ++ part.mirrors) local.values ready.below_start)

  part-solution : (part : FragmentLists) (old new : LocalValues) → part.number < job.settings.fragments → part ≡ fragment_of job part.number → AllBelow Least old.values (starts_of (least_equations cost job.graph job.query) (part.owned ++ part.mirrors))
      → HasFallen cost part old new → HoldsAllReaders cost part new.values → IsLocalSolution (equations_of job) part.owned part.mirrors old.values new.values
  part-solution part old new in_job is_part low fell relaxed =
      let e = least_equations cost job.graph job.query in
      let P : FragmentLists → Type 0 = λ p. AllBelow Least old.values (starts_of e (p.owned ++ p.mirrors)) → HasFallen cost p old new → HoldsAllReaders cost p new.values → IsLocalSolution e p.owned p.mirrors old.values new.values in
      let solution = subst P (sym is_part) (fallen-solution cost job is_least.is_job part.number in_job old new) low fell relaxed in
      subst (λ (e : Equations). IsLocalSolution e part.owned part.mirrors old.values new.values) (sym is_least.equations) solution

  -- what an evaluation leaves
  pub fallen-solves : (part : FragmentLists) (old new : LocalValues) (n : ℕ) → IsReadyFor (equations_of job) job part old n → HasFallen cost part old new → HoldsAllReaders cost part new.values
      → IsLocalSolution (equations_of job) part.owned part.mirrors old.values new.values
  fallen-solves part old new n ready = part-solution part old new ready.number ready.is_part (low-least (part.owned ++ part.mirrors) old.values ready.below_start)

  -- what another evaluation begins with
  pub again-settled : (part : FragmentLists) (local : LocalValues) (n : ℕ) (hand : HandValues) → IsReadyAgain (equations_of job) job part local n hand → IsSettled cost part local
  again-settled part local n hand again =
      let e = least_equations cost job.graph job.query in
      let P : FragmentLists → Type 0 = λ p. OwnEquationsHold e p.owned p.mirrors local.values → IsSettled cost p local in
      let hold : OwnEquationsHold e part.owned part.mirrors local.values = subst (λ (e : Equations). OwnEquationsHold e part.owned part.mirrors local.values) is_least.equations again.solved in
      subst P (sym again.ready.is_part) (λ h q l. inr (hold-relaxed cost job is_least.is_job part.number again.ready.number local.values h q l)) hold

  -- and what it leaves
  pub again-solves : (part : FragmentLists) (old new : LocalValues) (n : ℕ) (hand : HandValues) → IsReadyAgain (equations_of job) job part old n hand → HasFallen cost part (with_mirrors part old hand.values) new → HoldsAllReaders cost part new.values
      → IsLocalSolution (equations_of job) part.owned part.mirrors (lowered (equations_of job) part.owned old.values hand.values) new.values
  again-solves part old new n hand again fell relaxed =
      let e = least_equations cost job.graph job.query in
      let places = part.owned ++ part.mirrors in
      let starts = starts_of e places in
      let low = low-least places old.values again.ready.below_start in
      let xs = lowered e part.owned old.values hand.values in
      let m = length_all_zip (λ a b. a ≤ b) old.values starts low in
      let k = lowered-length (length part.owned) old.values hand.values in
      let under : AllBelow Least xs starts = below-from xs starts (omega (arith, k, m)) (λ q. omega (arith, lowered-below (length part.owned) old.values hand.values q, below-at old.values starts low q)) in
      let solution : IsLocalSolution (equations_of job) part.owned part.mirrors xs new.values = part-solution part (with_mirrors part old hand.values) new again.ready.number again.ready.is_part under fell relaxed in
      subst (λ (d : Equations). IsLocalSolution (equations_of job) part.owned part.mirrors (lowered d part.owned old.values hand.values) new.values) (sym is_least.equations) solution
