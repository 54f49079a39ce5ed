-- What evaluation after a Take leaves, in either case of the values and of the hand.
use Rattle.std.proofs.Common.{◌≡◌, ℕ, ◌<◌, Bool, false, List, [], ◌∷◌, ◌++◌, length, slice_index, refl, sym, ◌∙◌, ap, subst}
use Rattle.std.specs.Prelude.{All}
use Rattle.std.specs.List.{AllByRecursion}
use Rattle.std.proofs.lemmas.List.Elements.{recursion_from_All}
use Rattle.value_order.specs.declared.order.Order.{Order}
use Rattle.value_order.specs.declared.TheConstants.{NOTHING}
use Rattle.value_order.specs.Order.{Below, meet_of}
use Rattle.value_order.proofs.Orders.{Below-refl, Below-antisym, Below-trans, meet-below_left, meet-greatest}
use Rattle.graph_core.specs.declared.job.Job.{Job}
use Rattle.graph_core.specs.Parts.{FragmentLists}
use Rattle.graph_core.specs.Equations.{Equations, AreLawful}
use Rattle.graph_core.specs.Queries.{equations_of}
use Rattle.message_buffer.specs.HandValues.{HandValues}
use Rattle.pie_core.specs.Locals.{LocalValues}
use Rattle.pie_core.specs.Solutions.{AllBelow, IsLocalSolution, met, lowered, local_solution, starts_of, IsReadyAgain}
use Rattle.pie_core.specs.Evaluations.{MayEvaluate}
use Rattle.pie_core.proofs.Lists.{AllBelow-refl, AllBelow-antisym}
use Rattle.pie_core.proofs.Existence.{AreVertices, vertices_from, local_solution-is}
use Rattle.pie_core.proofs.Steps.{lowered_after, in_steps, solved_is_ready_again}
use Rattle.pie_core.proofs.Bridge.{place_inside}

abbrev pub AreNothing : List ℕ → Type 0
AreNothing = AllByRecursion (λ value. value ≡ NOTHING)

neutral : (o : Order) (x : ℕ) → Below o x NOTHING → meet_of o x NOTHING ≡ x
neutral o x h = Below-antisym o (meet_of o x NOTHING) x (meet-below_left o x NOTHING) (meet-greatest o x NOTHING x (Below-refl o x) h)

-- values below the starts of vertices are values
small : (e : Equations) → AreLawful e → (vs xs : List ℕ) → AreVertices e vs → AllBelow e.order xs (starts_of e vs) → AllByRecursion (λ x. Below e.order x NOTHING) xs
small e lawful [] [] r h = tt
small e lawful [] (x ∷ xs) r h = absurd h
small e lawful (v ∷ vs) [] r h = absurd h
small e lawful (v ∷ vs) (x ∷ xs) r h = (Below-trans e.order x (e.start v) NOTHING h.0 (lawful.start_is_value v r.0), small e lawful vs xs r.1 h.1)

-- an empty hand changes no value
met-nothing : (o : Order) (xs hand : List ℕ) → AllByRecursion (λ x. Below o x NOTHING) xs → AreNothing hand → met o xs hand ≡ xs
met-nothing o [] hand h k = refl
met-nothing o (x ∷ xs) [] h k = refl
met-nothing o (x ∷ xs) (a ∷ hand) h k =
    let here : meet_of o x a ≡ x = ap (λ b. meet_of o x b) k.0 ∙ neutral o x h.0 in
    λ i. here i ∷ met-nothing o xs hand h.1 k.1 i

lowered-nothing : (o : Order) (vs xs hand : List ℕ) → AllByRecursion (λ x. Below o x NOTHING) xs → AreNothing hand → lowered_after o vs xs hand ≡ xs
lowered-nothing o [] xs hand h k = met-nothing o xs hand h k
lowered-nothing o (v ∷ vs) [] hand h k = refl
lowered-nothing o (v ∷ vs) (x ∷ xs) hand h k = ap (λ l. x ∷ l) (lowered-nothing o vs xs hand h.1 k)

left_vertices : (e : Equations) (us vs : List ℕ) → AreVertices e (us ++ vs) → AreVertices e us
left_vertices e [] vs h = tt
left_vertices e (u ∷ us) vs h = (h.0, left_vertices e us vs h.1)

-- the values after PEval, or at once where they aren't fresh: they solve those at the Take, and sizes stay
pub record IsSolved (e : Equations) (part : FragmentLists) (old mid : LocalValues) : Type 0 where
  pub solution : IsLocalSolution e part.owned part.mirrors old.values mid.values
  pub before : mid.before ≡ old.before
  pub room : length mid.counters ≡ length old.counters

module _ (e : Equations) (job : Job) (part : FragmentLists) (fresh : Bool) (old : LocalValues) (counters : ℕ) (hand : HandValues) (query : e ≡ equations_of job) (lawful : AreLawful e)
    (may : MayEvaluate e job part fresh old counters hand) where
  inside : (p : ℕ) → p < length (part.owned ++ part.mirrors) → slice_index (part.owned ++ part.mirrors) p < e.count
  inside =
      let InPlaces : FragmentLists → Equations → Type 0 = λ q f. (p : ℕ) → p < length (q.owned ++ q.mirrors) → slice_index (q.owned ++ q.mirrors) p < f.count in
      subst (λ f. InPlaces part f) (sym query) (subst (λ q. InPlaces q (equations_of job)) (sym may.ready.is_part) (place_inside job part.number may.is_job may.ready.number))

  vertices : AreVertices e (part.owned ++ part.mirrors)
  vertices = vertices_from e (part.owned ++ part.mirrors) inside

  owned_vertices : AreVertices e part.owned
  owned_vertices = left_vertices e part.owned part.mirrors vertices

  -- there is one local solution, so it is the computed one
  computed : (xs ys : List ℕ) → IsLocalSolution e part.owned part.mirrors xs ys → ys ≡ local_solution e part.owned part.mirrors xs
  computed xs ys s =
      let t = local_solution-is e lawful part.owned part.mirrors xs owned_vertices in
      let zs = local_solution e part.owned part.mirrors xs in
      AllBelow-antisym e.order ys zs (t.greatest ys s.candidate) (s.greatest zs t.candidate)

  -- values that aren't fresh solve themselves
  pub unchanged : fresh ≡ false → IsSolved e part old old
  unchanged f = record {
    solution = record {
      candidate = record { below = AllBelow-refl e.order old.values; mirrors_stay = refl; equations = may.solved f };
      greatest = λ zs c. c.below;
    };
    before = refl;
    room = refl;
  }

  module _ (mid : LocalValues) (solved : IsSolved e part old mid) where
    pub ready_again : IsReadyAgain e job part mid counters hand
    ready_again = solved_is_ready_again e job part old mid counters hand may.ready solved.solution solved.before solved.room may.mirrors

    pub without_hand : All (λ value. value ≡ NOTHING) hand.values → mid.values ≡ local_solution e part.owned part.mirrors (lowered e part.owned old.values hand.values)
    without_hand none =
        let same = lowered-nothing e.order part.owned old.values hand.values (small e lawful (part.owned ++ part.mirrors) old.values vertices may.ready.below_start) (recursion_from_All (λ value. value ≡ NOTHING) hand.values none) in
        computed old.values mid.values solved.solution ∙ ap (λ xs. local_solution e part.owned part.mirrors xs) (sym same)

    pub with_hand : (zs : List ℕ) → IsLocalSolution e part.owned part.mirrors (lowered e part.owned mid.values hand.values) zs → zs ≡ local_solution e part.owned part.mirrors (lowered e part.owned old.values hand.values)
    with_hand zs second =
        computed (lowered e part.owned old.values hand.values) zs (in_steps e part.owned part.mirrors old.values mid.values zs hand.values lawful owned_vertices solved.solution second)
