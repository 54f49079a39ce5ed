-- A local solution may be reached in steps: mirrors may become lower before or after one.
use Rattle.std.proofs.Common.{◌≡◌, ℕ, List, [], ◌∷◌, ◌++◌, length, take, drop, refl, sym, ◌∙◌, ap, subst}
use Rattle.value_order.specs.declared.order.Order.{Order}
use Rattle.value_order.specs.Order.{Below, meet_of}
use Rattle.value_order.proofs.Orders.{Below-refl, Below-trans, meet-below_left, meet-below_right, meet-greatest}
use Rattle.graph_core.specs.Equations.{Equations, Assignment, AreLawful}
use Rattle.pie_core.specs.Solutions.{value_at, AllBelow, IsLocalCandidate, IsLocalSolution, met, lowered, starts_of}
use Rattle.pie_core.specs.Laws.{LocalSolutionInSteps, SolvedIsReadyAgain}
use Rattle.pie_core.proofs.Lists.{AllBelow-refl, AllBelow-trans}
use Rattle.pie_core.proofs.Existence.{AreVertices, EquationsHold, value_at-below, phi-below, EquationsHold-from, EquationsHold-at, vertices_from}

-- as many values as there are vertices stay, and those behind them are lowered by the hand
abbrev pub lowered_after : Order → List ℕ → List ℕ → List ℕ → List ℕ
lowered_after o vs xs hand = take (length vs) xs ++ met o (drop (length vs) xs) hand

met-below : (o : Order) (xs hand : List ℕ) → AllBelow o (met o xs hand) xs
met-below o [] hand = tt
met-below o (x ∷ xs) [] = AllBelow-refl o (x ∷ xs)
met-below o (x ∷ xs) (a ∷ hand) = (meet-below_left o x a, met-below o xs hand)

pub lowered-below : (o : Order) (vs xs hand : List ℕ) → AllBelow o (lowered_after o vs xs hand) xs
lowered-below o [] xs hand = met-below o xs hand
lowered-below o (v ∷ vs) [] hand = tt
lowered-below o (v ∷ vs) (x ∷ xs) hand = (Below-refl o x, lowered-below o vs xs hand)

met-monotone : (o : Order) (xs ys hand : List ℕ) → AllBelow o ys xs → AllBelow o (met o ys hand) (met o xs hand)
met-monotone o [] [] hand h = tt
met-monotone o [] (y ∷ ys) hand h = absurd h
met-monotone o (x ∷ xs) [] hand h = absurd h
met-monotone o (x ∷ xs) (y ∷ ys) [] h = h
met-monotone o (x ∷ xs) (y ∷ ys) (a ∷ hand) h =
    (meet-greatest o x a (meet_of o y a) (Below-trans o (meet_of o y a) y x (meet-below_left o y a) h.0) (meet-below_right o y a), met-monotone o xs ys hand h.1)

lowered-monotone : (o : Order) (vs xs ys hand : List ℕ) → AllBelow o ys xs → AllBelow o (lowered_after o vs ys hand) (lowered_after o vs xs hand)
lowered-monotone o [] xs ys hand h = met-monotone o xs ys hand h
lowered-monotone o (v ∷ vs) [] [] hand h = tt
lowered-monotone o (v ∷ vs) [] (y ∷ ys) hand h = absurd h
lowered-monotone o (v ∷ vs) (x ∷ xs) [] hand h = absurd h
lowered-monotone o (v ∷ vs) (x ∷ xs) (y ∷ ys) hand h = (h.0, lowered-monotone o vs xs ys hand h.1)

lowered-mirrors : (o : Order) (vs xs hand : List ℕ) → drop (length vs) (lowered_after o vs xs hand) ≡ met o (drop (length vs) xs) hand
lowered-mirrors o [] xs hand = refl
lowered-mirrors o (v ∷ vs) [] hand = refl
lowered-mirrors o (v ∷ vs) (x ∷ xs) hand = lowered-mirrors o vs xs hand

-- the mirrors of two lists are lowered alike where they are alike
lowered-alike : (o : Order) (vs xs ys hand : List ℕ) → drop (length vs) ys ≡ drop (length vs) xs → drop (length vs) (lowered_after o vs ys hand) ≡ drop (length vs) (lowered_after o vs xs hand)
lowered-alike o vs xs ys hand e = lowered-mirrors o vs ys hand ∙ ap (λ l. met o l hand) e ∙ sym (lowered-mirrors o vs xs hand)

-- ---- one list's values on the owned places, and another's on the mirrors

abbrev pub spliced : List ℕ → List ℕ → List ℕ → List ℕ
spliced [] cs xs = xs
spliced (v ∷ vs) [] xs = []
spliced (v ∷ vs) (c ∷ cs) [] = []
spliced (v ∷ vs) (c ∷ cs) (x ∷ xs) = c ∷ spliced vs cs xs

spliced-below : (o : Order) (vs cs xs : List ℕ) → AllBelow o cs xs → AllBelow o (spliced vs cs xs) xs
spliced-below o [] cs xs h = AllBelow-refl o xs
spliced-below o (v ∷ vs) [] [] h = tt
spliced-below o (v ∷ vs) [] (x ∷ xs) h = absurd h
spliced-below o (v ∷ vs) (c ∷ cs) [] h = absurd h
spliced-below o (v ∷ vs) (c ∷ cs) (x ∷ xs) h = (h.0, spliced-below o vs cs xs h.1)

spliced-above : (o : Order) (vs cs xs : List ℕ) → AllBelow o cs xs → AllBelow o cs (spliced vs cs xs)
spliced-above o [] cs xs h = h
spliced-above o (v ∷ vs) [] [] h = tt
spliced-above o (v ∷ vs) [] (x ∷ xs) h = absurd h
spliced-above o (v ∷ vs) (c ∷ cs) [] h = absurd h
spliced-above o (v ∷ vs) (c ∷ cs) (x ∷ xs) h = (Below-refl o c, spliced-above o vs cs xs h.1)

spliced-mirrors : (o : Order) (vs cs xs : List ℕ) → AllBelow o cs xs → drop (length vs) (spliced vs cs xs) ≡ drop (length vs) xs
spliced-mirrors o [] cs xs h = refl
spliced-mirrors o (v ∷ vs) [] [] h = refl
spliced-mirrors o (v ∷ vs) [] (x ∷ xs) h = absurd h
spliced-mirrors o (v ∷ vs) (c ∷ cs) [] h = absurd h
spliced-mirrors o (v ∷ vs) (c ∷ cs) (x ∷ xs) h = spliced-mirrors o vs cs xs h.1

-- where mirrors rise, equations that held still hold
spliced-holds : (e : Equations) → AreLawful e → (x z : Assignment) → ((u : ℕ) → Below e.order (z u) (x u)) → (vs cs xs : List ℕ) → AreVertices e vs → AllBelow e.order cs xs → EquationsHold e z vs cs →
    EquationsHold e x vs (spliced vs cs xs)
spliced-holds e lawful x z low [] cs xs r h k = tt
spliced-holds e lawful x z low (v ∷ vs) [] [] r h k = tt
spliced-holds e lawful x z low (v ∷ vs) [] (a ∷ xs) r h k = absurd h
spliced-holds e lawful x z low (v ∷ vs) (c ∷ cs) [] r h k = absurd h
spliced-holds e lawful x z low (v ∷ vs) (c ∷ cs) (a ∷ xs) r h k =
    (Below-trans e.order c (e.phi v z) (e.phi v x) k.0 (phi-below e lawful v z x r.0 low), spliced-holds e lawful x z low vs cs xs r.1 h.1 k.1)

-- what lies below the lowered values of x, and on the owned places below y, lies below the lowered values of y
between : (o : Order) (vs cs xs ys hand : List ℕ) → AllBelow o cs (lowered_after o vs xs hand) → AllBelow o (spliced vs cs xs) ys → drop (length vs) ys ≡ drop (length vs) xs →
    AllBelow o cs (lowered_after o vs ys hand)
between o [] cs xs ys hand h k e = subst (λ l. AllBelow o cs (met o l hand)) (sym e) h
between o (v ∷ vs) [] [] [] hand h k e = tt
between o (v ∷ vs) [] [] (y ∷ ys) hand h k e = absurd k
between o (v ∷ vs) [] (x ∷ xs) ys hand h k e = absurd h
between o (v ∷ vs) (c ∷ cs) [] ys hand h k e = absurd h
between o (v ∷ vs) (c ∷ cs) (x ∷ xs) [] hand h k e = absurd k
between o (v ∷ vs) (c ∷ cs) (x ∷ xs) (y ∷ ys) hand h k e = (k.0, between o vs cs xs ys hand h.1 k.1 e)

-- ---- the law

module _ (e : Equations) (owned mirrors xs ys zs hand : List ℕ) (lawful : AreLawful e) (vertices : AreVertices e owned) (first : IsLocalSolution e owned mirrors xs ys)
    (second : IsLocalSolution e owned mirrors (lowered e owned ys hand) zs) where
  alike : drop (length owned) (lowered e owned ys hand) ≡ drop (length owned) (lowered e owned xs hand)
  alike = lowered-alike e.order owned xs ys hand first.candidate.mirrors_stay

  candidate : IsLocalCandidate e owned mirrors (lowered e owned xs hand) zs
  candidate = record {
    below = AllBelow-trans e.order zs (lowered e owned ys hand) (lowered e owned xs hand) second.candidate.below (lowered-monotone e.order owned xs ys hand first.candidate.below);
    mirrors_stay = second.candidate.mirrors_stay ∙ alike;
    equations = second.candidate.equations;
  }

  module _ (cs : List ℕ) (c : IsLocalCandidate e owned mirrors (lowered e owned xs hand) cs) where
    below : AllBelow e.order cs xs
    below = AllBelow-trans e.order cs (lowered e owned xs hand) xs c.below (lowered-below e.order owned xs hand)

    -- with the mirrors of x it is a candidate of the first solution
    raised : IsLocalCandidate e owned mirrors xs (spliced owned cs xs)
    raised =
        let vs = owned ++ mirrors in
        let z : Assignment = value_at vs cs in
        let x : Assignment = value_at vs (spliced owned cs xs) in
        record {
          below = spliced-below e.order owned cs xs below;
          mirrors_stay = spliced-mirrors e.order owned cs xs below;
          equations = EquationsHold-at e x owned (spliced owned cs xs)
              (spliced-holds e lawful x z (λ u. value_at-below e.order vs cs (spliced owned cs xs) u (spliced-above e.order owned cs xs below)) owned cs xs vertices below (EquationsHold-from e z owned cs c.equations));
        }

    -- and so it is one of the second
    again : IsLocalCandidate e owned mirrors (lowered e owned ys hand) cs
    again = record {
      below = between e.order owned cs xs ys hand c.below (first.greatest (spliced owned cs xs) raised) first.candidate.mirrors_stay;
      mirrors_stay = c.mirrors_stay ∙ sym alike;
      equations = c.equations;
    }

  pub in_steps : IsLocalSolution e owned mirrors (lowered e owned xs hand) zs
  in_steps = record { candidate = candidate; greatest = λ cs c. second.greatest cs (again cs c) }

pub solving_in_steps : LocalSolutionInSteps
solving_in_steps e owned mirrors xs ys zs hand lawful r first second = in_steps e owned mirrors xs ys zs hand lawful (vertices_from e owned r) first second

pub solved_is_ready_again : SolvedIsReadyAgain
solved_is_ready_again e job part old new counters hand ready solution before room mirrors = record {
  ready = record {
    number = ready.number;
    is_part = ready.is_part;
    below_start = AllBelow-trans e.order new.values old.values (starts_of e (part.owned ++ part.mirrors)) solution.candidate.below ready.below_start;
    owned = ap length before ∙ ready.owned;
    room = room ∙ ready.room;
  };
  solved = solution.candidate.equations;
  mirrors = mirrors;
}
