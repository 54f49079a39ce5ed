-- What each admitted event keeps holds after a legal journal; and tests of all numbers below a number.
use Rattle.std.proofs.Common.{◌≡◌, ℕ, zero, suc, ◌+◌, ◌<◌, ◌⊎◌, inl, inr, Bool, true, false, ◌&&◌, IsTrue, refl, sym, ◌∙◌, ap, subst, arith, List, [], ◌∷◌, ◌++◌, reverse, append_assoc, append-nil}
use Rattle.std.specs.List.{list_all, range_with_len}
use Rattle.std.proofs.lemmas.Bool.{and_parts, and_from}
use mathlib.Core.List.{reverse-cons}
use Rattle.graph_core.specs.Fragments.{numbers_below}
use Rattle.grape_event.specs.declared.event.Event.{Event}
use Rattle.base_machine.specs.Machine.{System}
use Rattle.legal_journal.specs.Legal.{State, start_state, is_admitted, state_after, state_after_all, are_admitted}
use Rattle.legal_journal.specs.Theorems.{JournalsGrow}

pub kept_along : (sys : System) (P : State → Type 0) → ((s : State) (e : Event) → IsTrue (is_admitted sys s e) → P s → P (state_after sys s e)) →
    (journal : List Event) (s : State) → IsTrue (are_admitted sys s journal) → P s → P (state_after_all sys s journal)
kept_along sys P step [] s h p = p
kept_along sys P step (e ∷ journal) s h p =
    let both = and_parts (is_admitted sys s e) _ h in
    kept_along sys P step journal (state_after sys s e) both.1 (step s e both.0 p)

pub admitted_parts : (sys : System) (xs ys : List Event) (s : State) → IsTrue (are_admitted sys s (xs ++ ys)) → IsTrue (are_admitted sys s xs) × IsTrue (are_admitted sys (state_after_all sys s xs) ys)
admitted_parts sys [] ys s h = (refl, h)
admitted_parts sys (x ∷ xs) ys s h =
    let both = and_parts (is_admitted sys s x) _ h in
    let again = admitted_parts sys xs ys (state_after sys s x) both.1 in
    (and_from (is_admitted sys s x) _ both.0 again.0, again.1)

pub past_after : (sys : System) (journal : List Event) (s : State) → (state_after_all sys s journal).past ≡ reverse journal ++ s.past
past_after sys [] s = refl
past_after sys (e ∷ journal) s =
    past_after sys journal (state_after sys s e) ∙ (sym (append_assoc (reverse journal) (e ∷ []) s.past) ∙ ap (λ l. l ++ s.past) (sym (reverse-cons e journal)))

admitted_join : (sys : System) (xs ys : List Event) (s : State) → IsTrue (are_admitted sys s xs) → IsTrue (are_admitted sys (state_after_all sys s xs) ys) → IsTrue (are_admitted sys s (xs ++ ys))
admitted_join sys [] ys s h k = k
admitted_join sys (x ∷ xs) ys s h k =
    let both = and_parts (is_admitted sys s x) _ h in
    and_from (is_admitted sys s x) _ both.0 (admitted_join sys xs ys (state_after sys s x) both.1 k)

pub state_after_all-append : (sys : System) (xs ys : List Event) (s : State) → state_after_all sys s (xs ++ ys) ≡ state_after_all sys (state_after_all sys s xs) ys
state_after_all-append sys [] ys s = refl
state_after_all-append sys (x ∷ xs) ys s = state_after_all-append sys xs ys (state_after sys s x)

pub journals_grow : JournalsGrow
journals_grow sys start journal e =
    let s = start_state start in
    let t = state_after_all sys s journal in (
      past_after sys journal s ∙ append-nil (reverse journal),
      state_after_all-append sys journal (e ∷ []) s,
      (
        λ h. let k = admitted_parts sys journal (e ∷ []) s h in (k.0, (and_parts (is_admitted sys t e) true k.1).0),
        λ h. admitted_join sys journal (e ∷ []) s h.0 (and_from (is_admitted sys t e) true h.1 refl),
      ),
    )

-- ---- tests of numbers

all_from : (test : ℕ → Bool) (a n : ℕ) → list_all test (range_with_len a n) ≡ true → (i : ℕ) → i < n → test (a + i) ≡ true
all_from test a zero h i l = absurd (omega (arith, l))
all_from test a (suc n) h zero l = let e : a + 0 ≡ a = omega arith in subst (λ k. test k ≡ true) (sym e) (and_parts _ _ h).0
all_from test a (suc n) h (suc i) l =
    let e : a + 1 + i ≡ a + suc i = omega arith in
    subst (λ k. test k ≡ true) e (all_from test (a + 1) n (and_parts (test a) _ h).1 i (omega (arith, l)))

pub all_below : (test : ℕ → Bool) (n : ℕ) → list_all test (numbers_below n) ≡ true → (i : ℕ) → i < n → test i ≡ true
all_below test n h i l = let e : 0 + i ≡ i = omega arith in subst (λ k. test k ≡ true) e (all_from test 0 n h i l)

-- the first number that fails, where not all pass
first_from : (test : ℕ → Bool) (a n : ℕ) → (list_all test (range_with_len a n) ≡ true) ⊎ ((i : ℕ) × (i < n) × (test (a + i) ≡ false))
first_from test a zero = inl refl
first_from test a (suc n) = go (test a) refl (first_from test (a + 1) n)
  where
    go : (t : Bool) → test a ≡ t → (list_all test (range_with_len (a + 1) n) ≡ true) ⊎ ((i : ℕ) × (i < n) × (test (a + 1 + i) ≡ false)) →
        ((test a && list_all test (range_with_len (a + 1) n)) ≡ true) ⊎ ((i : ℕ) × (i < suc n) × (test (a + i) ≡ false))
    go false e k = let z : a + 0 ≡ a = omega arith in inr (0, omega arith, subst (λ q. test q ≡ false) (sym z) e)
    go true e (inl k) = inl (and_from (test a) _ e k)
    go true e (inr k) =
        let z : a + 1 + k.0 ≡ a + suc k.0 = omega arith in
        let l = k.1 in
        inr (suc k.0, omega (arith, l), subst (λ q. test q ≡ false) z k.2)

pub all_or_not : (test : ℕ → Bool) (n : ℕ) → (list_all test (numbers_below n) ≡ true) ⊎ ((i : ℕ) × (i < n) × (test i ≡ false))
all_or_not test n = elim (first_from test 0 n) [
  | inl h ↦ inl h
  | inr k ↦ let e : 0 + k.0 ≡ k.0 = omega arith in inr (k.0, k.1, subst (λ q. test q ≡ false) e k.2)
]

all_to : (test : ℕ → Bool) (a n : ℕ) → ((i : ℕ) → i < n → test (a + i) ≡ true) → list_all test (range_with_len a n) ≡ true
all_to test a zero h = refl
all_to test a (suc n) h =
    let z : a + 0 ≡ a = omega arith in
    and_from (test a) _ (subst (λ q. test q ≡ true) z (h 0 (omega arith)))
    (all_to test (a + 1) n (λ i l. let e : a + suc i ≡ a + 1 + i = omega arith in subst (λ q. test q ≡ true) e (h (suc i) (omega (arith, l)))))

pub all_from_each : (test : ℕ → Bool) (n : ℕ) → ((i : ℕ) → i < n → test i ≡ true) → list_all test (numbers_below n) ≡ true
all_from_each test n h = all_to test 0 n (λ i l. let e : i ≡ 0 + i = omega arith in subst (λ q. test q ≡ true) e (h i l))
