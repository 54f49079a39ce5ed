-- What each step of the lock tells of the seat that makes it, m before the step and m' after it.
use Rattle.std.specs.Prelude.{◌≡◌, ◌≢◌, ℕ, ◌+◌, ◌<◌, List, [], ◌∷◌, ◌++◌, slice_set, Option, Some}
use Rattle.atomic_table.specs.Table.{Me, Step}
use Rattle.noted_lock.specs.declared.view.Claim.{Claim}
use Rattle.noted_lock.specs.declared.view.View.{View}
use Rattle.noted_lock.specs.Rule.{notes_of, claim, outside, within, maker, keeper}

-- the first claim, or that of the number 0 with no note
abbrev pub first_claim : List Claim → Claim
first_claim [] = claim 0 []
first_claim (c ∷ cs) = c

module _ {T : Type 0} where
  -- The seat m has the turn now, and the slot with the value, whose note of this number is the seat's.
  abbrev pub HasTaken : (T → ℕ → List ℕ) → Me (Option T) View → Me (Option T) View → Type 0
  HasTaken tell m m' =
      (x : T) × (m'.1 ≡ (0, Some x) ∷ []) × (m'.0 ≡ within m.0.seats (first_claim m.0.claims) (notes_of (tell x) m.0.seats))
      × ((first_claim m.0.claims).number < m.0.seats) × (tell x (first_claim m.0.claims).number ≡ (first_claim m.0.claims).note)

  -- A compare and exchange has taken the turn where it found 0, and else changed nothing.
  abbrev pub took : (T → ℕ → List ℕ) → Step (Option T) → Me (Option T) View → ℕ → Me (Option T) View → Type 0
  took tell st m r m' = (r ≡ 0 → HasTaken tell m m') × (r ≢ 0 → m' ≡ m)

  -- The seat's note and its own member of the list become `what`.
  abbrev pub recorded : List ℕ → Step (Option T) → Me (Option T) View → ℕ → Me (Option T) View → Type 0
  recorded what st m r m' =
      (m'.1 ≡ m.1) × (m'.0 ≡ within m.0.seats (claim (first_claim m.0.claims).number what) (slice_set m.0.notes (first_claim m.0.claims).number what))

  -- The seat is outside.
  abbrev pub gave : Step (Option T) → Me (Option T) View → ℕ → Me (Option T) View → Type 0
  gave st m r m' = (m'.1 ≡ []) × (m'.0 ≡ outside m.0.seats (first_claim m.0.claims))

-- the seat that makes the lock, with one more seat made
abbrev pub made_one : View → View
made_one v = maker v.seats (first_claim v.claims) (v.made + 1) v.notes

-- the seat that is split off it, whose number is how many were made before
abbrev pub next_seat : View → View
next_seat v = outside v.seats (claim v.made (first_claim v.claims).note)

-- the claims of the second stand before those of the first
abbrev pub both : View → View → View
both v w = keeper v.seats (w.claims ++ v.claims)
