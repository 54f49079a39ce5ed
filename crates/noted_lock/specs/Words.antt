-- The rule in words that name no number's owner: what holds of the word, of the slot and of the views of all seats.
-- The rule speaks of a claim that a joined seat left as of a seat that exists.
use Rattle.std.specs.Prelude.{◌≡◌, ℕ, ◌<◌, ◌≤◌, true, List, slice_index, Option, Some}
use mathlib.Core.Option.{some}
use lib.ListN.{get_elem?}
use Rattle.atomic_table.specs.Table.{State}
use Rattle.noted_lock.specs.declared.view.Claim.{Claim}
use Rattle.noted_lock.specs.declared.view.View.{View}
use Rattle.noted_lock.specs.Rule.{note_in}

-- the seat j has the view v, whose claim i is c
abbrev pub Claims : List View → ℕ → View → ℕ → Claim → Type 0
Claims views j v i c = (get_elem? views j ≡ some v) × (get_elem? v.claims i ≡ some c)

module _ {T : Type 0} (tell : T → ℕ → List ℕ) (seats : ℕ) where
  pub record InWords (s : State (Option T) View) : Type 0 where
    -- at most one seat is inside, and one exactly where the word is 1; else the word is 0
    pub word : slice_index s.words 0 < 2
    pub one_inside : (j k : ℕ) (v w : View) → get_elem? s.views j ≡ some v → get_elem? s.views k ≡ some w → v.inside ≡ true → w.inside ≡ true → j ≡ k
    pub inside_taken : (j : ℕ) (v : View) → get_elem? s.views j ≡ some v → v.inside ≡ true → slice_index s.words 0 ≡ 1
    pub taken_inside : slice_index s.words 0 ≡ 1 → (j : ℕ) × ((v : View) × (get_elem? s.views j ≡ some v) × (v.inside ≡ true))
    -- the numbers of all claims differ, lie below the number of the lock's seats, and all views have this number
    pub numbers_differ : (j k : ℕ) (v w : View) (i l : ℕ) (c d : Claim) → Claims s.views j v i c → Claims s.views k w l d → c.number ≡ d.number → (j ≡ k) × (i ≡ l)
    pub numbers_below : (j : ℕ) (v : View) (i : ℕ) (c : Claim) → Claims s.views j v i c → (c.number < seats) × (v.seats ≡ seats)
    -- while the word is 0 the slot holds the value, and the value has each seat's note
    pub at_rest : slice_index s.words 0 ≡ 0 → (x : T) × (get_elem? s.homes 0 ≡ some (some (Some x))) × ((j : ℕ) (v : View) (i : ℕ) (c : Claim) → Claims s.views j v i c → tell x c.number ≡ c.note)
    -- while a seat is inside its list has each seat's note, and a value in the slot has the notes of that list
    pub list_notes : (j k : ℕ) (v w : View) (i : ℕ) (c : Claim) → get_elem? s.views j ≡ some v → v.inside ≡ true → Claims s.views k w i c → note_in v.notes c.number ≡ c.note
    pub list_value : (j : ℕ) (v : View) (x : T) → get_elem? s.views j ≡ some v → v.inside ≡ true → get_elem? s.homes 0 ≡ some (some (Some x)) → (k : ℕ) → k < seats → tell x k ≡ note_in v.notes k
    -- while the lock is made the making seat is inside, its list has one note for all seats, and its count of the seats made is above every number
    pub making : (j : ℕ) (v : View) → get_elem? s.views j ≡ some v → 0 < v.made → (v.inside ≡ true) × (v.made ≤ seats) × ((k : ℕ) → k < seats → note_in v.notes k ≡ note_in v.notes 0) × ((k : ℕ) (w : View) (i : ℕ) (c : Claim) → Claims s.views k w i c → c.number < v.made)
