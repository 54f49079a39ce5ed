-- The rule of the lock: what holds of the word, of the slot and of what the seats know, between any two steps.
-- A claim is a seat's number with its note. A seat has one claim, a joined seat has none, and the seat that took it in has both.
use Rattle.std.specs.Prelude.{◌≡◌, ℕ, zero, suc, ◌<◌, ◌≤◌, true, false, List, [], ◌∷◌, length, slice_index, slice_index_or, Option, Some}
use mathlib.Core.Option.{none, some}
use mathlib.Core.Option as maybe
use lib.ListN.{get_elem?}
use Rattle.atomic_table.specs.Table.{State}
use Rattle.noted_lock.specs.declared.view.Claim.{Claim}
use Rattle.noted_lock.specs.declared.view.View.{View}

-- the notes of the seats 0 to n - 1
abbrev pub notes_of : (ℕ → List ℕ) → ℕ → List (List ℕ)
notes_of note zero = []
notes_of note (suc n) = note 0 ∷ notes_of (λ k. note (suc k)) n

-- the number k's note in a list of notes
abbrev pub note_in : List (List ℕ) → ℕ → List ℕ
note_in notes k = slice_index_or notes k []

abbrev pub claim : ℕ → List ℕ → Claim
claim number note = record { number = number; note = note }

-- a seat that waits for its turn
abbrev pub outside : ℕ → Claim → View
outside seats c = record { seats = seats; claims = c ∷ []; inside = false; made = 0; notes = [] }

-- a seat that has the turn
abbrev pub within : ℕ → Claim → List (List ℕ) → View
within seats c notes = record { seats = seats; claims = c ∷ []; inside = true; made = 0; notes = notes }

-- the seat that makes the others, of which `made` are there
abbrev pub maker : ℕ → Claim → ℕ → List (List ℕ) → View
maker seats c made notes = record { seats = seats; claims = c ∷ []; inside = true; made = made; notes = notes }

-- a seat that holds the claims of the seats that it took in
abbrev pub keeper : ℕ → List Claim → View
keeper seats claims = record { seats = seats; claims = claims; inside = false; made = 0; notes = [] }

-- a seat that was joined to another
abbrev pub spent : View
spent = keeper 0 []

module _ {T : Type 0} (seats : ℕ) where
  -- What the view v of the seat j says, where
  -- `note` has each number's note, `owner` the seat that has its claim, `holder` the seat that is inside, and `count` the seats made.
  pub record Fits (word : ℕ) (homes : List (maybe.Option (Option T))) (note : ℕ → List ℕ) (owner : ℕ → ℕ) (holder count j : ℕ) (v : View) : Type 0 where
    pub each_once : (i l : ℕ) (c d : Claim) → get_elem? v.claims i ≡ some c → get_elem? v.claims l ≡ some d → c.number ≡ d.number → i ≡ l
    pub each_claim : (i : ℕ) (c : Claim) → get_elem? v.claims i ≡ some c → (c.number < count) × (owner c.number ≡ j) × (note c.number ≡ c.note) × (v.seats ≡ seats)
    pub turn : v.inside ≡ true → (word ≡ 1) × (holder ≡ j) × (length v.notes ≡ seats) × ((k : ℕ) → k < seats → note_in v.notes k ≡ note k) × (v.seats ≡ seats) × ((c : Claim) × (get_elem? v.claims 0 ≡ some c))
    pub out : v.inside ≡ true → v.made ≡ 0 → get_elem? homes 0 ≡ some none
    pub making : 0 < v.made → (v.inside ≡ true) × (v.made ≡ count) × ((x : T) × (get_elem? homes 0 ≡ some (some (Some x)))) × ((k : ℕ) → k < seats → note_in v.notes k ≡ note_in v.notes 0)

module _ {T : Type 0} (tell : T → ℕ → List ℕ) (seats : ℕ) where
  pub record Kept (s : State (Option T) View) : Type 0 where
    pub note : ℕ → List ℕ
    pub owner : ℕ → ℕ
    pub holder : ℕ
    pub count : ℕ
    pub wide : length s.words ≡ 1
    pub deep : length s.homes ≡ 1
    pub bit : slice_index s.words 0 < 2
    pub room : count ≤ seats
    pub shelf : (x : T) → get_elem? s.homes 0 ≡ some (some (Some x)) → (k : ℕ) → k < seats → tell x k ≡ note k
    pub free : slice_index s.words 0 ≡ 0 → (x : T) × (get_elem? s.homes 0 ≡ some (some (Some x)))
    pub taken : slice_index s.words 0 ≡ 1 → (v : View) × (get_elem? s.views holder ≡ some v) × (v.inside ≡ true)
    pub each_view : (j : ℕ) (v : View) → get_elem? s.views j ≡ some v → Fits seats (slice_index s.words 0) s.homes note owner holder count j v
