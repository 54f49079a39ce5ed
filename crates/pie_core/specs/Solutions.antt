-- The local solution of a fragment: the greatest values that keep the mirrors and lie below their own equations.
use Rattle.std.specs.Prelude.{◌≡◌, ℕ, zero, suc, ◌*◌, ◌<◌, Bool, true, false, if◌then◌else◌, ◌==◌, ◌&&◌, List, [], ◌∷◌, ◌++◌, map, length, take, drop, slice_index, sum_by}
use Rattle.std.specs.List.{AllZip}
use Rattle.value_order.specs.declared.order.Order.{Order}
use Rattle.value_order.specs.Order.{meet_of, Below, height_of}
use Rattle.graph_core.specs.declared.job.Job.{Job}
use Rattle.graph_core.specs.Parts.{FragmentLists}
use Rattle.graph_core.specs.Equations.{Equations, Assignment}
use Rattle.graph_core.specs.Fragments.{fragment_of}
use Rattle.message_buffer.specs.HandValues.{HandValues}
use Rattle.pie_core.specs.Locals.{LocalValues}

-- The values of a fragment stand in a list, one for each place: first those of the owned vertices, then those of the mirrors. This is the value that such a list gives a vertex, and 0 where no place has it.
abbrev pub value_at : List ℕ → List ℕ → Assignment
value_at [] xs v = 0
value_at (u ∷ us) [] v = 0
value_at (u ∷ us) (x ∷ xs) v = if u == v then x else value_at us xs v

-- x lies below y, place by place
abbrev pub AllBelow : Order → List ℕ → List ℕ → Type 0
AllBelow o = AllZip (Below o)

-- the value of each owned place lies below its own equation
abbrev pub OwnEquationsHold : Equations → List ℕ → List ℕ → List ℕ → Type 0
OwnEquationsHold e owned mirrors xs =
    (p : ℕ) → p < length owned → Below e.order (slice_index xs p) (e.phi (slice_index owned p) (value_at (owned ++ mirrors) xs))

-- y lies below x, equals x on the mirrors, and lies below its own equation on every owned place
pub record IsLocalCandidate (e : Equations) (owned mirrors xs ys : List ℕ) : Type 0 where
  pub below : AllBelow e.order ys xs
  pub mirrors_stay : drop (length owned) ys ≡ drop (length owned) xs
  pub equations : OwnEquationsHold e owned mirrors ys

-- y is the greatest list with these properties
pub record IsLocalSolution (e : Equations) (owned mirrors xs ys : List ℕ) : Type 0 where
  pub candidate : IsLocalCandidate e owned mirrors xs ys
  pub greatest : (zs : List ℕ) → IsLocalCandidate e owned mirrors xs zs → AllBelow e.order zs ys

-- ---- the same by computation

-- the values of the owned places, each lowered by its equation at x; the mirrors stay
abbrev pub lowered_by_equations : Equations → Assignment → List ℕ → List ℕ → List ℕ
lowered_by_equations e x [] xs = xs
lowered_by_equations e x (v ∷ vs) [] = []
lowered_by_equations e x (v ∷ vs) (a ∷ xs) = meet_of e.order a (e.phi v x) ∷ lowered_by_equations e x vs xs

-- one step: all owned places at once are lowered by their own equations
abbrev pub local_step : Equations → List ℕ → List ℕ → List ℕ → List ℕ
local_step e owned mirrors xs = lowered_by_equations e (value_at (owned ++ mirrors) xs) owned xs

abbrev pub are_same : List ℕ → List ℕ → Bool
are_same [] [] = true
are_same [] (y ∷ ys) = false
are_same (x ∷ xs) [] = false
are_same (x ∷ xs) (y ∷ ys) = x == y && are_same xs ys

-- steps until one changes nothing, and at most n
abbrev pub after_steps : Equations → List ℕ → List ℕ → ℕ → List ℕ → List ℕ
after_steps e owned mirrors zero xs = xs
after_steps e owned mirrors (suc n) xs =
    let ys = local_step e owned mirrors xs in
    elim (are_same ys xs) [ true ↦ xs | false ↦ after_steps e owned mirrors n ys ]

-- The local solution: no value can become lower more often than its height says.
abbrev pub local_solution : Equations → List ℕ → List ℕ → List ℕ → List ℕ
local_solution e owned mirrors xs = after_steps e owned mirrors (sum_by (height_of e.order) (take (length owned) xs)) xs

-- ---- what evaluation is given

-- values, each lowered by the one of the hand
abbrev pub met : Order → List ℕ → List ℕ → List ℕ
met o [] hand = []
met o (x ∷ xs) [] = x ∷ xs
met o (x ∷ xs) (a ∷ hand) = meet_of o x a ∷ met o xs hand

-- the values of a fragment after each mirror was lowered by the hand
abbrev pub mirrors_lowered : Order → List ℕ → List ℕ → List ℕ → List ℕ
mirrors_lowered o owned xs hand = take (length owned) xs ++ met o (drop (length owned) xs) hand

abbrev pub lowered : Equations → List ℕ → List ℕ → List ℕ → List ℕ
lowered e = mirrors_lowered e.order

-- the start values of these vertices
abbrev pub starts_of : Equations → List ℕ → List ℕ
starts_of e vs = map e.start vs

-- the fragment is one of the job's, the values have its places and lie below the starts, and the sizes are its own and the program's
pub record IsReadyFor (e : Equations) (job : Job) (part : FragmentLists) (local : LocalValues) (counters : ℕ) : Type 0 where
  pub number : part.number < job.settings.fragments
  pub is_part : part ≡ fragment_of job part.number
  pub below_start : AllBelow e.order local.values (starts_of e (part.owned ++ part.mirrors))
  pub owned : length local.before ≡ length part.owned
  pub room : length local.counters ≡ length part.owned * counters

-- besides, the owned values lie below their own equations, and the hand has a value for each mirror
pub record IsReadyAgain (e : Equations) (job : Job) (part : FragmentLists) (local : LocalValues) (counters : ℕ) (hand : HandValues) : Type 0 where
  pub ready : IsReadyFor e job part local counters
  pub solved : OwnEquationsHold e part.owned part.mirrors local.values
  pub mirrors : length hand.values ≡ length part.mirrors
