-- A heap of places with keys: its least key is found first, and of equal keys the least place.
use Rattle.std.specs.Prelude.{◌≡◌, ◌⊎◌, ℕ, zero, suc, ◌+◌, ◌-◌, ◌*◌, ◌/◌, ◌<◌, ◌≤◌, min, Bool, ◌==◌, nat_lt, List, Option, Some, None, length, map, slice_index, slice_index_or, slice_set, if◌then◌else◌}
use Rattle.graph_core.specs.Fragments.{numbers_below}

-- ---- the keys of the places that are in

abbrev pub lesser_key : Option ℕ → ℕ → ℕ
lesser_key None key = key
lesser_key (Some old) key = min old key

-- the place is in, with this key or the one that it had, if that was less
abbrev pub lowered : List (Option ℕ) → ℕ → ℕ → List (Option ℕ)
lowered keys place key = slice_set keys place (Some (lesser_key (slice_index_or keys place None) key))

pub record IsNearest (keys : List (Option ℕ)) (place key : ℕ) : Type 0 where
  pub is_in : slice_index_or keys place None ≡ Some key
  pub least : (p k : ℕ) → slice_index_or keys p None ≡ Some k → (key < k) ⊎ ((key ≡ k) × (place ≤ p))

-- what comes off: the nearest, and the rest stays; nothing where nothing is in
abbrev pub IsPopped : List (Option ℕ) → Option (ℕ × ℕ) → List (Option ℕ) → Type 0
IsPopped old None new = ((p : ℕ) → slice_index_or old p None ≡ None) × (new ≡ old)
IsPopped old (Some (place, key)) new = IsNearest old place key × (new ≡ slice_set old place None)

-- ---- rows of numbers

-- Node j of a tree over n places, whose leaves are the nodes from n to 2 n - 1: 0, or one more than a place. Behind the nodes stands a key for each place.
abbrev pub node : List ℕ → ℕ → ℕ
node rows j = slice_index rows j

-- the key of the place that a node names
abbrev pub key_of : ℕ → List ℕ → ℕ → ℕ
key_of n rows name = slice_index rows (2 * n + (name - 1))

-- one of two names: of the lesser key, of equal keys of the lesser place
abbrev pub nearer : ℕ → List ℕ → ℕ → ℕ → ℕ
nearer n rows a b =
    if a == 0 then b
    else (if b == 0 then a
    else (if nat_lt (key_of n rows b) (key_of n rows a) then b
    else (if nat_lt (key_of n rows a) (key_of n rows b) then a
    else min a b)))

-- a node names the nearer of what its two nodes below name
abbrev pub IsRight : ℕ → List ℕ → ℕ → Type 0
IsRight n rows j = node rows j ≡ nearer n rows (node rows (2 * j)) (node rows (2 * j + 1))

-- the rows hold a heap of n places
pub record IsHeap (n : ℕ) (rows : List ℕ) : Type 0 where
  pub long : 3 * n + 1 ≤ length rows
  pub small : (j : ℕ) → j < 2 * n → node rows j ≤ n
  pub leaves : (p : ℕ) → p < n → (node rows (n + p) ≡ 0) ⊎ (node rows (n + p) ≡ p + 1)
  pub right : (j : ℕ) → 1 ≤ j → j < n → IsRight n rows j

-- the key of a place that is in
abbrev pub key_at : ℕ → List ℕ → ℕ → Option ℕ
key_at n rows p = if node rows (n + p) == 0 then None else Some (slice_index rows (2 * n + p))

-- what the rows hold
abbrev pub heap_of : ℕ → List ℕ → List (Option ℕ)
heap_of n rows = map (key_at n rows) (numbers_below n)

-- so many halvings of a number
abbrev pub halved : ℕ → ℕ → ℕ
halved zero i = i
halved (suc t) i = halved t (i / 2)

-- node j stands above node i
abbrev pub Above : ℕ → ℕ → Type 0
Above j i = (t : ℕ) × (j ≡ halved (suc t) i)

-- all nodes are right but those above a node
pub record HasLeaf (n i : ℕ) (rows : List ℕ) : Type 0 where
  pub long : 3 * n + 1 ≤ length rows
  pub small : (j : ℕ) → j < 2 * n → node rows j ≤ n
  pub leaves : (p : ℕ) → p < n → (node rows (n + p) ≡ 0) ⊎ (node rows (n + p) ≡ p + 1)
  pub right : (j : ℕ) → 1 ≤ j → j < n → IsRight n rows j ⊎ Above j i
  pub within : i < 2 * n

-- the nodes are right, and leaves and keys are as before
pub record IsRefreshed (n : ℕ) (old new : List ℕ) : Type 0 where
  pub heap : IsHeap n new
  pub kept : (j : ℕ) → n ≤ j → slice_index new j ≡ slice_index old j
