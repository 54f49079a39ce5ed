-- The list of the mirrors that have a value.
use Rattle.std.specs.Prelude.{◌≡◌, ℕ, ◌+◌, ◌^◌, ◌<◌, ◌≤◌, ◌⊎◌, Bool, true, false, ◌==◌, if◌then◌else◌, List, [], ◌∷◌, ◌++◌, length, replicate, slice_index, All}
use Rattle.value_order.specs.declared.order.Order.{Order}
use Rattle.value_order.specs.declared.TheConstants.{NOTHING}
use Rattle.message_buffer.specs.Hands.{AreMirrorsOf}
use Rattle.message_buffer.specs.Buffers.{meets_of}

-- how many mirrors have a value
abbrev pub count_valued : List ℕ → ℕ
count_valued [] = 0
count_valued (a ∷ xs) = (if a == NOTHING then 0 else 1) + count_valued xs

-- each place has no value, or is in the list from a place in it on
abbrev pub AreListedFrom : List ℕ → List ℕ → ℕ → Type 0
AreListedFrom values mirrors i = (m : ℕ) → m < length values → (slice_index values m ≡ NOTHING) ⊎ ((k : ℕ) × (i ≤ k) × (k < length mirrors) × (slice_index mirrors k ≡ m))

-- The list has the mirrors with a value, and there is room for all mirrors.
pub record IsListed (values mirrors : List ℕ) (room : ℕ) : Type 0 where
  pub these : AreMirrorsOf values mirrors
  pub count : length mirrors ≡ count_valued values
  pub fits : length values ≤ room

-- a mirror is added where it had no value before
abbrev pub enlisted : List ℕ → ℕ → ℕ → List ℕ
enlisted mirrors mirror before = if before == NOTHING then mirrors ++ mirror ∷ [] else mirrors

-- no mirror has a value in a class that is calm
abbrev pub IsCalm : Bool → List ℕ → Type 0
IsCalm true values = Unit {0}
IsCalm false values = values ≡ replicate (length values) NOTHING

-- What a buffer keeps: values of 64 bits for the same mirrors in both classes, the list of those with a value in either, and whether the tagged class may have one.
pub record IsKept (order : Order) (plain tagged mirrors : List ℕ) (room : ℕ) (has_tagged : Bool) : Type 0 where
  pub same : length tagged ≡ length plain
  pub few : length plain < 2 ^ 32
  pub plain_fits : All (λ v. v < 2 ^ 64) plain
  pub tagged_fits : All (λ v. v < 2 ^ 64) tagged
  pub listed : IsListed (meets_of order plain tagged) mirrors room
  pub calm : IsCalm has_tagged tagged
