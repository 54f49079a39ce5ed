-- Words by their places, where a block of words that are all 0 takes no room.
use Rattle.std.specs.Prelude.{◌≡◌, ℕ, zero, suc, ◌+◌, ◌*◌, ◌/◌, ◌%◌, ◌<◌, ◌≤◌, List, length, slice_index}

-- Two tables that lead to blocks: of 512 entries in the middles, and of 8 words.
pub record WordTables : Type 0 where
  pub tops : List ℕ
  pub middles : List ℕ
  pub words : List ℕ

-- what stands at a place of a block, where blocks are counted from 1 and 0 is no block
abbrev pub entry_in : ℕ → List ℕ → ℕ → ℕ → ℕ
entry_in size entries zero place = 0
entry_in size entries (suc block) place = slice_index entries (block * size + place)

-- the block of a word, in a middle that a top leads to
abbrev pub leaf_in : List ℕ → List ℕ → ℕ → ℕ
leaf_in tops middles place = entry_in 512 middles (slice_index tops (place / 4096)) (place / 8 % 512)

abbrev pub word_in : List ℕ → List ℕ → List ℕ → ℕ → ℕ
word_in tops middles words place = entry_in 8 words (leaf_in tops middles place) (place % 8)

abbrev pub word_at : WordTables → ℕ → ℕ
word_at t place = word_in t.tops t.middles t.words place

-- no two entries lead to one block, and each leads to a block that is there
pub record LeadApart (size : ℕ) (entries below : List ℕ) : Type 0 where
  pub apart : (i j : ℕ) → slice_index entries i ≡ slice_index entries j → 0 < slice_index entries i → i ≡ j
  pub within : (i : ℕ) → slice_index entries i * size ≤ length below
  pub whole : length below % size ≡ 0

-- each place of a block that an entry leads to says what it said
abbrev pub LeadAlike : ℕ → List ℕ → List ℕ → List ℕ → List ℕ → Type 0
LeadAlike size entries below entries' below' = (k d : ℕ) → entry_in size below' (slice_index entries' k) d ≡ entry_in size below (slice_index entries k) d

abbrev pub SayTheSame : List ℕ → List ℕ → Type 0
SayTheSame xs ys = (i : ℕ) → slice_index ys i ≡ slice_index xs i
