-- Steps of two tables that lead to blocks.
use Rattle.std.proofs.Common.{◌≡◌, ℕ, zero, suc, ◌+◌, ◌*◌, ◌%◌, ◌<◌, ◌≤◌, Bool, true, false, ◌==◌, List, [], ◌∷◌, ◌++◌, length, refl, sym, ◌∙◌, ap, arith, get_or, set, replicate, take, take_all}
use Rattle.std.proofs.lemmas.Bool.Decides.{nat_tests}
use Rattle.std.proofs.lemmas.List.{get_or-set_same, get_or-set_other}
use Rattle.std.proofs.Math.ListN.{get_or-eq_default}
use Rattle.text_lines.specs.WordTables.{entry_in, LeadApart, LeadAlike, SayTheSame}

zeros : (count i : ℕ) → ◌≡◌ {A = ℕ} (get_or (replicate count 0) i 0) 0
zeros zero i = refl
zeros (suc count) zero = refl
zeros (suc count) (suc i) = zeros count i

pub zeros_behind : (xs : List ℕ) (count : ℕ) → SayTheSame xs (xs ++ replicate count 0)
zeros_behind [] count i = zeros count i
zeros_behind (x ∷ xs) count zero = refl
zeros_behind (x ∷ xs) count (suc i) = zeros_behind xs count i

pub same_place : (i j : ℕ) → (i == j) ≡ true → i ≡ j
same_place i j e = grind (arith, nat_tests, e)

pub other_place : (i j : ℕ) → (i == j) ≡ false → i ≡ j → ⊥
other_place i j e x = let t : (i == j) ≡ true = grind (arith, nat_tests, x) in let u : true ≡ false = sym t ∙ e in cc

-- A list that is lengthened by zeros.
pub lengthened : (xs more : List ℕ) (size count : ℕ) → length xs ≤ size → more ≡ take size xs ++ replicate count 0 → SayTheSame xs more
lengthened xs more size count l e i = ap (λ ys. get_or ys i 0) (e ∙ ap (λ ys. ys ++ replicate count 0) (take_all size xs l)) ∙ zeros_behind xs count i

-- blocks are read alike where the list says the same
pub read_alike : (size : ℕ) (below more : List ℕ) (t d : ℕ) → SayTheSame below more → entry_in size more t d ≡ entry_in size below t d
read_alike size below more zero d same = refl
read_alike size below more (suc b) d same = same (b * size + d)

-- a block behind all others says nothing
behind_all : (size : ℕ) (below more : List ℕ) (b name d : ℕ) → SayTheSame below more → length below ≤ b * size → name ≡ suc b → entry_in size more name d ≡ 0
behind_all size below more b name d same l e =
    ap (λ t. entry_in size more t d) e ∙ same (b * size + d) ∙ get_or-eq_default below 0 (omega (arith, l))

no_block : (size : ℕ) (below : List ℕ) (t d : ℕ) → t ≡ 0 → entry_in size below t d ≡ 0
no_block size below t d e = ap (λ k. entry_in size below k d) e

-- An entry that led nowhere leads to a new block of zeros.
pub record IsGiven (size : ℕ) (entries below : List ℕ) (i b name : ℕ) (more : List ℕ) : Type 0 where
  pub inside : i < length entries
  pub free : get_or entries i 0 ≡ 0
  pub is_next : name ≡ suc b
  pub before : length below ≡ b * size
  pub after : length more ≡ name * size
  pub larger : length below < length more
  pub says : SayTheSame below more
  pub whole : length more % size ≡ 0

pub given_alike : (size : ℕ) (entries below : List ℕ) (i b name : ℕ) (more : List ℕ) → IsGiven size entries below i b name more → LeadAlike size entries below (set entries i name) more
given_alike size entries below i b name more g k d = by_place (k == i) refl where
  by_place : (c : Bool) → (k == i) ≡ c → entry_in size more (get_or (set entries i name) k 0) d ≡ entry_in size below (get_or entries k 0) d
  by_place true e =
      let here : k ≡ i = same_place k i e
      in let now : get_or (set entries i name) k 0 ≡ name = ap (λ p. get_or (set entries i name) p 0) here ∙ get_or-set_same entries i name 0 g.inside
      in let was : get_or entries k 0 ≡ 0 = ap (λ p. get_or entries p 0) here ∙ g.free
      in ap (λ t. entry_in size more t d) now ∙ behind_all size below more b name d g.says (omega (arith, g.before)) g.is_next ∙ sym (no_block size below (get_or entries k 0) d was)
  by_place false e =
      let there : get_or (set entries i name) k 0 ≡ get_or entries k 0 = get_or-set_other entries i k name 0 (other_place k i e)
      in ap (λ t. entry_in size more t d) there ∙ read_alike size below more (get_or entries k 0) d g.says

fresh : (size : ℕ) (entries below : List ℕ) (name j : ℕ) → LeadApart size entries below → length below < name * size → get_or entries j 0 ≡ name → ⊥
fresh size entries below name j h l e = omega (arith, h.within j, l, ap (λ t. t * size) e)

pub given_apart : (size : ℕ) (entries below : List ℕ) (i b name : ℕ) (more : List ℕ) → IsGiven size entries below i b name more → LeadApart size entries below → LeadApart size (set entries i name) more
given_apart size entries below i b name more g h = record { apart = parted; within = inside; whole = g.whole } where
  here : (j : ℕ) → (j == i) ≡ true → get_or (set entries i name) j 0 ≡ name
  here j e = ap (λ p. get_or (set entries i name) p 0) (same_place j i e) ∙ get_or-set_same entries i name 0 g.inside

  there : (j : ℕ) → (j == i) ≡ false → get_or (set entries i name) j 0 ≡ get_or entries j 0
  there j e = get_or-set_other entries i j name 0 (other_place j i e)

  new : (j : ℕ) → get_or entries j 0 ≡ name → ⊥
  new j e = fresh size entries below name j h (omega (arith, g.larger, g.after)) e

  by_places : (j k : ℕ) (c d : Bool) → (j == i) ≡ c → (k == i) ≡ d → get_or (set entries i name) j 0 ≡ get_or (set entries i name) k 0 → 0 < get_or (set entries i name) j 0 → j ≡ k
  by_places j k true true e f x p = same_place j i e ∙ sym (same_place k i f)
  by_places j k true false e f x p = absurd (new k (sym (there k f) ∙ sym x ∙ here j e))
  by_places j k false true e f x p = absurd (new j (sym (there j e) ∙ x ∙ here k f))
  by_places j k false false e f x p = h.apart j k (sym (there j e) ∙ x ∙ there k f) (omega (arith, p, there j e))

  parted : (j k : ℕ) → get_or (set entries i name) j 0 ≡ get_or (set entries i name) k 0 → 0 < get_or (set entries i name) j 0 → j ≡ k
  parted j k = by_places j k (j == i) (k == i) refl refl

  inside_at : (j : ℕ) (c : Bool) → (j == i) ≡ c → get_or (set entries i name) j 0 * size ≤ length more
  inside_at j true e = omega (arith, ap (λ t. t * size) (here j e), g.after)
  inside_at j false e = omega (arith, ap (λ t. t * size) (there j e), h.within j, g.larger)

  inside : (j : ℕ) → get_or (set entries i name) j 0 * size ≤ length more
  inside j = inside_at j (j == i) refl
