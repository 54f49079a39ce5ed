-- What always holds of what stands on the platter.
use Rattle.std.proofs.Common.{◌≡◌, ◌⊎◌, inl, inr, ⊎_elim, ℕ, ◌+◌, ◌-◌, ◌<◌, ◌≤◌, max, Bool, true, false, List, [], ◌∷◌, ◌++◌, length, take, drop, replicate, slice_index, slice_index_or, get_or, refl, rules, arith, sym, ◌∙◌, ap, subst}
use Rattle.std.proofs.lemmas.List.{places, length-replicate, get_or-replicate, get_or_past}
use Rattle.std.proofs.lemmas.Bool.Decides.{leb_tells}
use Rattle.grape_disk.specs.Images.{written}
use Rattle.grape_disk.specs.Platters.{Did, wrote, synced, PlatterState, at_rest, marked, after, platter}
use Rattle.grape_disk.specs.Placed.{placed, length-placed, below, gap, inside, above}

-- each place of what a read gives has its mark, and where that is down stands the stable byte
pub record IsWhole (p : PlatterState) : Type 0 where
  pub marks : length p.pending ≡ length p.read
  pub no_shorter : length p.stable ≤ length p.read
  pub stable : (i : ℕ) → slice_index_or p.pending i true ≡ false → (i < length p.stable) × (slice_index p.read i ≡ slice_index p.stable i)

mark_is : (n i : ℕ) → slice_index_or (replicate n false) i true ≡ false → i < n
mark_is n i down = ⊎_elim (λ past. let up = get_or_past (replicate n false) i true (omega (arith, past.1, length-replicate {A = Bool} n false)) in absurd (cc up)) (λ low. low.1) (leb_tells n i)

pub at_rest_whole : (file : List ℕ) → IsWhole (at_rest file)
at_rest_whole file = record {
  marks = length-replicate {A = Bool} (length file) false;
  no_shorter = omega arith;
  stable = λ i down. (mark_is (length file) i down, refl);
}

length-marked : (at n : ℕ) (pending : List Bool) → length (marked at n pending) ≡ max (length pending) (at + n)
length-marked at n pending = search (rules, places)

placed_marks : (at n : ℕ) (pending : List Bool) → marked at n pending ≡ placed true at (replicate n true) pending
placed_marks at n pending = ap (λ (k : ℕ). take at pending ++ replicate (at - length pending) true ++ replicate n true ++ drop (at + k) pending) (sym (length-replicate {A = Bool} n true))

-- a mark that is down after a write stands elsewhere, and was down
pub unmarked : (at n : ℕ) (pending : List Bool) (i : ℕ) → slice_index_or (marked at n pending) i true ≡ false
    → (slice_index_or pending i true ≡ false) × ((i < at) ⊎ (at + n ≤ i))
unmarked at n pending i down =
    let size = length-replicate {A = Bool} n true
    in let now : get_or (placed true at (replicate n true) pending) i true ≡ false = subst (λ (ms : List Bool). get_or ms i true ≡ false) (placed_marks at n pending) down
    in ⊎_elim
    (λ right. (sym (above true at (replicate n true) pending i true (omega (arith, right.1, size))) ∙ now, inr right.1))
    (λ r. ⊎_elim
    (λ high. let up = inside true at (replicate n true) pending i true high.1 (omega (arith, r.1, size)) ∙ get_or-replicate n (i - at) true true (omega (arith, high.1, r.1)) in absurd (cc up))
    (λ left. ⊎_elim
    (λ past. let up = gap true at (replicate n true) pending i true past.1 left.1 in absurd (cc up))
    (λ within. (sym (below true at (replicate n true) pending i true within.1 left.1) ∙ now, inl left.1))
    (leb_tells (length pending) i))
    (leb_tells at i))
    (leb_tells (at + n) i)

-- a mark outside the range of a write is as it was
pub same_mark : (at n : ℕ) (pending : List Bool) (i : ℕ) → i < length pending → (i < at) ⊎ (at + n ≤ i) → slice_index_or (marked at n pending) i true ≡ slice_index_or pending i true
same_mark at n pending i long (inl left) = ap (λ (ms : List Bool). get_or ms i true) (placed_marks at n pending) ∙ below true at (replicate n true) pending i true long left
same_mark at n pending i long (inr right) =
    let size = length-replicate {A = Bool} n true
    in ap (λ (ms : List Bool). get_or ms i true) (placed_marks at n pending) ∙ above true at (replicate n true) pending i true (omega (arith, right, size))

-- a byte outside the range of a write is as it was
pub outside : (at : ℕ) (bytes file : List ℕ) (i : ℕ) → i < length file → (i < at) ⊎ (at + length bytes ≤ i) → slice_index (written at bytes file) i ≡ slice_index file i
outside at bytes file i long (inl left) = below 0 at bytes file i 0 long left
outside at bytes file i long (inr right) = above 0 at bytes file i 0 right

wrote_whole : (at : ℕ) (bytes : List ℕ) (p : PlatterState) → IsWhole p → IsWhole (after (wrote at bytes) p)
wrote_whole at bytes p whole = record {
  marks = omega (arith, length-marked at (length bytes) p.pending, length-placed 0 at bytes p.read, whole.marks);
  no_shorter = omega (arith, length-placed 0 at bytes p.read, whole.no_shorter);
  stable = λ i down.
      let was = unmarked at (length bytes) p.pending i down
      in let stood = whole.stable i was.0
      in (stood.0, outside at bytes p.read i (omega (arith, stood.0, whole.no_shorter)) was.1 ∙ stood.1);
}

pub platter_whole : (start : List ℕ) (done : List (ℕ × Did)) → IsWhole (platter start done)
platter_whole start [] = at_rest_whole start
platter_whole start ((moment, wrote at bytes) ∷ done) = wrote_whole at bytes (platter start done) (platter_whole start done)
platter_whole start ((moment, synced) ∷ done) = at_rest_whole (platter start done).read
