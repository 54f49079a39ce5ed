-- Each image after a write is one from before it with any bytes in the range.
use Rattle.std.proofs.Common.{◌≡◌, ◌⊎◌, inl, inr, ⊎_elim, ℕ, ◌+◌, ◌-◌, ◌<◌, ◌≤◌, min, true, false, List, length, take, drop, slice_index, slice_index_or, get_or, sym, ◌∙◌, ap, arith, length-take, length-drop}
use Rattle.std.proofs.lemmas.List.{get_or-take, get_or-drop}
use Rattle.std.proofs.lemmas.Bool.Decides.{leb_tells}
use Rattle.grape_disk.specs.Images.{written, Torn}
use Rattle.grape_disk.specs.Platters.{wrote, PlatterState, after, IsImage}
use Rattle.grape_disk.specs.Placed.{length-placed, below, inside, above}
use Rattle.grape_disk.specs.Whole.{IsWhole, same_mark}

-- the stable bytes of a range
abbrev stood : PlatterState → ℕ → ℕ → List ℕ
stood p at n = take n (drop at p.stable)

-- the image before the write: the stable bytes in its range, and no longer than a read was
abbrev earlier : PlatterState → ℕ → ℕ → List ℕ → List ℕ
earlier p at n c = take (min (length c) (length p.read)) (written at (stood p at n) c)

module _ (p : PlatterState) (at : ℕ) (bytes c : List ℕ) (known : IsWhole p) (image : IsImage (after (wrote at bytes) p) c) where
  covered : length (stood p at (length bytes)) ≡ min (length bytes) (length p.stable - at)
  covered = omega (arith, length-take (length bytes) (drop at p.stable), length-drop at p.stable)

  size : length (earlier p at (length bytes) c) ≡ min (length c) (length p.read)
  size = omega (arith, length-take (min (length c) (length p.read)) (written at (stood p at (length bytes)) c), length-placed 0 at (stood p at (length bytes)) c)

  kept : (i : ℕ) → i < min (length c) (length p.read) → slice_index (earlier p at (length bytes) c) i ≡ slice_index (written at (stood p at (length bytes)) c) i
  kept i low = get_or-take (min (length c) (length p.read)) (written at (stood p at (length bytes)) c) i 0 low

  same_outside : (i : ℕ) → i < min (length c) (length p.read) → (i < at) ⊎ (at + length (stood p at (length bytes)) ≤ i) → slice_index (earlier p at (length bytes) c) i ≡ slice_index c i
  same_outside i low (inl left) = kept i low ∙ below 0 at (stood p at (length bytes)) c i 0 (omega arith) left
  same_outside i low (inr right) = kept i low ∙ above 0 at (stood p at (length bytes)) c i 0 right

  outside : (i : ℕ) → i < min (length c) (length p.read) → slice_index_or p.pending i true ≡ false → (i < at) ⊎ (at + length bytes ≤ i)
      → (i < at) ⊎ (at + length (stood p at (length bytes)) ≤ i) → slice_index (earlier p at (length bytes) c) i ≡ slice_index p.stable i
  outside i low down apart near =
      same_outside i low near ∙ image.elsewhere i (omega (arith, low)) (same_mark at (length bytes) p.pending i (omega (arith, low, known.marks)) apart ∙ down)

  within : (i : ℕ) → i < min (length c) (length p.read) → at ≤ i → i < at + length (stood p at (length bytes)) → slice_index (earlier p at (length bytes) c) i ≡ slice_index p.stable i
  within i low high near =
      kept i low ∙ inside 0 at (stood p at (length bytes)) c i 0 high near ∙ get_or-take (length bytes) (drop at p.stable) (i - at) 0 (omega (arith, high, near, covered))
      ∙ get_or-drop at p.stable (i - at) 0 ∙ ap (λ (j : ℕ). get_or p.stable j 0) (omega (arith, high))

  elsewhere : (i : ℕ) → i < length (earlier p at (length bytes) c) → slice_index_or p.pending i true ≡ false → slice_index (earlier p at (length bytes) c) i ≡ slice_index p.stable i
  elsewhere i long down =
      let low : i < min (length c) (length p.read) = omega (arith, long, size)
      in let stable = known.stable i down
      in ⊎_elim
      (λ right. outside i low down (inr (omega (arith, right.1, covered, stable.0))) (inr right.1))
      (λ r. ⊎_elim (λ high. within i low high.1 r.1) (λ left. outside i low down (inl left.1) (inl left.1)) (leb_tells at i))
      (leb_tells (at + length (stood p at (length bytes))) i)

  pub torn_from : (d : List ℕ) × IsImage p d × Torn at (length bytes) d c
  torn_from = (
    earlier p at (length bytes) c,
    record { no_shorter = omega (arith, size, known.no_shorter, image.no_shorter); no_longer = omega (arith, size); elsewhere = elsewhere },
    record {
      no_shorter = omega (arith, size);
      no_longer = omega (arith, size, image.no_longer, length-placed 0 at bytes p.read);
      before = λ i long low. sym (same_outside i (omega (arith, size, long)) (inl low));
      behind = λ i long high. sym (same_outside i (omega (arith, size, long)) (inr (omega (arith, high, covered))));
    },
  )
